-- The steps of a line of the planner. All but `HasPosted` is for bodies alone.
use Rattle.std.specs.Prelude.{◌≡◌, ◌+◌, ◌≤◌, ◌++◌, ◌∷◌, [], ℕ, List}
use Rattle.bt_net.specs.Network.{Net}
use Rattle.bt_demand.specs.declared.plan.Plan.{Plan}
use Rattle.bt_shared.specs.Plans.{next_edition}
use Rattle.bt_journal.specs.declared.call.Call.TheVariants as call
use Rattle.bt_journal.specs.declared.entry.Entry.{Entry}
use Rattle.bt_journal.specs.Journal.{changes_of}
use Rattle.bt_history.specs.Changes.{installs, newest}
use Rattle.bt_round.specs.Callers.{Calling, IsAnswered, own_of}
use Rattle.bt_round.specs.Planning.{planner_text}

-- The last plan of these, all posted, is no newer than the newest after the changes at the line's start and those that the caller
-- made since: so a plan that the caller installs next can be posted.
abbrev pub HasPosted : Calling → List Plan → Type 0
HasPosted caller plans = next_edition plans ≤ (newest (caller.start.state.changes ++ changes_of (own_of caller))).edition.0 + 1

-- the planner asked for the last edition, and was answered
pub record SawLast (net : Net) (seen : Entry) : Type 0 where
  pub caller : seen.caller ≡ 1
  pub call : seen.call ≡ call.Snapshot
  pub asker : Calling
  pub answered : IsAnswered net asker seen

-- The planner asked to install a plan: it has one entry more, what is printed of that stands behind the text, and the plan was
-- posted if it was installed.
pub record InstallDone (net : Net) (plan : Plan) (posted over : List Plan) (history after : List Entry) (text written : List ℕ) : Type 0 where
  pub entry : Entry
  pub caller : entry.caller ≡ 1
  pub call : entry.call ≡ call.Install plan
  pub posts : over ≡ posted ++ installs (changes_of (entry ∷ []))
  pub kept : after ≡ history ++ entry ∷ []
  pub printed : written ≡ text ++ planner_text net (entry ∷ [])
