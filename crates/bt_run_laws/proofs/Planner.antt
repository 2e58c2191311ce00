-- What the planner asks is never refused for its edition or its plan, and so its lines are printed lines.
use Rattle.std.proofs.Common.{◌≡◌, ◌≢◌, ◌⊎◌, ℕ, ◌<◌, ◌^◌, ◌==◌, if◌then◌else◌, cond, Bool, true, false, List, [], ◌∷◌, ◌++◌, length, All, None, refl, sym, ap, ◌∙◌, subst, append_assoc, arith, inl, inr}
use Rattle.std.specs.List.{filter_map, flat_map}
use Rattle.std.proofs.lemmas.Bool.Decides.{nat_tests}
use Rattle.std.proofs.lemmas.List.{append-nil}
use Rattle.std.proofs.lemmas.List.Elements.{All-head, All-tail}
use Rattle.std.proofs.lemmas.List.Sums.{sum_by-append}
use Rattle.bt_frame.specs.declared.numbers.EditionNo.{EditionNo}
use Rattle.bt_net.specs.Network.{Net, IsSound}
use Rattle.bt_demand.specs.declared.demand.Link.{Link}
use Rattle.bt_demand.specs.declared.plan.Plan.{Plan}
use Rattle.bt_journal.specs.declared.call.Call.{Call}
use Rattle.bt_journal.specs.declared.call.Call.TheVariants as call
use Rattle.bt_journal.specs.declared.call.Change.{Change}
use Rattle.bt_journal.specs.declared.call.Change.TheVariants as change
use Rattle.bt_journal.specs.declared.entry.Entry.{Entry}
use Rattle.bt_journal.specs.declared.reply.Reply.{Reply}
use Rattle.bt_journal.specs.declared.reply.Reply.TheVariants.{BookFull, Demand, Installed, StoreFault, Stopped}
use Rattle.bt_journal.specs.Journal.{calls_of, change_asked, change_made, is_made}
use Rattle.bt_journal.specs.JournalLines.{edits_in}
use Rattle.bt_history.specs.Causes.{Follows, IsGoodInstall}
use Rattle.bt_history.specs.Changes.{IsDemandAfter, edition, newest, plan_in}
use Rattle.bt_history.specs.Machine.{AreSteps, ChangeStep, IsSnapshot, State, Step, Tells}
use Rattle.bt_history.proofs.Flying.{install_flies}
use Rattle.bt_history.proofs.Histories.{Step-adds, as_list}
use Rattle.bt_history.proofs.Strays.{cause_strays}
use Rattle.bt_timeline.specs.Timeline.{IsInstall, plan_reply_line}
use Rattle.bt_words.specs.declared.form.Form.TheVariants as form
use Rattle.bt_run_lines.specs.Printers.{numbers}
use Rattle.bt_round.specs.Planning.{PlansEdition, PlansOnce, PlaysPlans, planner_line, planner_text}
use Rattle.bt_round.proofs.Installed.{newest-other}
use Rattle.bt_centre.specs.Run.{AreFew}
use Rattle.bt_run_laws.specs.Readable.{AreLines}
use Rattle.bt_run_laws.specs.Small.{IsSmallPlan}
use Rattle.bt_run_laws.proofs.Bounds.{AreBounded, are_bounded}
use Rattle.bt_run_laws.proofs.Plans.{flyable_small}
use Rattle.bt_run_laws.proofs.Read.{line_printed, more_lines, no_lines}
use Rattle.bt_run_laws.proofs.Replies.{few_stays, follow_stays}

-- what is printed of a reply to the planner
abbrev printed_of : Net → Call → Reply → List ℕ
printed_of net asked reply = planner_line net reply (plan_reply_line net asked reply)

maybe_printed : (net : Net) (test : Bool) (text : List ℕ) → AreLines net text → AreLines net (if test then text else [])
maybe_printed net true text are = are
maybe_printed net false text are = no_lines net

-- that nothing is new is a printed line, if it is printed
demand_lines : (net : Net) (asked : Call) (last newest : EditionNo) (links : List Link) → AreLines net (printed_of net asked (Demand last newest links))
demand_lines net asked last newest links =
    maybe_printed net (last.0 == newest.0) _ (line_printed net form.NothingNew [] refl refl tt)

stopped_lines : (net : Net) (asked : Call) → AreLines net (printed_of net asked Stopped)
stopped_lines net asked = line_printed net form.PlanStopped [] refl refl tt

lost_lines : (net : Net) (asked : Call) → AreLines net (printed_of net asked StoreFault)
lost_lines net asked = line_printed net form.PlanStoreFault [] refl refl tt

full_lines : (net : Net) (asked : Call) (bytes : ℕ) → bytes < 2 ^ 32 → AreLines net (printed_of net asked (BookFull bytes))
full_lines net asked bytes few = line_printed net form.PlanBookFull (numbers (bytes ∷ [])) refl refl (few, tt)

-- the line of an installed plan with small numbers
installed_lines : (net : Net) (plan : Plan) (number : EditionNo) → number ≡ plan.edition → IsSmallPlan net plan → AreLines net (printed_of net (call.Install plan) (Installed number))
installed_lines net plan number is small =
    let few : number.0 < 2 ^ 32 = omega (arith, ap (λ (e : EditionNo). e.0) is, small.edition) in
    line_printed net form.Planned (numbers (number.0 ∷ plan.schedule.length ∷ length plan.schedule.modes ∷ length plan.bursts ∷ [])) refl refl
    (few, (small.slots, (small.modes, (small.bursts, tt))))

told_lines : (net : Net) (changes : List Change) (plan : Plan) (reply : Reply) → IsSmallPlan net plan → Tells net changes (change.Install plan) reply → AreLines net (printed_of net (call.Install plan) reply)
told_lines net changes plan (Installed number) small told = installed_lines net plan number told small
told_lines net changes plan _ small told = absurd told

-- an install with no cause of a refusal has printed lines, whatever it is answered
install_lines : (net : Net) (old new : State) (plan : Plan) (reply : Reply) → IsSound net → Follows net old.changes → AreFew net old.changes → IsGoodInstall net old.changes plan
    → ChangeStep net old (change.Install plan) reply new → AreLines net (printed_of net (call.Install plan) reply)
install_lines net old new plan reply sound follow few good (inl halts) =
    subst (λ (r : Reply). AreLines net (printed_of net (call.Install plan) r)) (sym halts.told) (stopped_lines net (call.Install plan))
install_lines net old new plan reply sound follow few good (inr (inl refused)) = absurd (cause_strays net old.changes (change.Install plan) reply refused.cause good)
install_lines net old new plan reply sound follow few good (inr (inr (inl full))) =
    subst (λ (r : Reply). AreLines net (printed_of net (call.Install plan) r)) (sym full.told) (full_lines net (call.Install plan) _ few.bytes)
install_lines net old new plan reply sound follow few good (inr (inr (inr (inl done)))) =
    told_lines net new.changes plan reply
    (flyable_small net plan sound (install_flies net old.changes plan sound follow good) (omega (arith, good.1, few.edition))) done.told
install_lines net old new plan reply sound follow few good (inr (inr (inr (inr lost)))) =
    subst (λ (r : Reply). AreLines net (printed_of net (call.Install plan) r)) (sym lost.told) (lost_lines net (call.Install plan))

-- the entries are those of lines `plan`
record ArePlayed (net : Net) (own : List Entry) : Type 0 where
  pub parts : List (List Entry)
  pub each : All (PlansOnce net) parts
  pub all : own ≡ flat_map (λ part. part) parts

-- the first entry asks for a plan to be installed that is good after these changes, and those behind it are of lines `plan`
record IsPlanned (net : Net) (changes : List Change) (own : List Entry) : Type 0 where
  pub entry : Entry
  pub more : List Entry
  pub all : own ≡ entry ∷ more
  pub plan : Plan
  pub call : entry.call ≡ call.Install plan
  pub good : IsGoodInstall net changes plan
  pub played : ArePlayed net more

-- how far the planner is after these changes, with these entries to come
abbrev IsAt : Net → List Change → List Entry → Type 0
IsAt net changes own = ArePlayed net own ⊎ IsPlanned net changes own

-- a plan stays good where no other is installed
good_later : (net : Net) (changes more : List Change) (plan : Plan) → filter_map plan_in more ≡ [] → IsGoodInstall net changes plan → IsGoodInstall net (changes ++ more) plan
good_later net changes more plan none (newer, there, verdict) =
    let at = verdict.demand in (
      omega (arith, newer, ap (λ (p : Plan). p.edition.0) (newest-other changes more none)),
      omega (arith, there, sum_by-append edits_in changes more),
      record {
        links = verdict.links;
        demand = record {
          before = at.before;
          after = at.after ++ more;
          parts = ap (λ (c : List Change). c ++ more) at.parts ∙ append_assoc at.before at.after more;
          counted = at.counted;
          demand = at.demand;
        };
        checked = verdict.checked;
      },
    )

installs_none : (asked : Call) (made : Bool) → ¬ (IsInstall asked) → filter_map plan_in (as_list (if made then change_asked asked else None)) ≡ []
installs_none (call.Edit edit) true none = refl
installs_none (call.Install plan) true none = absurd (none tt)
installs_none (call.Place order) true none = refl
installs_none call.Snapshot true none = refl
installs_none (call.Newest after) true none = refl
installs_none asked false none = refl

-- so it does through the calls of others
planned_later : (net : Net) (old new : State) (asked : Call) (reply : Reply) (own : List Entry) → Step net old asked reply new → ¬ (IsInstall asked) → IsPlanned net old.changes own
    → IsPlanned net new.changes own
planned_later net old new asked reply own step none is =
    let good = good_later net old.changes (as_list (change_made asked reply)) is.plan (installs_none asked (is_made reply) none) is.good in
    subst (λ (s : State). IsPlanned net s.changes own) (sym (Step-adds net old asked reply new step))
    (record { entry = is.entry; more = is.more; all = is.all; plan = is.plan; call = is.call; good = good; played = is.played })

-- behind what the planner saw comes a plan that is good, or nothing
after_seen : (net : Net) (changes : List Change) (last shown : EditionNo) (links : List Link) (others own : List Entry) (parts : List (List Entry)) → PlansEdition net last shown links others
    → All (PlansOnce net) parts → own ≡ others ++ flat_map (λ part. part) parts → last.0 ≡ edition changes → shown ≡ (newest changes).edition → IsDemandAfter changes links → AreBounded net changes
    → IsAt net changes own
after_seen net changes last shown links [] own parts planned each is last_is shown_is demand bounded = inl (record { parts = parts; each = each; all = is })
after_seen net changes last shown links (entry ∷ []) own parts (differ, (plan, asked, same, good)) each is last_is shown_is demand bounded =
    let number : plan.edition.0 ≡ edition changes = ap (λ (e : EditionNo). e.0) same ∙ last_is in
    inr (record {
      entry = entry;
      more = flat_map (λ part. part) parts;
      all = is;
      plan = plan;
      call = asked;
      good = (
        omega (arith, bounded.newest, number, last_is, differ, ap (λ (e : EditionNo). e.0) shown_is),
        omega (arith, number),
        record {
          links = links;
          demand = record { before = changes; after = []; parts = sym (append-nil changes); counted = sym number; demand = demand };
          checked = good;
        },
      );
      played = record { parts = parts; each = each; all = refl };
    })
after_seen net changes last shown links (entry ∷ (other ∷ more)) own parts planned each is last_is shown_is demand bounded = absurd planned

-- what the planner saw is the last edition with its demand, and the edition of the newest plan
seen_is : (old : State) (reply : Reply) (last shown : EditionNo) (links : List Link) → IsSnapshot old reply → reply ≡ Demand last shown links
    → (last.0 ≡ edition old.changes) × (shown ≡ (newest old.changes).edition) × IsDemandAfter old.changes links
seen_is old reply last shown links snapshot is =
    let now = (newest old.changes).edition in
    let told : Demand snapshot.number now snapshot.links ≡ Demand last shown links = subst (λ (r : Reply). r ≡ Demand last shown links) snapshot.told is in
    let number : snapshot.number ≡ last = cc in
    let newest_is : shown ≡ now = cc in
    let links_are : snapshot.links ≡ links = cc in
    (ap (λ (e : EditionNo). e.0) (sym number) ∙ snapshot.last, newest_is, subst (IsDemandAfter old.changes) links_are snapshot.demand)

-- the first entry of a line `plan` has printed lines
seen_lines : (net : Net) (old new : State) (first : Entry) (own part : List Entry) (parts : List (List Entry)) → Follows net old.changes → Step net old first.call first.reply new
    → PlansOnce net part → All (PlansOnce net) parts → first ∷ own ≡ part ++ flat_map (λ part. part) parts → AreLines net (printed_of net first.call first.reply) × IsAt net new.changes own
seen_lines net old new first own part parts follow step once each is =
    let both : first ∷ own ≡ once.seen ∷ (once.others ++ flat_map (λ part. part) parts) = is ∙ ap (λ (p : List Entry). p ++ flat_map (λ part. part) parts) once.all in
    let same : first ≡ once.seen = cc in
    let rest : own ≡ once.others ++ flat_map (λ part. part) parts = cc in
    let reply : first.reply ≡ Demand once.edition once.newest once.links = ap (λ (e : Entry). e.reply) same ∙ once.reply in
    let snapshot : Step net old call.Snapshot first.reply new = subst (λ (c : Call). Step net old c first.reply new) (ap (λ (e : Entry). e.call) same ∙ once.call) step in
    let seen = seen_is old first.reply once.edition once.newest once.links snapshot.answered.0 reply in
    let at = after_seen net old.changes once.edition once.newest once.links once.others own parts once.planned each rest seen.0 seen.1 seen.2 (are_bounded net old.changes follow) in (
      subst (λ (r : Reply). AreLines net (printed_of net first.call r)) (sym reply) (demand_lines net first.call once.edition once.newest once.links),
      subst (λ (s : State). IsAt net s.changes own) (sym snapshot.answered.1) at,
    )

-- and so has each entry of the planner
own_lines : (net : Net) (old new : State) (first : Entry) (own : List Entry) → IsSound net → Follows net old.changes → AreFew net old.changes → Step net old first.call first.reply new
    → IsAt net old.changes (first ∷ own) → AreLines net (printed_of net first.call first.reply) × IsAt net new.changes own
own_lines net old new first own sound follow few step (inl is) = from_parts is.parts is.each is.all
  where
    from_parts : (parts : List (List Entry)) → All (PlansOnce net) parts → first ∷ own ≡ flat_map (λ part. part) parts → AreLines net (printed_of net first.call first.reply) × IsAt net new.changes own
    from_parts [] each all = absurd cc
    from_parts (part ∷ parts) each all =
        seen_lines net old new first own part parts follow step (All-head (PlansOnce net) part parts each) (All-tail (PlansOnce net) part parts each) all
own_lines net old new first own sound follow few step (inr is) =
    let both : first ∷ own ≡ is.entry ∷ is.more = is.all in
    let same : first ≡ is.entry = cc in
    let rest : own ≡ is.more = cc in
    let asked : first.call ≡ call.Install is.plan = ap (λ (e : Entry). e.call) same ∙ is.call in
    let install : Step net old (call.Install is.plan) first.reply new = subst (λ (c : Call). Step net old c first.reply new) asked step in (
      subst (λ (c : Call). AreLines net (printed_of net c first.reply)) (sym asked) (install_lines net old new is.plan first.reply sound follow few is.good install.answered),
      inl (subst (ArePlayed net) (sym rest) is.played),
    )

-- nobody but the planner asks for an install
abbrev pub PlannerInstalls : List Entry → Type 0
PlannerInstalls entries = All (λ entry. entry.caller ≢ 1 → ¬ (IsInstall entry.call)) entries

not_planner : (caller : ℕ) → false ≡ (caller == 1) → caller ≢ 1
not_planner caller is same = absurd (grind (arith, nat_tests, is, same))

lines_more : (net : Net) (old new : State) (first : Entry) (rest : List Entry) (own : Bool) → own ≡ (first.caller == 1) → IsSound net → Follows net old.changes → AreFew net old.changes
    → Step net old first.call first.reply new → (first.caller ≢ 1 → ¬ (IsInstall first.call)) → (IsAt net new.changes (calls_of rest 1) → AreLines net (planner_text net (calls_of rest 1)))
    → IsAt net old.changes (cond own (first ∷ calls_of rest 1) (calls_of rest 1)) → AreLines net (planner_text net (cond own (first ∷ calls_of rest 1) (calls_of rest 1)))
lines_more net old new first rest true is sound follow few step none later at =
    let here = own_lines net old new first (calls_of rest 1) sound follow few step at in
    more_lines net (printed_of net first.call first.reply) (planner_text net (calls_of rest 1)) here.0 (later here.1)
lines_more net old new first rest false is sound follow few step none later (inl played) = later (inl played)
lines_more net old new first rest false is sound follow few step none later (inr planned) =
    later (inr (planned_later net old new first.call first.reply (calls_of rest 1) step (none (not_planner first.caller is)) planned))

lines_from_here : (net : Net) → IsSound net → (old : State) (entries : List Entry) → AreSteps net old entries → Follows net old.changes → AreFew net old.changes → PlannerInstalls entries
    → IsAt net old.changes (calls_of entries 1) → AreLines net (planner_text net (calls_of entries 1))
lines_from_here net sound old [] steps follow few others at = no_lines net
lines_from_here net sound old (first ∷ rest) (new, step, more) follow few others at =
    let IsOther = λ (entry : Entry). entry.caller ≢ 1 → ¬ (IsInstall entry.call) in
    lines_more net old new first rest (first.caller == 1) refl sound follow few step (All-head IsOther first rest others)
    (lines_from_here net sound new rest more (follow_stays net old first.call first.reply new step follow) (few_stays net sound old first.call first.reply new step few)
    (All-tail IsOther first rest others)) at

-- what is printed of the planner in a round is printed lines
pub planner_lines : (net : Net) → IsSound net → (old : State) (entries : List Entry) → AreSteps net old entries → Follows net old.changes → AreFew net old.changes → PlannerInstalls entries
    → (count : ℕ) → PlaysPlans net count (calls_of entries 1) → AreLines net (planner_text net (calls_of entries 1))
planner_lines net sound old entries steps follow few others count plays =
    lines_from_here net sound old entries steps follow few others (inl (record { parts = plays.parts; each = plays.each; all = plays.whole }))
