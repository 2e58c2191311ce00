-- Which changes can be made after others, and the first cause where one cannot.
use Rattle.std.specs.Prelude.{◌≡◌, ◌≢◌, ◌+◌, ◌<◌, ◌≤◌, true, false, List, [], ◌∷◌, ◌++◌, length}
use Rattle.bt_frame.specs.Critical.{IsOfBeams}
use Rattle.bt_net.specs.Network.{Net}
use Rattle.bt_demand.specs.declared.demand.Link.{Link}
use Rattle.bt_demand.specs.declared.plan.Plan.{Plan}
use Rattle.bt_demand.specs.Apart.{AreBetweenTerminals}
use Rattle.bt_demand.specs.Plan.{IsGoodPlan}
use Rattle.bt_air.specs.declared.order.Order.{Order}
use Rattle.bt_air.specs.declared.order.Order.TheVariants.{Load, Arm}
use Rattle.bt_air.specs.Orders.{command_of, edition_ordered}
use Rattle.bt_air.specs.Range.{IsDue}
use Rattle.bt_demand.specs.declared.verdict.Verdict.{Verdict}
use Rattle.bt_demand.specs.declared.verdict.Verdict.TheVariants.{Good}
use Rattle.bt_demand.specs.PlanVerdict.{IsPlanVerdict}
use Rattle.bt_journal.specs.declared.call.Change.{Change}
use Rattle.bt_journal.specs.declared.call.Change.TheVariants as change
use Rattle.bt_journal.specs.declared.reply.Reply.{Reply}
use Rattle.bt_journal.specs.declared.reply.Reply.TheVariants.{SameTerminal, NotThere, RowFull, ColumnFull, NotNewer, NoSuchEdition, NotGood, OutOfTurn, NotInstalled}
use Rattle.bt_journal.specs.Journal.{NamesTerminals}
use Rattle.bt_history.specs.Occupancy.{HasEqualEnds, HasEnds}
use Rattle.bt_history.specs.Changes.{edition, IsDemandAt, newest, is_installed, last_command}
use Rattle.bt_history.specs.EditCauses.{TakesTooMuch, OverfillsRow, OverfillsColumn, IsThere, FitsRow, IsGoodEdit}

-- the plan is of a greater edition than the newest plan
abbrev pub IsNewer : List Change → Plan → Type 0
IsNewer changes plan = (newest changes).edition.0 < plan.edition.0

-- the plan is of an edition that there is
abbrev pub HasEdition : List Change → Plan → Type 0
HasEdition changes plan = plan.edition.0 ≤ edition changes

-- the checker's verdict on the plan, against the demand of its very edition
pub record GetsVerdict (net : Net) (changes : List Change) (plan : Plan) (verdict : Verdict) : Type 0 where
  pub links : List Link
  pub demand : IsDemandAt changes plan.edition.0 links
  pub checked : IsPlanVerdict net links plan verdict

-- the plan carries exactly the demand of its edition, in the least length
pub record IsGoodForItsEdition (net : Net) (changes : List Change) (plan : Plan) : Type 0 where
  pub links : List Link
  pub demand : IsDemandAt changes plan.edition.0 links
  pub good : IsGoodPlan net links plan

-- the plan has no cause of a refusal of its own
abbrev pub IsGoodInstall : Net → List Change → Plan → Type 0
IsGoodInstall net changes plan = IsNewer changes plan × HasEdition changes plan × GetsVerdict net changes plan Good

-- the order's command is the one after the last
abbrev pub IsInTurn : List Change → Order → Type 0
IsInTurn changes order = (command_of order).0 ≡ (last_command changes).0 + 1

-- the order has no cause of a refusal of its own
abbrev pub IsGoodOrder : List Change → Order → Type 0
IsGoodOrder changes order = IsInTurn changes order × (is_installed changes (edition_ordered order) ≡ true)

-- the change has no cause of a refusal of its own
abbrev pub IsGood : Net → List Change → Change → Type 0
IsGood net changes (change.Edit edit) = IsGoodEdit net changes edit
IsGood net changes (change.Install plan) = IsGoodInstall net changes plan
IsGood net changes (change.Order order) = IsGoodOrder changes order

-- this is the first cause of a refusal in the change itself
abbrev pub IsCause : Net → List Change → Change → Reply → Type 0
IsCause net changes (change.Edit edit) SameTerminal = HasEqualEnds edit
IsCause net changes (change.Edit edit) (NotThere held) = HasEnds edit × TakesTooMuch changes edit held
IsCause net changes (change.Edit edit) (RowFull beam sum) = HasEnds edit × IsThere changes edit × OverfillsRow net changes edit beam sum
IsCause net changes (change.Edit edit) (ColumnFull beam sum) = HasEnds edit × IsThere changes edit × FitsRow net changes edit × OverfillsColumn net changes edit beam sum
IsCause net changes (change.Install plan) (NotNewer number) = (number ≡ (newest changes).edition) × (plan.edition.0 ≤ number.0)
IsCause net changes (change.Install plan) (NoSuchEdition last) = IsNewer changes plan × (last.0 ≡ edition changes) × (last.0 < plan.edition.0)
IsCause net changes (change.Install plan) (NotGood verdict) = IsNewer changes plan × HasEdition changes plan × (verdict ≢ Good) × GetsVerdict net changes plan verdict
IsCause net changes (change.Order order) (OutOfTurn last) = (last ≡ last_command changes) × ((command_of order).0 ≢ last.0 + 1)
IsCause net changes (change.Order order) (NotInstalled number) = IsInTurn changes order × (is_installed changes (edition_ordered order) ≡ false) × (number ≡ (newest changes).edition)
IsCause net changes asked _ = ⊥

-- the bursts of the plan are between terminals of the network, and its critical line is one of a beam of the network
pub record IsPlanOn (net : Net) (plan : Plan) : Type 0 where
  pub bursts : AreBetweenTerminals net plan.bursts
  pub critical : IsOfBeams (length net.beams) plan.schedule.critical

-- an Arm is due at a superframe that can come
abbrev pub CanCome : Order → Type 0
CanCome (Load _ _) = Unit {0}
CanCome (Arm _ _ due) = IsDue due

-- each terminal and each beam that the change names is one of the network's, and an Arm is due when it can be
abbrev pub IsChangeOn : Net → Change → Type 0
IsChangeOn net (change.Edit edit) = NamesTerminals net edit
IsChangeOn net (change.Install plan) = IsPlanOn net plan
IsChangeOn net (change.Order order) = CanCome order

-- each of these changes is one on the network, and has no cause of a refusal after those before it
abbrev pub FollowFrom : Net → List Change → List Change → Type 0
FollowFrom net before [] = Unit {0}
FollowFrom net before (first ∷ more) = IsChangeOn net first × IsGood net before first × FollowFrom net (before ++ first ∷ []) more

-- the changes could be made one after the other, from no changes on
abbrev pub Follows : Net → List Change → Type 0
Follows net changes = FollowFrom net [] changes
