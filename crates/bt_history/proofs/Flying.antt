-- Changes that follow have a demand that fits the frame, and so the plans that they install can be flown.
use Rattle.std.proofs.Common.{◌-◌, List, [], ◌∷◌, ◌++◌, length, All, subst, arith}
use Rattle.std.specs.List.{filter_map}
use Rattle.std.proofs.lemmas.List.Elements.{All-nil, All-cons}
use Rattle.bt_net.specs.Network.{Net, IsSound}
use Rattle.bt_demand.specs.declared.plan.Plan.{Plan}
use Rattle.bt_demand.specs.Flyable.{IsFlyable}
use Rattle.bt_demand.proofs.Flyable.{empty_flies, flyable}
use Rattle.bt_journal.specs.declared.call.Change.{Change}
use Rattle.bt_journal.specs.declared.call.Change.TheVariants as change
use Rattle.bt_demand.specs.Plan.{empty_plan}
use Rattle.bt_history.specs.Changes.{plan_in, plans, newest}
use Rattle.bt_history.specs.Causes.{IsGoodInstall, FollowFrom, Follows}
use Rattle.bt_history.proofs.Demands.{keeps_any}
use Rattle.bt_history.proofs.Histories.{FollowFrom-grows}
use Rattle.bt_history.proofs.OfNetwork.{are_of_network}

-- the first of changes that follow do
first_follow : (net : Net) (from changes more : List Change) → FollowFrom net from (changes ++ more) → FollowFrom net from changes
first_follow net from [] more follow = tt
first_follow net from (first ∷ rest) more follow = (follow.0, follow.1, first_follow net (from ++ first ∷ []) rest more follow.2)

-- a plan that was good to install can be flown
pub install_flies : (net : Net) (before : List Change) (plan : Plan) → IsSound net → Follows net before → IsGoodInstall net before plan → IsFlyable net plan
install_flies net before plan sound follow good =
    let at = good.2.demand in
    let first = first_follow net [] at.before at.after (subst (Follows net) at.parts follow) in
    let keeps = keeps_any net at.before good.2.links sound first at.demand in
    let least = good.2.checked.least in
    flyable net good.2.links plan (are_of_network net at.before good.2.links at.demand.demand keeps) good.2.checked
    (omega (arith, sound.slots.1, keeps.fits plan.schedule.critical least.on_matrix, least.reached))

installs_fly : (net : Net) (before changes : List Change) → IsSound net → Follows net before → FollowFrom net before changes → All (IsFlyable net) (filter_map plan_in changes)
installs_fly net before [] sound follow more = All-nil (IsFlyable net)
installs_fly net before (change.Edit edit ∷ rest) sound follow more =
    installs_fly net (before ++ change.Edit edit ∷ []) rest sound (FollowFrom-grows net [] before (change.Edit edit) follow more.0 more.1) more.2
installs_fly net before (change.Install plan ∷ rest) sound follow more =
    All-cons (IsFlyable net) plan (filter_map plan_in rest) (install_flies net before plan sound follow more.1)
    (installs_fly net (before ++ change.Install plan ∷ []) rest sound (FollowFrom-grows net [] before (change.Install plan) follow more.0 more.1) more.2)
installs_fly net before (change.Order order ∷ rest) sound follow more =
    installs_fly net (before ++ change.Order order ∷ []) rest sound (FollowFrom-grows net [] before (change.Order order) follow more.0 more.1) more.2

-- all installed plans can be flown
pub plans_fly : (net : Net) (changes : List Change) → IsSound net → Follows net changes → All (IsFlyable net) (plans changes)
plans_fly net changes sound follow = All-cons (IsFlyable net) empty_plan (filter_map plan_in changes) (empty_flies net) (installs_fly net [] changes sound tt follow)

-- and so can the newest
pub newest_flies : (net : Net) (changes : List Change) → IsSound net → Follows net changes → IsFlyable net (newest changes)
newest_flies net changes sound follow = plans_fly net changes sound follow (length (plans changes) - 1) empty_plan (omega arith)
