-- The newest plan of changes that follow is one on the network.
use Rattle.std.proofs.Common.{◌-◌, List, [], ◌∷◌, ◌++◌, length, All, arith}
use Rattle.std.specs.List.{filter_map}
use Rattle.std.proofs.lemmas.List.Elements.{All-nil, All-cons}
use Rattle.bt_net.specs.Network.{Net, IsSound}
use Rattle.bt_net.specs.Terminals.{IsTerminal}
use Rattle.bt_demand.specs.declared.burst.Burst.{Burst}
use Rattle.bt_demand.specs.Plan.{empty_plan}
use Rattle.bt_journal.specs.declared.call.Change.{Change}
use Rattle.bt_journal.specs.declared.call.Change.TheVariants as change
use Rattle.bt_history.specs.Changes.{newest, plan_in, plans}
use Rattle.bt_history.specs.Causes.{FollowFrom, Follows, IsPlanOn}

installs_on : (net : Net) (before changes : List Change) → FollowFrom net before changes → All (IsPlanOn net) (filter_map plan_in changes)
installs_on net before [] follow = All-nil (IsPlanOn net)
installs_on net before (change.Edit edit ∷ rest) follow = installs_on net (before ++ change.Edit edit ∷ []) rest follow.2
installs_on net before (change.Install plan ∷ rest) follow =
    All-cons (IsPlanOn net) plan (filter_map plan_in rest) follow.0 (installs_on net (before ++ change.Install plan ∷ []) rest follow.2)
installs_on net before (change.Order order ∷ rest) follow = installs_on net (before ++ change.Order order ∷ []) rest follow.2

empty_on : (net : Net) → IsSound net → IsPlanOn net empty_plan
empty_on net sound = record { bursts = All-nil (λ (burst : Burst). IsTerminal net burst.from × IsTerminal net burst.to); critical = omega (arith, sound.beams.count.0) }

pub newest_on : (net : Net) (changes : List Change) → IsSound net → Follows net changes → IsPlanOn net (newest changes)
newest_on net changes sound follow =
    All-cons (IsPlanOn net) empty_plan (filter_map plan_in changes) (empty_on net sound) (installs_on net [] changes follow) (length (plans changes) - 1) empty_plan (omega arith)
