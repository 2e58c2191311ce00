-- The demand of an edition is one on the network.
use Rattle.std.proofs.Common.{ℕ, List, [], ◌∷◌, ◌++◌, subst}
use Rattle.bt_net.specs.Network.{Net, IsSound}
use Rattle.bt_demand.specs.declared.demand.Link.{Link}
use Rattle.bt_demand.specs.Traffic.{AreOfNetwork}
use Rattle.bt_journal.specs.declared.call.Change.{Change}
use Rattle.bt_history.specs.Causes.{Follows, FollowFrom}
use Rattle.bt_history.specs.Changes.{IsDemandAt}
use Rattle.bt_history.proofs.Demands.{demand_of_network}

-- the first of changes that follow do so
first_follow : (net : Net) (before changes more : List Change) → FollowFrom net before (changes ++ more) → FollowFrom net before changes
first_follow net before [] more follow = tt
first_follow net before (one ∷ changes) more follow = (follow.0, follow.1, first_follow net (before ++ one ∷ []) changes more follow.2)

-- so the demand of an earlier edition is one on the network too
pub earlier_of_network : (net : Net) (changes : List Change) (number : ℕ) (links : List Link) → IsSound net → Follows net changes → IsDemandAt changes number links → AreOfNetwork net links
earlier_of_network net changes number links sound follow is =
    demand_of_network net is.before links sound (first_follow net [] is.before is.after (subst (Follows net) is.parts follow)) is.demand
