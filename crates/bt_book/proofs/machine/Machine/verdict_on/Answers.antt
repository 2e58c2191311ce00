use Rattle.std.proofs.Common.{sym, subst}
use Rattle.bt_frame.specs.declared.limits.TheConstants.{MOST_SUM}
use Rattle.bt_net.specs.Network.{Net}
use Rattle.bt_demand.specs.Traffic.{matrix_of, AreOfNetwork, HasSumsTo}
use Rattle.bt_book.proofs.machine.Machine.verdict_on.Goals as goal

-- the demand is the network's, the last
pub check-requires-clause-demand : goal.check-requires-clause-demand
check-requires-clause-demand c = subst (λ (n : Net). AreOfNetwork n c.demand.result.now) (sym c.network-net.ensures.same) c.demand.ensures.network

pub check-requires-clause-sums : goal.check-requires-clause-sums
check-requires-clause-sums c = subst (λ (n : Net). HasSumsTo MOST_SUM (matrix_of n c.demand.result.now)) (sym c.network-net.ensures.same) c.demand.ensures.sums

-- and an earlier one
pub check-requires-2-clause-sums : goal.check-requires-2-clause-sums
check-requires-2-clause-sums c = subst (λ (n : Net). HasSumsTo MOST_SUM (matrix_of n c.in_ok-demand.demand)) (sym c.network-net.ensures.same) c.in_ok-demand.ensures.sums
