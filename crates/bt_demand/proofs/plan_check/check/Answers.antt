use Rattle.std.proofs.Common.{List, subst, sym}
use Rattle.bt_demand.specs.declared.demand.Link.{Link}
use Rattle.bt_demand.specs.Traffic.{matrix_of, HasSumsTo}
use Rattle.bt_demand.proofs.plan_check.check.Goals as goal

-- the links are those of the demand
pub modes_fault-requires-clause-sums : goal.modes_fault-requires-clause-sums
modes_fault-requires-clause-sums c =
    subst (λ (links : List Link). HasSumsTo 1048576 (matrix_of c.args.net.now links)) (sym c.rows-rows.ensures.links) c.requires.sums
