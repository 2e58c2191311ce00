use Rattle.bt_demand.proofs.Triples.{line_sum-le-slots}
use Rattle.bt_demand.proofs.plan_verdict_laws.no_assignment_is_shorter.Goals as goal

pub returns : goal.returns
returns c = record { least = line_sum-le-slots }
