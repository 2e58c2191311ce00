-- the number of the units as it is capped
use Rattle.std.proofs.Common.{sym}
use Rattle.bt_plan.proofs.TrafficLines.{named_by_number}
use Rattle.bt_plan.proofs.traffic_reader.named_link.Goals as goal

pub returns-clause-reading : goal.returns-clause-reading
returns-clause-reading c = rw (named_by_number c.args.net.now c.args.at c.args.from.now c.args.to.now c.args.units.now c.in-Some.number (sym c.if-not-are_names.ensures.names) c.in-Some.ensures.value) c.link_of.ensures.reading
