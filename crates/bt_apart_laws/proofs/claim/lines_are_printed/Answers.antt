use Rattle.bt_apart.specs.Apart.{says_apart}
use Rattle.bt_apart_laws.proofs.Acts.{printed}
use Rattle.bt_apart_laws.proofs.Printed.{start-prints, station-prints}
use Rattle.bt_apart_laws.proofs.claim.lines_are_printed.Goals as goal

pub returns : goal.returns
returns c = record { station = station-prints; start = start-prints; centre = λ net air event. printed net air.plans air.mark air.said (says_apart air event) }
