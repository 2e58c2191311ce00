use Rattle.std.proofs.Common.{refl}
use Rattle.bt_station.proofs.Acts.{satellite-heard, satellite-ticks}
use Rattle.bt_station.proofs.laws.satellite_is_a_site.Goals as goal

pub returns : goal.returns
returns c = record { start = λ o. refl; tick = satellite-ticks; heard = satellite-heard }
