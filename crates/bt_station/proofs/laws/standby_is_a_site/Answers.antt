use Rattle.std.proofs.Common.{refl}
use Rattle.bt_station.proofs.Acts.{standby-heard, standby-passed_over, standby-seconds}
use Rattle.bt_station.proofs.laws.standby_is_a_site.Goals as goal

pub returns : goal.returns
returns c = record { start = λ o before. refl; heard = standby-heard; passed_over = standby-passed_over; second = standby-seconds }
