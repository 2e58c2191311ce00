-- In the example the terminals start before all else.
use Rattle.std.proofs.Common.{refl}
use Rattle.bt_site.specs.Example.{started}
use Rattle.bt_sites.specs.Acts.{AreLedEvents}

pub started-led : AreLedEvents started
started-led =
    (tt, ((refl, refl), ((refl, refl), (refl, (refl, (refl, (tt, (tt, (refl, (tt, ((refl, refl), ((refl, refl), (refl, (refl, (refl, (refl, (refl, ((refl, refl), ((refl, refl), (tt, ((refl, refl), ((refl, refl), (refl, (refl, (tt, (refl, (tt, (tt, (tt, tt)))))))))))))))))))))))))))))
