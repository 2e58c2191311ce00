-- What an air opened with stays what it opened with.
use Rattle.std.proofs.Common.{◌≡◌, nat_le, if◌then◌else◌, Bool, true, false, List, refl}
use Rattle.bt_air.specs.declared.order.Order.{Order}
use Rattle.bt_apart.specs.Apart.{ApartAir, later_mark, noting_apart}
use Rattle.bt_script.specs.declared.sites.Sites.{Sites}
use Rattle.bt_script.specs.declared.sites.Sites.TheVariants.{Together, Apart as Away}
use Rattle.bt_script.specs.declared.heard.BusLine.{BusLine}
use Rattle.bt_script.specs.declared.heard.BusLine.TheVariants as bus
use Rattle.bt_site.specs.Event.{Opening}
use Rattle.bt_round.specs.declared.worker.CentreOver.TheVariants.{Simulated, Apart}
use Rattle.bt_round.specs.AirLines.{AirState, hearing, opening_in, restarting, start_air}

-- at its start
pub opening_start : (sites : Sites) (o : Opening) → opening_in (start_air sites o) ≡ o
opening_start Together o = refl
opening_start Away o = refl

-- behind a restart
pub opening_restarting : (air : AirState) (kept : Bool) (told : List Order) → opening_in (restarting air kept told) ≡ opening_in air
opening_restarting (Simulated a) kept told = refl
opening_restarting (Apart a) kept told = refl

same_opening : (a over : ApartAir) (b : Bool) → over.opening ≡ a.opening → (if b then over else a).opening ≡ a.opening
same_opening a over true is = is
same_opening a over false is = refl

-- and once a line of the bus was heard
pub opening_hearing : (air : AirState) (heard : BusLine) → opening_in (hearing air heard) ≡ opening_in air
opening_hearing (Simulated a) heard = refl
opening_hearing (Apart a) (bus.Begun mark) = same_opening a (record a { mark = mark; marked = true }) (nat_le a.mark.0 mark.0) refl
opening_hearing (Apart a) (bus.Radio stamp message) = same_opening a (noting_apart a (later_mark a.mark stamp) message) a.marked refl
