-- References of one superframe name one edition.
use Rattle.std.proofs.Common.{List, Some, None, get_or, All, AllPairs, sym, ap, ◌∙◌, arith}
use Rattle.bt_frame.specs.declared.numbers.Mark.{Mark}
use Rattle.bt_air.specs.declared.order.Order.{Order}
use Rattle.bt_air.specs.declared.sent.Aired.{Aired}
use Rattle.bt_air.specs.declared.sent.Aired.TheVariants as sends
use Rattle.bt_air.specs.Orders.{fore_at}
use Rattle.bt_site.specs.Laws.{AgreeOnFront, IsRight}

-- two messages that are right
two-agree : (taken : List Order) (one other : Aired) → IsRight taken one → IsRight taken other → AgreeOnFront one other
two-agree taken (sends.Reference superframe (Some edition) next) (sends.Reference at (Some found) later) right too =
    λ same. right ∙ ap (λ (m : Mark). fore_at taken m.0) same ∙ sym too
two-agree taken (sends.Reference superframe (Some edition) next) (sends.Reference at None later) right too = tt
two-agree taken (sends.Reference superframe (Some edition) next) (sends.Load command loaded) right too = tt
two-agree taken (sends.Reference superframe (Some edition) next) (sends.Arm command armed due) right too = tt
two-agree taken (sends.Reference superframe (Some edition) next) (sends.Status status) right too = tt
two-agree taken (sends.Reference superframe (Some edition) next) (sends.PlanFor to load planned) right too = tt
two-agree taken (sends.Reference superframe (Some edition) next) (sends.Confirm from load confirmed) right too = tt
two-agree taken (sends.Reference superframe (Some edition) next) (sends.Lost from) right too = tt
two-agree taken (sends.Reference superframe None next) other right too = tt
two-agree taken (sends.Load command edition) other right too = tt
two-agree taken (sends.Arm command edition due) other right too = tt
two-agree taken (sends.Status status) other right too = tt
two-agree taken (sends.PlanFor to load edition) other right too = tt
two-agree taken (sends.Confirm from load edition) other right too = tt
two-agree taken (sends.Lost from) other right too = tt

-- all messages that are right
pub all-agree : (taken : List Order) (all : List Aired) → All (IsRight taken) all → AllPairs AgreeOnFront all
all-agree taken all right = λ i j d before within. two-agree taken (get_or all i d) (get_or all j d) (right i d (omega arith)) (right j d within)
