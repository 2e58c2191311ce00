-- An edition that is told in a superframe is shown by a Status of it that was sent.
use Rattle.std.proofs.Common.{◌≡◌, ℕ, ◌==◌, true, List, All, Option, Some, None, refl, subst}
use Rattle.std.proofs.lemmas.Bool.{and_parts, eqb-true}
use Rattle.std.proofs.lemmas.List.Folds.{Any-from_list_any}
use Rattle.bt_frame.proofs.OneNumber.{same_edition}
use Rattle.bt_frame.specs.declared.numbers.EditionNo.{EditionNo}
use Rattle.bt_air.specs.declared.order.Status.{Status}
use Rattle.bt_air.specs.declared.sent.Aired.{Aired}
use Rattle.bt_air.specs.declared.sent.Aired.TheVariants as sends
use Rattle.bt_site.specs.World.{tells, is_told, comes_to}
use Rattle.bt_site.specs.Event.{Opening, Happening, Second, Seconds}
use Rattle.bt_site.specs.Fits.{Meets}

-- a Status with this superframe and this edition in front, and what holds of it as of all messages
pub record Told (P : Aired → Type 0) (now : ℕ) (edition : EditionNo) : Type 0 where
  pub status : Status
  pub holds : P (sends.Status status)
  pub mark : status.mark.0 ≡ now
  pub fore : status.fore ≡ edition

told-this : (P : Aired → Type 0) (now : ℕ) (edition : EditionNo) (one : Aired) → tells now edition one ≡ true → P one → Told P now edition
told-this P now edition (sends.Status status) e p =
    let both = and_parts (status.mark.0 == now) (status.fore.0 == edition.0) e in
    record { status = status; holds = p; mark = eqb-true _ _ both.0; fore = same_edition status.fore edition (eqb-true _ _ both.1) }
told-this P now edition (sends.Load command loaded) e p = cc
told-this P now edition (sends.Arm command armed due) e p = cc
told-this P now edition (sends.PlanFor to load planned) e p = cc
told-this P now edition (sends.Confirm from load held) e p = cc
told-this P now edition (sends.Reference superframe in_force next) e p = cc
told-this P now edition (sends.Lost from) e p = cc

pub told : (P : Aired → Type 0) (now : ℕ) (edition : EditionNo) (all : List Aired) → is_told all now edition ≡ true → All P all → Told P now edition
told P now edition all e each =
    let (k, x, within, at, passes) = Any-from_list_any (tells now edition) all e in
    told-this P now edition x passes (subst P at (each k x within))

-- a second Reference whose condition is met names what its event names
pub second-said : (o : Opening) (past : List Happening) (in_force : Option EditionNo) → Meets o past (Second in_force) → comes_to o past (Second in_force) ≡ Seconds in_force
second-said o past None meets = refl
second-said o past (Some edition) meets = rw meets refl
