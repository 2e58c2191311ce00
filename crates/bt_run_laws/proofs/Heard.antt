-- The lines of deliveries, by what the receivers answer.
use Rattle.std.proofs.Common.{◌≡◌, ℕ, zero, suc, ◌<◌, List, [], ◌∷◌, length, slice_get, IfSome, refl, sym, subst, arith}
use Rattle.bt_frame.specs.declared.numbers.TermNo.{TermNo}
use Rattle.bt_net.specs.Network.{Net}
use Rattle.bt_net.specs.Terminals.{IsTerminal}
use Rattle.bt_air.specs.declared.sent.Aired.{Aired}
use Rattle.bt_air.specs.declared.sent.Aired.TheVariants as sends
use Rattle.bt_air.specs.declared.sent.Answer.{Answer}
use Rattle.bt_air.specs.declared.sent.Answer.TheVariants as answer
use Rattle.bt_air.specs.declared.sent.Heard.{Heard}
use Rattle.bt_air.specs.declared.sent.Heard.TheVariants as heard
use Rattle.bt_air.specs.declared.sent.Place.{Place}
use Rattle.bt_air.specs.declared.sent.Place.TheVariants.{Satellite, Centre, Terminal}
use Rattle.bt_air.specs.declared.sent.Taken.{Taken}
use Rattle.bt_air.specs.declared.sent.Taken.TheVariants as taken
use Rattle.bt_air.specs.declared.shown.Shown.TheVariants as shows
use Rattle.bt_site.specs.Event.{Opening, Happening, Deliver}
use Rattle.bt_site.specs.Fits.{IsPlace}
use Rattle.bt_site.specs.World.{sent}
use Rattle.bt_world.specs.Shown.{IsShown, answer_to, noted_by}
use Rattle.bt_words.specs.declared.form.Form.TheVariants as form
use Rattle.bt_timeline.specs.Air.{got_line}
use Rattle.bt_run_lines.specs.declared.printed.Value.TheVariants as value
use Rattle.bt_run_lines.specs.Printers.{numbers}
use Rattle.bt_run_laws.specs.Readable.{AreLines}
use Rattle.bt_run_laws.specs.Small.{IsSmall}
use Rattle.bt_run_laws.proofs.Read.{line_printed}

-- the satellite answers
taken_printed : (net : Net) (number : ℕ) (one : Taken) → IsSmall number → AreLines net (got_line net number Satellite (answer.Taken one))
taken_printed net number taken.NotForMe small = line_printed net form.NotForSatellite (numbers (number ∷ [])) refl refl (small, tt)
taken_printed net number one small =
    line_printed net form.GotSatellite (value.Number number ∷ value.Taken one ∷ []) refl refl (small, ((λ is. cc), tt))

-- the centre answers
noted_printed : (net : Net) (number : ℕ) (one : Aired) → IsSmall number → AreLines net (got_line net number Centre (noted_by one))
noted_printed net number (sends.Status status) small = line_printed net form.GotCentre (numbers (number ∷ [])) refl refl (small, tt)
noted_printed net number (sends.Confirm from load edition) small = line_printed net form.GotCentre (numbers (number ∷ [])) refl refl (small, tt)
noted_printed net number (sends.Lost from) small = line_printed net form.GotCentre (numbers (number ∷ [])) refl refl (small, tt)
noted_printed net number _ small = line_printed net form.NotForCentre (numbers (number ∷ [])) refl refl (small, tt)

-- a terminal answers
heard_printed : (net : Net) (number : ℕ) (terminal : TermNo) (one : Heard) → IsSmall number → IsTerminal net terminal → AreLines net (got_line net number (Terminal terminal) (answer.Heard one))
heard_printed net number terminal heard.NotForMe small own =
    line_printed net form.NotForTerminal (value.Number number ∷ value.Terminal terminal ∷ []) refl refl (small, (own, tt))
heard_printed net number terminal one small own =
    line_printed net form.GotTerminal (value.Number number ∷ value.Terminal terminal ∷ value.Heard one ∷ []) refl refl (small, (own, ((λ is. cc), tt)))

-- the receiver of a message answers
answer_printed : (o : Opening) (past : List Happening) (number : ℕ) (one : Aired) (place : Place) → IsSmall number → IsPlace o place
    → AreLines o.net (got_line o.net number place (answer_to o past one place))
answer_printed o past number one Satellite small own = taken_printed o.net number _ small
answer_printed o past number one Centre small own = noted_printed o.net number one small
answer_printed o past number one (Terminal to) small own = heard_printed o.net number to _ small own

-- where there is a message of that number, there is one of which that holds
found_one : (P : Aired → Type 0) (all : List Aired) (number : ℕ) → number < length all → IfSome (slice_get all number) P → (one : Aired) × P one
found_one P [] number within holds = absurd (omega (arith, within))
found_one P (first ∷ rest) zero within holds = (first, holds)
found_one P (first ∷ rest) (suc number) within holds = let more : suc number < suc (length rest) = within in found_one P rest number (omega (arith, more)) holds

-- what is delivered was answered
answer_is : (a b : Answer) → shows.Delivered a ≡ shows.Delivered b → a ≡ b
answer_is a b is = cc

-- the line of a delivery
pub delivery_printed : (o : Opening) (past : List Happening) (number : ℕ) (place : Place) (one : Answer) → IsSmall number → number < length (sent o past) → IsPlace o place
    → IsShown o past (Deliver number place) (shows.Delivered one) → AreLines o.net (got_line o.net number place one)
delivery_printed o past number place one small within own shown =
    let found = found_one (λ (message : Aired). shows.Delivered one ≡ shows.Delivered (answer_to o past message place)) (sent o past) number within shown in
    subst (λ (a : Answer). AreLines o.net (got_line o.net number place a)) (sym (answer_is one (answer_to o past found.0 place) found.1))
    (answer_printed o past number found.0 place small own)
