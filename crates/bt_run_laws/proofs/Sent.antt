-- The lines of messages that are sent.
use Rattle.std.proofs.Common.{ℕ, suc, ◌+◌, ◌≤◌, List, [], ◌∷◌, length, All, Option, Some, None, IfSome, refl, arith}
use Rattle.std.proofs.lemmas.List.Elements.{All-head, All-tail}
use Rattle.bt_frame.specs.declared.limits.TheConstants.{LAST_MARK, LAST_MESSAGE}
use Rattle.bt_frame.specs.declared.numbers.EditionNo.{EditionNo}
use Rattle.bt_frame.specs.declared.numbers.Mark.{Mark}
use Rattle.bt_net.specs.Network.{Net}
use Rattle.bt_air.specs.declared.order.Armed.{Armed}
use Rattle.bt_air.specs.declared.order.Status.{Status}
use Rattle.bt_air.specs.declared.sent.Aired.{Aired}
use Rattle.bt_air.specs.declared.sent.Aired.TheVariants as sends
use Rattle.bt_air.specs.Range.{IsArmed, IsStatus, IsWord}
use Rattle.bt_air.specs.Sent.{sent_as}
use Rattle.bt_site.proofs.Ranges.{Fits}
use Rattle.bt_words.specs.declared.form.Form.TheVariants as form
use Rattle.bt_run_lines.specs.declared.printed.Value.TheVariants as value
use Rattle.bt_run_lines.specs.Printers.{numbers}
use Rattle.bt_timeline.specs.Air.{reference_line, sent_line, status_line}
use Rattle.bt_run_laws.specs.Readable.{AreLines}
use Rattle.bt_run_laws.specs.Small.{IsSmall}
use Rattle.bt_round.specs.Simulated.{sent_lines}
use Rattle.bt_round.specs.Worker.{NamesOwn}
use Rattle.bt_run_laws.proofs.Read.{line_printed, more_lines, no_lines}

-- four bytes hold what a field of four bytes has
pub small_word : (n : ℕ) → IsWord n → IsSmall n
small_word n word = omega (arith, word.1)

-- four bytes hold the number of a superframe
pub small_superframe : (n : ℕ) → n ≤ LAST_MARK → IsSmall n
small_superframe n begun = omega (arith, begun)

-- the line of what the satellite says of itself
status_printed : (net : Net) (number : ℕ) (status : Status) (armed : Option Armed) → IsSmall number → IsStatus status → IfSome armed IsArmed
    → AreLines net (status_line number status armed)
status_printed net number status None small fits none =
    line_printed net form.SentStatus (numbers (number ∷ status.mark.0 ∷ status.fore.0 ∷ status.back.0 ∷ status.last.0 ∷ [])) refl refl
    (small, (small_superframe status.mark.0 fits.mark.1, (small_word status.fore.0 fits.fore, (small_word status.back.0 fits.back, (small_word status.last.0 fits.last, tt)))))
status_printed net number status (Some change) small fits comes =
    line_printed net form.SentArmedStatus (numbers (number ∷ status.mark.0 ∷ status.fore.0 ∷ status.back.0 ∷ change.edition.0 ∷ change.due.0 ∷ status.last.0 ∷ [])) refl refl (
      small,
      (
        small_superframe status.mark.0 fits.mark.1,
        (
          small_word status.fore.0 fits.fore,
          (
            small_word status.back.0 fits.back,
            (small_word change.edition.0 comes.edition, (small_superframe change.due.0 comes.due.1, (small_word status.last.0 fits.last, tt))),
          ),
        ),
      ),
    )

-- the line of a reference burst
reference_printed : (net : Net) (number : ℕ) (superframe : Mark) (in_force : Option EditionNo) → IsSmall number → IsSmall superframe.0 → IfSome in_force (λ edition. IsWord edition.0)
    → AreLines net (reference_line number superframe in_force)
reference_printed net number superframe None small now none =
    line_printed net form.SentNoReference (numbers (number ∷ superframe.0 ∷ [])) refl refl (small, (now, tt))
reference_printed net number superframe (Some edition) small now word =
    line_printed net form.SentReference (numbers (number ∷ superframe.0 ∷ edition.0 ∷ [])) refl refl (small, (now, (small_word edition.0 word, tt)))

-- the line of a message whose fields fit
one_sent : (net : Net) (number : ℕ) (one : Aired) → IsSmall number → Fits one → NamesOwn net one → AreLines net (sent_line net number (sent_as one))
one_sent net number (sends.Load command edition) small fits own =
    line_printed net form.SentLoad (numbers (number ∷ command.0 ∷ edition.0 ∷ [])) refl refl (small, (omega (arith, fits.0.1), (small_word edition.0 fits.1, tt)))
one_sent net number (sends.Arm command edition due) small fits own =
    line_printed net form.SentArm (numbers (number ∷ command.0 ∷ edition.0 ∷ due.0 ∷ [])) refl refl (small, (omega (arith, fits.0.1), (small_word edition.0 fits.1, (small_superframe due.0 fits.2.1, tt))))
one_sent net number (sends.Status status) small fits own = status_printed net number status status.armed small fits fits.armed
one_sent net number (sends.PlanFor to load edition) small fits own =
    line_printed net form.SentPlan (value.Number number ∷ value.Number edition.0 ∷ value.Terminal to ∷ []) refl refl (small, (small_word edition.0 fits.2, (own, tt)))
one_sent net number (sends.Confirm from load edition) small fits own =
    line_printed net form.SentConfirm (value.Number number ∷ value.Number edition.0 ∷ value.Terminal from ∷ []) refl refl (small, (small_word edition.0 fits.2, (own, tt)))
one_sent net number (sends.Reference superframe in_force next) small fits own =
    reference_printed net number superframe in_force small (small_superframe superframe.0 fits.0.1) fits.1
one_sent net number (sends.Lost from) small fits own =
    line_printed net form.SentLost (value.Number number ∷ value.Terminal from ∷ []) refl refl (small, (own, tt))

-- the lines of messages one after the other
pub sent_printed : (net : Net) (first : ℕ) (all : List Aired) → first + length all ≤ LAST_MESSAGE → All Fits all → All (NamesOwn net) all → AreLines net (sent_lines net first all)
sent_printed net first [] few fit own = no_lines net
sent_printed net first (one ∷ more) few fit own =
    let room : first + suc (length more) ≤ 4294967295 = few in
    more_lines net (sent_line net first (sent_as one)) (sent_lines net (first + 1) more)
    (one_sent net first one (omega (arith, room)) (All-head Fits one more fit) (All-head (NamesOwn net) one more own))
    (sent_printed net (first + 1) more (omega (arith, room)) (All-tail Fits one more fit) (All-tail (NamesOwn net) one more own))
