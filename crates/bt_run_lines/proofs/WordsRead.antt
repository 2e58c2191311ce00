-- The word of a value is read as that value, and has no space.
use Rattle.std.proofs.Common.{◌≡◌, ◌≢◌, ℕ, ◌+◌, ◌-◌, ◌^◌, ◌<◌, ◌≤◌, ◌==◌, true, false, cond, nat_le, not, Some, None, List, [], ◌∷◌, ◌++◌, length, get_or, take, drop, decimal, position, option_map, option_and_then, refl, sym, ap, ◌∙◌, arith, length-append, le-leb}
use Rattle.std.specs.Str.{bytes_eq}
use Rattle.std.proofs.Math.Seq.{take-append_seam, drop-append-add, get_or-append_seam}
use Rattle.std.proofs.lemmas.Bool.{false_from_ne_true, not-true}
use Rattle.std.proofs.lemmas.Cmp.{nat_list_eq_equiv}
use Rattle.std.proofs.lemmas.Fmt.{length-decimal-le}
use Rattle.std.proofs.lemmas.List.{get_or_append_left}
use Rattle.std.proofs.lemmas.List.Sums.{AllPass-from_list_all}
use Rattle.std.proofs.lemmas.Slice.Eq.{bytes_eq-Decides}
use Rattle.bt_frame.specs.declared.limits.TheConstants.{MOST_DESKS}
use Rattle.bt_frame.specs.declared.numbers.BeamNo.{BeamNo}
use Rattle.bt_frame.specs.declared.numbers.Mark.{Mark}
use Rattle.bt_text.specs.Text.{lacks, number_of, number_of_digits}
use Rattle.bt_text.proofs.TextLines.{lacks-append}
use Rattle.bt_text.proofs.TextNumbers.{lacks-decimal, number_of-decimal}
use Rattle.bt_net.specs.Network.{Net, IsSound}
use Rattle.bt_net.specs.Terminals.{name_at}
use Rattle.bt_words.specs.Lines.{frame_name}
use Rattle.bt_plan.proofs.NamedTerminals.{is_name-name_at, name_lacks, terminal_found}
use Rattle.bt_plan.proofs.ReadBack.{number_to-decimal}
use Rattle.bt_air.specs.declared.sent.Heard.{Heard}
use Rattle.bt_air.specs.declared.sent.Heard.TheVariants as heard
use Rattle.bt_air.specs.declared.sent.Taken.{Taken}
use Rattle.bt_air.specs.declared.sent.Taken.TheVariants as taken
use Rattle.bt_timeline.specs.Air.{taken_name, heard_name}
use Rattle.bt_timeline.specs.Timeline.{IsBeam, name_of_beam}
use Rattle.bt_run_lines.specs.declared.printed.Value.{Value}
use Rattle.bt_run_lines.specs.declared.printed.Value.TheVariants as value
use Rattle.bt_words.specs.Forms as part
use Rattle.bt_words.specs.Forms.{Part}
use Rattle.bt_run_lines.specs.Words.{small_number, desk_number, frame_of, frame_in, beam_of, taken_of, heard_of, value_of}
use Rattle.bt_run_lines.specs.Spelled.{word_of, SuitsPlace}
use Rattle.bt_run_lines.proofs.First.{position-first}
use Rattle.bt_run_lines.proofs.Moments.{moment_lacks}
use Rattle.bt_run_lines.proofs.Tags.{tag_lacks}

-- numbers
small_read : (n : ℕ) → n < 2 ^ 32 → small_number (decimal n) ≡ Some n
small_read n small = number_to-decimal (2 ^ 32 - 1) n (omega arith) (omega arith)

pub count_read : (n : ℕ) → n < 10 ^ 19 → number_of_digits 19 (decimal n) ≡ Some n
count_read n small =
    ap (λ b. cond b (number_of (decimal n)) None) (le-leb (length (decimal n)) 19 (length-decimal-le 19 n (omega arith) small (omega arith)))
    ∙ number_of-decimal n (omega arith)

desk_read : (n : ℕ) → 1 ≤ n → n ≤ MOST_DESKS → desk_number (decimal n) ≡ Some n
desk_read n least most =
    ap (option_and_then (λ desk. cond (nat_le 1 desk) (Some desk) None)) (number_to-decimal MOST_DESKS n most (omega arith))
    ∙ ap (λ b. cond b (Some n) None) (le-leb 1 n least)

-- a frame is cut at its first point
point_found : (front rest : List ℕ) → lacks 46 front ≡ true → position (λ byte. byte == 46) (front ++ 46 ∷ rest) ≡ Some (length front)
point_found front rest none =
    position-first (λ byte. byte == 46) (front ++ 46 ∷ rest) (length front) 0 (omega (arith, length-append front (46 ∷ rest)))
    (λ k low. ap (λ b. b == 46) (get_or_append_left front (46 ∷ rest) 0 k low)
    ∙ not-true (get_or front k 0 == 46) (AllPass-from_list_all (λ b. not (b == 46)) front none k 0 low))
    (ap (λ b. b == 46) (get_or-append_seam front 46 rest 0))

frame_read : (mark : Mark) (n : ℕ) → mark.0 < 2 ^ 32 → n < 2 ^ 32 → frame_in (frame_name mark n) ≡ Some (value.Frame mark n)
frame_read mark n high small =
    let front = decimal mark.0 in
    let word = frame_name mark n in
    let first : small_number (take (length front) word) ≡ Some mark.0 = ap small_number (take-append_seam front (46 ∷ decimal n)) ∙ small_read mark.0 high in
    let second : small_number (drop (length front + 1) word) ≡ Some n = ap small_number (drop-append-add front (46 ∷ decimal n) 1) ∙ small_read n small in
    ap (option_and_then (λ point. frame_of (small_number (take point word)) (small_number (drop (point + 1) word)))) (point_found front (decimal n) (lacks-decimal 46 mark.0 refl (omega arith)))
    ∙ ap (λ o. frame_of o (small_number (drop (length front + 1) word))) first ∙ ap (frame_of (Some mark.0)) second

-- a beam, since names differ
abbrev beam_with : ℕ → BeamNo
beam_with place = record { 0 = place }

beam_found : (net : Net) (beam : BeamNo) → IsSound net → IsBeam net beam → beam_of net (name_of_beam net beam) ≡ Some beam
beam_found net beam sound within =
    let name = get_or net.beams beam.0 [] in
    let other : (k : ℕ) → k < beam.0 → bytes_eq name (get_or net.beams k []) ≡ false =
    λ k low. false_from_ne_true _ (λ same. sound.beams.names.differ k beam.0 [] low within (sym ((bytes_eq-Decides name (get_or net.beams k [])).0 same))) in
    ap (option_map beam_with) (position-first (bytes_eq name) net.beams beam.0 [] within other (nat_list_eq_equiv.refl name))

-- answers
taken_read : (answer : Taken) → answer ≢ taken.NotForMe → taken_of (taken_name answer) ≡ Some answer
taken_read taken.NotForMe other = absurd (other refl)
taken_read answer other = refl

heard_read : (answer : Heard) → answer ≢ heard.NotForMe → heard_of (heard_name answer) ≡ Some answer
heard_read heard.NotForMe other = absurd (other refl)
heard_read answer other = refl

-- what a value's word says at a place that the value suits
pub value_read : (net : Net) → IsSound net → (place : Part) (one : Value) → SuitsPlace net place one → value_of net place (word_of net one) ≡ Some one
value_read net sound part.Number (value.Number n) suits = ap (option_map (λ n. value.Number n)) (small_read n suits)
value_read net sound part.Count (value.Number n) suits = ap (option_map (λ n. value.Number n)) (count_read n suits)
value_read net sound part.Desk (value.Number n) suits = ap (option_map (λ n. value.Number n)) (desk_read n suits.0 suits.1)
value_read net sound part.Frame (value.Frame mark n) suits = frame_read mark n suits.0 suits.1
value_read net sound part.Beam (value.Beam beam) suits = ap (option_map (λ beam. value.Beam beam)) (beam_found net beam sound suits)
value_read net sound part.Terminal (value.Terminal terminal) suits = ap (option_map (λ terminal. value.Terminal terminal)) (terminal_found net terminal sound suits)
value_read net sound part.Taken (value.Taken answer) suits = ap (option_map (λ answer. value.Taken answer)) (taken_read answer suits)
value_read net sound part.Heard (value.Heard answer) suits = ap (option_map (λ answer. value.Heard answer)) (heard_read answer suits)
value_read net sound part.Tag (value.Tag tag) suits = ap (λ b. option_map (λ tag. value.Tag tag) (cond b (Some tag) None)) suits
value_read net sound part.Moment (value.Moment moment) suits = ap (λ b. option_map (λ moment. value.Moment moment) (cond b (Some moment) None)) suits
value_read net sound place one suits = absurd suits

-- no word of a value has a space
taken_lacks : (answer : Taken) → lacks 32 (taken_name answer) ≡ true
taken_lacks taken.Accepted = refl
taken_lacks answer = refl

heard_lacks : (answer : Heard) → lacks 32 (heard_name answer) ≡ true
heard_lacks heard.Took = refl
heard_lacks answer = refl

pub value_lacks : (net : Net) → IsSound net → (place : Part) (one : Value) → SuitsPlace net place one → lacks 32 (word_of net one) ≡ true
value_lacks net sound part.Number (value.Number n) suits = lacks-decimal 32 n refl (omega arith)
value_lacks net sound part.Count (value.Number n) suits = lacks-decimal 32 n refl (omega arith)
value_lacks net sound part.Desk (value.Number n) suits = lacks-decimal 32 n refl (omega (arith, suits.1))
value_lacks net sound part.Frame (value.Frame mark n) suits =
    lacks-append 32 (decimal mark.0) (46 ∷ decimal n) ∙ rw (lacks-decimal 32 mark.0 refl (omega (arith, suits.0)), lacks-decimal 32 n refl (omega (arith, suits.1))) refl
value_lacks net sound part.Beam (value.Beam beam) suits = name_lacks 32 (name_of_beam net beam) refl (sound.beams.names.good beam.0 [] suits)
value_lacks net sound part.Terminal (value.Terminal terminal) suits = name_lacks 32 (name_at net terminal) refl (is_name-name_at net terminal sound suits)
value_lacks net sound part.Taken (value.Taken answer) suits = taken_lacks answer
value_lacks net sound part.Heard (value.Heard answer) suits = heard_lacks answer
value_lacks net sound part.Tag (value.Tag tag) suits = tag_lacks 32 tag refl refl suits
value_lacks net sound part.Moment (value.Moment moment) suits = moment_lacks 32 moment refl suits
value_lacks net sound place one suits = absurd suits
