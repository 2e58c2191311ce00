-- the first beam of the name, one more beam that has another, and none
use Rattle.std.proofs.Common.{◌≡◌, ◌∙◌, ℕ, true, false, [], ap, sym, arith, get_or, option_map}
use Rattle.std.specs.Str.{bytes_eq}
use Rattle.std.proofs.lemmas.Option.{get_or_from_slice_get}
use borrow.Author.Count.{below_more}
use Rattle.bt_run_lines.proofs.First.{position-first, position-nowhere}
use Rattle.bt_run_lines.proofs.word.beam_named.Goals as goal

pub returns-then-is_word : goal.returns-then-is_word
returns-then-is_word c =
    let word = c.args.word.now in
    let beams = c.args.net.now.beams in
    let number = c.loop-number.number in
    let name : get_or beams number [] ≡ c.as_bytes.result.now = get_or_from_slice_get beams number c.beam_name.result.now [] c.beam_name.ensures.name ∙ sym c.as_bytes.ensures.value in
    let here : bytes_eq word (get_or beams number []) ≡ true = ap (bytes_eq word) name ∙ sym c.if-is_word.ensures.is in
    record {
      beam = sym (ap (option_map (λ (place : ℕ). record { 0 = place })) (position-first (bytes_eq word) beams number [] (omega arith) c.loop-number.invariant.none here));
    }

pub loop-number-preserved : goal.loop-number-preserved
loop-number-preserved c =
    let word = c.args.word.now in
    let beams = c.args.net.now.beams in
    let number = c.loop-number.number in
    let name : get_or beams number [] ≡ c.as_bytes.result.now = get_or_from_slice_get beams number c.beam_name.result.now [] c.beam_name.ensures.name ∙ sym c.as_bytes.ensures.value in
    let here : bytes_eq word (get_or beams number []) ≡ false = ap (bytes_eq word) name ∙ sym c.if-is_word.ensures.is in
    record {
      within = omega arith;
      none = below_more (λ (k : ℕ). bytes_eq word (get_or beams k []) ≡ false) number c.loop-number.invariant.none here;
    }

pub returns : goal.returns
returns c = record {
  beam = sym (ap (option_map (λ (place : ℕ). record { 0 = place })) (position-nowhere (bytes_eq c.args.word.now) c.args.net.now.beams [] (λ k within. c.loop-number.invariant.none k (omega (arith, within)))));
}
