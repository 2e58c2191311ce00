use Rattle.std.proofs.Common.{◌++◌, ◌∷◌, flat_map, map, take, ap, sym, ◌∙◌}
use Rattle.std.proofs.lemmas.List.Folds.{flat_map-map}
use Rattle.bt_words.specs.Lines.{spaced_out, word_bytes}
use Rattle.bt_words.proofs.Extending.{extends_on, one_more, all_of}
use Rattle.bt_words.proofs.line.add_further.Goals as goal

pub returns-in_err-add_next-clause-kept : goal.returns-in_err-add_next-clause-kept
returns-in_err-add_next-clause-kept c = extends_on _ _ (flat_map (λ word. 32 ∷ word_bytes word) (take c.loop-word.word-index c.args.words.now)) _ c.loop-word.invariant.added c.in_err-add_next.ensures.kept

pub loop-word-preserved : goal.loop-word-preserved
loop-word-preserved c = record { added = one_more (λ word. 32 ∷ word_bytes word) c.args.words.now c.loop-word.word-index _ _ _ _ c.loop-word-test.true c.loop-word.invariant.added c.in_ok-add_next.ensures.added }

pub returns : goal.returns
returns c =
    let all = all_of (λ word. 32 ∷ word_bytes word) c.args.words.now c.loop-word.word-index _ _ c.loop-word-test.false c.loop-word.invariant.added ∙ ap (λ t. c.args.out.now.items ++ t) (sym (flat_map-map (λ word. 32 ∷ word) word_bytes c.args.words.now)) in
    record { added = all; kept = (spaced_out (map word_bytes c.args.words.now), all) }
