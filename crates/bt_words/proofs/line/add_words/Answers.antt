use Rattle.std.proofs.Common.{◌≡◌, ◌++◌, ◌∷◌, [], map, ap, sym, ◌∙◌}
use Rattle.std.proofs.lemmas.List.{append-nil}
use Rattle.bt_words.specs.Lines.{spaced_out, word_bytes}
use Rattle.bt_words.proofs.Extending.{extends_on, two_behind, words_of, line_is, none_of}
use Rattle.bt_words.proofs.line.add_words.Goals.{After-push, in-Some+in_ok-add_word+in_ok-add_further, in_default}
use Rattle.bt_words.proofs.line.add_words.Goals as goal

-- before the newline the words were added
so_far : (c : After-push) → c.match-split_first.out.items ≡ c.args.out.now.items ++ words_of (map word_bytes c.args.words.now)
so_far c = elim c.match-split_first.branch [
  | in-Some+in_ok-add_word+in_ok-add_further w ↦
      ap (λ v. v.items) w.out-is ∙ two_behind _ _ _ (word_bytes w.in-Some.first.now) (spaced_out (map word_bytes w.in-Some.rest.now)) w.in_ok-add_word.ensures.added w.in_ok-add_further.ensures.added
      ∙ ap (λ words. c.args.out.now.items ++ words_of (map word_bytes words)) (sym w.in-Some.ensures.cases.0)
  | in_default w ↦
      ap (λ v. v.items) w.out-is ∙ sym (append-nil c.args.out.now.items) ∙ ap (λ words. c.args.out.now.items ++ words) (sym (none_of word_bytes c.args.words.now w.in_default.ensures.cases))
]

pub returns-in_err-add_further-clause-kept : goal.returns-in_err-add_further-clause-kept
returns-in_err-add_further-clause-kept c = extends_on _ _ (word_bytes c.in-Some.first.now) _ c.in_ok-add_word.ensures.added c.in_err-add_further.ensures.kept

pub returns-in_err-push-clause-kept : goal.returns-in_err-push-clause-kept
returns-in_err-push-clause-kept c = (words_of (map word_bytes c.args.words.now), c.in_err-push.ensures.items ∙ so_far (goal.at.returns-in_err-push-clause-kept c).After-push)

pub returns : goal.returns
returns c =
    let words = map word_bytes c.args.words.now in
    let added = two_behind _ _ _ (words_of words) (10 ∷ []) (so_far (goal.at.returns c).After-push) c.in_ok-push.ensures.items in
    let whole = added ∙ ap (λ t. c.args.out.now.items ++ t) (sym (line_is words)) in
    record { added = whole; kept = (words_of words ++ 10 ∷ [], added) }
