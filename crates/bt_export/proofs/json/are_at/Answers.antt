-- a place has no word
use Rattle.std.proofs.Common.{◌≡◌, None, sym, ap, ◌∙◌, option_map}
use Rattle.bt_text.specs.WordReader.{first_word}
use Rattle.bt_export.proofs.Fields.{first_none}
use Rattle.bt_export.proofs.Shapes.{at_none}
use Rattle.bt_export.proofs.json.are_at.Goals as goal

pub returns-in_default : goal.returns-in_default
returns-in_default c =
    let none : None ≡ first_word c.loop-token.words = sym (ap (option_map (λ w. w.now)) c.in_default.is) ∙ c.next.ensures.word in
    sym (at_none c.args.tokens.now c.loop-token.token-index c.loop-token.words c.loop-token-test.true (first_none c.loop-token.words none)) ∙ c.loop-token.invariant
