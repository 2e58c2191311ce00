-- a block that was closed stays so, or stands behind the others
use Rattle.std.proofs.Common.{◌≡◌, ◌++◌, List, [], ◌∷◌, ℕ, Some, None, true, length, ap, sym, ◌∙◌, arith, rules}
use Rattle.std.specs.Prelude.{nat_lt}
use Rattle.std.proofs.lemmas.Bool.Decides.{nat_tests}
use Rattle.bt_talk.specs.declared.block.Step.{Step}
use Rattle.bt_talk.specs.declared.blocks.TheConstants.{MOST_OPEN_BLOCKS}
use Rattle.bt_talk.specs.Block.{Own}
use Rattle.bt_talk.specs.Blocks.{kept_row}
use Rattle.bt_talk.specs.Opened.{Open, OpenBlock}
use Rattle.bt_talk.proofs.Places.{kept_closed, kept_new}
use Rattle.bt_talk.proofs.blocks.keep.Goals as goal

pub returns-in_default : goal.returns-in_default
returns-in_default c =
    let blocks = c.args.blocks.items in
    let closed : c.args.own ≡ None = search rules in
    sym (ap (λ (o : Own). kept_row c.args.at c.args.tag.now blocks (o, c.args.step)) closed ∙ kept_closed c.args.at c.args.tag.now blocks c.args.step c.requires.closed)

pub returns : goal.returns
returns c =
    let blocks = c.args.blocks.items in
    let tag = c.args.tag.now in
    let said = c.in-Some.said.items in
    let opened : c.args.own ≡ Some said = sym c.in-Some.ensures.same in
    let room : nat_lt (length blocks) MOST_OPEN_BLOCKS ≡ true = grind (arith, nat_tests) in
    let copied : c.extend_from_slice.new.self.items ≡ tag = search rules in
    let pushed : c.push.new.self.items ≡ blocks ++ record { tag = c.extend_from_slice.new.self.items; since = c.args.at; said = said } ∷ [] = search rules in
    ap (λ (l : Open). (let row : Open × Step = (l, c.args.step) in row))
    (pushed ∙ ap (λ (t : List ℕ). blocks ++ (let one : OpenBlock = record { tag = t; since = c.args.at; said = said } in one) ∷ []) copied)
    ∙ sym (ap (λ (o : Own). kept_row c.args.at tag blocks (o, c.args.step)) opened ∙ kept_new c.args.at tag blocks said c.args.step c.requires.closed room)
