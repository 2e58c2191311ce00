use Rattle.std.proofs.Common.{◌++◌, ap, ◌∙◌}
use Rattle.bt_words.proofs.Extending.{all_of, one_more}
use Rattle.bt_talk.specs.Opened.{OpenBlock, block_line}
use Rattle.bt_talk.proofs.blocks.add_blocks.Goals as goal

pub loop-one-preserved : goal.loop-one-preserved
loop-one-preserved c = one_more block_line c.args.blocks.now c.loop-one.one-index c.one-item.result _ _ _ c.loop-one-test.true c.loop-one.invariant
    (c.in_ok-add_block.ensures.line ∙ ap (λ (b : OpenBlock). c.loop-one.text.items ++ block_line b) c.one-item.is)

pub returns : goal.returns
returns c = record { lines = all_of block_line c.args.blocks.now c.loop-one.one-index _ _ c.loop-one-test.false c.loop-one.invariant }
