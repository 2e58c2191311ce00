-- the others are no more than all
use Rattle.std.proofs.Common.{ap, arith, length, take}
use Rattle.std.proofs.lemmas.List.{length-take-le}
use Rattle.bt_script.specs.declared.line.ScriptLine.{ScriptLine}
use Rattle.std.proofs.Common.{List}
use Rattle.bt_talk.proofs.InTurn.{others_few}
use Rattle.bt_talk.proofs.block.edits_and_others.Goals as goal

pub returns-clause-few : goal.returns-clause-few
returns-clause-few c =
    let first = take c.loop-one.one-index c.args.said.now in
    omega (arith, ap (λ (l : List ScriptLine). length l) c.loop-one.invariant.others, others_few first, length-take-le c.loop-one.one-index c.args.said.now c.loop-one.auto.one-index-end, c.loop-one.auto.one-index-end)
