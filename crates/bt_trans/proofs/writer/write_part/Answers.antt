use Rattle.std.proofs.Common.{arith}
use Rattle.std.proofs.lemmas.Grind.{common_steps}
use Rattle.bt_trans.proofs.writer.write_part.Goals as goal

pub loop-mode-init : goal.loop-mode-init
loop-mode-init c = grind (arith, common_steps)

pub loop-mode-preserved : goal.loop-mode-preserved
loop-mode-preserved c = grind (arith, common_steps)

pub returns : goal.returns
returns c = grind (arith, common_steps)
