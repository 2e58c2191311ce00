use Rattle.std.proofs.Common.{sym}
use Rattle.bt_machines.proofs.Carried.{step-carried}
use Rattle.bt_machines.proofs.terminal.Terminal.hear.Goals as goal

pub returns-clause-state : goal.returns-clause-state
returns-clause-state c = rw c.carry_out.ensures (rw c.answer_to-answer.ensures (sym (step-carried c.args.self.now c.args.mark c.args.message)))
