use Rattle.std.proofs.Common.{rules}
use Rattle.bt_base.specs.MemoryDisk.{Settled}
use Rattle.bt_base.proofs.Life.{settled_steps, steps_nowhere}
use Rattle.bt_base.proofs.moments.Moments.settle.Goals as goal

pub returns-then-eq-clause-steps : goal.returns-then-eq-clause-steps
returns-then-eq-clause-steps c = steps_nowhere c.args.self.now

pub returns-in-Some-clause-steps : goal.returns-in-Some-clause-steps
returns-in-Some-clause-steps c =
    let settled : Settled c.args.self.now (record { past = c.push_reserved.new.self.items; last = c.replace-before.new.dest }) = search rules in
    settled_steps c.args.self.now (record { past = c.push_reserved.new.self.items; last = c.replace-before.new.dest }) settled
