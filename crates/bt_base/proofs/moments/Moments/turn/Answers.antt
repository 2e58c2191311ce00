use Rattle.std.proofs.Common.{rules, ◌∙◌, List, ap}
use Rattle.bt_base.specs.Moments.{Held}
use Rattle.bt_base.specs.MemoryDisk.{Turned}
use Rattle.bt_base.proofs.Life.{same_steps, steps_nowhere, turned_steps}
use Rattle.bt_base.proofs.moments.Moments.turn.Goals as goal

pub returns-in_err-synced-clause-steps : goal.returns-in_err-synced-clause-steps
returns-in_err-synced-clause-steps c = steps_nowhere c.args.self.now

pub returns-in_err-spare-clause-steps : goal.returns-in_err-spare-clause-steps
returns-in_err-spare-clause-steps c = steps_nowhere c.args.self.now

pub returns-in_err-reserve-clause-steps : goal.returns-in_err-reserve-clause-steps
returns-in_err-reserve-clause-steps c =
    same_steps c.args.self.now (record { past = c.reserve.new.self.items; last = c.self.inside.last }) (ap (λ (past : List Held). record { past = past; last = c.self.inside.last }) c.reserve.ensures.items ∙ c.self.view_is)

pub returns-clause-steps : goal.returns-clause-steps
returns-clause-steps c =
    let turned : Turned c.args.self.now c.args.bytes.items (record { past = c.push_reserved.new.self.items; last = c.replace-before.new.dest }) = search rules in
    turned_steps c.args.self.now (record { past = c.push_reserved.new.self.items; last = c.replace-before.new.dest }) c.args.bytes.items turned
