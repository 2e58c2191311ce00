-- the place of a terminal is written
use Rattle.std.proofs.Common.{ap}
use Rattle.bt_timing.specs.DelayText.{SoFar, with_known}
use Rattle.bt_timing.proofs.KnownDelays.{put-AreSoFar}
use Rattle.bt_timing.proofs.delay_table.DelayTable.put.Goals as goal

pub invariant_of-self : goal.invariant_of-self
invariant_of-self c = put-AreSoFar c.self.inside.delays.items c.self.inside.is_changing c.args.terminal.0 c.args.delay c.requires.delay c.self.invariant

pub returns : goal.returns
returns c = ap (λ (s : SoFar). with_known s s.changing c.args.terminal c.args.delay) c.self.view_is
