-- the place of a terminal is written, and a change is noted
use Rattle.std.proofs.Common.{true, is_some, ap, ◌∙◌}
use Rattle.std.specs.List.{list_all}
use Rattle.bt_timing.specs.DelayText.{SoFar, with_known}
use Rattle.bt_timing.proofs.KnownDelays.{change-AreSoFar}
use Rattle.bt_timing.proofs.delay_table.DelayTable.put_change.Goals as goal

pub invariant_of-self : goal.invariant_of-self
invariant_of-self c =
    let all = ap (λ (s : SoFar). list_all is_some s.known) c.self.view_is ∙ c.requires.complete in
    change-AreSoFar c.self.inside.delays.items c.self.inside.is_changing c.args.terminal.0 c.args.delay c.requires.delay all c.self.invariant

pub returns : goal.returns
returns c = ap (λ (s : SoFar). with_known s true c.args.terminal c.args.delay) c.self.view_is
