use Rattle.std.proofs.Common.{subst}
use Rattle.bt_outside.specs.Crash.{Both}
use Rattle.bt_base.specs.Lines.{Pays, Waits}
use Rattle.bt_base.proofs.Faults.{failed_or_not}
use Rattle.bt_base.proofs.DiskSteps.{pays, waits}
use Rattle.bt_base.proofs.line_keeper.LineKeeper.pay.Goals as goal

pub returns-in-Ok-clause-paid : goal.returns-in-Ok-clause-paid
returns-in-Ok-clause-paid g c =
    let e = c.in-Ok.ensures in
    subst (λ disk. Both Pays (g.D.Disk.told disk) (g.D.Disk.told c.sync.new.self)) c.self.view_is (pays (g.D.Disk.told c.self.inside.disk) (g.D.Disk.told c.sync.new.self) e.ok e.steps e.no_moment)

pub returns-in-Err-clause-failed : goal.returns-in-Err-clause-failed
returns-in-Err-clause-failed g c =
    let e = c.in-Err.ensures in
    let stays = e.failed (failed_or_not c.in-Err.field-0 e.not_out_of_memory) in
    subst (λ disk. Both Waits (g.D.Disk.told disk) (g.D.Disk.told c.sync.new.self)) c.self.view_is (waits (g.D.Disk.told c.self.inside.disk) (g.D.Disk.told c.sync.new.self) stays e.steps)
