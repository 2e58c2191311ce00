use Rattle.std.proofs.Common.{◌∙◌, ap}
use Rattle.bt_base.specs.Medium.{crashes_told}
use Rattle.bt_base.proofs.Faults.{on_ok}
use Rattle.bt_base.proofs.Telling.{cuts_settles, shrinks_since, shrinks_time, settled_same, waits_shrinks}
use Rattle.bt_base.proofs.line_keeper.LineKeeperKeeper.cut.Goals as goal

pub returns-in_err-end-clause-crash : goal.returns-in_err-end-clause-crash
returns-in_err-end-clause-crash g c = waits_shrinks c.args.length (g.D.Disk.told c.args.self.now) (g.D.Disk.told c.end.new.self) c.in_err-end.ensures.failed

pub returns-clause-time : goal.returns-clause-time
returns-clause-time g c = shrinks_time c.args.length (g.D.Disk.told c.args.self.now) (g.D.Disk.told c.end.new.self) (g.D.Disk.told c.shrink.new.self) c.in_ok-end.ensures.paid c.shrink.ensures.shrinks

pub returns-clause-settled : goal.returns-clause-settled
returns-clause-settled g c = on_ok c.shrink.result (cuts_settles c.args.length (g.D.Disk.told c.end.new.self) (g.D.Disk.told c.shrink.new.self)) c.shrink.ensures.ok

pub returns-clause-no_moment : goal.returns-clause-no_moment
returns-clause-no_moment g c = λ none settled. ap crashes_told (c.shrink.ensures.out_of_memory none ∙ settled_same (g.D.Disk.told c.args.self.now) (g.D.Disk.told c.end.new.self) settled c.in_ok-end.ensures.paid)

pub returns-clause-crash : goal.returns-clause-crash
returns-clause-crash g c = shrinks_since c.args.length (g.D.Disk.told c.args.self.now) (g.D.Disk.told c.end.new.self) (g.D.Disk.told c.shrink.new.self) c.in_ok-end.ensures.paid c.shrink.ensures.shrinks
