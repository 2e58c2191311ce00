use Rattle.std.proofs.Common.{◌∙◌, ap}
use Rattle.bt_base.specs.Medium.{crashes_told}
use Rattle.bt_base.proofs.Faults.{on_ok}
use Rattle.bt_base.proofs.Telling.{adds_settles, grows_since, grows_time, settled_same, waits_grows}
use Rattle.bt_base.proofs.line_keeper.LineKeeperKeeper.append.Goals as goal

pub returns-in_err-end-clause-crash : goal.returns-in_err-end-clause-crash
returns-in_err-end-clause-crash g c = waits_grows c.args.piece.now (g.D.Disk.told c.args.self.now) (g.D.Disk.told c.end.new.self) c.in_err-end.ensures.failed

pub returns-clause-time : goal.returns-clause-time
returns-clause-time g c = grows_time c.args.piece.now (g.D.Disk.told c.args.self.now) (g.D.Disk.told c.end.new.self) (g.D.Disk.told c.add.new.self) c.in_ok-end.ensures.paid c.add.ensures.grows

pub returns-clause-settled : goal.returns-clause-settled
returns-clause-settled g c = on_ok c.add.result (adds_settles c.args.piece.now (g.D.Disk.told c.end.new.self) (g.D.Disk.told c.add.new.self)) c.add.ensures.ok

pub returns-clause-no_moment : goal.returns-clause-no_moment
returns-clause-no_moment g c = λ none settled. ap crashes_told (c.add.ensures.out_of_memory none ∙ settled_same (g.D.Disk.told c.args.self.now) (g.D.Disk.told c.end.new.self) settled c.in_ok-end.ensures.paid)

pub returns-clause-crash : goal.returns-clause-crash
returns-clause-crash g c = grows_since c.args.piece.now (g.D.Disk.told c.args.self.now) (g.D.Disk.told c.end.new.self) (g.D.Disk.told c.add.new.self) c.in_ok-end.ensures.paid c.add.ensures.grows
