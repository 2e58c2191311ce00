use Rattle.std.proofs.Common.{sym, subst}
use Rattle.bt_outside.specs.Crash.{Both}
use Rattle.bt_base.specs.Lines.{Shrinks}
use Rattle.bt_base.proofs.Faults.{either_fault, either_way, on_ok}
use Rattle.bt_base.proofs.DiskSteps.{cuts, shrinks_maybe, shrinks_none, shrinks_synced, shrinks_waiting}
use Rattle.bt_base.proofs.line_keeper.cut_and_sync.Goals as goal

-- the cut failed, or memory ran out
pub returns-in_err-cut-clause-shrinks : goal.returns-in_err-cut-clause-shrinks
returns-in_err-cut-clause-shrinks g c =
    let kept = c.args.length in
    let old = g.D.Disk.told c.args.disk.now in
    let e = c.in_err-cut.ensures in
    either_fault c.in_err-cut.field-0.0
    (λ failed. shrinks_maybe kept old (g.D.Disk.told c.cut.new.self) c.requires.synced (e.failed failed) e.steps)
    (λ none. subst (λ now. Both (Shrinks kept) old now) (sym (e.out_of_memory none)) (shrinks_none kept old c.requires.synced))

-- the sync succeeded
pub returns-clause-ok : goal.returns-clause-ok
returns-clause-ok g c =
    on_ok c.sync.result (cuts c.args.length (g.D.Disk.told c.args.disk.now) (g.D.Disk.told c.cut.new.self) (g.D.Disk.told c.sync.new.self) c.in_ok-cut.ensures.ok) c.sync.ensures.ok

-- the bytes were cut, and a sync tried
pub returns-clause-shrinks : goal.returns-clause-shrinks
returns-clause-shrinks g c =
    let kept = c.args.length in
    let old = g.D.Disk.told c.args.disk.now in
    let mid = g.D.Disk.told c.cut.new.self in
    let new = g.D.Disk.told c.sync.new.self in
    let e = c.in_ok-cut.ensures in
    let s = c.sync.ensures in
    either_way c.sync.result (λ syncs. shrinks_synced kept old mid new c.requires.synced e.ok e.steps syncs s.steps) (λ stays. shrinks_waiting kept old mid new c.requires.synced e.ok e.steps stays s.steps)
    s.ok s.failed s.not_out_of_memory
