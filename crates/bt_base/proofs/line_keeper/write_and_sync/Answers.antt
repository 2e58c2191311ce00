use Rattle.std.proofs.Common.{sym, subst}
use Rattle.bt_outside.specs.Crash.{Both}
use Rattle.bt_base.specs.Lines.{Grows}
use Rattle.bt_base.proofs.Faults.{either_fault, either_way, on_ok}
use Rattle.bt_base.proofs.DiskSteps.{adds, grows_none, grows_part, grows_synced, grows_waiting}
use Rattle.bt_base.proofs.line_keeper.write_and_sync.Goals as goal

-- the write failed, or memory ran out
pub returns-in_err-write_at-clause-grows : goal.returns-in_err-write_at-clause-grows
returns-in_err-write_at-clause-grows g c =
    let piece = c.args.piece.now in
    let old = g.D.Disk.told c.args.disk.now in
    let e = c.in_err-write_at.ensures in
    either_fault c.in_err-write_at.field-0.0
    (λ failed. grows_part piece old (g.D.Disk.told c.write_at.new.self) c.requires.synced (e.failed failed) e.steps)
    (λ none. subst (λ now. Both (Grows piece) old now) (sym (e.out_of_memory none)) (grows_none piece old c.requires.synced))

-- the sync succeeded
pub returns-clause-ok : goal.returns-clause-ok
returns-clause-ok g c =
    on_ok c.sync.result (adds c.args.piece.now (g.D.Disk.told c.args.disk.now) (g.D.Disk.told c.write_at.new.self) (g.D.Disk.told c.sync.new.self) c.in_ok-write_at.ensures.ok) c.sync.ensures.ok

-- the piece was written, and a sync tried
pub returns-clause-grows : goal.returns-clause-grows
returns-clause-grows g c =
    let piece = c.args.piece.now in
    let old = g.D.Disk.told c.args.disk.now in
    let mid = g.D.Disk.told c.write_at.new.self in
    let new = g.D.Disk.told c.sync.new.self in
    let e = c.in_ok-write_at.ensures in
    let s = c.sync.ensures in
    either_way c.sync.result (λ syncs. grows_synced piece old mid new c.requires.synced e.ok e.steps syncs s.steps) (λ stays. grows_waiting piece old mid new c.requires.synced e.ok e.steps stays s.steps)
    s.ok s.failed s.not_out_of_memory
