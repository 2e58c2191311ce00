use Rattle.std.proofs.Common.{◌∙◌, sym, subst}
use Rattle.bt_outside.specs.Crash.{CouldBeLeft, IsSettled, LeavesSince}
use Rattle.bt_base.specs.Medium.{bytes_told, crashes_told}
use Rattle.bt_base.proofs.Faults.{always_ok}
use Rattle.bt_base.proofs.Telling.{pays_settles, pays_since, waits_since}
use Rattle.bt_base.proofs.line_keeper.LineKeeperKeeper.read_all.Goals as goal

pub returns-in_err-pay-clause-crash : goal.returns-in_err-pay-clause-crash
returns-in_err-pay-clause-crash g c = waits_since (g.D.Disk.told c.args.self.now) (g.D.Disk.told c.pay.new.self) c.in_err-pay.ensures.failed

-- once the sync is paid, nothing more is changed
pub returns-in_err-count-clause-crash : goal.returns-in_err-count-clause-crash
returns-in_err-count-clause-crash g c =
    let old = g.D.Disk.told c.args.self.now in
    subst (λ now. LeavesSince (crashes_told old) (crashes_told now) (CouldBeLeft (crashes_told old))) (sym c.in_err-count.ensures.same) (pays_since old (g.D.Disk.told c.pay.new.self) c.in_ok-pay.ensures.paid)

pub returns-then-count-gt-MOST_JOURNAL_BYTES-clause-stays_settled : goal.returns-then-count-gt-MOST_JOURNAL_BYTES-clause-stays_settled
returns-then-count-gt-MOST_JOURNAL_BYTES-clause-stays_settled g c =
    λ fault was. subst (λ now. IsSettled (bytes_told now) (crashes_told now)) (sym c.in_ok-count.ensures.same) (pays_settles (g.D.Disk.told c.args.self.now) (g.D.Disk.told c.pay.new.self) c.in_ok-pay.ensures.paid)

pub returns-then-count-gt-MOST_JOURNAL_BYTES-clause-crash : goal.returns-then-count-gt-MOST_JOURNAL_BYTES-clause-crash
returns-then-count-gt-MOST_JOURNAL_BYTES-clause-crash g c =
    let old = g.D.Disk.told c.args.self.now in
    subst (λ now. LeavesSince (crashes_told old) (crashes_told now) (CouldBeLeft (crashes_told old))) (sym c.in_ok-count.ensures.same) (pays_since old (g.D.Disk.told c.pay.new.self) c.in_ok-pay.ensures.paid)

pub returns-clause-settled : goal.returns-clause-settled
returns-clause-settled g c =
    always_ok c.read_first.result (subst (λ now. IsSettled (bytes_told now) (crashes_told now)) (sym (c.read_first.ensures.same ∙ c.in_ok-count.ensures.same)) (pays_settles (g.D.Disk.told c.args.self.now) (g.D.Disk.told c.pay.new.self) c.in_ok-pay.ensures.paid))

pub returns-clause-stays_settled : goal.returns-clause-stays_settled
returns-clause-stays_settled g c =
    λ fault was. subst (λ now. IsSettled (bytes_told now) (crashes_told now)) (sym (c.read_first.ensures.same ∙ c.in_ok-count.ensures.same)) (pays_settles (g.D.Disk.told c.args.self.now) (g.D.Disk.told c.pay.new.self) c.in_ok-pay.ensures.paid)

pub returns-clause-crash : goal.returns-clause-crash
returns-clause-crash g c =
    let old = g.D.Disk.told c.args.self.now in
    subst (λ now. LeavesSince (crashes_told old) (crashes_told now) (CouldBeLeft (crashes_told old))) (sym (c.read_first.ensures.same ∙ c.in_ok-count.ensures.same)) (pays_since old (g.D.Disk.told c.pay.new.self) c.in_ok-pay.ensures.paid)
