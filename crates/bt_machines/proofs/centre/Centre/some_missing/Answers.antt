-- one terminal that has still to confirm, or none
use Rattle.std.proofs.Common.{◌≡◌, true, sym, arith}
use Rattle.bt_machines.specs.Centre.{is_missing}
use Rattle.bt_frame.proofs.Tests.{one_passes, none_passes}
use Rattle.bt_machines.proofs.centre.Centre.some_missing.Goals as goal

pub returns-then-missing : goal.returns-then-missing
returns-then-missing c =
    let e : is_missing c.args.self.now (record { 0 = c.loop-number.number }) ≡ true = cc in
    sym (one_passes (λ number. is_missing c.args.self.now (record { 0 = number })) 64 c.loop-number.number c.loop-number-test.true e)

pub returns : goal.returns
returns c = sym (none_passes (λ number. is_missing c.args.self.now (record { 0 = number })) 64
    (λ k h. c.loop-number.invariant k (omega arith)))
