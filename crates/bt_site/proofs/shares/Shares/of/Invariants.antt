use Rattle.std.proofs.Common.{◌≡◌, take}
use Rattle.bt_site.specs.Shares.{shares_of}
use Rattle.bt_site.proofs.Shared.{bursts_in}
use Rattle.bt_site.proofs.shares.Shares.of.Given as goal

-- the shares of the bursts so far
abbrev pub invariant-loop-burst : goal.invariant-loop-burst
invariant-loop-burst l = bursts_in l.shares.items ≡ shares_of l.terminals (take l.burst-index l.bursts)
