use Rattle.std.proofs.Common.{◌≡◌, [], length, All, Vec, Global}
use Rattle.bt_demand.specs.declared.burst.Burst.{Burst}
use Rattle.bt_site.proofs.shares.no_shares.Given as goal

-- so many shares without bursts
abbrev pub invariant-loop : goal.invariant-loop
invariant-loop l = record {
  count : length l.shares.items ≡ l.counter;
  none : All (λ (share : Vec Burst Global). share.items ≡ []) l.shares.items;
}
