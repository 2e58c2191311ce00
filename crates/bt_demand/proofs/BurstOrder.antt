-- The order of bursts: it is what its test says, and it goes on.
use Rattle.std.proofs.Common.{◌≡◌, true, false, is_lt, nat_cmp, arith}
use Rattle.std.specs.declared.cmp.Ordering.{Ordering}
use Rattle.std.specs.Ordering.{ordering_then}
use Rattle.std.proofs.lemmas.Bool.Decides.{nat_tests}
use Rattle.bt_demand.specs.declared.burst.Burst.{Burst}
use Rattle.bt_demand.specs.Burst.{is_not_after, IsNotAfter}

-- the order that is tested
pub IsNotAfter-tested : (a b : Burst) → is_not_after a b ≡ true → IsNotAfter a b
IsNotAfter-tested a b is = record {
  start = grind (arith, nat_tests);
  from = λ same. grind (arith, nat_tests);
  to = λ same same_from. grind (arith, nat_tests);
}

-- what is in order passes the test
pub tested-IsNotAfter : (a b : Burst) → IsNotAfter a b → is_not_after a b ≡ true
tested-IsNotAfter a b is =
    let start = is.start in
    let from = is.from in
    let to = is.to in
    grind (arith, nat_tests)

-- the order of the keys: by the start, then by the terminal that sends, then by the one that receives
abbrev pub burst_cmp : Burst → Burst → Ordering
burst_cmp a b = ordering_then (ordering_then (nat_cmp a.start b.start) (nat_cmp a.from.0 b.from.0)) (nat_cmp a.to.0 b.to.0)

-- a burst after which the other is not less does not belong behind it
pub IsNotAfter-compared : (a b : Burst) → is_lt (burst_cmp b a) ≡ false → IsNotAfter a b
IsNotAfter-compared a b not_less = record {
  start = grind (arith, nat_tests);
  from = λ same. grind (arith, nat_tests);
  to = λ same same_from. grind (arith, nat_tests);
}

-- no burst belongs behind itself
pub IsNotAfter-itself : (a : Burst) → IsNotAfter a a
IsNotAfter-itself a = record { start = omega arith; from = λ same. omega arith; to = λ same same_from. omega arith }

-- the order goes on
pub IsNotAfter-then : (a b c : Burst) → IsNotAfter a b → IsNotAfter b c → IsNotAfter a c
IsNotAfter-then a b c p q = record {
  start = omega (arith, p.start, q.start);
  from = λ same. omega (arith, p.start, q.start, p.from, q.from);
  to = λ same same_from. omega (arith, p.start, q.start, p.from, q.from, p.to, q.to);
}
