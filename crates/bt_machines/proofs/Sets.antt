-- Which terminals are in a set, by the bits of its number.
use Rattle.std.proofs.Common.{◌≡◌, ◌≢◌, ℕ, ◌<◌, ◌==◌, ◌&&◌, ◌||◌, ◌^◌, ◌*◌, ◌%◌, not, Bool, true, false, bit_and, bit_or, refl, ◌∙◌, ap, arith, subst}
use Rattle.std.specs.Int.{w64, bit_at, bit_not}
use Rattle.std.proofs.lemmas.Bool.Decides.{nat_tests}
use Rattle.std.proofs.Math.Nat.{mod-eq_of_lt}
use Rattle.std.proofs.Math.Pow.{pow-lt}
use Rattle.std.proofs.lemmas.Nat.Bits.{bit_at-zero, bit_at_set_same, bit_at_set_other, bit_at_clear_same, bit_at_clear_other}
use Rattle.bt_frame.specs.declared.numbers.TermNo.{TermNo}
use Rattle.bt_frame.specs.declared.numbers.TermSet.{TermSet}
use Rattle.bt_machines.specs.Terminals.{has, no_terminal, with_terminal, without_terminal}

-- one of 64 bits
bit_of : (k : ℕ) → k < 64 → 1 * 2 ^ k % 2 ^ 64 ≡ 2 ^ k
bit_of k h =
    let one : 1 * 2 ^ k ≡ 2 ^ k = omega arith in
    ap (λ (n : ℕ). n % 2 ^ 64) one ∙ mod-eq_of_lt (pow-lt h)

-- no terminal is in the empty set
pub has-none : (terminal : TermNo) → has no_terminal terminal ≡ false
has-none terminal = rw (bit_at-zero terminal.0) refl

-- the bits of a set, with one more
with-same : (n k i : ℕ) → k < 64 → i ≡ k → bit_at (bit_or n (2 ^ k)) i ≡ 1
with-same n k i h e = subst (λ (m : ℕ). bit_at (bit_or n m) i ≡ 1) (bit_of k h) (rw e (bit_at_set_same w64 n k h))

with-other : (n k i : ℕ) → k < 64 → i ≢ k → bit_at (bit_or n (2 ^ k)) i ≡ bit_at n i
with-other n k i h ne = subst (λ (m : ℕ). bit_at (bit_or n m) i ≡ bit_at n i) (bit_of k h) (bit_at_set_other w64 n k h i ne)

with_by : (n k i : ℕ) (same : Bool) → (i == k) ≡ same → k < 64 → (bit_at (bit_or n (2 ^ k)) i == 1) ≡ (i == k || bit_at n i == 1)
with_by n k i true e h = let s : i ≡ k = grind (arith, nat_tests) in rw (e, with-same n k i h s) refl
with_by n k i false e h = let ne : i ≢ k = grind (arith, nat_tests) in rw (e, with-other n k i h ne) refl

-- a terminal joins
pub has-with : (terminals : TermSet) (joins terminal : TermNo) → joins.0 < 64
    → has (with_terminal terminals joins) terminal ≡ (terminal.0 == joins.0 || has terminals terminal)
has-with terminals joins terminal h = with_by terminals.0 joins.0 terminal.0 _ refl h

-- the bits of a set, with one less
without-same : (n k i : ℕ) → k < 64 → i ≡ k → bit_at (bit_and n (bit_not w64 (2 ^ k))) i ≡ 0
without-same n k i h e = subst (λ (m : ℕ). bit_at (bit_and n (bit_not w64 m)) i ≡ 0) (bit_of k h) (rw e (bit_at_clear_same w64 n k h))

without-other : (n k i : ℕ) → k < 64 → i < 64 → i ≢ k → bit_at (bit_and n (bit_not w64 (2 ^ k))) i ≡ bit_at n i
without-other n k i h within ne = subst (λ (m : ℕ). bit_at (bit_and n (bit_not w64 m)) i ≡ bit_at n i) (bit_of k h) (bit_at_clear_other w64 n k h i within ne)

without_by : (n k i : ℕ) (same : Bool) → (i == k) ≡ same → k < 64 → i < 64
    → (bit_at (bit_and n (bit_not w64 (2 ^ k))) i == 1) ≡ (not (i == k) && bit_at n i == 1)
without_by n k i true e h within = let s : i ≡ k = grind (arith, nat_tests) in rw (e, without-same n k i h s) refl
without_by n k i false e h within = let ne : i ≢ k = grind (arith, nat_tests) in rw (e, without-other n k i h within ne) refl

-- a terminal leaves
pub has-without : (terminals : TermSet) (leaves terminal : TermNo) → leaves.0 < 64 → terminal.0 < 64
    → has (without_terminal terminals leaves) terminal ≡ (not (terminal.0 == leaves.0) && has terminals terminal)
has-without terminals leaves terminal h within = without_by terminals.0 leaves.0 terminal.0 _ refl h within
