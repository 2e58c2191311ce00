-- A number too great is out of a range whether it is capped or not, and one in the range is never capped.
use Rattle.std.proofs.Common.{◌≡◌, ℕ, ◌-◌, ◌^◌, ◌<◌, ◌≤◌, Bool, true, false, cond, leb, refl, sym, ◌∙◌, arith, inl, inr}
use Rattle.std.proofs.lemmas.Bool.{le-leb, lt-leb, cases_lt}
use Rattle.bt_text.specs.Text.{capped}

pub capped-small : (most n : ℕ) → most < 2 ^ 64 - 1 → n ≤ most → capped n ≡ n
capped-small most n small le = omega arith

pub leb-capped : (most n : ℕ) → most < 2 ^ 64 - 1 → leb (capped n) most ≡ leb n most
leb-capped most n small =
    elim (cases_lt most n) [
      | inl lt ↦ lt-leb (capped n) most (omega arith) ∙ sym (lt-leb n most lt)
      | inr le ↦ le-leb (capped n) most (omega arith) ∙ sym (le-leb n most le)
    ]

pub leb-one-capped : (n : ℕ) → leb 1 (capped n) ≡ leb 1 n
leb-one-capped n =
    elim (cases_lt n 1) [
      | inl lt ↦ lt-leb 1 (capped n) (omega arith) ∙ sym (lt-leb 1 n lt)
      | inr le ↦ le-leb 1 (capped n) (omega arith) ∙ sym (le-leb 1 n le)
    ]

-- what a test decides may be changed where the test holds
pub cond-at_true : {X : Type 0} (b : Bool) (x y z : X) → (b ≡ true → x ≡ y) → cond b x z ≡ cond b y z
cond-at_true true x y z same = same refl
cond-at_true false x y z same = refl
