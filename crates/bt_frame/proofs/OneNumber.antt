-- Numbers that are the same are of one thing.
use Rattle.std.proofs.Common.{◌≡◌, ℕ, refl}
use Rattle.bt_frame.specs.declared.numbers.BeamNo.{BeamNo}
use Rattle.bt_frame.specs.declared.numbers.EditionNo.{EditionNo}
use Rattle.bt_frame.specs.declared.numbers.TermNo.{TermNo}

-- the terminal of a number
abbrev pub numbered : ℕ → TermNo
numbered n = record { 0 = n }

pub same_terminal : (a b : TermNo) → a.0 ≡ b.0 → a ≡ b
same_terminal a b same = rw same refl

pub same_beam : (a b : BeamNo) → a.0 ≡ b.0 → a ≡ b
same_beam a b same = rw same refl

pub same_edition : (a b : EditionNo) → a.0 ≡ b.0 → a ≡ b
same_edition a b same = rw same refl
