-- What a store over a disk tells of a crash.
use Rattle.std.proofs.Common.{◌≡◌, ◌⊎◌, inl, inr, ℕ, List, take, Option, Some, None, IfSome, refl, sym, ◌∙◌, ap, subst}
use Rattle.std.proofs.lemmas.List.{append-nil}
use Rattle.bt_outside.specs.Told.{GainsPrefix, shortened}
use Rattle.bt_outside.specs.Crash.{Both, CouldBeLeft, Elapses, IsSettled, LeavesSince}
use Rattle.bt_outside.proofs.Moments.{goes_further}
use Rattle.bt_base.specs.Medium.{IsSynced, Medium, bytes_told, crashes_told}
use Rattle.bt_base.specs.Lines.{Adds, Cuts, Grows, Pays, Shrinks, Waits}
use Rattle.bt_base.proofs.DiskSteps.{left_synced, left_whole}

-- the store over what is told
abbrev Settled : Option Medium → Type 0
Settled now = IsSettled (bytes_told now) (crashes_told now)

pub is_settled : (now : Option Medium) → IfSome now IsSynced → Settled now
is_settled None synced = tt
is_settled (Some now) synced = λ left. (
  λ was. left_synced now.synced now.bytes left synced ((now.model left).0 was),
  λ is. (now.model left).1 (left_whole now.synced now.bytes left is),
)

pub settled_synced : (now : Option Medium) → Settled now → IfSome now IsSynced
settled_synced None settled = tt
settled_synced (Some now) settled = (settled now.synced).0 ((now.model now.synced).1 (inl refl))

pub pays_settles : (old new : Option Medium) → Both Pays old new → Settled new
pays_settles None None paid = tt
pays_settles None (Some new) paid = absurd paid
pays_settles (Some old) None paid = absurd paid
pays_settles (Some old) (Some new) paid = is_settled (Some new) paid.synced

pub adds_settles : (piece : List ℕ) (old new : Option Medium) → Both (Adds piece) old new → Settled new
adds_settles piece None None added = tt
adds_settles piece None (Some new) added = absurd added
adds_settles piece (Some old) None added = absurd added
adds_settles piece (Some old) (Some new) added = is_settled (Some new) added.synced

pub cuts_settles : (kept : ℕ) (old new : Option Medium) → Both (Cuts kept) old new → Settled new
cuts_settles kept None None cut = tt
cuts_settles kept None (Some new) cut = absurd cut
cuts_settles kept (Some old) None cut = absurd cut
cuts_settles kept (Some old) (Some new) cut = is_settled (Some new) cut.synced

-- where the store was settled nothing was owed
pub settled_same : (old new : Option Medium) → Settled old → Both Pays old new → new ≡ old
settled_same None None settled paid = refl
settled_same None (Some new) settled paid = absurd paid
settled_same (Some old) None settled paid = absurd paid
settled_same (Some old) (Some new) settled paid = ap (λ (m : Medium). Some m) (paid.same (settled_synced (Some old) settled))

-- a crash since leaves what a crash then could have left
pub waits_since : (old new : Option Medium) → Both Waits old new → LeavesSince (crashes_told old) (crashes_told new) (CouldBeLeft (crashes_told old))
waits_since None None waited = tt
waits_since None (Some new) waited = tt
waits_since (Some old) None waited = tt
waits_since (Some old) (Some new) waited = waited.inside

pub pays_since : (old new : Option Medium) → Both Pays old new → LeavesSince (crashes_told old) (crashes_told new) (CouldBeLeft (crashes_told old))
pays_since None None paid = tt
pays_since None (Some new) paid = tt
pays_since (Some old) None paid = tt
pays_since (Some old) (Some new) paid = paid.waits.inside

-- since a settled store waited, its bytes
waits_settled : (old new : Medium) → Settled (Some old) → Waits old new → LeavesSince (crashes_told (Some old)) (crashes_told (Some new)) (λ left. left ≡ old.bytes)
waits_settled old new settled waited = λ left since. (settled left).0 (waited.inside left since)

pub waits_grows : (piece : List ℕ) (old new : Option Medium) → Both Waits old new → Settled old → LeavesSince (crashes_told old) (crashes_told new) (λ left. GainsPrefix (bytes_told old) piece (Some left))
waits_grows piece None None waited settled = tt
waits_grows piece None (Some new) waited settled = tt
waits_grows piece (Some old) None waited settled = tt
waits_grows piece (Some old) (Some new) waited settled = λ left since. (0, ap (λ (l : List ℕ). Some l) (waits_settled old new settled waited left since ∙ sym (append-nil old.bytes)))

pub waits_shrinks : (kept : ℕ) (old new : Option Medium) → Both Waits old new → Settled old
    → LeavesSince (crashes_told old) (crashes_told new) (λ left. (Some left ≡ bytes_told old) ⊎ (Some left ≡ shortened (bytes_told old) kept))
waits_shrinks kept None None waited settled = tt
waits_shrinks kept None (Some new) waited settled = tt
waits_shrinks kept (Some old) None waited settled = tt
waits_shrinks kept (Some old) (Some new) waited settled = λ left since. inl (ap (λ (l : List ℕ). Some l) (waits_settled old new settled waited left since))

-- what was owed was paid, and then the piece was written
pub grows_time : (piece : List ℕ) (old mid new : Option Medium) → Both Pays old mid → Both (Grows piece) mid new → Elapses (crashes_told old) (crashes_told new)
grows_time piece None None None paid grown = tt
grows_time piece None None (Some new) paid grown = absurd grown
grows_time piece None (Some mid) new paid grown = absurd paid
grows_time piece (Some old) None new paid grown = absurd paid
grows_time piece (Some old) (Some mid) None paid grown = absurd grown
grows_time piece (Some old) (Some mid) (Some new) paid grown = goes_further old.crashes mid.crashes new.crashes paid.waits.time grown.time

grows_straight : (piece : List ℕ) (old new : Option Medium) → Both (Grows piece) old new → LeavesSince (crashes_told old) (crashes_told new) (λ left. GainsPrefix (bytes_told old) piece (Some left))
grows_straight piece None None grown = tt
grows_straight piece None (Some new) grown = tt
grows_straight piece (Some old) None grown = tt
grows_straight piece (Some old) (Some new) grown = λ left since. let part = grown.inside left since in (part.0, ap (λ (l : List ℕ). Some l) part.1)

pub grows_since : (piece : List ℕ) (old mid new : Option Medium) → Both Pays old mid → Both (Grows piece) mid new → Settled old
    → LeavesSince (crashes_told old) (crashes_told new) (λ left. GainsPrefix (bytes_told old) piece (Some left))
grows_since piece old mid new paid grown settled = grows_straight piece old new (subst (λ (m : Option Medium). Both (Grows piece) m new) (settled_same old mid settled paid) grown)

-- what was owed was paid, and then the bytes were cut
pub shrinks_time : (kept : ℕ) (old mid new : Option Medium) → Both Pays old mid → Both (Shrinks kept) mid new → Elapses (crashes_told old) (crashes_told new)
shrinks_time kept None None None paid shrunk = tt
shrinks_time kept None None (Some new) paid shrunk = absurd shrunk
shrinks_time kept None (Some mid) new paid shrunk = absurd paid
shrinks_time kept (Some old) None new paid shrunk = absurd paid
shrinks_time kept (Some old) (Some mid) None paid shrunk = absurd shrunk
shrinks_time kept (Some old) (Some mid) (Some new) paid shrunk = goes_further old.crashes mid.crashes new.crashes paid.waits.time shrunk.time

either_left : (old : Medium) (kept : ℕ) (left : List ℕ) → (left ≡ old.bytes) ⊎ (left ≡ take kept old.bytes) → (Some left ≡ bytes_told (Some old)) ⊎ (Some left ≡ shortened (bytes_told (Some old)) kept)
either_left old kept left (inl is) = inl (ap (λ (l : List ℕ). Some l) is)
either_left old kept left (inr is) = inr (ap (λ (l : List ℕ). Some l) is)

shrinks_straight : (kept : ℕ) (old new : Option Medium) → Both (Shrinks kept) old new
    → LeavesSince (crashes_told old) (crashes_told new) (λ left. (Some left ≡ bytes_told old) ⊎ (Some left ≡ shortened (bytes_told old) kept))
shrinks_straight kept None None shrunk = tt
shrinks_straight kept None (Some new) shrunk = tt
shrinks_straight kept (Some old) None shrunk = tt
shrinks_straight kept (Some old) (Some new) shrunk = λ left since. either_left old kept left (shrunk.inside left since)

pub shrinks_since : (kept : ℕ) (old mid new : Option Medium) → Both Pays old mid → Both (Shrinks kept) mid new → Settled old
    → LeavesSince (crashes_told old) (crashes_told new) (λ left. (Some left ≡ bytes_told old) ⊎ (Some left ≡ shortened (bytes_told old) kept))
shrinks_since kept old mid new paid shrunk settled = shrinks_straight kept old new (subst (λ (m : Option Medium). Both (Shrinks kept) m new) (settled_same old mid settled paid) shrunk)
