-- For bodies alone: the steps of a store over a disk.
use Rattle.std.specs.Prelude.{◌≡◌, ◌⊎◌, ℕ, Bool, false, List, ◌++◌, take, Option, IfSome}
use Rattle.bt_outside.specs.Crash.{clock, GoesOn, MayHaveLeft, MayLeave}
use Rattle.bt_base.specs.Medium.{Medium, HasLength, IsSynced}

-- what is remembered of the disk: where no sync is owed all bytes are synced, and a length that was learnt is that of the bytes
pub record Remembers (told : Option Medium) (owes : Bool) (learnt : Option ℕ) : Type 0 where
  pub paid : owes ≡ false → IfSome told IsSynced
  pub known : IfSome learnt (λ count. IfSome told (HasLength count))

-- the bytes are the same, and a crash since leaves what a crash then could have left
pub record Waits (old new : Medium) : Type 0 where
  pub bytes : new.bytes ≡ old.bytes
  pub time : GoesOn old.crashes new.crashes
  pub inside : (left : List ℕ) → MayHaveLeft new.crashes (clock old.crashes) left → MayLeave old.crashes left

-- beside that all bytes are synced, and where they were before nothing has changed
pub record Pays (old new : Medium) : Type 0 where
  pub waits : Waits old new
  pub synced : IsSynced new
  pub same : IsSynced old → new ≡ old

-- so much of the piece stands behind the bytes, and a crash since leaves the old bytes and some first part of the piece
pub record Grows (piece : List ℕ) (old new : Medium) : Type 0 where
  pub kept : ℕ
  pub bytes : new.bytes ≡ old.bytes ++ take kept piece
  pub time : GoesOn old.crashes new.crashes
  pub inside : (left : List ℕ) → MayHaveLeft new.crashes (clock old.crashes) left → (part : ℕ) × (left ≡ old.bytes ++ take part piece)

-- all of the piece stands behind the bytes, and is synced
pub record Adds (piece : List ℕ) (old new : Medium) : Type 0 where
  pub whole : new.bytes ≡ old.bytes ++ piece
  pub synced : IsSynced new

-- the bytes are the old ones or the first so many, and a crash since leaves either
pub record Shrinks (kept : ℕ) (old new : Medium) : Type 0 where
  pub bytes : (new.bytes ≡ old.bytes) ⊎ (new.bytes ≡ take kept old.bytes)
  pub time : GoesOn old.crashes new.crashes
  pub inside : (left : List ℕ) → MayHaveLeft new.crashes (clock old.crashes) left → (left ≡ old.bytes) ⊎ (left ≡ take kept old.bytes)

-- the first so many are left, and are synced
pub record Cuts (kept : ℕ) (old new : Medium) : Type 0 where
  pub whole : new.bytes ≡ take kept old.bytes
  pub synced : IsSynced new
