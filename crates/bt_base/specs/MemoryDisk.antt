-- For bodies and the disk in memory: how what is held turns into the next.
use Rattle.std.specs.Prelude.{◌≡◌, ◌≢◌, ◌⊎◌, ℕ, ◌+◌, ◌<◌, ◌≤◌, List, [], ◌∷◌, ◌++◌, length, take, if◌then◌else◌, nat_lt, ◌==◌, Option, Some, None, Vec}
use Rattle.std.specs.declared.alloc.Global.{Global}
use Rattle.bt_base.specs.declared.fail.Fail.{Fail}
use Rattle.bt_base.specs.Moments.{Held, Life}
use Rattle.bt_base.specs.Failing.{Calls}

-- the bytes of the last sync: those that read, unless others are kept
abbrev pub synced_of : List ℕ → Option (Vec ℕ Global) → List ℕ
synced_of bytes None = bytes
synced_of bytes (Some synced) = synced.items

-- the bytes that a sync leaves are there, with room for one moment more, or all are synced
abbrev pub IsPrepared : Held → Option (Vec ℕ Global) → ℕ → ℕ → Type 0
IsPrepared now None count room = now.synced ≡ now.bytes
IsPrepared now (Some spare) count room = (spare.items ≡ now.bytes) × (count < room)

-- the moment is past, and now other bytes read, while the synced ones stay
abbrev pub Turned : Life → List ℕ → Life → Type 0
Turned old bytes new = new ≡ record { past = old.past ++ old.last ∷ []; last = record { synced = old.last.synced; bytes = bytes } }

-- all is as it was, and was synced; or the moment is past, and now the same bytes are synced
abbrev pub Settled : Life → Life → Type 0
Settled old new = ((old.last.synced ≡ old.last.bytes) × (new ≡ old))
    ⊎ ((old.last.synced ≢ old.last.bytes) × (new ≡ record { past = old.past ++ old.last ∷ []; last = record { synced = old.last.bytes; bytes = old.last.bytes } }))

-- what a crash leaves that keeps so many of the bytes written since the last sync, or of a cut the bytes before it at 0 and else those after
abbrev pub crash_of : Held → ℕ → List ℕ
crash_of held extra = if nat_lt (length held.bytes) (length held.synced) then (if extra == 0 then held.synced else held.bytes) else take (length held.synced + extra) held.bytes

-- a disk in memory: what it has held, and its calls
pub record HeldDisk : Type 0 where
  pub life : Life
  pub calls : Calls

-- a failed cut has cut where its entry says 1 and no stop is set
abbrev pub HasCut : Fail → Option Fail → Type 0
HasCut fail None = fail.kept ≡ 1
HasCut fail (Some stop) = ⊥

-- what a failed cut leaves: the first so many bytes, or all as it was
pub record FailsToCut (kept : ℕ) (fail : Fail) (old new : HeldDisk) : Type 0 where
  pub cut : HasCut fail old.calls.stop → Turned old.life (take kept old.life.last.bytes) new.life
  pub not_cut : (HasCut fail old.calls.stop → ⊥) → new.life ≡ old.life

-- so many bytes are there
abbrev pub HasAtLeast : ℕ → List ℕ → Type 0
HasAtLeast count bytes = count ≤ length bytes
