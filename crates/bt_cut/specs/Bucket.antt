-- Bursts in buckets, as they are put in order: each bucket has those that begin in certain slots.
use Rattle.std.specs.Prelude.{◌≡◌, ℕ, ◌/◌, min, List, Vec, All}
use Rattle.std.specs.List.{flat_map, HoldsAt}
use Rattle.std.specs.Global.{Global}
use Rattle.bt_demand.specs.declared.burst.Burst.{Burst}

-- the bucket of a slot: one for each 16 slots, the last for all that are left
abbrev pub bucket_of : ℕ → ℕ
bucket_of start = min (start / 16) 255

-- the bursts of all buckets, one bucket after the other
abbrev pub all_of : List (Vec Burst Global) → List Burst
all_of buckets = flat_map (λ bucket. bucket.items) buckets

-- the bucket at that place has bursts of its slots alone
abbrev pub IsBucket : List (Vec Burst Global) → ℕ → Type 0
IsBucket buckets place = HoldsAt (λ bucket. All (λ burst. bucket_of burst.start ≡ place) bucket.items) buckets place
