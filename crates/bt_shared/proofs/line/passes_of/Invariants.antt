use Rattle.std.proofs.Common.{◌-◌, ◌≡◌, ℕ, ◌<◌, ◌≤◌, ◌+◌, [], Some, length, vec_capacity, slice_index_or}
use Rattle.bt_shared.specs.Turns.{fresh}
use Rattle.bt_shared.proofs.line.passes_of.Given as goal

abbrev pub invariant-loop-number : goal.invariant-loop-number
invariant-loop-number g l = (0 < l.number) × (l.number ≤ l.seats) × (l.lead.table_id ≡ l.fn.top.table_id) × (l.lead.me ≡ (fresh 0 (Some l.fn.top.key.value) l.number, []))
    × (length l.passes.items + 1 ≡ l.number) × (vec_capacity l.passes ≡ l.seats)
    × ((i : ℕ) (d : _) → i < length l.passes.items → ((slice_index_or l.passes.items i d).place.table_id ≡ l.fn.top.table_id) × ((slice_index_or l.passes.items i d).place.me.0 ≡ fresh (i + 1) (Some l.fn.top.key.value) 0))

abbrev pub decreases-loop-number : goal.decreases-loop-number
decreases-loop-number g l = l.seats - l.number
