use Rattle.std.proofs.Common.{◌≡◌, ℕ, ◌%◌, ◌^◌, Some}
use Rattle.bt_shared.proofs.turn.take_turn.Given as goal

abbrev pub invariant-loop : goal.invariant-loop
invariant-loop g l = (l.place.table_id ≡ l.fn.place.table_id) × (l.place.id ≡ l.fn.place.id)
    × ((k : ℕ) × (l.ticket ≡ k % 2 ^ 64) × (l.place.me ≡ (record l.fn.place.me.0 { ticket = Some k }, l.fn.place.me.1)))
