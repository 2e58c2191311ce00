use Rattle.std.proofs.Common.{◌≡◌, ℕ, ◌<◌, ◌≤◌, true, false, length, slice_index, IfSome, IfNone}
use Rattle.bt_modes.specs.Search.{is_visited}
use Rattle.bt_modes.proofs.augmenting.widest.Given as goal

-- the widest of the columns so far
abbrev pub invariant-loop-down : goal.invariant-loop-down
invariant-loop-down l = record {
  some : IfSome l.widest (λ down. (down < length l.visited) × (l.above < slice_index l.slots down) × (is_visited l.visited down ≡ false));
  more : l.above ≤ l.most;
  here : IfSome l.widest (λ down. slice_index l.slots down ≡ l.most);
  greatest : (other : ℕ) → other < l.down → is_visited l.visited other ≡ false → slice_index l.slots other ≤ l.most;
  zero : IfNone l.widest (l.most ≡ l.above);
  none : IfNone l.widest ((down : ℕ) → down < l.down → l.above < slice_index l.slots down → is_visited l.visited down ≡ true);
}
