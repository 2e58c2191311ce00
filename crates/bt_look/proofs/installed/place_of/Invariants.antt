use Rattle.std.proofs.Common.{◌≡◌, ℕ, ◌<◌, ◌≤◌, false}
use Rattle.bt_look.proofs.Places.{is_at}
use Rattle.bt_look.proofs.installed.place_of.Given as goal

-- no plan behind the empty one is of that edition so far
abbrev pub invariant-loop-place : goal.invariant-loop-place
invariant-loop-place g l = record {
  begun : 1 ≤ l.place;
  before : (k : ℕ) → k < l.place → 1 ≤ k → is_at l.book.state.changes l.number k ≡ false;
}
