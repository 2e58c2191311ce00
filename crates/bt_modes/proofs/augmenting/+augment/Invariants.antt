use Rattle.std.proofs.Common.{◌≡◌, ◌≤◌, ◌+◌, ◌*◌}
use Rattle.bt_modes.specs.Search.{unvisited, StaysVisited, IsExplored, AreHolders}
use Rattle.bt_modes.proofs.augmenting.+augment.Given as goal

abbrev pub decreases-vacate : goal.decreases-vacate
decreases-vacate l = 2 * unvisited l.visited.now

abbrev pub decreases-seek : goal.decreases-seek
decreases-seek l = 2 * unvisited l.visited.now + 1

-- the columns so far are visited, and each column that the search came to belongs to a row that is spent
abbrev pub invariant-seek-loop-down : goal.invariant-seek-loop-down
invariant-seek-loop-down l = record {
  same : l.columns ≡ l.initial.columns;
  holders : AreHolders l.columns l.holders;
  explored : IsExplored l.above l.table l.initial.columns l.initial.visited l.visited;
  visited : StaysVisited l.initial.visited l.visited;
  fewer : unvisited l.visited ≤ unvisited l.initial.visited;
}

abbrev pub decreases-seek-loop-down : goal.decreases-seek-loop-down
decreases-seek-loop-down l = unvisited l.visited
