-- the rounds and restarts so far, in front of those that are left
use Rattle.std.proofs.Common.{◌≡◌, ◌≤◌, ◌++◌, length}
use Rattle.bt_script.specs.ScriptText.{items_of}
use Rattle.bt_script.proofs.items.items_of.Given as goal

abbrev pub invariant-loop-rest : goal.invariant-loop-rest
invariant-loop-rest l = record {
  items : l.items.items ++ items_of l.rest ≡ items_of l.said;
  few : length l.rest ≤ 20000;
}

abbrev pub decreases-loop-rest : goal.decreases-loop-rest
decreases-loop-rest l = length l.rest
