-- the words so far are numbers, and those that are left decide
use Rattle.std.proofs.Common.{◌≡◌, ◌≤◌, ◌-◌}
use Rattle.bt_plan.specs.LineNumbers.{are_numbers}
use Rattle.bt_plan.proofs.matrix_reader.are_numbers.Given as goal

abbrev pub invariant-loop : goal.invariant-loop
invariant-loop l = record {
  left : are_numbers (l.size - l.counter) l.words ≡ are_numbers l.size l.fn.words;
  within : l.counter ≤ l.size;
}
