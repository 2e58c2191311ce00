-- the entries so far, with those of the words that are left behind them, are those of all words
use Rattle.std.proofs.Common.{◌≡◌, ◌≤◌, ◌-◌, length}
use Rattle.bt_plan.specs.LineNumbers.{numbers_to}
use Rattle.bt_plan.proofs.LineWords.{behind}
use Rattle.bt_plan.proofs.matrix_reader.read_entries.Given as goal

abbrev pub invariant-loop : goal.invariant-loop
invariant-loop l = record {
  whole : behind l.entries.items (numbers_to 4096 (l.size - l.counter) l.words) ≡ numbers_to 4096 l.size l.fn.words;
  count : length l.entries.items ≡ l.counter;
  within : l.counter ≤ l.size;
}
