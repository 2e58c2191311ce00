-- the columns so far, with those of the words that are left behind them, are those of all words
use Rattle.std.proofs.Common.{◌≡◌, ◌≤◌, ◌-◌, length}
use Rattle.bt_plan.specs.LineNumbers.{numbers_to}
use Rattle.bt_plan.proofs.LineWords.{behind}
use Rattle.bt_plan.proofs.schedule_reader.read_columns.Given as goal

abbrev pub invariant-loop : goal.invariant-loop
invariant-loop l = record {
  whole : behind l.columns.items (numbers_to 255 (l.size - l.counter) l.words) ≡ numbers_to 255 l.size l.fn.words;
  count : length l.columns.items ≡ l.counter;
  within : l.counter ≤ l.size;
}
