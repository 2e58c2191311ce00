-- the desks so far, in front of those that are left, and the lines of these in the table
use Rattle.std.proofs.Common.{◌≡◌, ℕ, ◌+◌, ◌-◌, ◌<◌, ◌≤◌, [], ◌++◌, vec_len}
use Rattle.std.specs.Prelude.{flat_map}
use Rattle.std.specs.List.{slice_index_or}
use Rattle.bt_script.specs.ScriptText.{round_lines, own_lines, desks_of}
use Rattle.bt_script.proofs.items.round_in_front.Given as goal

abbrev pub invariant-loop-desk : goal.invariant-loop-desk
invariant-loop-desk l = record {
  desks : l.desks.items ++ desks_of l.desk (17 - l.desk) (round_lines l.said) ≡ desks_of 1 16 (round_lines l.said);
  count : vec_len l.table ≡ 16;
  lines : (d : ℕ) → l.desk ≤ d + 1 → d < 16 → slice_index_or l.table.items d [] ≡ flat_map (own_lines (d + 1)) (round_lines l.said);
}
