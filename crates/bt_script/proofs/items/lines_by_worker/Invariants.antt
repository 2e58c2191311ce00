-- of each part of the round the lines so far, in front of those that are left
use Rattle.std.proofs.Common.{◌≡◌, ℕ, ◌+◌, ◌<◌, ◌≤◌, [], ◌++◌, length, vec_len}
use Rattle.std.specs.Prelude.{count_by, flat_map}
use Rattle.std.specs.List.{slice_index_or}
use Rattle.bt_script.specs.ScriptText.{round_lines, own_lines, is_plan, air_lines}
use Rattle.bt_script.proofs.items.lines_by_worker.Given as goal

abbrev pub invariant-loop-rest : goal.invariant-loop-rest
invariant-loop-rest l = record {
  count : vec_len l.lines.desks ≡ 16;
  desks : (d : ℕ) → d < 16 → slice_index_or l.lines.desks.items d [] ++ flat_map (own_lines (d + 1)) (round_lines l.rest) ≡ flat_map (own_lines (d + 1)) (round_lines l.said);
  plans : l.lines.plans + count_by is_plan (round_lines l.rest) ≡ count_by is_plan (round_lines l.said);
  air : l.lines.air.items ++ flat_map air_lines (round_lines l.rest) ≡ flat_map air_lines (round_lines l.said);
  few : l.lines.plans + length l.rest ≤ 20000;
}

abbrev pub decreases-loop-rest : goal.decreases-loop-rest
decreases-loop-rest l = length l.rest
