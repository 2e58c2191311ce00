use Rattle.std.proofs.Common.{◌≡◌, flat_map, string_bytes}
use Rattle.std.specs.List.{range_with_len}
use Rattle.bt_plan_chart.specs.Chart.{connection_text}
use Rattle.bt_plan_chart.proofs.modes.connections_of.Given as goal

-- the connections so far
abbrev pub invariant-loop-up : goal.invariant-loop-up
invariant-loop-up l = string_bytes l.text ≡ flat_map (connection_text l.net l.perm) (range_with_len 0 l.up)
