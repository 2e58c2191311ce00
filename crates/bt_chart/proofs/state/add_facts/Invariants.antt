-- the numbers so far
use Rattle.std.proofs.Common.{◌≡◌, ◌++◌, flat_map, take}
use Rattle.bt_chart.specs.Pieces.{fact_of}
use Rattle.bt_chart.proofs.state.add_facts.Given as goal

abbrev pub invariant-loop-fact : goal.invariant-loop-fact
invariant-loop-fact l = l.out.items ≡ l.fn.out.items ++ flat_map fact_of (take l.fact-index l.facts)
