use Rattle.std.proofs.Common.{◌++◌, List, ℕ, codes, flat_map}
use Rattle.bt_words.proofs.Extending.{two_behind}
use Rattle.bt_look.specs.Room.{beams_of}
use Rattle.bt_export.specs.Metrics.{asked_lines, free_lines, head_lines}
use Rattle.bt_export.proofs.Gauges.{behind}
use Rattle.bt_export.proofs.metrics.add_beams.Goals as goal

-- what is asked of all beams, and behind it what is free
pub returns : goal.returns
returns c =
    let net = c.args.net.now in
    let rows = c.args.matrix.now in
    let last = c.add_free.result in
    let o : List ℕ = c.args.out.now.items in
    let n1 : List ℕ = c.add_head.new.out.items in
    let n2 : List ℕ = c.add_asked.new.out.items in
    let n3 : List ℕ = c.add_head-2.new.out.items in
    let end : List ℕ = c.add_free.new.out.items in
    let asked_head : List ℕ = head_lines (codes "nozgurt_slots_asked") (codes "Slots of a frame that are asked of a beam.") in
    let asked : List ℕ = flat_map (asked_lines net rows) (beams_of net) in
    let free_head : List ℕ = head_lines (codes "nozgurt_slots_free") (codes "Slots of a frame that are free at a beam.") in
    let free : List ℕ = flat_map (free_lines net rows) (beams_of net) in
    behind last o n2 end (asked_head ++ asked) (free_head ++ free) (two_behind o n1 n2 asked_head asked c.in_ok-add_head.ensures c.in_ok-add_asked.ensures)
    (behind last n2 n3 end free_head free c.in_ok-add_head-2.ensures c.add_free.ensures)
