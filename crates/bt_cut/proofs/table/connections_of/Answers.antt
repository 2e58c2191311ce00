use Rattle.std.proofs.Common.{sym, ◌∙◌, arith}
use Rattle.std.proofs.lemmas.Grind.{common_steps}
use Rattle.std.proofs.lemmas.List.{get_or_default}
use Rattle.bt_cut.proofs.table.connections_of.Goals as goal

-- the modes so far and this one are within the frame
pub overflow_add-start : goal.overflow_add-start
overflow_add-start c = grind (arith, common_steps)

pub add_mode-requires-clause-short : goal.add_mode-requires-clause-short
add_mode-requires-clause-short c = grind (arith, common_steps)

-- one mode more
pub loop-mode-preserved : goal.loop-mode-preserved
loop-mode-preserved c =
    let modes = c.args.modes.now in
    let at = c.loop-mode.mode-index in
    let inside = c.loop-mode-test.true in
    record {
      begins = grind (arith, common_steps);
      so_far = c.in_ok-add_mode.ensures.added modes at inside
          (λ d. get_or_default modes at d c.mode-item.result inside ∙ sym c.mode-item.is)
          c.loop-mode.invariant.begins c.loop-mode.invariant.so_far;
    }
