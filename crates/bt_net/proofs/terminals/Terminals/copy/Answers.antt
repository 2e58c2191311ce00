use Rattle.std.proofs.Common.{◌∙◌, ◌∷◌, ◌++◌, [], List, ℕ, ap}
use Rattle.bt_frame.specs.declared.numbers.BeamNo.{BeamNo}
use Rattle.bt_net.proofs.Names.{absent_terminal, take_next}
use Rattle.bt_net.proofs.terminals.Terminals.copy.Goals as goal

pub add-requires : goal.add-requires
add-requires c = rw c.loop-number.invariant (absent_terminal c.args.self.now c.loop-number.number c.at.result.0.now c.at.result.1 c.requires c.at.ensures)

pub loop-number-preserved : goal.loop-number-preserved
loop-number-preserved c =
    let entry : List ℕ × BeamNo = (c.at.result.0.now, c.at.result.1) in
    c.in_ok-add.ensures ∙ ap (λ (terminals : List (List ℕ × BeamNo)). terminals ++ entry ∷ []) c.loop-number.invariant
    ∙ take_next c.args.self.now c.loop-number.number entry c.at.ensures
