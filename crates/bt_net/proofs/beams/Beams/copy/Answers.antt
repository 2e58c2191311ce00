use Rattle.std.proofs.Common.{◌∙◌, ◌∷◌, ◌++◌, [], List, ℕ, ap}
use Rattle.bt_net.proofs.Names.{absent_before, take_next}
use Rattle.bt_net.proofs.beams.Beams.copy.Goals as goal

pub add-requires : goal.add-requires
add-requires c = rw c.loop-number.invariant (absent_before c.args.self.now c.loop-number.number c.name_of.result.now c.requires c.name_of.ensures)

pub loop-number-preserved : goal.loop-number-preserved
loop-number-preserved c =
    c.in_ok-add.ensures ∙ ap (λ (names : List (List ℕ)). names ++ c.name_of.result.now ∷ []) c.loop-number.invariant
    ∙ take_next c.args.self.now c.loop-number.number c.name_of.result.now c.name_of.ensures
