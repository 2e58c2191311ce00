use Rattle.std.proofs.Common.{◌≡◌, ◌%◌, ◌++◌, ◌∷◌, ◌∙◌, [], List, ℕ, ap, arith, codes, decimal}
use Rattle.std.specs.List.{list_any}
use Rattle.std.specs.Str.{bytes_eq}
use Rattle.bt_frame.specs.declared.numbers.BeamNo.{BeamNo}
use Rattle.bt_net.specs.Network.{names_of}
use Rattle.bt_net.specs.Numbered.{numbered_terminals}
use Rattle.bt_net.proofs.InTurn.{absent_terminal, one_terminal_more}
use Rattle.bt_net.proofs.numbered.numbered_terminals.Goals as goal

pub add-requires : goal.add-requires
add-requires c =
    let number = c.loop-number.number in
    let name : c.deref.result.now ≡ codes "t" ++ decimal number = c.deref.ensures ∙ c.in_ok-name.ensures in
    ap (λ (n : List ℕ). list_any (bytes_eq n) (names_of c.loop-number.terminals)) name
    ∙ ap (λ (terminals : List (List ℕ × BeamNo)). list_any (bytes_eq (codes "t" ++ decimal number)) (names_of terminals)) c.loop-number.invariant
    ∙ absent_terminal c.args.beams number (omega arith)

pub loop-number-preserved : goal.loop-number-preserved
loop-number-preserved c =
    let number = c.loop-number.number in
    let name : c.deref.result.now ≡ codes "t" ++ decimal number = c.deref.ensures ∙ c.in_ok-name.ensures in
    let beam : BeamNo = record { 0 = number % c.args.beams } in
    c.in_ok-add.ensures
    ∙ ap (λ (terminals : List (List ℕ × BeamNo)). terminals ++ (c.deref.result.now, beam) ∷ []) c.loop-number.invariant
    ∙ ap (λ (n : List ℕ). numbered_terminals c.args.beams number ++ (n, beam) ∷ []) name
    ∙ one_terminal_more c.args.beams number
