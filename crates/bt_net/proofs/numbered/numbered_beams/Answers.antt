use Rattle.std.proofs.Common.{◌≡◌, ◌++◌, ◌∷◌, ◌∙◌, [], List, ℕ, ap, arith}
use Rattle.std.specs.List.{list_any}
use Rattle.std.specs.Str.{bytes_eq}
use Rattle.bt_net.specs.Numbered.{numbered_beam, numbered_beams}
use Rattle.bt_net.proofs.InTurn.{absent_beam, one_beam_more}
use Rattle.bt_net.proofs.numbered.numbered_beams.Goals as goal

pub add-requires : goal.add-requires
add-requires c =
    let number = c.loop-number.number in
    let name : c.deref.result.now ≡ numbered_beam number = c.deref.ensures ∙ c.in_ok-name.ensures in
    ap (λ (n : List ℕ). list_any (bytes_eq n) c.loop-number.beams) name
    ∙ ap (list_any (bytes_eq (numbered_beam number))) c.loop-number.invariant
    ∙ absent_beam number (omega arith)

pub loop-number-preserved : goal.loop-number-preserved
loop-number-preserved c =
    let number = c.loop-number.number in
    let name : c.deref.result.now ≡ numbered_beam number = c.deref.ensures ∙ c.in_ok-name.ensures in
    c.in_ok-add.ensures
    ∙ ap (λ (beams : List (List ℕ)). beams ++ c.deref.result.now ∷ []) c.loop-number.invariant
    ∙ ap (λ (n : List ℕ). numbered_beams number ++ n ∷ []) name
    ∙ one_beam_more number
