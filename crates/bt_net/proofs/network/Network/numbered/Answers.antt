-- the beams and the terminals are those of a sound network
use Rattle.std.proofs.Common.{List, ℕ, subst, sym}
use Rattle.bt_frame.specs.declared.numbers.BeamNo.{BeamNo}
use Rattle.bt_net.specs.Network.{IsSound}
use Rattle.bt_net.specs.Numbered.{numbered_beams}
use Rattle.bt_net.proofs.InTurn.{numbered_sound}
use Rattle.bt_net.proofs.network.Network.numbered.Goals as goal

pub invariant_of-result : goal.invariant_of-result
invariant_of-result c =
    let count = c.args.beams in
    let Sound : List (List ℕ) → List (List ℕ × BeamNo) → Type 0 =
    λ beams terminals. IsSound (record { beams = beams; terminals = terminals; slots = 4096; frames = 32; lead = 4; patience = 3; journal = 67108800 }) in
    let With : List (List ℕ) → Type 0 = λ beams. Sound beams c.in_ok-numbered_terminals.field-0 in
    let Having : List (List ℕ × BeamNo) → Type 0 = λ terminals. Sound (numbered_beams count) terminals in
    subst With (sym c.in_ok-numbered_beams.ensures) (subst Having (sym c.in_ok-numbered_terminals.ensures) (numbered_sound count c.requires.beams))
