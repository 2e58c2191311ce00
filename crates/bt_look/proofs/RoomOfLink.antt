-- An add from one terminal to any, by the room of that link.
use Rattle.std.proofs.Common.{◌≡◌, ◌≢◌, ◌↔◌, ℕ, ◌<◌, ◌≤◌, ◌==◌, if◌then◌else◌, min, Bool, true, false, List, Option, Some, sym, ap, ◌∙◌, arith, ⊎_elim, eqb-true, eq-eqb, true≢false}
use Rattle.std.proofs.lemmas.Bool.{cases_Bool, false_from_ne_true}
use Rattle.bt_frame.specs.declared.numbers.BeamNo.{BeamNo}
use Rattle.bt_frame.specs.declared.numbers.TermNo.{TermNo}
use Rattle.bt_net.specs.Network.{Net, IsSound}
use Rattle.bt_net.specs.Terminals.{IsBetweenTerminals, IsInBeam, beam_at}
use Rattle.bt_demand.specs.declared.demand.Link.{Link}
use Rattle.bt_demand.specs.Traffic.{matrix_of}
use Rattle.bt_journal.specs.declared.call.Edit.TheVariants.{Add}
use Rattle.bt_journal.specs.declared.call.Change.{Change}
use Rattle.bt_history.specs.Causes.{Follows}
use Rattle.bt_history.specs.Changes.{IsDemandAfter, matrix_after}
use Rattle.bt_history.specs.EditCauses.{IsGoodEdit}
use Rattle.bt_history.proofs.After.{matrix_after-AddsUp}
use Rattle.bt_history.proofs.Demands.{keeps_any}
use Rattle.bt_look.specs.Room.{free_down, free_for, free_up, room, room_of_link}
use Rattle.bt_look.proofs.Adds.{beam_of_terminal}
use Rattle.bt_look.proofs.Ends.{can_be_linked}
use Rattle.bt_look.proofs.Room.{add_fits, room_linked}

-- the room of two terminals that are not one is what is free at their beams
room-two : (net : Net) (rows : List (List ℕ)) (from to : TermNo) (up down : BeamNo) → IsInBeam net from up → IsInBeam net to down → from.0 ≢ to.0
    → room_of_link net rows from to ≡ min (free_up net rows up.0) (free_down net rows down.0)
room-two net rows from to up down sends receives differ =
    ap (λ (b : Bool). if b then 0 else free_for net rows (beam_at net from) (beam_at net to)) (false_from_ne_true (from.0 == to.0) (λ same. differ (eqb-true from.0 to.0 same)))
    ∙ (ap (λ (o : Option BeamNo). free_for net rows o (beam_at net to)) sends ∙ ap (λ (o : Option BeamNo). free_for net rows (Some up) o) receives)

room-one : (net : Net) (rows : List (List ℕ)) (from to : TermNo) → from.0 ≡ to.0 → room_of_link net rows from to ≡ 0
room-one net rows from to same = ap (λ (b : Bool). if b then 0 else free_for net rows (beam_at net from) (beam_at net to)) (eq-eqb from.0 to.0 same)

-- the same sides of two numbers
other_bound : {A : Type 0} (units a b : ℕ) → b ≡ a → (A ↔ (units ≤ a)) → (A ↔ (units ≤ b))
other_bound units a b same both = (λ x. omega (arith, both.0 x, same), λ fits. both.1 (omega (arith, fits, same)))

-- It is good exactly where it asks for no more than that.
pub link_fits : (net : Net) (changes : List Change) (links : List Link) (from to : TermNo) (units : ℕ) → IsSound net → Follows net changes → IsDemandAfter changes links
    → IsBetweenTerminals net from to → 0 < units → (IsGoodEdit net changes (Add from to units) ↔ (units ≤ room_of_link net (matrix_after net changes) from to))
link_fits net changes links from to units sound follow is between some =
    let rows = matrix_after net changes in
    let keeps = keeps_any net changes links sound follow is in
    let same : rows ≡ matrix_of net links = matrix_after-AddsUp net changes links keeps.adds_up in
    let up = beam_of_terminal net from between.0 in
    let down = beam_of_terminal net to between.1 in
    ⊎_elim
    (λ (one : from.0 == to.0 ≡ true).
    let none = room-one net rows from to (eqb-true from.0 to.0 one) in (
      λ good. absurd (good.0 (eqb-true from.0 to.0 one)),
      λ fits. absurd (omega (arith, fits, none, some)),
    ))
    (λ (two : from.0 == to.0 ≡ false).
    let differ : from.0 ≢ to.0 = λ e. true≢false (sym (eq-eqb from.0 to.0 e) ∙ two) in
    let free = room-two net rows from to up.0 down.0 up.1 down.1 differ in
    let linked = room_linked net (matrix_of net links) up.0.0 down.0.0 (can_be_linked net from to up.0 down.0 up.1 down.1 differ) in
    let all : room_of_link net rows from to ≡ room net (matrix_of net links) up.0.0 down.0.0 =
    free ∙ (ap (λ (m : List (List ℕ)). min (free_up net m up.0.0) (free_down net m down.0.0)) same ∙ sym linked) in
    other_bound units (room net (matrix_of net links) up.0.0 down.0.0) (room_of_link net rows from to) all
    (add_fits net changes links from to up.0 down.0 units sound follow is up.1 down.1 differ))
    (cases_Bool (from.0 == to.0))
