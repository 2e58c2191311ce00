-- Bursts that are parts of links do not meet, and are held by the modes.
use Rattle.std.proofs.Common.{◌≡◌, ℕ, ◌+◌, ◌<◌, ◌≤◌, ◌==◌, if◌then◌else◌, Bool, true, false, List, [], Some, length, take, get_or, slice_index, option_map, refl, sym, ap, ◌∙◌, subst, arith}
use Rattle.std.proofs.lemmas.Bool.{eqb-true}
use Rattle.std.proofs.lemmas.Option.{slice_get-get_or}
use Rattle.bt_frame.specs.declared.numbers.BeamNo.{BeamNo}
use Rattle.bt_frame.specs.declared.numbers.TermNo.{TermNo}
use Rattle.bt_frame.specs.declared.mode.Mode.{Mode}
use Rattle.bt_net.specs.Network.{Net, IsSound}
use Rattle.bt_matrix.specs.Good.{slots_in}
use Rattle.bt_demand.specs.declared.burst.Burst.{Burst}
use Rattle.bt_demand.specs.declared.demand.Link.{Link}
use Rattle.bt_demand.specs.Plan.{begin_of, IsHeld}
use Rattle.bt_demand.specs.Traffic.{units_between}
use Rattle.bt_net.specs.Terminals.{IsInBeam}
use Rattle.bt_cut.specs.Parts.{IsPart}
use Rattle.bt_cut.specs.Serving.{IsPiece}
use Rattle.bt_cut.proofs.Numbers.{number_next, slots_in-le}
use Rattle.bt_demand.proofs.Begins.{one_beam}

if_some : (test : Bool) (n : ℕ) → 0 < (if test then n else 0) → test ≡ true
if_some true n some = refl
if_some false n some = absurd (omega arith)

-- What a piece says of its mode: the mode makes the connection, and lasts as long as the burst.
pub record IsThrough (modes : List Mode) (up down place : ℕ) (burst : Burst) (d : Mode) : Type 0 where
  pub makes : slice_index (get_or modes place d).perm up ≡ down
  pub from_begin : begin_of modes place ≤ burst.start
  pub to_end : burst.start + burst.length ≤ begin_of modes place + (get_or modes place d).duration

pub through : (modes : List Mode) (up down : ℕ) (from to : TermNo) (first units place : ℕ) (burst : Burst) (d : Mode) → IsPiece modes up down from to first units place burst
    → IsThrough modes up down place burst d
through modes up down from to first units place burst d piece =
    let next = number_next modes up down place d piece.in_range in
    let some : 0 < slots_in up down (get_or modes place d) = omega (arith, next, piece.ends, piece.some) in
    record {
      makes = eqb-true (slice_index (get_or modes place d).perm up) down (if_some (slice_index (get_or modes place d).perm up == down) (get_or modes place d).duration some);
      from_begin = omega (arith, piece.begins);
      to_end = omega (arith, next, piece.begins, piece.ends, slots_in-le up down (get_or modes place d));
    }

-- a part is held by its mode
pub part_held : (net : Net) (links : List Link) (modes : List Mode) (link mode : ℕ) (burst : Burst) → IsPart net links modes link mode burst → IsHeld net modes burst
part_held net links modes link mode burst part =
    let none : Link = record { from = record { 0 = 0 }; to = record { 0 = 0 }; units = 0 } in
    let other : Mode = record { duration = 0; perm = [] } in
    let l = get_or links link none in
    let piece = part.piece none in
    let first = units_between net (take link links) part.up.0 part.down.0 in
    record {
      some = piece.some;
      place = mode;
      within = record {
        begins = (through modes part.up.0 part.down.0 l.from l.to first l.units mode burst other piece).from_begin;
        connected = λ d.
            let passes = through modes part.up.0 part.down.0 l.from l.to first l.units mode burst d piece in (
              passes.to_end,
              λ up down sends receives.
                  let same_up : part.up ≡ up = one_beam net l.from part.up up (part.sends none) (subst (λ (t : TermNo). IsInBeam net t up) piece.sends sends) in
                  let same_down : part.down ≡ down = one_beam net l.to part.down down (part.receives none) (subst (λ (t : TermNo). IsInBeam net t down) piece.receives receives) in
                  ap (λ (b : BeamNo). slice_index (get_or modes mode d).perm b.0) (sym same_up) ∙ (passes.makes ∙ ap (λ (b : BeamNo). b.0) same_down),
            );
      };
    }

-- a terminal's beam is one of the network's
pub beam_inside : (net : Net) (terminal : TermNo) (beam : BeamNo) → IsSound net → terminal.0 < length net.terminals → IsInBeam net terminal beam → beam.0 < length net.beams
beam_inside net terminal beam sound within is =
    let d : List ℕ × BeamNo = ([], beam) in
    let at = ap (option_map (λ (t : List ℕ × BeamNo). t.1)) (slice_get-get_or net.terminals terminal.0 d within) in
    let same : (get_or net.terminals terminal.0 d).1 ≡ beam = let both : Some (get_or net.terminals terminal.0 d).1 ≡ Some beam = sym at ∙ is in cc in
    subst (λ (b : BeamNo). b.0 < length net.beams) same (sound.terminals.in_beam terminal.0 d within)
