-- Bursts that are parts of links, and meet, are the same.
use Rattle.std.proofs.Common.{◌≡◌, ◌⊎◌, ℕ, ◌+◌, ◌<◌, ◌≤◌, ◌&&◌, if◌then◌else◌, List, [], Some, length, take, get_or, slice_index, All, sym, ap, ◌∙◌, subst, inl, inr, ⊎_elim, arith}
use Rattle.std.specs.List.{HoldsAt}
use Rattle.std.proofs.lemmas.Bool.{cases_eq, cases_lt}
use Rattle.std.proofs.lemmas.List.{get_or_default}
use Rattle.bt_frame.proofs.OneNumber.{same_beam}
use Rattle.bt_frame.specs.declared.numbers.BeamNo.{BeamNo}
use Rattle.bt_frame.specs.declared.numbers.TermNo.{TermNo}
use Rattle.bt_frame.specs.declared.mode.Mode.{Mode}
use Rattle.bt_net.specs.Network.{Net, IsSound}
use Rattle.bt_matrix.specs.Good.{IsPermutation}
use Rattle.bt_demand.specs.declared.burst.Burst.{Burst}
use Rattle.bt_demand.specs.declared.demand.Link.{Link}
use Rattle.bt_demand.specs.Burst.{Covers}
use Rattle.bt_demand.specs.Plan.{begin_of}
use Rattle.bt_net.specs.Terminals.{beam_at, IsInBeam, is_in_beam}
use Rattle.bt_demand.specs.Apart.{Collide}
use Rattle.bt_demand.specs.Traffic.{AreOfNetwork, units_between}
use Rattle.bt_cut.specs.Parts.{IsPart}
use Rattle.bt_cut.specs.Serving.{IsPiece}
use Rattle.bt_demand.proofs.Begins.{begin_of-next}
use Rattle.bt_cut.proofs.Numbers.{one_mode}
use Rattle.bt_cut.proofs.Parts.{units_between-more}
use Rattle.bt_cut.proofs.Links.{share-same}
use Rattle.bt_cut.proofs.Pieces.{same_burst}
use Rattle.bt_cut.proofs.Prefixes.{prefix_grows}
use Rattle.bt_cut.proofs.Good.{through, beam_inside}

-- a link's units come before those of a later link of its connection
link_before : (net : Net) (links : List Link) (p q : ℕ) (link : Link) (up down : BeamNo) → p < q → p < length links → HoldsAt (λ l. l ≡ link) links p
    → IsInBeam net link.from up → IsInBeam net link.to down
    → units_between net (take p links) up.0 down.0 + link.units ≤ units_between net (take q links) up.0 down.0
link_before net links p q link up down less within is sends receives =
    let f = λ (l : Link). if is_in_beam net up.0 l.from && is_in_beam net down.0 l.to then l.units else 0 in
    omega (arith, units_between-more net links p link up down up.0 down.0 within is sends receives, share-same up.0 down.0 link.units, prefix_grows f links (p + 1) q (omega arith))

-- A burst is the piece of a link of this connection in that mode.
record IsPieceOf (net : Net) (links : List Link) (modes : List Mode) (up down : BeamNo) (link mode : ℕ) (burst : Burst) : Type 0 where
  pub there : link < length links
  pub sends : HoldsAt (λ l. IsInBeam net l.from up) links link
  pub receives : HoldsAt (λ l. IsInBeam net l.to down) links link
  pub piece : HoldsAt (λ l. IsPiece modes up.0 down.0 l.from l.to (units_between net (take link links) up.0 down.0) l.units mode burst) links link

-- pieces of one connection that share a slot are of one link
one_link : (net : Net) (links : List Link) (modes : List Mode) (up down : BeamNo) (p q mode slot : ℕ) (a b : Burst) → IsPieceOf net links modes up down p mode a
    → IsPieceOf net links modes up down q mode b → Covers a slot → Covers b slot → p < q → ⊥
one_link net links modes up down p q mode slot a b first second in_a in_b less =
    let none : Link = record { from = record { 0 = 0 }; to = record { 0 = 0 }; units = 0 } in
    let before = link_before net links p q (get_or links p none) up down less first.there (λ d. get_or_default links p d none first.there) (first.sends none) (first.receives none) in
    let piece_a = first.piece none in
    let piece_b = second.piece none in
    omega (arith, before, piece_a.begins, piece_a.ends, piece_b.begins, in_a.before_end, in_b.from_start)

-- so they are the same
same_piece : (net : Net) (links : List Link) (modes : List Mode) (up down : BeamNo) (p q mode slot : ℕ) (a b : Burst) → IsPieceOf net links modes up down p mode a
    → IsPieceOf net links modes up down q mode b → Covers a slot → Covers b slot → a ≡ b
same_piece net links modes up down p q mode slot a b first second in_a in_b =
    let none : Link = record { from = record { 0 = 0 }; to = record { 0 = 0 }; units = 0 } in
    elim (cases_eq p q) [
      | inl same ↦
          let piece_a = first.piece none in
          let piece_b = (subst (λ (k : ℕ). IsPieceOf net links modes up down k mode b) (sym same) second).piece none in
          same_burst a b (piece_a.sends ∙ sym piece_b.sends) (piece_a.receives ∙ sym piece_b.receives) (omega (arith, piece_a.begins, piece_b.begins)) (omega (arith, piece_a.ends, piece_b.ends))
      | inr other ↦
          elim (cases_lt p q) [
            | inl less ↦ absurd (one_link net links modes up down p q mode slot a b first second in_a in_b less)
            | inr more ↦ absurd (one_link net links modes up down q p mode slot b a second first in_b in_a (omega arith))
          ]
    ]

-- connections of one mode that share a beam are the same
one_connection : (size : ℕ) (perm : List ℕ) (up down other_up other_down : BeamNo) → IsPermutation size perm → up.0 < size → other_up.0 < size
    → slice_index perm up.0 ≡ down.0 → slice_index perm other_up.0 ≡ other_down.0 → (up ≡ other_up) ⊎ (down ≡ other_down) → (up ≡ other_up) × (down ≡ other_down)
one_connection size perm up down other_up other_down permutes in_rows other_in makes other_makes (inl same) =
    (same, same_beam down other_down (sym makes ∙ (ap (λ (b : BeamNo). slice_index perm b.0) same ∙ other_makes)))
one_connection size perm up down other_up other_down permutes in_rows other_in makes other_makes (inr same) =
    let equal : slice_index perm up.0 ≡ slice_index perm other_up.0 = makes ∙ (ap (λ (b : BeamNo). b.0) same ∙ sym other_makes) in
    elim (cases_eq up.0 other_up.0) [
      | inl one ↦ (same_beam up other_up one, same)
      | inr two ↦
          elim (cases_lt up.0 other_up.0) [
            | inl less ↦ absurd (permutes.distinct up.0 other_up.0 0 less (omega (arith, permutes.count)) equal)
            | inr more ↦ absurd (permutes.distinct other_up.0 up.0 0 (omega arith) (omega (arith, permutes.count)) (sym equal))
          ]
    ]

-- the beams of a part's burst
pub part_sends : (net : Net) (links : List Link) (modes : List Mode) (link mode : ℕ) (burst : Burst) (part : IsPart net links modes link mode burst) → IsInBeam net burst.from part.up
part_sends net links modes link mode burst part =
    let none : Link = record { from = record { 0 = 0 }; to = record { 0 = 0 }; units = 0 } in
    subst (λ (t : TermNo). IsInBeam net t part.up) (sym (part.piece none).sends) (part.sends none)

pub part_receives : (net : Net) (links : List Link) (modes : List Mode) (link mode : ℕ) (burst : Burst) (part : IsPart net links modes link mode burst) → IsInBeam net burst.to part.down
part_receives net links modes link mode burst part =
    let none : Link = record { from = record { 0 = 0 }; to = record { 0 = 0 }; units = 0 } in
    subst (λ (t : TermNo). IsInBeam net t part.down) (sym (part.piece none).receives) (part.receives none)

-- a part's burst is between terminals
pub part_between : (net : Net) (links : List Link) (modes : List Mode) (link mode : ℕ) (burst : Burst) → AreOfNetwork net links → link < length links
    → IsPart net links modes link mode burst → (burst.from.0 < length net.terminals) × (burst.to.0 < length net.terminals)
part_between net links modes link mode burst of within part =
    let none : Link = record { from = record { 0 = 0 }; to = record { 0 = 0 }; units = 0 } in
    let (from, to) = of link none within in
    (subst (λ (t : TermNo). t.0 < length net.terminals) (sym (part.piece none).sends) from, subst (λ (t : TermNo). t.0 < length net.terminals) (sym (part.piece none).receives) to)

-- the slot lies in the mode of the part
part_in_mode : (net : Net) (links : List Link) (modes : List Mode) (link mode slot : ℕ) (burst : Burst) → IsPart net links modes link mode burst → Covers burst slot
    → (mode < length modes) × (begin_of modes mode ≤ slot) × (slot < begin_of modes (mode + 1))
part_in_mode net links modes link mode slot burst part covers =
    let none : Link = record { from = record { 0 = 0 }; to = record { 0 = 0 }; units = 0 } in
    let other : Mode = record { duration = 0; perm = [] } in
    let l = get_or links link none in
    let piece = part.piece none in
    let passes = through modes part.up.0 part.down.0 l.from l.to (units_between net (take link links) part.up.0 part.down.0) l.units mode burst other piece in
    (piece.in_range, omega (arith, passes.from_begin, covers.from_start), omega (arith, passes.to_end, covers.before_end, begin_of-next modes mode other piece.in_range))

-- parts that meet are the same burst
pub parts_that_meet : (net : Net) (links : List Link) (modes : List Mode) (p q m n : ℕ) (a b : Burst) → IsSound net → AreOfNetwork net links
    → All (λ mode. IsPermutation (length net.beams) mode.perm) modes → p < length links → q < length links → IsPart net links modes p m a → IsPart net links modes q n b
    → Collide net a b → a ≡ b
parts_that_meet net links modes p q m n a b sound of permutes in_p in_q first second meet =
    let none : Link = record { from = record { 0 = 0 }; to = record { 0 = 0 }; units = 0 } in
    let other : Mode = record { duration = 0; perm = [] } in
    let (m_there, m_begins, m_ends) = part_in_mode net links modes p m meet.slot a first meet.first in
    let (n_there, n_begins, n_ends) = part_in_mode net links modes q n meet.slot b second meet.second in
    let one : m ≡ n = one_mode modes meet.slot m n m_begins m_ends n_begins n_ends in
    let there = subst (λ (k : ℕ). IsPart net links modes q k b) (sym one) second in
    let l = get_or links p none in
    let k = get_or links q none in
    let a_makes = (through modes first.up.0 first.down.0 l.from l.to (units_between net (take p links) first.up.0 first.down.0) l.units m a other (first.piece none)).makes in
    let b_makes = (through modes there.up.0 there.down.0 k.from k.to (units_between net (take q links) there.up.0 there.down.0) k.units m b other (there.piece none)).makes in
    let a_between = part_between net links modes p m a of in_p first in
    let b_between = part_between net links modes q m b of in_q there in
    let a_sends = part_sends net links modes p m a first in
    let b_sends = part_sends net links modes q m b there in
    let a_receives = part_receives net links modes p m a first in
    let b_receives = part_receives net links modes q m b there in
    let shared : (first.up ≡ there.up) ⊎ (first.down ≡ there.down) = ⊎_elim
    (λ (same : beam_at net a.from ≡ beam_at net b.from). let both : Some first.up ≡ Some there.up = sym a_sends ∙ (same ∙ b_sends) in inl (let equal : first.up ≡ there.up = cc in equal))
    (λ (same : beam_at net a.to ≡ beam_at net b.to). let both : Some first.down ≡ Some there.down = sym a_receives ∙ (same ∙ b_receives) in inr (let equal : first.down ≡ there.down = cc in equal))
    meet.beam in
    let (ups, downs) = one_connection (length net.beams) (get_or modes m other).perm first.up first.down there.up there.down (permutes m other m_there)
    (beam_inside net a.from first.up sound a_between.0 a_sends) (beam_inside net b.from there.up sound b_between.0 b_sends) a_makes b_makes shared in
    let of_b : IsPieceOf net links modes there.up there.down q m b = record { there = in_q; sends = there.sends; receives = there.receives; piece = there.piece } in
    let of_b_too = subst (λ (d : BeamNo). IsPieceOf net links modes first.up d q m b) (sym downs) (subst (λ (u : BeamNo). IsPieceOf net links modes u there.down q m b) (sym ups) of_b) in
    same_piece net links modes first.up first.down p q m meet.slot a b (record { there = in_p; sends = first.sends; receives = first.receives; piece = first.piece }) of_b_too meet.first meet.second
