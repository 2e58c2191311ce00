-- The bursts of the links, as one link more is served.
use Rattle.std.proofs.Common.{◌≡◌, ℕ, ◌+◌, ◌<◌, ◌==◌, ◌&&◌, if◌then◌else◌, Bool, List, ◌++◌, length, take, get_or, slice_get, refl, sym, ap, ◌∙◌, subst, inl, inr, arith}
use Rattle.std.specs.List.{HoldsAt}
use Rattle.std.proofs.lemmas.Bool.{cases_lt}
use Rattle.std.proofs.lemmas.List.Elements.{All-append, Contains-append_left, Contains-append_right}
use Rattle.std.proofs.lemmas.List.Sums.{sum_by_more}
use Rattle.bt_frame.specs.declared.numbers.BeamNo.{BeamNo}
use Rattle.bt_frame.specs.declared.numbers.TermNo.{TermNo}
use Rattle.bt_frame.specs.declared.mode.Mode.{Mode}
use Rattle.bt_net.specs.Network.{Net}
use Rattle.bt_demand.specs.declared.burst.Burst.{Burst}
use Rattle.bt_demand.specs.declared.demand.Link.{Link}
use Rattle.bt_demand.specs.Demand.{IsDemand}
use Rattle.bt_demand.specs.Traffic.{units_between}
use Rattle.bt_net.specs.Terminals.{IsInBeam, is_in_beam}
use Rattle.bt_frame.proofs.Pairs.{AllPairs-append}
use Rattle.bt_demand.proofs.Tables.{in_its_beam}
use Rattle.bt_demand.proofs.Begins.{one_beam}
use Rattle.bt_cut.specs.Serving.{IsPiece, ArePieces}
use Rattle.bt_cut.specs.Parts.{IsPart, AreParts}

-- a terminal is in its beam alone
pub is_in_its_beam : (net : Net) (terminal : TermNo) (beam : BeamNo) (i : ℕ) → IsInBeam net terminal beam → is_in_beam net i terminal ≡ (beam.0 == i)
is_in_its_beam net terminal beam i is = in_its_beam (slice_get net.terminals terminal.0) beam i is

share : (b c : Bool) (x y i j units : ℕ) → b ≡ (x == i) → c ≡ (y == j) → (if b && c then units else 0) ≡ (if x == i && y == j then units else 0)
share b c x y i j units in_up in_down = rw (in_up, in_down) refl

-- the units between two beams, with one link more
pub units_between-more : (net : Net) (links : List Link) (k : ℕ) (link : Link) (up down : BeamNo) (i j : ℕ) → k < length links → HoldsAt (λ l. l ≡ link) links k
    → IsInBeam net link.from up → IsInBeam net link.to down
    → units_between net (take (k + 1) links) i j ≡ units_between net (take k links) i j + (if up.0 == i && down.0 == j then link.units else 0)
units_between-more net links k link up down i j within is sends receives =
    let f = λ (l : Link). if is_in_beam net i l.from && is_in_beam net j l.to then l.units else 0 in
    sum_by_more f links k link within
    ∙ (ap (λ (l : Link). units_between net (take k links) i j + f l) (is link)
    ∙ ap (λ (n : ℕ). units_between net (take k links) i j + n)
    (share (is_in_beam net i link.from) (is_in_beam net j link.to) up.0 down.0 i j link.units (is_in_its_beam net link.from up i sends) (is_in_its_beam net link.to down j receives)))

-- links at two places have other ends
pub other_ends : (links : List Link) (i j : ℕ) (d : Link) → IsDemand links → i < j → j < length links
    → (get_or links i d).from ≡ (get_or links j d).from → (get_or links i d).to ≡ (get_or links j d).to → ⊥
other_ends links i j d is less within from to =
    let before = is.ordered i j d less within in
    let same_from = ap (λ (t : TermNo). t.0) from in
    let same_to = ap (λ (t : TermNo). t.0) to in
    omega (arith, before.to same_from, same_to)

-- one link more is served
pub AreParts-more : (net : Net) (links : List Link) (modes : List Mode) (count : ℕ) (bursts more : List Burst) (link : Link) (up down : BeamNo)
    → IsDemand links → count < length links → HoldsAt (λ l. l ≡ link) links count → IsInBeam net link.from up → IsInBeam net link.to down
    → ArePieces modes up.0 down.0 link.from link.to (units_between net (take count links) up.0 down.0) link.units more
    → AreParts net links modes count bursts → AreParts net links modes (count + 1) (bursts ++ more)
AreParts-more net links modes count bursts more link up down demand within is sends receives pieces parts =
    let piece_is = λ (u d : BeamNo) (l : Link) (mode : ℕ) (burst : Burst). IsPiece modes u.0 d.0 l.from l.to (units_between net (take count links) u.0 d.0) l.units mode burst in
    record {
      each = All-append (λ (burst : Burst). (at : ℕ) × (mode : ℕ) × (at < count + 1) × IsPart net links modes at mode burst) bursts more
          (λ k d inside. let (at, mode, below, part) = parts.each k d inside in (at, mode, omega arith, part))
          (λ k d inside. let (mode, piece) = pieces.each k d inside in (
            count,
            mode,
            omega arith,
            record {
              up = up;
              down = down;
              sends = λ other. subst (λ (l : Link). IsInBeam net l.from up) (sym (is other)) sends;
              receives = λ other. subst (λ (l : Link). IsInBeam net l.to down) (sym (is other)) receives;
              piece = λ other. subst (λ (l : Link). piece_is up down l mode (get_or more k d)) (sym (is other)) piece;
            },
          ));
      all = λ at mode burst below part.
          elim (cases_lt at count) [
            | inl before ↦ Contains-append_left bursts more burst (parts.all at mode burst before part)
            | inr last ↦
                let here : at ≡ count = omega arith in
                let there = subst (λ (k : ℕ). IsPart net links modes k mode burst) here part in
                let same_up : there.up ≡ up = one_beam net link.from there.up up (subst (λ (l : Link). IsInBeam net l.from there.up) (is link) (there.sends link)) sends in
                let same_down : there.down ≡ down = one_beam net link.to there.down down (subst (λ (l : Link). IsInBeam net l.to there.down) (is link) (there.receives link)) receives in
                let piece = subst (λ (l : Link). piece_is there.up there.down l mode burst) (is link) (there.piece link) in
                Contains-append_right bursts more burst (pieces.all mode burst
                (subst (λ (d : BeamNo). piece_is up d link mode burst) same_down (subst (λ (u : BeamNo). piece_is u there.down link mode burst) same_up piece)))
          ];
      distinct = AllPairs-append (λ (a b : Burst). (a ≡ b) → ⊥) bursts more parts.distinct pieces.distinct
          (λ i d inside j e inside_more same.
          let (at, mode, below, part) = parts.each i d inside in
          let (place, piece) = pieces.each j e inside_more in
          let old = part.piece link in
          other_ends links at count link demand below within
          (sym old.sends ∙ (ap (λ (b : Burst). b.from) same ∙ (piece.sends ∙ ap (λ (l : Link). l.from) (sym (is link)))))
          (sym old.receives ∙ (ap (λ (b : Burst). b.to) same ∙ (piece.receives ∙ ap (λ (l : Link). l.to) (sym (is link))))));
    }
