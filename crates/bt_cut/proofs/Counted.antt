-- How many slots the bursts of a link have in a cutting, as one mode after the other is counted.
use Rattle.std.proofs.Common.{◌≡◌, ◌⊎◌, ℕ, zero, suc, ◌+◌, ◌-◌, ◌*◌, ◌<◌, ◌≤◌, ◌==◌, ◌&&◌, if◌then◌else◌, min, max, option_map, Bool, true, false, List, [], ◌∷◌, length, take, get_or, sum_by, All, AllPairs, refl, sym, ap, ◌∙◌, subst, inl, inr, ⊎_elim, arith, add-one, eq-eqb}
use Rattle.std.specs.List.{HoldsAt}
use Rattle.std.proofs.Math.Dec.{ltb}
use Rattle.std.proofs.lemmas.Bool.{cases_eq, cases_lt, lt-ltb, le-ltb}
use Rattle.std.proofs.lemmas.Bool.Decides.{nat_tests}
use Rattle.std.proofs.lemmas.List.{get_or_default, take_all}
use Rattle.std.proofs.lemmas.Option.{slice_get-get_or}
use Rattle.std.proofs.lemmas.List.Elements.{All-cons}
use Rattle.std.proofs.lemmas.List.Sums.{sum_by-cons, sum_by-le, sum_by-take-le}
use Rattle.bt_frame.proofs.Counts.{sum_by-none}
use Rattle.bt_frame.proofs.OneNumber.{same_terminal}
use Rattle.bt_frame.specs.declared.numbers.BeamNo.{BeamNo}
use Rattle.bt_frame.specs.declared.numbers.TermNo.{TermNo}
use Rattle.bt_frame.specs.declared.mode.Mode.{Mode}
use Rattle.bt_net.specs.Network.{Net, IsSound}
use Rattle.bt_matrix.specs.Good.{slots_of}
use Rattle.bt_demand.specs.declared.burst.Burst.{Burst}
use Rattle.bt_demand.specs.declared.demand.Link.{Link}
use Rattle.bt_demand.specs.Demand.{LinkEnds, ends_of, IsDemand, units_of}
use Rattle.bt_demand.specs.Plan.{begin_of}
use Rattle.bt_demand.specs.Apart.{slots_sent}
use Rattle.bt_demand.specs.Traffic.{AreOfNetwork, units_between}
use Rattle.bt_net.specs.Terminals.{IsInBeam, is_in_beam}
use Rattle.bt_demand.proofs.Links.{units_of_at}
use Rattle.bt_cut.specs.Parts.{IsPart}
use Rattle.bt_cut.specs.Serving.{number_at, IsPiece}
use Rattle.bt_cut.proofs.Good.{through, beam_inside}
use Rattle.bt_demand.proofs.Begins.{begin_of-le, begin_of-next, one_beam}
use Rattle.bt_cut.proofs.Numbers.{numbers_grow}
use Rattle.bt_cut.proofs.Parts.{other_ends, units_between-more}
use Rattle.bt_cut.proofs.Links.{share-same}
use Rattle.bt_cut.proofs.Pieces.{same_burst}

-- sums of the same terms are the same
sum_by-same : {X : Type 0} (f g : X → ℕ) (xs : List X) (d : X) → ((j : ℕ) → j < length xs → g (get_or xs j d) ≡ f (get_or xs j d)) → sum_by g xs ≡ sum_by f xs
sum_by-same f g [] d same = refl
sum_by-same f g (x ∷ xs) d same =
    let first : g x ≡ f x = same 0 (omega arith) in
    let rest = sum_by-same f g xs d (λ j within. same (suc j) (omega arith)) in
    omega (arith, sum_by-cons f x xs, sum_by-cons g x xs, first, rest)

-- sums of which one term differs differ by it
sum_by-but : {X : Type 0} (f g : X → ℕ) (xs : List X) (k : ℕ) (d : X) → k < length xs
    → ((j : ℕ) → j < length xs → (j ≡ k → ⊥) → g (get_or xs j d) ≡ f (get_or xs j d)) → sum_by g xs + f (get_or xs k d) ≡ sum_by f xs + g (get_or xs k d)
sum_by-but f g [] k d within same = absurd (omega arith)
sum_by-but f g (x ∷ xs) zero d within same =
    let rest = sum_by-same f g xs d (λ j inside. same (suc j) (omega arith) (λ equal. omega arith)) in
    omega (arith, sum_by-cons f x xs, sum_by-cons g x xs, rest)
sum_by-but f g (x ∷ xs) (suc k) d within same =
    let first : g x ≡ f x = same 0 (omega arith) (λ equal. omega arith) in
    let rest = sum_by-but f g xs k d (omega arith) (λ j inside other. same (suc j) (omega arith) (λ equal. other (omega arith))) in
    omega (arith, sum_by-cons f x xs, sum_by-cons g x xs, first, rest)

either_same : (test : Bool) (x y : ℕ) → (test ≡ true → x ≡ y) → (if test then x else 0) ≡ (if test then y else 0)
either_same true x y same = same refl
either_same false x y same = refl

-- the slots of a burst of a link, if it starts before that mode
abbrev pub sent_before : List Mode → TermNo → TermNo → ℕ → Burst → ℕ
sent_before modes from to place burst = if burst.from.0 == from.0 && burst.to.0 == to.0 then (if ltb burst.start (begin_of modes place) then burst.length else 0) else 0

-- two tests passed
both : (a b : TermNo) (burst : Burst) → (burst.from.0 == a.0 && burst.to.0 == b.0) ≡ true → (burst.from ≡ a) × (burst.to ≡ b)
both a b burst passed =
    let from : burst.from.0 ≡ a.0 = grind (arith, nat_tests, passed) in
    let to : burst.to.0 ≡ b.0 = grind (arith, nat_tests, passed) in
    (same_terminal burst.from a from, same_terminal burst.to b to)

-- What is known of the bursts of a cutting, by parts.
pub record ArePartsOf (net : Net) (links : List Link) (modes : List Mode) (bursts : List Burst) : Type 0 where
  pub each : All (λ burst. (link : ℕ) × (mode : ℕ) × (link < length links) × IsPart net links modes link mode burst) bursts
  pub all : (link mode : ℕ) (burst : Burst) → link < length links → IsPart net links modes link mode burst → (k : ℕ) × (k < length bursts) × HoldsAt (λ b. b ≡ burst) bursts k
  pub distinct : AllPairs (λ a b. (a ≡ b) → ⊥) bursts

-- links with the same ends stand at one place
one_place : (links : List Link) (p q : ℕ) (d : Link) → IsDemand links → p < length links → q < length links
    → (get_or links p d).from ≡ (get_or links q d).from → (get_or links p d).to ≡ (get_or links q d).to → p ≡ q
one_place links p q d is in_p in_q from to =
    elim (cases_eq p q) [
      | inl same ↦ same
      | inr other ↦
          elim (cases_lt p q) [
            | inl less ↦ absurd (other_ends links p q d is less in_q from to)
            | inr more ↦ let later : q < p = omega arith in absurd (other_ends links q p d is later in_p (sym from) (sym to))
          ]
    ]

-- a burst of the link at a place is its part in some mode
of_link : (net : Net) (links : List Link) (modes : List Mode) (bursts : List Burst) (p j : ℕ) (d : Burst) (l : Link) → IsDemand links → ArePartsOf net links modes bursts → p < length links
    → j < length bursts → get_or links p l ≡ l → (get_or bursts j d).from ≡ l.from → (get_or bursts j d).to ≡ l.to → (mode : ℕ) × IsPart net links modes p mode (get_or bursts j d)
of_link net links modes bursts p j d l is parts in_p within at from to =
    let (q, mode, in_q, part) = parts.each j d within in
    let piece = part.piece l in
    let same : q ≡ p = one_place links q p l is in_q in_p (sym piece.sends ∙ (from ∙ ap (λ (x : Link). x.from) (sym at))) (sym piece.receives ∙ (to ∙ ap (λ (x : Link). x.to) (sym at))) in
    (mode, subst (λ (k : ℕ). IsPart net links modes k mode (get_or bursts j d)) same part)

-- the slots of a part's burst, by the place of its mode
part_spans : (net : Net) (links : List Link) (modes : List Mode) (link mode : ℕ) (burst : Burst) → IsPart net links modes link mode burst
    → (begin_of modes mode ≤ burst.start) × (burst.start < begin_of modes (mode + 1))
part_spans net links modes link mode burst part =
    let none : Link = record { from = record { 0 = 0 }; to = record { 0 = 0 }; units = 0 } in
    let other : Mode = record { duration = 0; perm = [] } in
    let l = get_or links link none in
    let piece = part.piece none in
    let passes = through modes part.up.0 part.down.0 l.from l.to (units_between net (take link links) part.up.0 part.down.0) l.units mode burst other piece in
    (passes.from_begin, omega (arith, passes.to_end, piece.some, begin_of-next modes mode other piece.in_range))

-- a burst that does not start in a mode counts as much behind it as before it
not_here : (net : Net) (links : List Link) (modes : List Mode) (p m n : ℕ) (burst : Burst) → IsPart net links modes p n burst → (n ≡ m → ⊥)
    → (if ltb burst.start (begin_of modes (m + 1)) then burst.length else 0) ≡ (if ltb burst.start (begin_of modes m) then burst.length else 0)
not_here net links modes p m n burst part other =
    let (begins, ends) = part_spans net links modes p n burst part in
    elim (cases_lt n m) [
      | inl less ↦
          let before : burst.start < begin_of modes m = omega (arith, ends, begin_of-le modes (n + 1) m (omega arith)) in
          let behind : burst.start < begin_of modes (m + 1) = omega (arith, before, begin_of-le modes m (m + 1) (omega arith)) in
          rw (lt-ltb burst.start (begin_of modes m) before, lt-ltb burst.start (begin_of modes (m + 1)) behind) refl
      | inr more ↦
          let behind : begin_of modes (m + 1) ≤ burst.start = omega (arith, begins, begin_of-le modes (m + 1) n (omega arith)) in
          let before : begin_of modes m ≤ burst.start = omega (arith, behind, begin_of-le modes m (m + 1) (omega arith)) in
          rw (le-ltb burst.start (begin_of modes m) before, le-ltb burst.start (begin_of modes (m + 1)) behind) refl
    ]

none_either : (test : Bool) (x : ℕ) → x ≡ 0 → (if test then x else 0) ≡ 0
none_either true x none = none
none_either false x none = refl

-- a burst that starts in a mode or later has not started before it
not_yet : (modes : List Mode) (from to : TermNo) (m : ℕ) (burst : Burst) → begin_of modes m ≤ burst.start → sent_before modes from to m burst ≡ 0
not_yet modes from to m burst later = none_either (burst.from.0 == from.0 && burst.to.0 == to.0) _ (rw (le-ltb burst.start (begin_of modes m) later) refl)

-- one that starts before counts
by_then : (modes : List Mode) (m : ℕ) (burst : Burst) → burst.start < begin_of modes m → sent_before modes burst.from burst.to m burst ≡ burst.length
by_then modes m burst before = rw (eq-eqb burst.from.0 burst.from.0 refl, eq-eqb burst.to.0 burst.to.0 refl, lt-ltb burst.start (begin_of modes m) before) refl

-- parts of one link in one mode are the same
same_part : (net : Net) (links : List Link) (modes : List Mode) (link mode : ℕ) (a b : Burst) → link < length links → IsPart net links modes link mode a → IsPart net links modes link mode b → a ≡ b
same_part net links modes link mode a b within first second =
    let none : Link = record { from = record { 0 = 0 }; to = record { 0 = 0 }; units = 0 } in
    let l = get_or links link none in
    let piece = λ (up down : BeamNo) (x : Burst). IsPiece modes up.0 down.0 l.from l.to (units_between net (take link links) up.0 down.0) l.units mode x in
    let ups : second.up ≡ first.up = one_beam net l.from second.up first.up (second.sends none) (first.sends none) in
    let downs : second.down ≡ first.down = one_beam net l.to second.down first.down (second.receives none) (first.receives none) in
    let piece_a = first.piece none in
    let piece_b = subst (λ (d : BeamNo). piece first.up d b) downs (subst (λ (u : BeamNo). piece u second.down b) ups (second.piece none)) in
    same_burst a b (piece_a.sends ∙ sym piece_b.sends) (piece_a.receives ∙ sym piece_b.receives) (omega (arith, piece_a.begins, piece_b.begins)) (omega (arith, piece_a.ends, piece_b.ends))

-- where no number of the link's units is one of the mode's slots there is no part
no_piece : (net : Net) (links : List Link) (modes : List Mode) (p m : ℕ) (l : Link) (up down : BeamNo) (burst : Burst) → HoldsAt (λ x. x ≡ l) links p → IsInBeam net l.from up → IsInBeam net l.to down
    → IsPart net links modes p m burst
    → min (units_between net (take p links) up.0 down.0 + l.units) (number_at modes up.0 down.0 (m + 1)) ≤ max (units_between net (take p links) up.0 down.0) (number_at modes up.0 down.0 m) → ⊥
no_piece net links modes p m l up down burst at sends receives part none =
    let piece_of = λ (u d : BeamNo) (x : Link). IsPiece modes u.0 d.0 x.from x.to (units_between net (take p links) u.0 d.0) x.units m burst in
    let ups : part.up ≡ up = one_beam net l.from part.up up (subst (λ (x : Link). IsInBeam net x.from part.up) (at l) (part.sends l)) sends in
    let downs : part.down ≡ down = one_beam net l.to part.down down (subst (λ (x : Link). IsInBeam net x.to part.down) (at l) (part.receives l)) receives in
    let piece = subst (λ (d : BeamNo). piece_of up d l) downs (subst (λ (u : BeamNo). piece_of u part.down l) ups (subst (λ (x : Link). piece_of part.up part.down x) (at l) (part.piece l))) in
    omega (arith, piece.ends, piece.some, none)

-- two places that differ hold two bursts
differ : (bursts : List Burst) → AllPairs (λ a b. (a ≡ b) → ⊥) bursts → (i j : ℕ) (d : Burst) → (i ≡ j → ⊥) → i < length bursts → j < length bursts → get_or bursts i d ≡ get_or bursts j d → ⊥
differ bursts pairs i j d other in_i in_j same =
    elim (cases_lt i j) [
      | inl less ↦ pairs i j d less in_j same
      | inr more ↦ let later : j < i = omega arith in pairs j i d later in_i (sym same)
    ]

-- the slots so far of the link at a place are its units whose numbers come before the mode's
counted : (net : Net) (links : List Link) (modes : List Mode) (bursts : List Burst) (p : ℕ) (l : Link) (up down : BeamNo) → IsDemand links → ArePartsOf net links modes bursts → p < length links
    → HoldsAt (λ x. x ≡ l) links p → IsInBeam net l.from up → IsInBeam net l.to down → (m : ℕ) → m ≤ length modes
    → sum_by (sent_before modes l.from l.to m) bursts + min (number_at modes up.0 down.0 m) (units_between net (take p links) up.0 down.0)
    ≡ min (number_at modes up.0 down.0 m) (units_between net (take p links) up.0 down.0 + l.units)
counted net links modes bursts p l up down is parts in_p at sends receives zero within =
    let none : sum_by (sent_before modes l.from l.to 0) bursts ≤ length bursts * 0 =
    sum_by-le (sent_before modes l.from l.to 0) 0 bursts (λ k d inside. omega (arith, not_yet modes l.from l.to 0 (get_or bursts k d) (omega arith))) in
    omega (arith, none)
counted net links modes bursts p l up down is parts in_p at sends receives (suc m) within =
    let first = units_between net (take p links) up.0 down.0 in
    let low = number_at modes up.0 down.0 m in
    let high = number_at modes up.0 down.0 (m + 1) in
    let so_far = counted net links modes bursts p l up down is parts in_p at sends receives m (omega arith) in
    let grows : low ≤ high = numbers_grow modes up.0 down.0 m (m + 1) (omega arith) in
    let f = sent_before modes l.from l.to m in
    let g = sent_before modes l.from l.to (m + 1) in
    let begin = begin_of modes m in
    let in_range : m < length modes = omega arith in
    let piece : Burst = record { from = l.from; to = l.to; start = (begin + max first low) - low; length = min (first + l.units) high - max first low } in
    let IsOver = sum_by g bursts + min high first ≡ min high (first + l.units) in
    let over : IsOver =
    elim (cases_lt (max first low) (min (first + l.units) high)) [
      | inl some ↦
          let is_piece : IsPiece modes up.0 down.0 l.from l.to first l.units m piece =
          record { in_range = in_range; sends = refl; receives = refl; some = omega arith; begins = omega arith; ends = omega arith } in
          let part : IsPart net links modes p m piece = record {
            up = up;
            down = down;
            sends = λ d. subst (λ (x : Link). IsInBeam net x.from up) (sym (at d)) sends;
            receives = λ d. subst (λ (x : Link). IsInBeam net x.to down) (sym (at d)) receives;
            piece = λ d. subst (λ (x : Link). IsPiece modes up.0 down.0 x.from x.to first x.units m piece) (sym (at d)) is_piece;
          } in
          let (k, inside, is_at) = parts.all p m piece in_p part in
          let here : get_or bursts k piece ≡ piece = is_at piece in
          let spans = part_spans net links modes p m piece part in
          let but = sum_by-but f g bursts k piece inside
          (λ j in_j other. either_same _ _ _ (λ passed.
          let ends = both l.from l.to (get_or bursts j piece) passed in
          let (n, there) = of_link net links modes bursts p j piece l is parts in_p in_j (at l) ends.0 ends.1 in
          not_here net links modes p m n (get_or bursts j piece) there (λ equal.
          let same_mode = subst (λ (x : ℕ). IsPart net links modes p x (get_or bursts j piece)) equal there in
          let same : get_or bursts j piece ≡ get_or bursts k piece = same_part net links modes p m (get_or bursts j piece) piece in_p same_mode part ∙ sym here in
          differ bursts parts.distinct j k piece other in_j inside same))) in
          let before = ap f here in
          let none_yet : f piece ≡ 0 = not_yet modes l.from l.to m piece spans.0 in
          let behind = ap g here in
          let all : g piece ≡ piece.length = by_then modes (m + 1) piece spans.1 in
          omega (arith, but, before, none_yet, behind, all, so_far, grows)
      | inr none ↦
          let d : Burst = record { from = l.from; to = l.to; start = 0; length = 0 } in
          let same = sum_by-same f g bursts d (λ j in_j. either_same _ _ _ (λ passed.
          let ends = both l.from l.to (get_or bursts j d) passed in
          let (n, there) = of_link net links modes bursts p j d l is parts in_p in_j (at l) ends.0 ends.1 in
          not_here net links modes p m n (get_or bursts j d) there (λ equal.
          let same_mode = subst (λ (x : ℕ). IsPart net links modes p x (get_or bursts j d)) equal there in
          no_piece net links modes p m l up down (get_or bursts j d) at sends receives same_mode none))) in
          omega (arith, same, so_far, grows)
    ] in
    rw add-one at over

none_if : (test : Bool) (x : ℕ) → (test ≡ true → ⊥) → (if test then x else 0) ≡ 0
none_if true x fails = absurd (fails refl)
none_if false x fails = refl

same_ends : (l : Link) (from to : TermNo) → l.from ≡ from → l.to ≡ to → ends_of l ≡ (from, to)
same_ends l from to sends receives =
    ap (λ (t : TermNo). let ends : LinkEnds = (t, l.to) in ends) sends ∙ ap (λ (t : TermNo). let ends : LinkEnds = (from, t) in ends) receives

-- a link that is not the first stands later or nowhere
find_later : (l : Link) (links : List Link) (from to : TermNo) → ((l.from ≡ from) × (l.to ≡ to) → ⊥)
    → ((p : ℕ) × (p < length links) × HoldsAt (λ x. ends_of x ≡ (from, to)) links p) ⊎ All (λ x. (x.from ≡ from) × (x.to ≡ to) → ⊥) links
    → ((p : ℕ) × (p < length (l ∷ links)) × HoldsAt (λ x. ends_of x ≡ (from, to)) (l ∷ links) p) ⊎ All (λ x. (x.from ≡ from) × (x.to ≡ to) → ⊥) (l ∷ links)
find_later l links from to other (inl (p, within, is)) = inl (suc p, omega arith, is)
find_later l links from to other (inr none) = inr (All-cons (λ (x : Link). (x.from ≡ from) × (x.to ≡ to) → ⊥) l links other none)

-- a link stands at some place, or at none
find_link : (links : List Link) (from to : TermNo) → ((p : ℕ) × (p < length links) × HoldsAt (λ l. ends_of l ≡ (from, to)) links p) ⊎ All (λ l. (l.from ≡ from) × (l.to ≡ to) → ⊥) links
find_link [] from to = inr (λ k d within. absurd (omega arith))
find_link (l ∷ links) from to =
    elim (cases_eq l.from.0 from.0) [
      | inl same_from ↦
          elim (cases_eq l.to.0 to.0) [
            | inl same_to ↦ inl (0, omega arith, λ d. same_ends l from to (same_terminal l.from from same_from) (same_terminal l.to to same_to))
            | inr other ↦ find_later l links from to (λ ends. other (ap (λ (t : TermNo). t.0) ends.1)) (find_link links from to)
          ]
      | inr other ↦ find_later l links from to (λ ends. other (ap (λ (t : TermNo). t.0) ends.0)) (find_link links from to)
    ]

-- a link that sends the same slots has the same ends
link_both : (a b : TermNo) (l : Link) → (l.from.0 == a.0 && l.to.0 == b.0) ≡ true → (l.from ≡ a) × (l.to ≡ b)
link_both a b l passed =
    let from : l.from.0 ≡ a.0 = grind (arith, nat_tests, passed) in
    let to : l.to.0 ≡ b.0 = grind (arith, nat_tests, passed) in
    (same_terminal l.from a from, same_terminal l.to b to)

-- a link that is not there has no slots
none_served : (net : Net) (links : List Link) (modes : List Mode) (bursts : List Burst) (from to : TermNo) → ArePartsOf net links modes bursts
    → All (λ l. (l.from ≡ from) × (l.to ≡ to) → ⊥) links → slots_sent bursts from to ≡ units_of links from to
none_served net links modes bursts from to parts none =
    let sent : slots_sent bursts from to ≡ 0 = sum_by-none _ bursts (λ k d within. none_if _ _ (λ passed.
    let ends = both from to (get_or bursts k d) passed in
    let (q, mode, in_q, part) = parts.each k d within in
    let other : Link = record { from = from; to = to; units = 0 } in
    let piece = part.piece other in
    none q other in_q (sym piece.sends ∙ ends.0, sym piece.receives ∙ ends.1))) in
    let asked : units_of links from to ≡ 0 = sum_by-none _ links (λ k d within. none_if _ _ (λ passed. none k d within (link_both from to (get_or links k d) passed))) in
    omega (arith, sent, asked)

-- the beam of a terminal
beam_of : (net : Net) (terminal : TermNo) → terminal.0 < length net.terminals → (beam : BeamNo) × IsInBeam net terminal beam
beam_of net terminal within =
    let d : List ℕ × BeamNo = ([], record { 0 = 0 }) in
    ((get_or net.terminals terminal.0 d).1, ap (option_map (λ (t : List ℕ × BeamNo). t.1)) (slice_get-get_or net.terminals terminal.0 d within))

-- a link that is there has its slots
one_served : (net : Net) (links : List Link) (modes : List Mode) (bursts : List Burst) (p : ℕ) (l : Link) (up down : BeamNo) → IsDemand links → ArePartsOf net links modes bursts → p < length links
    → HoldsAt (λ x. x ≡ l) links p → IsInBeam net l.from up → IsInBeam net l.to down → units_between net links up.0 down.0 ≤ slots_of modes up.0 down.0
    → slots_sent bursts l.from l.to ≡ l.units
one_served net links modes bursts p l up down is parts in_p at sends receives carried =
    let count = counted net links modes bursts p l up down is parts in_p at sends receives (length modes) (omega arith) in
    let d : Burst = record { from = l.from; to = l.to; start = 0; length = 0 } in
    let f = sent_before modes l.from l.to (length modes) in
    let g = λ (b : Burst). if b.from.0 == l.from.0 && b.to.0 == l.to.0 then b.length else 0 in
    let same : slots_sent bursts l.from l.to ≡ sum_by f bursts = sum_by-same f g bursts d (λ j in_j.
    let b = get_or bursts j d in
    let (q, mode, in_q, part) = parts.each j d in_j in
    let none : Link = record { from = record { 0 = 0 }; to = record { 0 = 0 }; units = 0 } in
    let before : b.start < begin_of modes (length modes) =
    omega (arith, (part_spans net links modes q mode b part).1, begin_of-le modes (mode + 1) (length modes) (omega (arith, (part.piece none).in_range))) in
    let passed : ltb b.start (begin_of modes (length modes)) ≡ true = lt-ltb b.start (begin_of modes (length modes)) before in
    ap (λ (t : Bool). if b.from.0 == l.from.0 && b.to.0 == l.to.0 then (if t then b.length else 0) else 0) (sym passed)) in
    let more = units_between-more net links p l up down up.0 down.0 in_p at sends receives in
    let le = sum_by-take-le (λ (x : Link). if is_in_beam net up.0 x.from && is_in_beam net down.0 x.to then x.units else 0) links (p + 1) in
    let all = ap (λ (ms : List Mode). slots_of ms up.0 down.0) (take_all (length modes) modes (omega arith)) in
    omega (arith, same, count, more, share-same up.0 down.0 l.units, le, all, carried)

-- the bursts of a cutting give each link its slots
pub cutting_serves : (net : Net) (links : List Link) (modes : List Mode) (bursts : List Burst) → IsDemand links → IsSound net → AreOfNetwork net links
    → ((up down : ℕ) → up < length net.beams → down < length net.beams → units_between net links up down ≤ slots_of modes up down)
    → ArePartsOf net links modes bursts → (from to : TermNo) → slots_sent bursts from to ≡ units_of links from to
cutting_serves net links modes bursts is sound of carried parts from to = ⊎_elim
    (λ (found : (p : ℕ) × (p < length links) × HoldsAt (λ l. ends_of l ≡ (from, to)) links p).
    let (p, in_p, ends) = found in
    let d : Link = record { from = from; to = to; units = 0 } in
    let l = get_or links p d in
    let inside = of p d in_p in
    let (up, sends) = beam_of net l.from inside.0 in
    let (down, receives) = beam_of net l.to inside.1 in
    let sent = one_served net links modes bursts p l up down is parts in_p (λ e. get_or_default links p e d in_p) sends receives
    (carried up.0 down.0 (beam_inside net l.from up sound inside.0 sends) (beam_inside net l.to down sound inside.1 receives)) in
    let from_is : l.from ≡ from = ap (λ (e : LinkEnds). e.0) (ends d) in
    let to_is : l.to ≡ to = ap (λ (e : LinkEnds). e.1) (ends d) in
    let there = subst (λ (t : TermNo). slots_sent bursts from t ≡ l.units) to_is (subst (λ (t : TermNo). slots_sent bursts t l.to ≡ l.units) from_is sent) in
    there ∙ sym (units_of_at links from to p d is (record { in_range = in_p; has_ends = ends })))
    (λ (none : All (λ l. (l.from ≡ from) × (l.to ≡ to) → ⊥) links). none_served net links modes bursts from to parts none)
    (find_link links from to)
