-- The terminals of a beam, by how many there are.
use Rattle.std.proofs.Common.{◌≡◌, ◌≢◌, ℕ, zero, suc, ◌+◌, ◌<◌, ◌≤◌, ◌==◌, Bool, true, false, cond, List, [], ◌∷◌, Option, Some, None, length, take, get_or, slice_get, option_map, count_by, refl, sym, ap, ◌∙◌, subst, arith, ⊎_elim, eqb-true, eq-eqb}
use Rattle.std.proofs.lemmas.Bool.{cases_Bool, cases_eq, cases_lt}
use Rattle.std.proofs.lemmas.Bool.Decides.{nat_tests}
use Rattle.std.proofs.lemmas.List.Sums.{sum_by-cons, get_or-le-sum_by, count_by_more_no, count_by_more_yes}
use Rattle.std.proofs.lemmas.Option.{get_or_from_slice_get, slice_get-get_or, slice_get_within}
use Rattle.bt_frame.specs.declared.numbers.BeamNo.{BeamNo}
use Rattle.bt_frame.specs.declared.numbers.TermNo.{TermNo}
use Rattle.bt_frame.proofs.OneNumber.{numbered, same_beam}
use Rattle.bt_net.specs.Network.{Net, IsSound}
use Rattle.bt_net.specs.Terminals.{IsInBeam}
use Rattle.bt_look.specs.Room.{can_link, terminals_in}

-- a terminal of a network: its name and its beam
abbrev Terminal : Type 0
Terminal = List ℕ × BeamNo

-- it is in the beam of that number
abbrev pub is_of : ℕ → Terminal → Bool
is_of beam terminal = terminal.1.0 == beam

-- what passes counts as one
abbrev counts : {X : Type 0} → (X → Bool) → X → ℕ
counts p x = cond (p x) 1 0

-- one that passes is counted
one_counted : {X : Type 0} (p : X → Bool) (xs : List X) (i : ℕ) (d : X) → i < length xs → p (get_or xs i d) ≡ true → 1 ≤ count_by p xs
one_counted p xs i d within passes =
    let one : counts p (get_or xs i d) ≡ 1 = ap (λ (b : Bool). let n : ℕ = cond b 1 0 in n) passes in
    omega (arith, one, get_or-le-sum_by (counts p) xs i d within)

-- two that pass are counted both
two_counted : {X : Type 0} (p : X → Bool) (xs : List X) (i j : ℕ) (d : X) → i < j → j < length xs → p (get_or xs i d) ≡ true → p (get_or xs j d) ≡ true → 2 ≤ count_by p xs
two_counted p [] i j d before within one other = absurd (omega (arith, within))
two_counted p (x ∷ xs) i zero d before within one other = absurd (omega (arith, before))
two_counted p (x ∷ xs) zero (suc j) d before within one other =
    let first : counts p x ≡ 1 = ap (λ (b : Bool). let n : ℕ = cond b 1 0 in n) one in
    omega (arith, first, sum_by-cons (counts p) x xs, one_counted p xs j d (omega (arith, within)) other)
two_counted p (x ∷ xs) (suc i) (suc j) d before within one other =
    omega (arith, sum_by-cons (counts p) x xs, two_counted p xs i j d (omega (arith, before)) (omega (arith, within)) one other)

-- one that passes, and its place
record Passing {X : Type 0} (p : X → Bool) (xs : List X) (d : X) : Type 0 where
  place : ℕ
  within : place < length xs
  passes : p (get_or xs place d) ≡ true

-- where one is counted, one passes
passing : {X : Type 0} (p : X → Bool) (xs : List X) (d : X) → 1 ≤ count_by p xs → Passing p xs d
passing p [] d some = absurd (omega (arith, some))
passing p (x ∷ xs) d some = ⊎_elim
    (λ (yes : p x ≡ true). record { place = 0; within = omega arith; passes = yes })
    (λ (no : p x ≡ false).
    let none : counts p x ≡ 0 = ap (λ (b : Bool). let n : ℕ = cond b 1 0 in n) no in
    let more = passing p xs d (omega (arith, some, none, sum_by-cons (counts p) x xs)) in
    record { place = suc more.place; within = omega (arith, more.within); passes = more.passes })
    (cases_Bool (p x))

-- two that pass, and their places
record PassingTwo {X : Type 0} (p : X → Bool) (xs : List X) (d : X) : Type 0 where
  place : ℕ
  other : ℕ
  before : place < other
  within : other < length xs
  passes : p (get_or xs place d) ≡ true
  passes_too : p (get_or xs other d) ≡ true

-- where two are counted, two pass
passing_two : {X : Type 0} (p : X → Bool) (xs : List X) (d : X) → 2 ≤ count_by p xs → PassingTwo p xs d
passing_two p [] d some = absurd (omega (arith, some))
passing_two p (x ∷ xs) d some = ⊎_elim
    (λ (yes : p x ≡ true).
    let one : counts p x ≡ 1 = ap (λ (b : Bool). let n : ℕ = cond b 1 0 in n) yes in
    let more = passing p xs d (omega (arith, some, one, sum_by-cons (counts p) x xs)) in
    record { place = 0; other = suc more.place; before = omega arith; within = omega (arith, more.within); passes = yes; passes_too = more.passes })
    (λ (no : p x ≡ false).
    let none : counts p x ≡ 0 = ap (λ (b : Bool). let n : ℕ = cond b 1 0 in n) no in
    let more = passing_two p xs d (omega (arith, some, none, sum_by-cons (counts p) x xs)) in
    record { place = suc more.place; other = suc more.other; before = omega (arith, more.before); within = omega (arith, more.within); passes = more.passes; passes_too = more.passes_too })
    (cases_Bool (p x))

-- a terminal in a beam has its place among the terminals
record Placed (terminals : List Terminal) (place : ℕ) (beam : BeamNo) : Type 0 where
  within : place < length terminals
  is : (d : Terminal) → (get_or terminals place d).1 ≡ beam

placed_at : (terminals : List Terminal) (place : ℕ) (o : Option Terminal) (beam : BeamNo) → slice_get terminals place ≡ o → option_map (λ (t : Terminal). t.1) o ≡ Some beam → Placed terminals place beam
placed_at terminals place None beam is found = absurd cc
placed_at terminals place (Some t) beam is found =
    let same : t.1 ≡ beam = cc in
    record { within = slice_get_within terminals place t is; is = λ d. ap (λ (u : Terminal). u.1) (get_or_from_slice_get terminals place t d is) ∙ same }

placed : (net : Net) (terminal : TermNo) (beam : BeamNo) → IsInBeam net terminal beam → Placed net.terminals terminal.0 beam
placed net terminal beam is = placed_at net.terminals terminal.0 (slice_get net.terminals terminal.0) beam refl is

-- its beam is one of the network's
pub beam_inside : (net : Net) (terminal : TermNo) (beam : BeamNo) → IsSound net → IsInBeam net terminal beam → beam.0 < length net.beams
beam_inside net terminal beam sound is =
    let at = placed net terminal beam is in
    let d : Terminal = ([], beam) in
    subst (λ (b : BeamNo). b.0 < length net.beams) (at.is d) (sound.terminals.in_beam terminal.0 d at.within)

-- and no other
pub one_beam : (net : Net) (terminal : TermNo) (a b : BeamNo) → IsInBeam net terminal a → IsInBeam net terminal b → a ≡ b
one_beam net terminal a b is also = let same : Some a ≡ Some b = sym is ∙ also in cc

passes_at : (net : Net) (place : ℕ) (beam : BeamNo) (d : Terminal) → Placed net.terminals place beam → is_of beam.0 (get_or net.terminals place d) ≡ true
passes_at net place beam d at = eq-eqb _ _ (ap (λ (b : BeamNo). b.0) (at.is d))

in_order : (net : Net) (from to : ℕ) (beam : BeamNo) → from < to → Placed net.terminals from beam → Placed net.terminals to beam → 2 ≤ terminals_in net beam.0
in_order net from to beam before one other =
    let d : Terminal = ([], beam) in
    two_counted (is_of beam.0) net.terminals from to d before other.within (passes_at net from beam d one) (passes_at net to beam d other)

some_in : (net : Net) (place : ℕ) (beam : BeamNo) → Placed net.terminals place beam → 1 ≤ terminals_in net beam.0
some_in net place beam at =
    let d : Terminal = ([], beam) in
    one_counted (is_of beam.0) net.terminals place d at.within (passes_at net place beam d at)

two_in : (net : Net) (from to : ℕ) (beam : BeamNo) → from ≢ to → Placed net.terminals from beam → Placed net.terminals to beam → 2 ≤ terminals_in net beam.0
two_in net from to beam differ one other = ⊎_elim
    (λ (before : from < to). in_order net from to beam before one other)
    (λ (not_before : to ≤ from). in_order net to from beam (omega (arith, not_before, differ)) other one)
    (cases_lt from to)

-- two terminals that differ can be a link
pub can_be_linked : (net : Net) (from to : TermNo) (up down : BeamNo) → IsInBeam net from up → IsInBeam net to down → from.0 ≢ to.0 → can_link net up.0 down.0 ≡ true
can_be_linked net from to up down sends receives differ =
    let one = placed net from up sends in
    let other = placed net to down receives in
    let senders = some_in net from.0 up one in
    let receivers = some_in net to.0 down other in
    ⊎_elim
    (λ (same : up.0 ≡ down.0).
    let here : Placed net.terminals to.0 up = subst (λ (b : BeamNo). Placed net.terminals to.0 b) (sym (same_beam up down same)) other in
    let two = two_in net from.0 to.0 up differ one here in
    grind (arith, nat_tests, same, two))
    (λ (apart : up.0 ≡ down.0 → ⊥). grind (arith, nat_tests, apart, senders, receivers))
    (cases_eq up.0 down.0)

-- a terminal that passes is in the beam
in_beam_at : (net : Net) (place : ℕ) (beam : BeamNo) (d : Terminal) → place < length net.terminals → is_of beam.0 (get_or net.terminals place d) ≡ true → IsInBeam net (numbered place) beam
in_beam_at net place beam d within passes =
    ap (option_map (λ (t : Terminal). t.1)) (slice_get-get_or net.terminals place d within) ∙ ap Some (same_beam _ _ (eqb-true _ _ passes))

-- two terminals that differ, of the one beam and of the other
pub record Ends (net : Net) (up down : BeamNo) : Type 0 where
  pub from : TermNo
  pub to : TermNo
  pub sends : IsInBeam net from up
  pub receives : IsInBeam net to down
  pub differ : from.0 ≢ to.0

ends_of_one : (net : Net) (up down : BeamNo) → up.0 ≡ down.0 → 2 ≤ terminals_in net up.0 → Ends net up down
ends_of_one net up down same two =
    let d : Terminal = ([], up) in
    let found = passing_two (is_of up.0) net.terminals d two in
    record {
      from = numbered found.place;
      to = numbered found.other;
      sends = in_beam_at net found.place up d (omega (arith, found.before, found.within)) found.passes;
      receives = subst (λ (b : BeamNo). IsInBeam net (numbered found.other) b) (same_beam up down same) (in_beam_at net found.other up d found.within found.passes_too);
      differ = λ equal. absurd (omega (arith, found.before, equal));
    }

ends_of_two : (net : Net) (up down : BeamNo) → (up.0 ≡ down.0 → ⊥) → 1 ≤ terminals_in net up.0 → 1 ≤ terminals_in net down.0 → Ends net up down
ends_of_two net up down apart senders receivers =
    let d : Terminal = ([], up) in
    let one = passing (is_of up.0) net.terminals d senders in
    let other = passing (is_of down.0) net.terminals d receivers in
    record {
      from = numbered one.place;
      to = numbered other.place;
      sends = in_beam_at net one.place up d one.within one.passes;
      receives = in_beam_at net other.place down d other.within other.passes;
      differ = λ equal.
          let here : is_of down.0 (get_or net.terminals one.place d) ≡ true = subst (λ (k : ℕ). is_of down.0 (get_or net.terminals k d) ≡ true) (sym equal) other.passes in
          apart (sym (eqb-true _ _ one.passes) ∙ eqb-true _ _ here);
    }

-- beams that can have a link have its ends
pub ends_of_link : (net : Net) (up down : BeamNo) → can_link net up.0 down.0 ≡ true → Ends net up down
ends_of_link net up down can = ⊎_elim
    (λ (same : up.0 ≡ down.0).
    let two : 2 ≤ terminals_in net up.0 = grind (arith, nat_tests, same, can) in
    ends_of_one net up down same two)
    (λ (apart : up.0 ≡ down.0 → ⊥).
    let senders : 1 ≤ terminals_in net up.0 = grind (arith, nat_tests, apart, can) in
    let receivers : 1 ≤ terminals_in net down.0 = grind (arith, nat_tests, apart, can) in
    ends_of_two net up down apart senders receivers)
    (cases_eq up.0 down.0)

-- what one more terminal adds to the number of those of a beam
pub counted_yes : (terminals : List Terminal) (k count : ℕ) (beam found : BeamNo) → k < length terminals → option_map (λ (t : Terminal). t.1) (slice_get terminals k) ≡ Some found
    → (found.0 == beam.0) ≡ true → count ≡ count_by (is_of beam.0) (take k terminals) → count + 1 ≡ count_by (is_of beam.0) (take (k + 1) terminals)
counted_yes terminals k count beam found within is same so_far =
    let d : Terminal = ([], beam) in
    let here = ap (λ (b : BeamNo). b.0 == beam.0) ((placed_at terminals k (slice_get terminals k) found refl is).is d) ∙ same in
    omega (arith, so_far, count_by_more_yes (is_of beam.0) terminals k d within here)

pub counted_no : (terminals : List Terminal) (k count : ℕ) (beam found : BeamNo) → k < length terminals → option_map (λ (t : Terminal). t.1) (slice_get terminals k) ≡ Some found
    → (found.0 == beam.0) ≡ false → count ≡ count_by (is_of beam.0) (take k terminals) → count ≡ count_by (is_of beam.0) (take (k + 1) terminals)
counted_no terminals k count beam found within is other so_far =
    let d : Terminal = ([], beam) in
    let here = ap (λ (b : BeamNo). b.0 == beam.0) ((placed_at terminals k (slice_get terminals k) found refl is).is d) ∙ other in
    omega (arith, so_far, count_by_more_no (is_of beam.0) terminals k d within here)
