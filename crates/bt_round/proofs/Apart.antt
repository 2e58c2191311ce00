-- Workers of which the first work apart, and their texts one behind the other.
use Rattle.std.proofs.Common.{◌≡◌, ℕ, ◌+◌, ◌-◌, ◌<◌, ◌≤◌, List, [], ◌∷◌, ◌++◌, length, take, drop, get_or, map, sym, ap, ◌∙◌, subst, ⊎_elim, append_assoc, arith, length-append}
use Rattle.std.specs.List.{flat_map}
use Rattle.std.proofs.lemmas.Grind.{flat_map-append}
use Rattle.std.proofs.lemmas.List.{append-nil, get_or-append_right, get_or-drop, get_or-map, get_or_append_left, length-drop, take-append-le, take_all, take_more}
use Rattle.std.proofs.lemmas.Slice.{drop-append-drop}
use Rattle.bt_round.specs.Seats.{text_at}
use Rattle.bt_round.proofs.Rounds.{below_or_past}

-- behind those that worked apart the others are as they were
pub others_are : {W : Type 0} (apart : ℕ) (all first : List W) → length first ≡ apart
    → take (length (first ++ drop apart all) - apart) (drop apart (first ++ drop apart all)) ≡ drop apart all
others_are {W} apart all first long =
    let whole = first ++ drop apart all in
    let past : drop apart whole ≡ drop apart all = drop-append-drop apart all first apart (omega arith) long in
    ap (take (length whole - apart)) past ∙ take_all (length whole - apart) (drop apart all) (omega (arith, length-append first (drop apart all), long))

-- each worker had its turn where those apart had theirs, and the others
pub all_turned : {W : Type 0} (R : W → W → Type 0) (apart : ℕ) (all first part rest more : List W) → length first ≡ apart → part ≡ drop apart all → length rest ≡ length part
    → ((i : ℕ) (d : W) → i < apart → R (get_or all i d) (get_or first i d)) → ((i : ℕ) (d : W) → i < length part → R (get_or part i d) (get_or rest i d))
    → (i : ℕ) (d : W) → i < length all → R (get_or all i d) (get_or (take apart (first ++ drop apart all) ++ (rest ++ more)) i d)
all_turned {W} R apart all first part rest more long part_is as_long done others i d less =
    let head : take apart (first ++ drop apart all) ≡ first = take-append-le apart first (drop apart all) (omega (arith, long)) ∙ take_all apart first (omega (arith, long)) in
    let behind : get_or (take apart (first ++ drop apart all) ++ (rest ++ more)) i d ≡ get_or (first ++ (rest ++ more)) i d = ap (λ (l : List W). get_or (l ++ (rest ++ more)) i d) head in
    ⊎_elim
    (λ (below : i < apart). subst (λ (w : W). R (get_or all i d) w) (sym (behind ∙ get_or_append_left first (rest ++ more) d i (omega (arith, below, long)))) (done i d below))
    (λ (past : apart ≤ i).
    let within : i - apart < length part = omega (arith, past, less, ap length part_is, length-drop apart all) in
    let old : get_or part (i - apart) d ≡ get_or all i d =
    ap (λ (l : List W). get_or l (i - apart) d) part_is ∙ get_or-drop apart all (i - apart) d ∙ ap (λ (n : ℕ). get_or all n d) (omega (arith, past)) in
    let new : get_or (take apart (first ++ drop apart all) ++ (rest ++ more)) i d ≡ get_or rest (i - apart) d =
    behind ∙ get_or-append_right first (rest ++ more) apart i d long past ∙ get_or_append_left rest more d (i - apart) (omega (arith, within, as_long)) in
    subst (λ (w : W). R w (get_or (take apart (first ++ drop apart all) ++ (rest ++ more)) i d)) old (subst (R (get_or part (i - apart) d)) (sym new) (others (i - apart) d within)))
    (below_or_past i apart)

-- the text of one more
pub text_more : {D W : Type 0} (place : D → ℕ) (text : W → List ℕ) (workers : List W) (desks : List D) (number : ℕ) (desk : D) (worker : W) (before now after : List ℕ) → number < length desks
    → desk ≡ get_or desks number desk → place desk < length workers → worker ≡ get_or workers (place desk) worker
    → now ≡ before ++ flat_map (λ (d : D). text_at (place d) (map text workers)) (take number desks) → after ≡ now ++ text worker
    → after ≡ before ++ flat_map (λ (d : D). text_at (place d) (map text workers)) (take (number + 1) desks)
text_more {D} {W} place text workers desks number desk worker before now after less desk_is within worker_is so_far added =
    let f : D → List ℕ = λ (d : D). text_at (place d) (map text workers) in
    let one : text worker ≡ f desk = ap text worker_is ∙ sym (get_or-map text workers (place desk) worker [] within) in
    let more : flat_map f (take (number + 1) desks) ≡ flat_map f (take number desks) ++ f desk =
    ap (flat_map f) (take_more desks number desk less ∙ ap (λ (d : D). take number desks ++ d ∷ []) (sym desk_is))
    ∙ flat_map-append f (take number desks) (desk ∷ []) ∙ ap (λ (l : List ℕ). flat_map f (take number desks) ++ l) (append-nil (f desk)) in
    added ∙ ap (λ (l : List ℕ). l ++ text worker) so_far ∙ ap (λ (l : List ℕ). (before ++ flat_map f (take number desks)) ++ l) one
    ∙ append_assoc before (flat_map f (take number desks)) (f desk) ∙ ap (λ (l : List ℕ). before ++ l) (sym more)
