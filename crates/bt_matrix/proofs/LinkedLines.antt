-- The lines of a table, rows or columns alike: each is a list of places, and its nodes stand in a ring with its head.
use Rattle.std.proofs.Common.{◌≡◌, ◌≢◌, ℕ, zero, suc, ◌+◌, ◌<◌, ◌≤◌, List, [], ◌∷◌, ◌++◌, Option, None, Some, length, get_or, set, take, drop, sym, ap, ◌∙◌, refl, arith, subst, ⊎_elim, get_or-set_same}
use Rattle.std.proofs.lemmas.Bool.{cases_eq}
use Rattle.std.specs.Option.{unwrap_or}
use Rattle.std.proofs.lemmas.List.{take-set, take_more}
use Rattle.bt_matrix.specs.declared.node.Neighbours.{Neighbours}
use Rattle.bt_matrix.specs.Table.{before_place, after_place}
use Rattle.bt_matrix.specs.Links.{first_or, last_or, nodes_of, Runs, IsJoined, IsInserted}
use Rattle.bt_matrix.proofs.Runs.{Each, Each-map, Each-both, Fresh, Distinct, Runs-same, Runs-in, Runs-out, Runs-node}

-- the node of a place, if there is one, before other nodes
abbrev pub of_place : Option ℕ → List ℕ → List ℕ
of_place None ks = ks
of_place (Some k) ks = k ∷ ks

-- the nodes before a place, at it, and behind it
pub nodes_of-split : (line : List (Option ℕ)) (i : ℕ) → i < length line
    → nodes_of line ≡ nodes_of (take i line) ++ of_place (get_or line i None) (nodes_of (drop (suc i) line))
nodes_of-split [] i below = absurd (omega arith)
nodes_of-split (None ∷ line) zero below = refl
nodes_of-split (Some k ∷ line) zero below = refl
nodes_of-split (None ∷ line) (suc i) below = nodes_of-split line i (omega arith)
nodes_of-split (Some k ∷ line) (suc i) below = ap (λ (ks : List ℕ). k ∷ ks) (nodes_of-split line i (omega arith))

drop-set : (line : List (Option ℕ)) (i : ℕ) (p : Option ℕ) → drop (suc i) (set line i p) ≡ drop (suc i) line
drop-set [] i p = refl
drop-set (q ∷ line) zero p = refl
drop-set (q ∷ line) (suc i) p = drop-set line i p

length-set-places : (line : List (Option ℕ)) (i : ℕ) (p : Option ℕ) → length (set line i p) ≡ length line
length-set-places [] i p = refl
length-set-places (q ∷ line) zero p = refl
length-set-places (q ∷ line) (suc i) p = ap suc (length-set-places line i p)

-- the same of a line of which one place was written
pub nodes_of-set : (line : List (Option ℕ)) (i : ℕ) (p : Option ℕ) → i < length line
    → nodes_of (set line i p) ≡ nodes_of (take i line) ++ of_place p (nodes_of (drop (suc i) line))
nodes_of-set line i p below =
    let split = nodes_of-split (set line i p) i (rw (length-set-places line i p) below) in
    let front = take-set line i p in
    let back = drop-set line i p in
    let here = get_or-set_same line i p None below in
    rw (← front) (rw (← back) (rw here at split))

-- what holds of the node of each place holds of each node
pub Each-nodes : (P : ℕ → Type 0) (line : List (Option ℕ)) → ((i k : ℕ) → get_or line i None ≡ Some k → P k) → Each P (nodes_of line)
Each-nodes P [] holds = tt
Each-nodes P (None ∷ line) holds = Each-nodes P line (λ i k is. holds (suc i) k is)
Each-nodes P (Some k ∷ line) holds = (holds 0 k refl, Each-nodes P line (λ i k is. holds (suc i) k is))

-- nodes that know their places are apart
pub Distinct-nodes : (position : ℕ → ℕ) (start : ℕ) (line : List (Option ℕ)) → ((i k : ℕ) → get_or line i None ≡ Some k → position k ≡ start + i)
    → Distinct (nodes_of line)
Distinct-nodes position start [] at = tt
Distinct-nodes position start (None ∷ line) at = Distinct-nodes position (start + 1) line (λ i k is. omega (arith, at (suc i) k is))
Distinct-nodes position start (Some k ∷ line) at = (
  Each-nodes (λ j. k ≢ j) line (λ i j is same. omega (arith, ap position same, at 0 k refl, at (suc i) j is)),
  Distinct-nodes position (start + 1) line (λ i k is. omega (arith, at (suc i) k is)),
)

pub Each-last : (P : ℕ → Type 0) (a : ℕ) (ks : List ℕ) → P a → Each P ks → P (last_or a ks)
Each-last P a [] first each = first
Each-last P a (k ∷ ks) first each = Each-last P k ks each.0 each.1

pub Each-first : (P : ℕ → Type 0) (ks : List ℕ) (e : ℕ) → Each P ks → P e → P (first_or ks e)
Each-first P [] e each last = last
Each-first P (k ∷ ks) e each last = each.0

pub Each-front : (P : ℕ → Type 0) (ks js : List ℕ) → Each P (ks ++ js) → Each P ks
Each-front P [] js each = tt
Each-front P (k ∷ ks) js each = (each.0, Each-front P ks js each.1)

pub Each-back : (P : ℕ → Type 0) (ks js : List ℕ) → Each P (ks ++ js) → Each P js
Each-back P [] js each = each
Each-back P (k ∷ ks) js each = Each-back P ks js each.1

-- Lines of places whose nodes know their line and their position in it. The head of a line has the line's number.
pub record AreLines (size : ℕ) (line : ℕ → List (Option ℕ)) (ends : ℕ → Neighbours) (number position : ℕ → ℕ) : Type 0 where
  pub runs : (u : ℕ) → u < size → Runs ends u (nodes_of (line u)) u
  pub heads : (u : ℕ) → u < size → number u ≡ u
  pub past_heads : (u i k : ℕ) → get_or (line u) i None ≡ Some k → size ≤ k
  pub numbers : (u i k : ℕ) → get_or (line u) i None ≡ Some k → number k ≡ u
  pub positions : (u i k : ℕ) → get_or (line u) i None ≡ Some k → position k ≡ i

-- the nodes of a line and its head are apart
pub apart : (size : ℕ) (line : ℕ → List (Option ℕ)) (ends : ℕ → Neighbours) (number position : ℕ → ℕ) (u : ℕ)
    → AreLines size line ends number position → u < size → Distinct (u ∷ nodes_of (line u))
apart size line ends number position u are within = (
  Each-nodes (λ j. u ≢ j) (line u) (λ i k is same. omega (arith, are.past_heads u i k is)),
  Distinct-nodes position 0 (line u) (λ i k is. omega (arith, are.positions u i k is)),
)

-- the nodes of a line have its number, and so does its head
pub same_number : (size : ℕ) (line : ℕ → List (Option ℕ)) (ends : ℕ → Neighbours) (number position : ℕ → ℕ) (u : ℕ)
    → AreLines size line ends number position → u < size → Each (λ j. number j ≡ u) (u ∷ nodes_of (line u))
same_number size line ends number position u are within = (are.heads u within, Each-nodes (λ j. number j ≡ u) (line u) (are.numbers u))

behind : (P : ℕ → Type 0) (p : Option ℕ) (ks : List ℕ) → Each P (of_place p ks) → Each P ks
behind P None ks each = each
behind P (Some k) ks each = each.1

-- what holds of a line's nodes and of its head holds of those around a place
pub around : (P : ℕ → Type 0) (line : List (Option ℕ)) (i head : ℕ) → i < length line → P head → Each P (nodes_of line)
    → P (before_place line i head) × P (after_place line i head)
around P line i head below first each =
    let parts = subst (Each P) (nodes_of-split line i below) each in
    let back = Each-back P (nodes_of (take i line)) (of_place (get_or line i None) (nodes_of (drop (suc i) line))) parts in (
      Each-last P head (nodes_of (take i line)) first (Each-front P (nodes_of (take i line)) (of_place (get_or line i None) (nodes_of (drop (suc i) line))) parts),
      Each-first P (nodes_of (drop (suc i) line)) head (behind P (get_or line i None) (nodes_of (drop (suc i) line)) back) first,
    )

-- A node comes in at a place that had none: the links run through the nodes of each line as it is now.
pub Runs-lines-in : (size : ℕ) (line line' : ℕ → List (Option ℕ)) (old new : ℕ → Neighbours) (number position : ℕ → ℕ) (up i k : ℕ)
    → AreLines size line old number position → up < size → i < length (line up) → get_or (line up) i None ≡ None → size ≤ k
    → ((u j : ℕ) → get_or (line u) j None ≢ Some k)
    → IsInserted old new (before_place (line up) i up) k (after_place (line up) i up)
    → line' up ≡ set (line up) i (Some k) → ((u : ℕ) → u ≢ up → line' u ≡ line u)
    → (u : ℕ) → u < size → Runs new u (nodes_of (line' u)) u
Runs-lines-in size line line' old new number position up i k are within below empty past news came written others u within_u = ⊎_elim
    (λ (here : u ≡ up).
    let split = nodes_of-split (line up) i below in
    let gap = rw empty at split in
    let ps = nodes_of (take i (line up)) in
    let qs = nodes_of (drop (suc i) (line up)) in
    let are_apart = subst (λ (ks : List ℕ). Distinct (up ∷ ks)) gap (apart size line old number position up are within) in
    let fresh = subst (Fresh k) gap (Each-nodes (λ j. k ≢ j) (line up) (λ j m is same. news up j (is ∙ ap Some (sym same)))) in
    let runs = subst (λ (ks : List ℕ). Runs old up ks up) gap (are.runs up within) in
    let other : k ≢ up = λ same. omega (arith, same) in
    let done = Runs-in old new up ps k qs up came are_apart are_apart.0 (other, fresh) other runs in
    let now = ap nodes_of written ∙ nodes_of-set (line up) i (Some k) below in
    subst (λ (v : ℕ). Runs new v (nodes_of (line' v)) v) (sym here) (subst (λ (ks : List ℕ). Runs new up ks up) (sym now) done))
    (λ (other : u ≡ up → ⊥).
    let mine = same_number size line old number position up are within in
    let ends = around (λ j. number j ≡ up) (line up) i up below mine.0 mine.1 in
    let theirs = same_number size line old number position u are within_u in
    let fresh_u : Fresh k (u ∷ nodes_of (line u)) = ((λ same. omega (arith, same)), Each-nodes (λ j. k ≢ j) (line u) (λ j m is same. news u j (is ∙ ap Some (sym same)))) in
    let afters = Each-both (λ j. number j ≡ u) (λ j. k ≢ j) (λ j. (new j).after ≡ (old j).after) (u ∷ nodes_of (line u))
    (λ j of_u not_k. came.other_after j (λ same. other (sym of_u ∙ (ap number same ∙ ends.0))) (λ same. not_k (sym same))) theirs fresh_u in
    let befores = Each-both (λ j. number j ≡ u) (λ j. k ≢ j) (λ j. (new j).before ≡ (old j).before) (u ∷ nodes_of (line u))
    (λ j of_u not_k. came.other_before j (λ same. other (sym of_u ∙ (ap number same ∙ ends.1))) (λ same. not_k (sym same))) theirs fresh_u in
    let done = Runs-same old new u (nodes_of (line u)) u afters befores.1 befores.0 (are.runs u within_u) in
    subst (λ (places : List (Option ℕ)). Runs new u (nodes_of places) u) (sym (others u other)) done)
    (cases_eq u up)

-- A node goes out of its place.
pub Runs-lines-out : (size : ℕ) (line line' : ℕ → List (Option ℕ)) (old new : ℕ → Neighbours) (number position : ℕ → ℕ) (up i k : ℕ)
    → AreLines size line old number position → up < size → i < length (line up) → get_or (line up) i None ≡ Some k
    → IsJoined old new (old k).before (old k).after
    → line' up ≡ set (line up) i None → ((u : ℕ) → u ≢ up → line' u ≡ line u)
    → (u : ℕ) → u < size → Runs new u (nodes_of (line' u)) u
Runs-lines-out size line line' old new number position up i k are within below full joined written others u within_u =
    let split = nodes_of-split (line up) i below in
    let here_is = rw full at split in
    let ps = nodes_of (take i (line up)) in
    let qs = nodes_of (drop (suc i) (line up)) in
    let runs = subst (λ (ks : List ℕ). Runs old up ks up) here_is (are.runs up within) in
    let links = Runs-node old up ps k qs up runs in
    let joined' : IsJoined old new (last_or up ps) (first_or qs up) = rw (← links.0) (rw (← links.1) joined) in
    ⊎_elim
    (λ (here : u ≡ up).
    let are_apart = subst (λ (ks : List ℕ). Distinct (up ∷ ks)) here_is (apart size line old number position up are within) in
    let done = Runs-out old new up ps k qs up joined' are_apart are_apart.0 runs in
    let now = ap nodes_of written ∙ nodes_of-set (line up) i None below in
    subst (λ (v : ℕ). Runs new v (nodes_of (line' v)) v) (sym here) (subst (λ (ks : List ℕ). Runs new up ks up) (sym now) done))
    (λ (other : u ≡ up → ⊥).
    let mine = same_number size line old number position up are within in
    let ends = around (λ j. number j ≡ up) (line up) i up below mine.0 mine.1 in
    let theirs = same_number size line old number position u are within_u in
    let afters = Each-map (λ j. number j ≡ u) (λ j. (new j).after ≡ (old j).after) (u ∷ nodes_of (line u))
    (λ j of_u. joined'.other_after j (λ same. other (sym of_u ∙ (ap number same ∙ ends.0)))) theirs in
    let befores = Each-map (λ j. number j ≡ u) (λ j. (new j).before ≡ (old j).before) (u ∷ nodes_of (line u))
    (λ j of_u. joined'.other_before j (λ same. other (sym of_u ∙ (ap number same ∙ ends.1)))) theirs in
    let done = Runs-same old new u (nodes_of (line u)) u afters befores.1 befores.0 (are.runs u within_u) in
    subst (λ (places : List (Option ℕ)). Runs new u (nodes_of places) u) (sym (others u other)) done)
    (cases_eq u up)

-- one more place behind a line
last_or-push : (head : ℕ) (line : List (Option ℕ)) (at : Option ℕ) → last_or head (nodes_of (line ++ at ∷ [])) ≡ unwrap_or at (last_or head (nodes_of line))
last_or-push head [] None = refl
last_or-push head [] (Some k) = refl
last_or-push head (None ∷ line) at = last_or-push head line at
last_or-push head (Some k ∷ line) at = last_or-push k line at

pub last_or-more : (head i : ℕ) (line : List (Option ℕ)) (at : Option ℕ) → i < length line → get_or line i None ≡ at
    → last_or head (nodes_of (take (i + 1) line)) ≡ unwrap_or at (last_or head (nodes_of (take i line)))
last_or-more head i line at below is = rw (take_more line i None below) (rw is (last_or-push head (take i line) at))
