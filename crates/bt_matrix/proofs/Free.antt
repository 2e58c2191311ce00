-- The free list when a node comes in, and when one goes out.
use Rattle.std.proofs.Common.{◌≡◌, ◌≢◌, ℕ, suc, ◌+◌, ◌<◌, ◌≤◌, List, [], ◌∷◌, ◌++◌, Option, None, Some, length, get_or, set, take, drop, sym, ap, ◌∙◌, refl, arith, subst, ⊎_elim, length-append, length-set}
use Rattle.std.proofs.lemmas.Bool.{cases_eq}
use Rattle.std.proofs.lemmas.List.{get_or_append_left, get_or_push}
use Rattle.std.proofs.lemmas.List.Elements.{All-push, All-nil, Contains-push, Contains-push_cases, Contains-append_left}
use Rattle.std.proofs.lemmas.List.Quantifiers.{all_pairs_push}
use Rattle.std.proofs.lemmas.List.Sums.{sum_by-set}
use Rattle.std.proofs.lemmas.Option.{none-some, same_Some}
use Rattle.bt_matrix.specs.declared.node.Node.{Node}
use Rattle.bt_matrix.specs.declared.node.Entry.{Entry}
use Rattle.bt_matrix.specs.Links.{node, nodes_of}
use Rattle.bt_matrix.specs.Table.{line_of, place, with_place, used}
use Rattle.bt_matrix.specs.Crosslinked.{InUse, IsFree, KeepsLinks, KeepsFree}
use Rattle.bt_matrix.specs.Pool.{IsPopped, IsGrown, CameFrom}
use Rattle.bt_matrix.proofs.LinkedLines.{of_place, nodes_of-split, nodes_of-set}
use Rattle.bt_matrix.proofs.Tables.{place-with_place_same, place-with_place_other}

-- a node that the written place did not name is in use as before
InUse-kept : (old new : List Node) (table : List (List (Option ℕ))) (up down j : ℕ) (at : Option ℕ) → up < length table
    → (node new j).entry ≡ (node old j).entry → place table up down ≢ Some j → InUse old table j → InUse new (with_place table up down at) j
InUse-kept old new table up down j at within same not_here used =
    let u = (node old j).entry.up in
    let d = (node old j).entry.down in
    let other : u ≡ up → d ≡ down → ⊥ = λ up_is down_is.
    not_here (sym (ap (λ (v : ℕ). place table v d) up_is ∙ ap (λ (v : ℕ). place table up v) down_is) ∙ used) in
    let now = place-with_place_other table up down u d at within other ∙ used in
    subst (λ (e : Entry). place (with_place table up down at) e.up e.down ≡ Some j) (sym same) now

-- and a node that was not written there was in use before
InUse-was : (old new : List Node) (table : List (List (Option ℕ))) (up down j : ℕ) (at : Option ℕ) → up < length table → down < length (line_of table up)
    → (node new j).entry ≡ (node old j).entry → at ≢ Some j → InUse new (with_place table up down at) j → InUse old table j
InUse-was old new table up down j at within in_line same not_written used =
    let u = (node old j).entry.up in
    let d = (node old j).entry.down in
    let table' = with_place table up down at in
    let now = subst (λ (e : Entry). place table' e.up e.down ≡ Some j) same used in
    let other : u ≡ up → d ≡ down → ⊥ = λ up_is down_is.
    not_written (sym (place-with_place_same table up down at within in_line)
    ∙ (sym (ap (λ (v : ℕ). place table' v d) up_is ∙ ap (λ (v : ℕ). place table' up v) down_is) ∙ now)) in
    sym (place-with_place_other table up down u d at within other) ∙ now

-- how many nodes stand at a place
abbrev pub one_of : Option ℕ → ℕ
one_of None = 0
one_of (Some k) = 1

length-of_place : (at : Option ℕ) (ks : List ℕ) → length (of_place at ks) ≡ length ks + one_of at
length-of_place None ks = omega arith
length-of_place (Some k) ks = omega arith

-- how many nodes the table names, once a place was written
pub used-with_place : (table : List (List (Option ℕ))) (up down : ℕ) (at : Option ℕ) → up < length table → down < length (line_of table up)
    → used (with_place table up down at) + one_of (place table up down) ≡ used table + one_of at
used-with_place table up down at within in_line =
    let line = line_of table up in
    let was = ap length (nodes_of-split line down in_line) ∙ length-append (nodes_of (take down line)) (of_place (get_or line down None) (nodes_of (drop (suc down) line))) in
    let now = ap length (nodes_of-set line down at in_line) ∙ length-append (nodes_of (take down line)) (of_place at (nodes_of (drop (suc down) line))) in
    let was_of = length-of_place (get_or line down None) (nodes_of (drop (suc down) line)) in
    let now_of = length-of_place at (nodes_of (drop (suc down) line)) in
    let changed = sum_by-set (λ (places : List (Option ℕ)). length (nodes_of places)) table up (set line down at) [] within in
    omega (arith, was, now, was_of, now_of, changed)

length-with : (table : List (List (Option ℕ))) (up : ℕ) (line : List (Option ℕ)) → length (set table up line) ≡ length table
length-with table up line = length-set table up line

below_last : (j n : ℕ) → j < n + 1 → j ≢ n → j < n
below_last j n below other = ⊎_elim (λ (same : j ≡ n). absurd (other same)) (λ (not : j ≡ n → ⊥). omega arith) (cases_eq j n)

-- a free node that was not written is free
IsFree-now : (old new : List Node) (table : List (List (Option ℕ))) (up down j : ℕ) (at : Option ℕ) → up < length table → down < length (line_of table up)
    → (node new j).entry ≡ (node old j).entry → at ≢ Some j → length old ≤ length new → IsFree old table j → IsFree new (with_place table up down at) j
IsFree-now old new table up down j at within in_line same not_written longer is = record {
  past_heads = omega (arith, length-with table up (set (line_of table up) down at), is.past_heads);
  within = omega (arith, is.within);
  unused = λ used. is.unused (InUse-was old new table up down j at within in_line same not_written used);
}

-- and a free node that was not named there was free
IsFree-before : (old new : List Node) (table : List (List (Option ℕ))) (up down j : ℕ) (at : Option ℕ) → up < length table
    → (node new j).entry ≡ (node old j).entry → place table up down ≢ Some j → j < length old → IsFree new (with_place table up down at) j → IsFree old table j
IsFree-before old new table up down j at within same not_here in_nodes is = record {
  past_heads = omega (arith, length-with table up (set (line_of table up) down at), is.past_heads);
  within = in_nodes;
  unused = λ used. is.unused (InUse-kept old new table up down j at within same not_here used);
}

-- a node from the free list comes in
pub KeepsFree-popped : (old new : List Node) (table : List (List (Option ℕ))) (up down k : ℕ) (free : List ℕ) → up < length table
    → down < length (line_of table up) → place table up down ≡ None → length new ≡ length old
    → ((j : ℕ) → j ≢ k → (node new j).entry ≡ (node old j).entry) → (node new k).entry.up ≡ up → (node new k).entry.down ≡ down
    → KeepsFree old table (free ++ k ∷ []) → KeepsFree new (with_place table up down (Some k)) free
KeepsFree-popped old new table up down k free within in_line empty count kept at_up at_down keeps =
    let table' = with_place table up down (Some k) in
    let size : length table' ≡ length table = length-with table up (set (line_of table up) down (Some k)) in
    let long = length-append free (k ∷ []) in
    record {
      unused = λ i d below.
          let here = get_or_append_left free (k ∷ []) d i below in
          let last = get_or_push free k d (length free) refl in
          let was : IsFree old table (get_or free i d) = subst (IsFree old table) here (keeps.unused i d (omega (arith, long))) in
          let not_k : get_or free i d ≢ k = λ same. keeps.once i (length free) d below (omega (arith, long)) (here ∙ (same ∙ sym last)) in
          IsFree-now old new table up down (get_or free i d) (Some k) within in_line (kept (get_or free i d) not_k) (λ same. not_k (sym (same_Some k (get_or free i d) same))) (omega (arith, count)) was;
      once = λ i j d less below.
          let first = get_or_append_left free (k ∷ []) d i (omega arith) in
          let second = get_or_append_left free (k ∷ []) d j below in
          λ same. keeps.once i j d less (omega (arith, long)) (first ∙ (same ∙ sym second));
      each = λ j is.
          let not_k : j ≢ k = λ same. is.unused (rw same (rw at_up (rw at_down (place-with_place_same table up down (Some k) within in_line)))) in
          let was = IsFree-before old new table up down j (Some k) within (kept j not_k) (λ same. none-some j (sym empty ∙ same)) (omega (arith, is.within, count)) is in
          ⊎_elim (λ found. found) (λ same. absurd (not_k (sym same))) (Contains-push_cases free k j (keeps.each j was));
      count = omega (arith, size, long, count, keeps.count, used-with_place table up down (Some k) within in_line, ap one_of empty);
    }

-- a node at the end of the nodes comes in, where the free list is empty
pub KeepsFree-grown : (old new : List Node) (table : List (List (Option ℕ))) (up down k : ℕ) → up < length table
    → down < length (line_of table up) → place table up down ≡ None → k ≡ length old → length new ≡ length old + 1
    → ((j : ℕ) → j ≢ k → (node new j).entry ≡ (node old j).entry) → (node new k).entry.up ≡ up → (node new k).entry.down ≡ down
    → KeepsFree old table [] → KeepsFree new (with_place table up down (Some k)) []
KeepsFree-grown old new table up down k within in_line empty last count kept at_up at_down keeps =
    let table' = with_place table up down (Some k) in
    let size : length table' ≡ length table = length-with table up (set (line_of table up) down (Some k)) in
    record {
      unused = All-nil (IsFree new table');
      once = λ i j d less below. absurd (omega arith);
      each = λ j is.
          let not_k : j ≢ k = λ same. is.unused (rw same (rw at_up (rw at_down (place-with_place_same table up down (Some k) within in_line)))) in
          keeps.each j (IsFree-before old new table up down j (Some k) within (kept j not_k) (λ same. none-some j (sym empty ∙ same)) (below_last j (length old) (omega (arith, is.within, count)) (λ same. not_k (same ∙ sym last))) is);
      count = omega (arith, size, count, keeps.count, used-with_place table up down (Some k) within in_line, ap one_of empty);
    }

-- a node goes out
pub KeepsFree-out : (old new : List Node) (table : List (List (Option ℕ))) (up down k : ℕ) (free : List ℕ) → up < length table
    → down < length (line_of table up) → place table up down ≡ Some k → length table ≤ k → k < length old → length new ≡ length old
    → ((j : ℕ) → (node new j).entry ≡ (node old j).entry) → (node old k).entry.up ≡ up → (node old k).entry.down ≡ down
    → KeepsFree old table free → KeepsFree new (with_place table up down None) (free ++ k ∷ [])
KeepsFree-out old new table up down k free within in_line full past in_nodes count kept at_up at_down keeps =
    let table' = with_place table up down None in
    let size : length table' ≡ length table = length-with table up (set (line_of table up) down None) in
    let in_use : InUse old table k = rw at_up (rw at_down full) in
    let written = place-with_place_same table up down None within in_line in
    let up_now : (node new k).entry.up ≡ up = ap (λ (e : Entry). e.up) (kept k) ∙ at_up in
    let down_now : (node new k).entry.down ≡ down = ap (λ (e : Entry). e.down) (kept k) ∙ at_down in
    let is_free : IsFree new table' k = record {
      past_heads = omega (arith, size);
      within = omega (arith, count);
      unused = λ still. none-some k (sym (ap (λ (v : ℕ). place table' v (node new k).entry.down) up_now ∙ (ap (λ (v : ℕ). place table' up v) down_now ∙ written)) ∙ still);
    } in
    record {
      unused = All-push (IsFree new table') free k
          (λ i d below. IsFree-now old new table up down (get_or free i d) None within in_line (kept (get_or free i d)) (λ same. none-some (get_or free i d) same) (omega (arith, count)) (keeps.unused i d below))
          is_free;
      once = all_pairs_push (λ i j. i ≢ j) free k keeps.once (λ i d below same. (keeps.unused i d below).unused (rw same in_use));
      each = λ j is. ⊎_elim
          (λ (same : j ≡ k). rw same (Contains-push free k))
          (λ (other : j ≡ k → ⊥). Contains-append_left free (k ∷ []) j (keeps.each j
          (IsFree-before old new table up down j None within (kept j) (λ same. other (sym (same_Some k j (sym full ∙ same)))) (omega (arith, is.within, count)) is)))
          (cases_eq j k);
      count = omega (arith, size, length-append free (k ∷ []), count, keeps.count, used-with_place table up down None within in_line, ap one_of full);
    }

-- a node that was free, or that was not there, is new to the table
pub is_new : (old new : List Node) (table : List (List (Option ℕ))) (free free' : List ℕ) (k : ℕ) → KeepsLinks old table → KeepsFree old table free
    → CameFrom old new free free' k → (length table ≤ k) × ((u d : ℕ) → place table u d ≢ Some k)
is_new old new table free free' k links keeps came = ⊎_elim
    (λ (was : IsPopped old new free free' k).
    let long = length-append free' (k ∷ []) in
    let count = ap length was.popped in
    let last = get_or_push free' k 0 (length free') refl in
    let mine : IsFree old table k = subst (IsFree old table) (ap (λ (ks : List ℕ). get_or ks (length free') 0) was.popped ∙ last)
    (keeps.unused (length free') 0 (omega (arith, long, count))) in (
      mine.past_heads,
      λ u d is.
          let named = links.named u d k is in
          mine.unused (rw named.at_up (rw named.at_down is)),
    ))
    (λ (grown : IsGrown old new free free' k).
    (omega (arith, links.heads, grown.last), λ u d is. omega (arith, (links.named u d k is).within, grown.last)))
    came
