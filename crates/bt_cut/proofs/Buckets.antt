-- Bursts put into buckets, and taken out of them in order.
use Rattle.std.proofs.Common.{◌≡◌, ℕ, zero, suc, ◌+◌, ◌<◌, List, [], ◌∷◌, ◌++◌, Vec, Global, length, take, get_or, slice_set, All, AllPairs, refl, sym, ap, ◌∙◌, subst, inl, inr, arith, get_or-set_same, get_or-set_other}
use Rattle.std.specs.List.Sorted.{IsPermutation}
use Rattle.std.proofs.lemmas.Bool.{cases_eq}
use Rattle.std.proofs.lemmas.List.{append_assoc, append-nil, take_more}
use Rattle.std.proofs.lemmas.List.Concat.{flat_map-append}
use Rattle.std.proofs.lemmas.List.Elements.{All-push, All-append}
use Rattle.std.proofs.lemmas.List.Sorted.{IsPermutation-refl, IsPermutation-trans, IsPermutation-append, IsPermutation-append_comm, All-permutation}
use Rattle.bt_frame.proofs.Pairs.{AllPairs-append}
use Rattle.bt_demand.specs.declared.burst.Burst.{Burst}
use Rattle.bt_demand.specs.Burst.{IsNotAfter}
use Rattle.bt_cut.specs.Bucket.{bucket_of, all_of, IsBucket}

no_items : (xs : List Burst) → length xs ≡ 0 → xs ≡ []
no_items [] none = refl
no_items (x ∷ xs) none = absurd (omega arith)

-- buckets without bursts have none together
pub all_of-none : (buckets : List (Vec Burst Global)) → All (λ (bucket : Vec Burst Global). length bucket.items ≡ 0) buckets → all_of buckets ≡ []
all_of-none [] none = refl
all_of-none (bucket ∷ rest) none =
    let first : bucket.items ≡ [] = no_items bucket.items (none 0 bucket (omega arith)) in
    let behind = all_of-none rest (λ k d within. none (suc k) d (omega arith)) in
    ap (λ (xs : List Burst). xs ++ all_of rest) first ∙ behind

-- and each has but bursts of its slots
pub IsBucket-none : (buckets : List (Vec Burst Global)) (k : ℕ) → k < length buckets → All (λ (bucket : Vec Burst Global). length bucket.items ≡ 0) buckets → IsBucket buckets k
IsBucket-none buckets k within none d = λ j e inside. absurd (omega (arith, none k d within))

-- one burst more in a bucket is one more of all
pub all_of-push : (buckets : List (Vec Burst Global)) (k : ℕ) (new : Vec Burst Global) (x : Burst) (d : Vec Burst Global) → k < length buckets
    → new.items ≡ (get_or buckets k d).items ++ x ∷ [] → IsPermutation (all_of buckets ++ x ∷ []) (all_of (slice_set buckets k new))
all_of-push [] k new x d within is = absurd (omega arith)
all_of-push (bucket ∷ rest) zero new x d within is =
    let b = bucket.items in
    let r = all_of rest in
    let moved = IsPermutation-append b b (r ++ x ∷ []) ((x ∷ []) ++ r) (IsPermutation-refl b) (IsPermutation-append_comm r (x ∷ [])) in
    let from = subst (λ (xs : List Burst). IsPermutation xs (b ++ ((x ∷ []) ++ r))) (sym (append_assoc b r (x ∷ []))) moved in
    subst (λ (xs : List Burst). IsPermutation ((b ++ r) ++ x ∷ []) xs) (sym (append_assoc b (x ∷ []) r) ∙ ap (λ (xs : List Burst). xs ++ r) (sym is)) from
all_of-push (bucket ∷ rest) (suc k) new x d within is =
    let b = bucket.items in
    let r = all_of rest in
    let behind = all_of-push rest k new x d (omega arith) is in
    let moved = IsPermutation-append b b (r ++ x ∷ []) (all_of (slice_set rest k new)) (IsPermutation-refl b) behind in
    subst (λ (xs : List Burst). IsPermutation xs (b ++ all_of (slice_set rest k new))) (sym (append_assoc b r (x ∷ []))) moved

pub moved_more : (bursts : List Burst) (i : ℕ) (burst : Burst) (buckets : List (Vec Burst Global)) (k : ℕ) (old new : Vec Burst Global) → i < length bursts → burst ≡ get_or bursts i burst
    → k < length buckets → old ≡ get_or buckets k old → new.items ≡ old.items ++ burst ∷ []
    → IsPermutation (take i bursts) (all_of buckets) → IsPermutation (take (i + 1) bursts) (all_of (slice_set buckets k new))
moved_more bursts i burst buckets k old new within is inside read pushed so_far =
    let items : new.items ≡ (get_or buckets k old).items ++ burst ∷ [] = pushed ∙ ap (λ (v : Vec Burst Global). v.items ++ burst ∷ []) read in
    let first = IsPermutation-append (take i bursts) (all_of buckets) (burst ∷ []) (burst ∷ []) so_far (IsPermutation-refl (burst ∷ [])) in
    let both = IsPermutation-trans (take i bursts ++ burst ∷ []) (all_of buckets ++ burst ∷ []) (all_of (slice_set buckets k new)) first (all_of-push buckets k new burst old inside items) in
    subst (λ (xs : List Burst). IsPermutation xs (all_of (slice_set buckets k new))) (ap (λ (b : Burst). take i bursts ++ b ∷ []) is ∙ sym (take_more bursts i burst within)) both

-- each bucket keeps to its slots
pub bucket_more : (buckets : List (Vec Burst Global)) (at : ℕ) (old new : Vec Burst Global) (burst : Burst) (k : ℕ) → at < length buckets → k < length buckets
    → old ≡ get_or buckets at old → new.items ≡ old.items ++ burst ∷ [] → bucket_of burst.start ≡ at
    → ((j : ℕ) → j < length buckets → IsBucket buckets j) → IsBucket (slice_set buckets at new) k
bucket_more buckets at old new burst k inside within read pushed is each d =
    let Has = λ (n : ℕ) (b : Burst). bucket_of b.start ≡ n in
    elim (cases_eq k at) [
      | inl same ↦
          let was = subst (λ (v : Vec Burst Global). All (Has at) v.items) (sym read) (each at inside old) in
          let now = subst (λ (xs : List Burst). All (Has at) xs) (sym pushed) (All-push (Has at) old.items burst was is) in
          let there = subst (λ (v : Vec Burst Global). All (Has at) v.items) (sym (get_or-set_same buckets at new d inside)) now in
          subst (λ (n : ℕ). All (Has n) (get_or (slice_set buckets at new) n d).items) (sym same) there
      | inr other ↦ subst (λ (v : Vec Burst Global). All (Has k) v.items) (sym (get_or-set_other buckets at k new d other)) (each k within d)
    ]

-- a burst of a lower bucket begins earlier
earlier : (a b : Burst) → bucket_of a.start < bucket_of b.start → IsNotAfter a b
earlier a b less =
    let begins : a.start < b.start = omega arith in
    record { start = omega arith; from = λ same. absurd (omega arith); to = λ same. absurd (omega arith) }

-- the bursts of the buckets so far, in order, and all of lower buckets than the next
pub record IsOrdered (buckets : List (Vec Burst Global)) (count : ℕ) (ordered : List Burst) : Type 0 where
  pub moved : IsPermutation (all_of (take count buckets)) ordered
  pub pairs : AllPairs IsNotAfter ordered
  pub below : All (λ burst. bucket_of burst.start < count) ordered

pub IsOrdered-more : (buckets : List (Vec Burst Global)) (i : ℕ) (bucket : Vec Burst Global) (sorted ordered : List Burst) → i < length buckets → bucket ≡ get_or buckets i bucket
    → IsBucket buckets i → IsPermutation bucket.items sorted → AllPairs IsNotAfter sorted → IsOrdered buckets i ordered → IsOrdered buckets (i + 1) (ordered ++ sorted)
IsOrdered-more buckets i bucket sorted ordered within is own shuffled pairs so_far =
    let mine = subst (λ (v : Vec Burst Global). All (λ (b : Burst). bucket_of b.start ≡ i) v.items) (sym is) (own bucket) in
    let here = All-permutation (λ (b : Burst). bucket_of b.start ≡ i) bucket.items sorted shuffled mine in
    let taken : all_of (take (i + 1) buckets) ≡ all_of (take i buckets) ++ bucket.items =
    ap all_of (take_more buckets i bucket within)
    ∙ flat_map-append (λ (v : Vec Burst Global). v.items) (take i buckets) (get_or buckets i bucket ∷ [])
    ∙ ap (λ (xs : List Burst). all_of (take i buckets) ++ xs) (append-nil (get_or buckets i bucket).items ∙ ap (λ (v : Vec Burst Global). v.items) (sym is)) in
    record {
      moved = subst (λ (xs : List Burst). IsPermutation xs (ordered ++ sorted)) (sym taken) (IsPermutation-append (all_of (take i buckets)) ordered bucket.items sorted so_far.moved shuffled);
      pairs = AllPairs-append IsNotAfter ordered sorted so_far.pairs pairs (λ k d inside j e behind.
          earlier (get_or ordered k d) (get_or sorted j e) (omega (arith, so_far.below k d inside, here j e behind)));
      below = All-append (λ (b : Burst). bucket_of b.start < i + 1) ordered sorted (λ k d inside. omega (arith, so_far.below k d inside)) (λ k d inside. omega (arith, here k d inside));
    }
