-- The index of the plans, with one plan more.
use Rattle.std.proofs.Common.{◌≡◌, ℕ, ◌+◌, ◌-◌, ◌<◌, ◌≤◌, List, length, take, get_or, arith, [], ◌∷◌, ◌++◌, map, reverse, All, sym, ◌∙◌, ap, subst}
use Rattle.std.proofs.lemmas.List.{map-append, reverse-append, map_more, take_more, reverse-reverse, length-reverse, get_or-reverse}
use Rattle.std.proofs.lemmas.List.Elements.{All-cons, All-more}
use Rattle.bt_frame.specs.declared.numbers.EditionNo.{EditionNo}
use Rattle.bt_demand.specs.declared.burst.Burst.{Burst}
use Rattle.bt_demand.specs.declared.plan.Plan.{Plan}
use Rattle.bt_machines.specs.Plans.{IsStored, StartsEmpty, newest_of}
use Rattle.bt_site.specs.Plans.{Planned, Index, IsIndexed, plans_told}
use Rattle.bt_site.specs.Shares.{shares_of}

-- the plans so far, with one more
module _ (given : List Plan) (k : ℕ) (plan : Plan) (within : k < length given) (here : plan ≡ get_or given k plan) where
  pub mapped-next : {X : Type 0} (f : Plan → X) → map f (take k given) ++ f plan ∷ [] ≡ map f (take (k + 1) given)
  mapped-next f = ap (λ (p : Plan). map f (take k given) ++ f p ∷ []) here ∙ sym (map_more f given k plan within)

  pub stored-next : All IsStored (take k given) → IsStored plan → All IsStored (take (k + 1) given)
  stored-next each stored = All-more IsStored given k plan within each (subst IsStored here stored)

-- a trace with one plan more
pub told-more : (old new : List (Plan × Unit {0})) (plan : Plan) → new ≡ old ++ (plan, tt) ∷ [] → plans_told new ≡ plan ∷ plans_told old
told-more old new plan more =
    ap plans_told more
    ∙ ap (λ (list : List Plan). reverse list) (map-append (λ (one : Plan × Unit {0}). one.0) old ((plan, tt) ∷ []))
    ∙ reverse-append (map (λ (one : Plan × Unit {0}). one.0) old) (plan ∷ [])

-- a trace that tells the plans that were given
pub told-whole : (given : List Plan) (told : List (Plan × Unit {0})) → map (λ (one : Plan × Unit {0}). one.0) told ≡ given → plans_told told ≡ reverse given
told-whole given told e = ap (λ (list : List Plan). reverse list) e

pub traced-next : (given : List Plan) (k : ℕ) (plan : Plan) (old new : List (Plan × Unit {0})) → k < length given → plan ≡ get_or given k plan
    → map (λ (one : Plan × Unit {0}). one.0) old ≡ take k given → new ≡ old ++ (plan, tt) ∷ [] → map (λ (one : Plan × Unit {0}). one.0) new ≡ take (k + 1) given
traced-next given k plan old new within here so more =
    ap (λ (list : List (Plan × Unit {0})). map (λ (one : Plan × Unit {0}). one.0) list) more
    ∙ map-append (λ (one : Plan × Unit {0}). one.0) old ((plan, tt) ∷ [])
    ∙ ap (λ (list : List Plan). list ++ plan ∷ []) so
    ∙ ap (λ (p : Plan). take k given ++ p ∷ []) here ∙ sym (take_more given k plan within)

all-back : (P : Plan → Type 0) (all : List Plan) → All P all → All P (reverse all)
all-back P all each k d within =
    let short : k < length all = omega (arith, within, length-reverse all) in
    subst P (sym (get_or-reverse all k d short)) (each (length all - 1 - k) d (omega arith))

pub stored-back : (given all : List Plan) → all ≡ reverse given → All IsStored given → All IsStored all
stored-back given all are stored = subst (λ (list : List Plan). All IsStored list) (sym are) (all-back IsStored given stored)

-- the plans that were given first
pub indexed-first : (planned : Planned) (index : Index) (given : List Plan) → planned.terminals ≤ 64 → StartsEmpty (reverse given) → All IsStored given
    → planned.all ≡ reverse given → index.editions ≡ map (λ (plan : Plan). plan.edition) given
    → index.shares ≡ map (λ (plan : Plan). shares_of planned.terminals plan.bursts) given → IsIndexed planned index
indexed-first planned index given few starts stored are editions shares =
    let back : given ≡ reverse planned.all = sym (reverse-reverse given) ∙ ap reverse (sym are) in
    record {
      starts = subst (λ (list : List Plan). StartsEmpty list) (sym are) starts;
      stored = stored-back given planned.all are stored;
      few = few;
      editions = editions ∙ ap (λ (list : List Plan). map (λ (plan : Plan). plan.edition) list) back;
      shares = shares ∙ ap (λ (list : List Plan). map (λ (plan : Plan). shares_of planned.terminals plan.bursts) list) back;
    }

-- one plan more
newer-starts : (plan : Plan) (all : List Plan) → StartsEmpty all → (newest_of all).0 < plan.edition.0 → StartsEmpty (plan ∷ all)
newer-starts plan [] starts newer = absurd starts
newer-starts plan (before ∷ rest) starts newer = (newer, starts)

pub mapped-end : {X Y : Type 0} (f : X → Y) (xs : List X) (x : X) → map f (reverse (x ∷ xs)) ≡ map f (reverse xs) ++ f x ∷ []
mapped-end {X} f xs x = ap (λ (list : List X). map f list) (reverse-append (x ∷ []) xs) ∙ map-append f (reverse xs) (x ∷ [])

pub indexed-installed : (old new : Planned) (index next : Index) (plan : Plan) → IsIndexed old index → (newest_of old.all).0 < plan.edition.0 → IsStored plan
    → new.terminals ≡ old.terminals → new.all ≡ plan ∷ old.all → next.editions ≡ index.editions ++ plan.edition ∷ []
    → next.shares ≡ index.shares ++ shares_of old.terminals plan.bursts ∷ [] → IsIndexed new next
indexed-installed old new index next plan is newer stored terminals more editions shares =
    let share : Plan → List (List Burst) = λ (p : Plan). shares_of old.terminals p.bursts in
    let edition : Plan → EditionNo = λ (p : Plan). p.edition in
    let all : plan ∷ old.all ≡ new.all = sym more in
    record {
      starts = subst (λ (list : List Plan). StartsEmpty list) all (newer-starts plan old.all is.starts newer);
      stored = subst (λ (list : List Plan). All IsStored list) all (All-cons IsStored plan old.all stored is.stored);
      few = rw terminals is.few;
      editions = editions ∙ ap (λ (list : List EditionNo). list ++ plan.edition ∷ []) is.editions ∙ sym (mapped-end edition old.all plan)
          ∙ ap (λ (list : List Plan). map edition (reverse list)) all;
      shares = shares ∙ ap (λ (list : List (List (List Burst))). list ++ share plan ∷ []) is.shares ∙ sym (mapped-end share old.all plan)
          ∙ ap (λ (list : List Plan). map share (reverse list)) all ∙ ap (λ (n : ℕ). map (λ (p : Plan). shares_of n p.bursts) (reverse new.all)) (sym terminals);
    }

-- the same index
pub indexed-again : (planned : Planned) (index next : Index) → IsIndexed planned index → next.editions ≡ index.editions → next.shares ≡ index.shares → IsIndexed planned next
indexed-again planned index next is editions shares = record {
  starts = is.starts;
  stored = is.stored;
  few = is.few;
  editions = editions ∙ is.editions;
  shares = shares ∙ is.shares;
}
