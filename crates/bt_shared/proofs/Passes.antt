-- The passes of a line in one vector, as it opens and as it closes.
use Rattle.std.proofs.Common.{◌≡◌, ℕ, zero, suc, ◌+◌, ◌<◌, List, [], ◌∷◌, ◌++◌, length, get_or, None, sym, refl, ap, subst, ◌∙◌, arith, length-append}
use mathlib.Core.Option.{some}
use lib.ListN.{get_elem?}
use Rattle.bt_shared.specs.declared.object.TurnEntry.{TurnEntry}
use Rattle.bt_shared.specs.declared.turn_view.TurnView.{TurnView}
use Rattle.bt_shared.specs.Passes.{HasSeen}
use Rattle.bt_shared.specs.Turns.{joined}

module _ {A : Type 0} where
  pub get_below : (l m : List A) (i : ℕ) (d : A) → i < length l → get_or (l ++ m) i d ≡ get_or l i d
  get_below [] m i d h = absurd (omega arith)
  get_below (x ∷ xs) m zero d h = refl
  get_below (x ∷ xs) m (suc i) d h = get_below xs m i d (omega arith)

  pub get_last : (l : List A) (a : A) (d : A) → get_or (l ++ a ∷ []) (length l) d ≡ a
  get_last [] a d = refl
  get_last (x ∷ xs) a d = get_last xs a d

  -- what holds of each by index holds after a push
  pub each_pushed : (Q : ℕ → A → Type 0) (l : List A) (a : A) → ((i : ℕ) (d : A) → i < length l → Q i (get_or l i d)) → Q (length l) a → (i : ℕ) (d : A) → i < length (l ++ a ∷ []) → Q i (get_or (l ++ a ∷ []) i d)
  each_pushed Q [] a each last zero d h = last
  each_pushed Q [] a each last (suc i) d h = absurd (omega arith)
  each_pushed Q (x ∷ xs) a each last zero d h = each zero d (omega arith)
  each_pushed Q (x ∷ xs) a each last (suc i) d h = each_pushed (λ k. Q (suc k)) xs a (λ k e b. each (suc k) e (omega arith)) last i d (omega arith)

  pub pushed_each : (Q : ℕ → A → Type 0) (l new : List A) (a : A) → new ≡ l ++ a ∷ [] → ((i : ℕ) (d : A) → i < length l → Q i (get_or l i d)) → Q (length l) a → (i : ℕ) (d : A) → i < length new → Q i (get_or new i d)
  pushed_each Q l new a is each last = subst (λ (xs : List A). (i : ℕ) (d : A) → i < length xs → Q i (get_or xs i d)) (sym is) (each_pushed Q l a each last)

  pub pushed_length : (l new : List A) (a : A) → new ≡ l ++ a ∷ [] → length new ≡ length l + 1
  pushed_length l new a is = ap length is ∙ length-append l (a ∷ [])

module _ {O C R A : Type 0} (view : A → TurnView O C R) where
  abbrev V : Type 0
  V = TurnView O C R

  -- the passes after the first that are not yet taken in, and the first's view
  pub record Taking (all now : List A) (lead : V) : Type 0 where
    pub number : lead.number ≡ 0
    pub base : lead.base ≡ None
    pub count : lead.count ≡ length all
    pub sum : length now + 1 + length lead.kept ≡ length all
    pub same : (i : ℕ) (d : A) → i < length now → get_or now i d ≡ get_or all (i + 1) d
    pub seen : (d : A) → lead.seen ≡ (view (get_or all 0 d)).seen
    pub kept : (i : ℕ) (d : A) → i < length lead.kept → get_elem? lead.kept i ≡ some (view (get_or all (length now + 1 + i) d)).seen

  -- the pass that is taken in next is one of all
  pub taking_has : (all now new : List A) (lead : V) (p : A) (P : A → Type 0) → Taking all now lead → now ≡ new ++ p ∷ [] → ((i : ℕ) (d : A) → i < length all → P (get_or all i d)) → P p
  taking_has all now new lead p P t is each = let long : length now ≡ length new + 1 = ap length is ∙ length-append new (p ∷ []) in let sum = t.sum in
      let at : p ≡ get_or all (length new + 1) p = sym (get_last new p p) ∙ (ap (λ l. get_or l (length new) p) (sym is) ∙ t.same (length new) p (omega (arith, long))) in
      subst P (sym at) (each (length new + 1) p (omega (arith, long, sum)))

  -- the pass that is taken in next has the number that the seat 0 expects
  pub taking_number : (all now new : List A) (lead : V) (p : A) → Taking all now lead → now ≡ new ++ p ∷ [] → ((i : ℕ) (d : A) → i < length all → (view (get_or all i d)).number ≡ i) → (view p).number ≡ length new + 1
  taking_number all now new lead p t is order = let long : length now ≡ length new + 1 = ap length is ∙ length-append new (p ∷ []) in let sum = t.sum in
      let at : p ≡ get_or all (length new + 1) p = sym (get_last new p p) ∙ (ap (λ l. get_or l (length new) p) (sym is) ∙ t.same (length new) p (omega (arith, long))) in
      ap (λ q. (view q).number) at ∙ order (length new + 1) p (omega (arith, long, sum))

  pub taking_sum : (all now new : List A) (lead : V) (p : A) → Taking all now lead → now ≡ new ++ p ∷ [] → ((i : ℕ) (d : A) → i < length all → (view (get_or all i d)).number ≡ i) → (view p).number + 1 + length lead.kept ≡ lead.count
  taking_sum all now new lead p t is order = let long : length now ≡ length new + 1 = ap length is ∙ length-append new (p ∷ []) in let sum = t.sum in let count = t.count in let number = taking_number all now new lead p t is order in omega (arith, long, sum, count, number)

  pub taking_next : (all now new : List A) (lead : V) (p : A) → Taking all now lead → now ≡ new ++ p ∷ [] → Taking all new (joined lead (view p))
  taking_next all now new lead p t is = let long : length now ≡ length new + 1 = ap length is ∙ length-append new (p ∷ []) in let old_sum = t.sum in record {
    number = t.number;
    base = t.base;
    count = t.count;
    sum = let k : ℕ = length lead.kept in let s : length now + 1 + k ≡ length all = old_sum in let goal : length new + 1 + suc k ≡ length all = omega (arith, long, s) in goal;
    same = λ i d h. sym (get_below new (p ∷ []) i d h) ∙ (ap (λ l. get_or l i d) (sym is) ∙ t.same i d (omega (arith, long, h)));
    seen = t.seen;
    kept = kept_next;
  }
    where
      long : length now ≡ length new + 1
      long = ap length is ∙ length-append new (p ∷ [])

      at : (d : A) → p ≡ get_or all (length new + 1) d
      at d = sym (get_last new p d) ∙ (ap (λ l. get_or l (length new) d) (sym is) ∙ t.same (length new) d (omega (arith, long)))

      kept_next : (i : ℕ) (d : A) → i < length ((view p).seen ∷ lead.kept) → get_elem? ((view p).seen ∷ lead.kept) i ≡ some (view (get_or all (length new + 1 + i) d)).seen
      kept_next zero d h = let here : length new + 1 ≡ length new + 1 + 0 = omega arith in ap (λ q. some (view q).seen) (at d ∙ ap (λ k. get_or all k d) here)
      kept_next (suc i) d h = let there : length now + 1 + i ≡ length new + 1 + suc i = omega (arith, long) in t.kept i d (omega arith) ∙ ap (λ k. some (view (get_or all k d)).seen) there

  pub taking_all : (all now : List A) (lead : V) → Taking all now lead → length now ≡ 0 → length lead.kept + 1 ≡ lead.count
  taking_all all now lead t none_left = let sum = t.sum in let count = t.count in omega (arith, sum, count, none_left)

  -- the log begins with what each pass had seen, and has the entries of each caller that its pass had seen
  pub taking_ends : (all now : List A) (lead : V) (log : List (TurnEntry C R)) → Taking all now lead → length now ≡ 0 → HasSeen log 0 lead.seen
      → ((i : ℕ) (list : List (TurnEntry C R)) → get_elem? lead.kept i ≡ some list → HasSeen log (1 + i) list) → (i : ℕ) (d : A) → i < length all → HasSeen log i (view (get_or all i d)).seen
  taking_ends all now lead log t none_left first kept zero d h = subst (HasSeen log 0) (t.seen d) first
  taking_ends all now lead log t none_left first kept (suc i) d h = let sum = t.sum in let at : length now + 1 + i ≡ suc i = omega (arith, none_left) in let next : 1 + i ≡ suc i = omega arith in
      let here = t.kept i d (omega (arith, sum, none_left, h)) in subst (λ (z : ℕ × ℕ). HasSeen log z.0 (view (get_or all z.1 d)).seen) (λ j. (next j, at j)) (kept i (view (get_or all (length now + 1 + i) d)).seen here)
