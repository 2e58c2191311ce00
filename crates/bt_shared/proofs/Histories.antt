-- Lists, histories and their entries.
use Rattle.std.proofs.Common.{◌≡◌, ◌≢◌, ◌⊎◌, ℕ, zero, suc, ◌+◌, ◌<◌, ◌≤◌, cond, eqb, List, [], ◌∷◌, ◌++◌, length, set, sum_by, Option, Some, None, sym, refl, ap, subst, ◌∙◌, inl, inr, ⊎_elim, arith, length-append, ne_eqb, eq-eqb, append_assoc, append-nil}
use Rattle.std.proofs.lemmas.List.Sums.{sum_by-cons}
use Rattle.std.proofs.lemmas.List.Elements.{filter-append}
use mathlib.Core.Option.{some, some-injective, some-ne-none}
use lib.ListN.{get_elem?}
use Rattle.bt_shared.specs.declared.object.TurnEntry.{TurnEntry}
use Rattle.bt_shared.specs.Legal.{Legal, calls_by}
use Rattle.bt_shared.specs.Passes.{HasSeen}

module _ {A : Type 0} where
  pub none_or : (o : Option A) → (o ≡ None) ⊎ ((a : A) × (o ≡ Some a))
  none_or None = inl refl
  none_or (Some a) = inr (a, refl)

  pub sum_set : (f : A → ℕ) (l : List A) (i : ℕ) (a b : A) → get_elem? l i ≡ some a → sum_by f (set l i b) + f a ≡ sum_by f l + f b
  sum_set f [] i a b e = absurd (some-ne-none a (sym e))
  sum_set f (x ∷ xs) zero a b e = let new = sum_by-cons f b xs in let old = sum_by-cons f x xs in let same : f x ≡ f a = ap f (some-injective x a e) in
      ap (λ n. n + f a) new ∙ (omega arith ∙ ap (λ n. n + f b) (sym old))
  sum_set f (x ∷ xs) (suc i) a b e = let new = sum_by-cons f x (set xs i b) in let old = sum_by-cons f x xs in let more = sum_set f xs i a b e in
      ap (λ n. n + f a) new ∙ (omega arith ∙ ap (λ n. n + f b) (sym old))

  pub set_at : (l : List A) (i : ℕ) (a b : A) → get_elem? l i ≡ some a → get_elem? (set l i b) i ≡ some b
  set_at [] i a b e = absurd (some-ne-none a (sym e))
  set_at (x ∷ xs) zero a b e = refl
  set_at (x ∷ xs) (suc i) a b e = set_at xs i a b e

  pub at_below : (l : List A) (i : ℕ) (a : A) → get_elem? l i ≡ some a → i < length l
  at_below [] i a e = absurd (some-ne-none a (sym e))
  at_below (x ∷ xs) zero a e = omega arith
  at_below (x ∷ xs) (suc i) a e = omega (arith, at_below xs i a e)

  pub there_is : (l : List A) (i : ℕ) → i < length l → (a : A) × (get_elem? l i ≡ some a)
  there_is [] i h = absurd (omega arith)
  there_is (x ∷ xs) zero h = (x, refl)
  there_is (x ∷ xs) (suc i) h = there_is xs i (omega arith)

  pub at_push : (l : List A) (a b : A) (j : ℕ) → get_elem? (l ++ a ∷ []) j ≡ some b → (get_elem? l j ≡ some b) ⊎ ((j ≡ length l) × (a ≡ b))
  at_push [] a b zero e = inr (refl, some-injective a b e)
  at_push [] a b (suc j) e = absurd (some-ne-none b (sym e))
  at_push (x ∷ xs) a b zero e = inl e
  at_push (x ∷ xs) a b (suc j) e = ⊎_elim inl (λ t. inr (let n = t.0 in omega arith, t.1)) (at_push xs a b j e)

  pub sum_within : (f : A → ℕ) → ((a : A) → f a ≤ 1) → (l : List A) → sum_by f l ≤ length l
  sum_within f small [] = omega arith
  sum_within f small (x ∷ xs) = omega (arith, sum_by-cons f x xs, small x, sum_within f small xs)

  pub not_longer : (l : List A) (a : A) → l ≡ l ++ a ∷ [] → ⊥
  not_longer l a e = let same = ap length e in let long = length-append l (a ∷ []) in let n : ℕ = length l in let m : ℕ = length (l ++ a ∷ []) in let p : n ≡ m = same in let q : m ≡ n + 1 = long in absurd (omega arith)

module _ {C R : Type 0} where
  pub calls_more : (number : ℕ) (log : List (TurnEntry C R)) (e : TurnEntry C R) → e.caller ≡ number → calls_by number (log ++ e ∷ []) ≡ calls_by number log ++ e ∷ []
  calls_more number log e same = filter-append (λ (entry : TurnEntry C R). eqb entry.caller number) log (e ∷ []) ∙ ap (λ b. calls_by number log ++ cond b (e ∷ []) []) (eq-eqb e.caller number same)

  pub calls_same : (number : ℕ) (log : List (TurnEntry C R)) (e : TurnEntry C R) → e.caller ≢ number → calls_by number (log ++ e ∷ []) ≡ calls_by number log
  calls_same number log e other = filter-append (λ (entry : TurnEntry C R). eqb entry.caller number) log (e ∷ []) ∙ (ap (λ b. calls_by number log ++ cond b (e ∷ []) []) (ne_eqb e.caller number other) ∙ append-nil (calls_by number log))

  pub seen_longer : (log : List (TurnEntry C R)) (e : TurnEntry C R) (number : ℕ) (list : List (TurnEntry C R)) → e.caller ≢ number → HasSeen log number list → HasSeen (log ++ e ∷ []) number list
  seen_longer log e number list other seen = record {
    begins = (seen.begins.0 ++ e ∷ [], sym (append_assoc list seen.begins.0 (e ∷ [])) ∙ ap (λ l. l ++ e ∷ []) seen.begins.1);
    own = calls_same number log e other ∙ seen.own;
  }

  pub seen_all : (log : List (TurnEntry C R)) (number : ℕ) → HasSeen log number log
  seen_all log number = record { begins = ([], append-nil log); own = refl }

-- the entries are steps, and so they are with one more
pub legal_more : {O C R : Type 0} (steps : O → ℕ → C → R → O → Type 0) (from mid to : O) (log : List (TurnEntry C R)) (e : TurnEntry C R) → Legal steps from log mid → steps mid e.caller e.call e.reply to → Legal steps from (log ++ e ∷ []) to
legal_more {O} steps from mid to [] e legal one = (to, (subst (λ (o : O). steps o e.caller e.call e.reply to) legal one, refl))
legal_more {O} steps from mid to (x ∷ log) e legal one = (legal.0, (legal.1.0, legal_more steps legal.0 mid to log e legal.1.1 one))

-- what each step keeps, legal entries keep
pub legal_keeps : {O C R : Type 0} (steps : O → ℕ → C → R → O → Type 0) (P : O → Type 0) → ((o : O) (k : ℕ) (c : C) (r : R) (p : O) → steps o k c r p → P o → P p)
    → (from to : O) (log : List (TurnEntry C R)) → Legal steps from log to → P from → P to
legal_keeps steps P kept from to [] legal here = subst P (sym legal) here
legal_keeps steps P kept from to (x ∷ log) legal here = legal_keeps steps P kept legal.0 to log legal.1.1 (kept from x.caller x.call x.reply legal.0 legal.1.0 here)

-- the value of the slot in hand
abbrev pub held_value : {S : Type 0} → S → List (ℕ × S) → S
held_value d [] = d
held_value d (x ∷ xs) = x.1

pub same_held : {S : Type 0} (a b : S) (list : List (ℕ × S)) → list ≡ (0, a) ∷ [] → ((l : List (ℕ × S)) × (list ≡ (0, b) ∷ l)) → b ≡ a
same_held a b list one other = ap (held_value a) (sym other.1 ∙ one)
