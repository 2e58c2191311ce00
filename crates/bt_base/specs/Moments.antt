-- What a disk in memory is seen as: what it held at each moment so far, and what a crash at those moments may have left.
use Rattle.std.proofs.Common.{◌≡◌, ◌⊎◌, ◌↔◌, inl, inr, ⊎_elim, ℕ, zero, suc, ◌+◌, ◌-◌, ◌≤◌, List, [], ◌∷◌, length, take, refl, sym, ◌∙◌, subst, arith}
use Rattle.std.specs.Prelude.{Contains, map}
use Rattle.std.proofs.lemmas.List.{take_all}
use Rattle.std.proofs.lemmas.List.Elements.{Contains-append_left, Contains-append_right, Contains-append_cases, Contains-push, Contains-push_cases}
use Rattle.std.proofs.lemmas.Bool.{cases_eq, cases_order}
use Rattle.bt_outside.specs.Crash.{Crashes, MayLeave}
use Rattle.bt_outside.proofs.Moments.{left_now}
use Rattle.bt_base.specs.Medium.{IsLeft, Medium}

-- the bytes of the last sync, and the bytes as they read
pub record Held : Type 0 where
  pub synced : List ℕ
  pub bytes : List ℕ

-- the first bytes, so many and up to so many more
abbrev pub firsts : ℕ → ℕ → List ℕ → List (List ℕ)
firsts from zero bytes = take from bytes ∷ []
firsts from (suc more) bytes = take (from + suc more) bytes ∷ firsts from more bytes

-- what a crash may leave of what is held
abbrev pub left_of : Held → List (List ℕ)
left_of held = held.synced ∷ firsts (length held.synced) (length held.bytes) held.bytes

-- what was held at each moment before, and what is held now
pub record Life : Type 0 where
  pub past : List Held
  pub last : Held

-- what a crash at each of these moments may have left
abbrev pub crashes_of : Life → Crashes
crashes_of life = record { past = map left_of life.past; now = left_of life.last }

within : (a b : ℕ) → (a ≤ b) ⊎ (b ≤ a)
within a b = ⊎_elim (λ same. inl (omega arith)) (λ other. ⊎_elim (λ less. inl (omega arith)) (λ more. inr (omega arith)) other) (cases_order a b)

from_firsts : (from more : ℕ) (bytes left : List ℕ) → Contains (firsts from more bytes) left → (kept : ℕ) × (from ≤ kept) × (left ≡ take kept bytes)
from_firsts from zero bytes left has = ⊎_elim (λ none. absurd (let lt = none.1 in omega (arith, lt))) (λ is. (from, omega arith, sym is)) (Contains-push_cases [] (take from bytes) left has)
from_firsts from (suc more) bytes left has =
    ⊎_elim (λ here. ⊎_elim (λ none. absurd (let lt = none.1 in omega (arith, lt))) (λ is. (from + suc more, omega arith, sym is)) (Contains-push_cases [] (take (from + suc more) bytes) left here))
    (λ there. from_firsts from more bytes left there)
    (Contains-append_cases (take (from + suc more) bytes ∷ []) (firsts from more bytes) left has)

to_firsts : (from more less : ℕ) (bytes : List ℕ) → less ≤ more → Contains (firsts from more bytes) (take (from + less) bytes)
to_firsts from zero less bytes small =
    let none : from + less ≡ from = omega arith in
    subst (λ (k : ℕ). Contains (firsts from zero bytes) (take k bytes)) (sym none) (Contains-push [] (take from bytes))
to_firsts from (suc more) less bytes small = ⊎_elim
    (λ is. subst (λ (k : ℕ). Contains (firsts from (suc more) bytes) (take (from + k) bytes)) (sym is)
    (Contains-append_left (take (from + suc more) bytes ∷ []) (firsts from more bytes) (take (from + suc more) bytes) (Contains-push [] (take (from + suc more) bytes))))
    (λ isnt. Contains-append_right (take (from + suc more) bytes ∷ []) (firsts from more bytes) (take (from + less) bytes) (to_firsts from more less bytes (omega arith)))
    (cases_eq less (suc more))

pub from_left : (held : Held) (left : List ℕ) → Contains (left_of held) left → IsLeft held.synced held.bytes left
from_left held left has = ⊎_elim
    (λ here. ⊎_elim (λ none. absurd (let lt = none.1 in omega (arith, lt))) (λ is. inl (sym is)) (Contains-push_cases [] held.synced left here))
    (λ there. inr (from_firsts (length held.synced) (length held.bytes) held.bytes left there))
    (Contains-append_cases (held.synced ∷ []) (firsts (length held.synced) (length held.bytes) held.bytes) left has)

part_left : (held : Held) (kept : ℕ) → length held.synced ≤ kept → Contains (firsts (length held.synced) (length held.bytes) held.bytes) (take kept held.bytes)
part_left held kept enough =
    let from = length held.synced in
    let most = length held.bytes in
    let all : take kept held.bytes ≡ take kept held.bytes = refl in
    ⊎_elim
    (λ few. let less = kept - from in let sum : from + less ≡ kept = omega arith in
    subst (λ (k : ℕ). Contains (firsts from most held.bytes) (take k held.bytes)) sum (to_firsts from most less held.bytes (omega arith)))
    (λ many. let same : take (from + most) held.bytes ≡ take kept held.bytes = take_all (from + most) held.bytes (omega arith) ∙ sym (take_all kept held.bytes (omega arith)) in
    subst (λ (l : List ℕ). Contains (firsts from most held.bytes) l) same (to_firsts from most most held.bytes (omega arith)))
    (within kept (from + most))

to_left : (held : Held) (left : List ℕ) → IsLeft held.synced held.bytes left → Contains (left_of held) left
to_left held left (inl is) = subst (λ (l : List ℕ). Contains (left_of held) l) (sym is)
    (Contains-append_left (held.synced ∷ []) (firsts (length held.synced) (length held.bytes) held.bytes) held.synced (Contains-push [] held.synced))
to_left held left (inr (kept, enough, is)) = subst (λ (l : List ℕ). Contains (left_of held) l) (sym is)
    (Contains-append_right (held.synced ∷ []) (firsts (length held.synced) (length held.bytes) held.bytes) (take kept held.bytes) (part_left held kept enough))

pub model : (life : Life) (left : List ℕ) → MayLeave (crashes_of life) left ↔ IsLeft life.last.synced life.last.bytes left
model life left = (
  λ has. from_left life.last left ((left_now (crashes_of life) left).0 has),
  λ is. (left_now (crashes_of life) left).1 (to_left life.last left is),
)

-- what the disk tells
abbrev pub medium_of : Life → Medium
medium_of life = record { bytes = life.last.bytes; synced = life.last.synced; crashes = crashes_of life; model = model life }
