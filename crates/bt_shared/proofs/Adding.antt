-- The exchange that adds a plan keeps the rule of the log.
use Rattle.std.proofs.Common.{◌≡◌, ℕ, ◌+◌, ◌<◌, ◌≤◌, ◌==◌, Bool, true, false, List, [], ◌∷◌, ◌++◌, length, refl, ap, sym, ◌∙◌, subst, arith, inl, None}
use Rattle.std.proofs.lemmas.List.{append-nil}
use Rattle.std.proofs.lemmas.Bool.Decides.{nat_tests}
use mathlib.Core.List.{IsPrefix}
use prog.Atomic.{either}
use Rattle.logbook.specs.Pages.{Cell, cell, keeps, no_nib, step, Moves, Goes}
use Rattle.bt_demand.specs.declared.plan.Plan.{Plan}
use Rattle.bt_shared.specs.Plans.{next_of, next_edition, Ascends}
use Rattle.bt_shared.specs.Log.{IsKept, Adds}
use Rattle.bt_frame.proofs.Prefixes.{prefix_self}
use Rattle.bt_shared.proofs.Beginnings.{same_next, last_snoc, snoc_ascends}

abbrev pub shown : List Plan → List Plan
shown log = []

abbrev pub moved : List Plan → List Plan → ℕ → Type 0
moved xs ys n = Unit {0}

pub adds_goes : (log v : List Plan) (e : Plan) (old : ℕ) → next_edition v ≡ old → old ≤ e.edition.0 → Ascends log → IsPrefix v log
    → (b : Bool) → (next_edition log == old) ≡ b
    → Goes IsKept shown moved 0 (v, (no_nib, None)) (λ n. either (n == old) (e.edition.0 + 1) n) (Adds (step 0 old (e.edition.0 + 1) e) (v, (no_nib, None))) ((next_edition log, true) ∷ (0, true) ∷ []) log
adds_goes log v e old seen may up pre true is =
    let here : next_edition log ≡ old = grind (arith, nat_tests) in
    let same : v ≡ log = same_next None v log log up pre (prefix_self log) (seen ∙ sym here) in
    let n : either (next_edition log == old) (e.edition.0 + 1) (next_edition log) ≡ next_edition (log ++ e ∷ []) = rw is (sym (ap next_of (last_snoc None log e))) in
    let more : Ascends (log ++ e ∷ []) = snoc_ascends None log e up (subst (λ (k : ℕ). k ≤ e.edition.0) (sym here) may) in (
      keeps,
      e ∷ [],
      None,
      tt,
      record { words = ap (λ (k : ℕ). (k, true) ∷ (0, true) ∷ []) n; ascends = snoc_ascends None log e up (subst (λ (k : ℕ). k ≤ e.edition.0) (sym here) may) },
      inl (refl, refl),
      rw is (ap (λ w. w ++ e ∷ []) (sym same), more),
    )
adds_goes log v e old seen may up pre false is =
    let all : log ++ [] ≡ log = append-nil log in
    let n : either (next_edition log == old) (e.edition.0 + 1) (next_edition log) ≡ next_edition (log ++ []) = rw is (sym (ap next_edition all)) in (
      keeps,
      [],
      None,
      tt,
      record { words = ap (λ (k : ℕ). (k, true) ∷ (0, true) ∷ []) n; ascends = subst Ascends (sym all) up },
      inl (refl, refl),
      rw is tt,
    )

-- whatever the log is, the exchange adds the plan to all that was seen, or changes nothing
pub adds_moves : (v : List Plan) (e : Plan) (old : ℕ) → next_edition v ≡ old → old ≤ e.edition.0
    → Moves IsKept shown moved 0 (v, (no_nib, None)) (λ n. either (n == old) (e.edition.0 + 1) n) (Adds (step 0 old (e.edition.0 + 1) e) (v, (no_nib, None)))
adds_moves v e old seen may cs log kept pre away =
    let P : List Cell → Type 0 = λ c. (0 < length c) × ((cell c 0).1 ≡ true) × Goes IsKept shown moved 0 (v, (no_nib, None)) (λ n. either (n == old) (e.edition.0 + 1) n) (Adds (step 0 old (e.edition.0 + 1) e) (v, (no_nib, None))) c log in
    subst P (sym kept.words) (omega arith, refl, adds_goes log v e old seen may kept.ascends pre (next_edition log == old) refl)
