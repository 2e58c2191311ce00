-- There is no edit between two demands just where they are one.
use Rattle.std.proofs.Common.{◌≡◌, ◌↔◌, ◌==◌, ◌&&◌, Bool, List, [], ◌∷◌, ◌++◌, length, refl, ap, ◌∙◌, arith}
use Rattle.bt_frame.specs.declared.numbers.TermNo.{TermNo}
use Rattle.bt_demand.specs.declared.demand.Link.{Link}
use Rattle.bt_demand.specs.Demand.{IsDemand, units_of, units_where}
use Rattle.bt_look.specs.Compact.{adds_of}
use Rattle.bt_export.specs.Edits.{drops_of, edits_between, surplus}
use Rattle.bt_export.proofs.Common.{common_back, parts}
use Rattle.bt_export.proofs.Beyond.{none_beyond_itself}

-- nothing is dropped and nothing added
none_of_both : (less more : List Link) → drops_of less ++ adds_of more ≡ [] → (less ≡ []) × (more ≡ [])
none_of_both [] [] none = (refl, refl)
none_of_both [] (link ∷ more) none = absurd (omega (arith, ap length none))
none_of_both (link ∷ less) more none = absurd (omega (arith, ap length none))

-- then the demands have the same
same_units : (test : TermNo → TermNo → Bool) (have want : List Link) → IsDemand have → IsDemand want → surplus have want ≡ [] → surplus want have ≡ []
    → units_where test have ≡ units_where test want
same_units test have want is wanted less more =
    omega (arith, parts test have want, parts test want have, common_back test have want is wanted, ap (units_where test) less, ap (units_where test) more)

pub no_edits : ((a b : List Link) → IsDemand a → IsDemand b → ((from to : TermNo) → units_of a from to ≡ units_of b from to) → a ≡ b) → (have want : List Link) → IsDemand have → IsDemand want
    → ((edits_between have want ≡ []) ↔ (have ≡ want))
no_edits tell have want is wanted = (
  λ none.
      let both = none_of_both (surplus have want) (surplus want have) none in
      tell have want is wanted (λ from to. same_units (λ a b. a.0 == from.0 && b.0 == to.0) have want is wanted both.0 both.1),
  λ same.
      ap (λ (l : List Link). edits_between l want) same
      ∙ (ap (λ (l : List Link). drops_of l ++ adds_of (surplus want want)) (none_beyond_itself want) ∙ ap adds_of (none_beyond_itself want)),
)
