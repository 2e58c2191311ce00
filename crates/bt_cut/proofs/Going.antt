-- Attempts one after the other.
use Rattle.std.proofs.Common.{◌≡◌, ℕ, suc, ◌+◌, ◌-◌, ◌<◌, List, sym, subst, arith}
use Rattle.bt_net.specs.Network.{Net}
use Rattle.bt_demand.specs.declared.demand.Link.{Link}
use Rattle.bt_cut.specs.Generator.{next}
use Rattle.bt_cut.specs.Made.{attempt_at, attempts, Tries, TriesAll}

-- what the attempts that are left make of these links, all attempts make of none
abbrev pub GoesOn : Net → ℕ → ℕ → ℕ → List Link → List Link → ℕ → ℕ → Type 0
GoesOn net terminals count number begun links left state =
    (after : List Link) → TriesAll net links (attempts terminals left state) after → TriesAll net begun (attempts terminals count number) after

-- one attempt less is left
pub one_less : (net : Net) (terminals count number place state later : ℕ) (begun old new : List Link) → place < count → later ≡ next (next (next state))
    → Tries net old (attempt_at terminals state) new → GoesOn net terminals count number begun old (count - place) state → GoesOn net terminals count number begun new (count - (place + 1)) later
one_less net terminals count number place state later begun old new within later_is tried so = λ after rest.
    let left : count - place ≡ suc (count - (place + 1)) = omega (arith, within) in
    let From : ℕ → Type 0 = λ s. TriesAll net new (attempts terminals (count - (place + 1)) s) after in
    let Left : ℕ → Type 0 = λ n. TriesAll net old (attempts terminals n state) after in
    so after (subst Left (sym left) (new, tried, subst From later_is rest))
