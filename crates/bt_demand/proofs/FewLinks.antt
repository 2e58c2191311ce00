-- Links between 64 terminals are few, since each stands once.
use Rattle.std.proofs.Common.{◌≡◌, ℕ, zero, suc, ◌+◌, ◌*◌, ◌<◌, ◌≤◌, List, [], ◌∷◌, length, get_or, ⊎_elim, arith}
use Rattle.std.proofs.lemmas.Bool.{cases_eq}
use Rattle.bt_net.specs.Network.{Net}
use Rattle.bt_demand.specs.declared.demand.Link.{Link}
use Rattle.bt_demand.specs.Demand.{ends_of, IsBefore, IsDemand}
use Rattle.bt_demand.specs.Traffic.{AreOfNetwork}

-- the number of a link's ends, by their order
abbrev number_of_ends : Link → ℕ
number_of_ends link = link.from.0 * 64 + link.to.0

rises : (a b : Link) → IsBefore (ends_of a) (ends_of b) → a.to.0 < 64 → number_of_ends a < number_of_ends b
rises a b before small = ⊎_elim
    (λ (same : a.from.0 ≡ b.from.0). omega (arith, same, before.to same))
    (λ (other : a.from.0 ≡ b.from.0 → ⊥). omega (arith, other, before.from, small))
    (cases_eq a.from.0 b.from.0)

at_least : (net : Net) (links : List Link) (k : ℕ) (d : Link) → IsDemand links → AreOfNetwork net links → length net.terminals ≤ 64 → k < length links → k ≤ number_of_ends (get_or links k d)
at_least net links zero d is of_network few within = omega arith
at_least net links (suc k) d is of_network few within =
    let before = is.ordered k (suc k) d (omega arith) within in
    let small : (get_or links k d).to.0 < 64 = omega (arith, (of_network k d (omega arith)).1, few) in
    omega (arith, at_least net links k d is of_network few (omega arith), rises (get_or links k d) (get_or links (suc k) d) before small)

pub few_links : (net : Net) (links : List Link) → IsDemand links → AreOfNetwork net links → length net.terminals ≤ 64 → length links ≤ 4096
few_links net [] is of_network few = omega arith
few_links net (first ∷ rest) is of_network few =
    let last = length rest in
    let within : last < length (first ∷ rest) = omega arith in
    let ends = of_network last first within in
    omega (arith, at_least net (first ∷ rest) last first is of_network few within, ends.0, ends.1, few)
