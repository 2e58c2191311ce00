-- What a demand asks for is between terminals of the network, and no line has more slots than the checker takes.
use Rattle.std.proofs.Common.{◌≡◌, ℕ, ◌<◌, ◌≤◌, ◌==◌, ◌&&◌, if◌then◌else◌, Bool, true, false, List, [], ◌∷◌, ◌++◌, get_or, sum_by, refl, arith, ⊎_elim}
use Rattle.std.proofs.lemmas.Bool.{cases_eq}
use Rattle.std.proofs.lemmas.Bool.Decides.{nat_tests}
use Rattle.std.proofs.lemmas.List.Sums.{sum_by-cons, get_or-le-sum_by}
use Rattle.bt_frame.specs.declared.limits.TheConstants.{MOST_SUM, MOST_SLOTS}
use Rattle.bt_frame.specs.declared.numbers.TermNo.{TermNo}
use Rattle.bt_net.specs.Network.{Net}
use Rattle.bt_net.specs.Terminals.{IsBetweenTerminals}
use Rattle.bt_demand.specs.declared.demand.Link.{Link}
use Rattle.bt_demand.specs.Demand.{IsDemand}
use Rattle.bt_demand.specs.Traffic.{matrix_of, AreOfNetwork, HasSumsTo}
use Rattle.bt_journal.specs.declared.call.Edit.TheVariants.{Add, Drop, Move}
use Rattle.bt_journal.specs.declared.call.Change.{Change}
use Rattle.bt_journal.specs.declared.call.Change.TheVariants as change
use Rattle.bt_history.specs.Changes.{given}
use Rattle.bt_history.specs.Causes.{IsChangeOn, FollowFrom}
use Rattle.bt_history.specs.Records.{KeepsUp, IsRedone}

-- the test of one link
abbrev pub is_link : TermNo → TermNo → TermNo → TermNo → Bool
is_link from to a b = a.0 == from.0 && b.0 == to.0

same_link : (net : Net) (from to a b : TermNo) (units : ℕ) (same : Bool) → same ≡ is_link from to a b → IsBetweenTerminals net a b
    → 0 < (if same then units else 0) → IsBetweenTerminals net from to
same_link net from to a b units false is between some = absurd (omega (arith, some))
same_link net from to a b units true is between some =
    let from_is : a.0 ≡ from.0 = grind (arith, nat_tests, is) in
    let to_is : b.0 ≡ to.0 = grind (arith, nat_tests, is) in
    (omega (arith, from_is, between.0), omega (arith, to_is, between.1))

-- a link to which a change gives slots is between terminals of the network
gives_between : (net : Net) (from to : TermNo) (one : Change) → IsChangeOn net one → 0 < given (is_link from to) one → IsBetweenTerminals net from to
gives_between net from to (change.Edit (Add a b units)) on some = same_link net from to a b units _ refl on some
gives_between net from to (change.Edit (Drop a b units)) on some = absurd (omega (arith, some))
gives_between net from to (change.Edit (Move a b new_a new_b units)) on some = same_link net from to new_a new_b units _ refl on.1 some
gives_between net from to (change.Install plan) on some = absurd (omega (arith, some))
gives_between net from to (change.Order order) on some = absurd (omega (arith, some))

given_between : (net : Net) (before changes : List Change) (from to : TermNo) → FollowFrom net before changes → 0 < sum_by (given (is_link from to)) changes
    → IsBetweenTerminals net from to
given_between net before [] from to follow some = absurd (omega (arith, some))
given_between net before (first ∷ rest) from to follow some = ⊎_elim
    (λ (none : given (is_link from to) first ≡ 0).
    given_between net (before ++ first ∷ []) rest from to follow.2 (omega (arith, some, none, sum_by-cons (given (is_link from to)) first rest)))
    (λ (gives : given (is_link from to) first ≡ 0 → ⊥). gives_between net from to first follow.0 (omega (arith, gives)))
    (cases_eq (given (is_link from to) first) 0)

its_own : (link : Link) → (if is_link link.from link.to link.from link.to then link.units else 0) ≡ link.units
its_own link = grind (arith, nat_tests)

-- so each link of the demand is
pub are_of_network : (net : Net) (changes : List Change) (links : List Link) → IsDemand links → KeepsUp net changes links → AreOfNetwork net links
are_of_network net changes links is keeps i d within =
    let link = get_or links i d in
    let some = (is.each i d within).some in
    let among = get_or-le-sum_by (λ (l : Link). if is_link link.from link.to l.from l.to then l.units else 0) links i d within in
    given_between net [] changes link.from link.to keeps.follows
    (omega (arith, some, among, its_own link, keeps.adds_up (is_link link.from link.to)))

-- and no line has more than the checker takes
pub small_sums : (net : Net) (changes : List Change) (links : List Link) → net.slots ≤ MOST_SLOTS → KeepsUp net changes links → HasSumsTo MOST_SUM (matrix_of net links)
small_sums net changes links few keeps line within = omega (arith, few, keeps.fits line within)

-- both, as a demand and a network that are handed out have it
pub kept_of_network : (net now : Net) (changes : List Change) (links result : List Link) → net ≡ now → result ≡ links → IsDemand links → KeepsUp net changes links
    → AreOfNetwork now result
kept_of_network net now changes links result same is_links is keeps = rw (← same, is_links) (are_of_network net changes links is keeps)

pub kept_small : (net now : Net) (changes : List Change) (links result : List Link) {slots : ℕ} → net ≡ now → result ≡ links → slots ≤ MOST_SLOTS → slots ≡ net.slots
    → KeepsUp net changes links → HasSumsTo MOST_SUM (matrix_of now result)
kept_small net now changes links result same is_links few slots_is keeps =
    rw (← same, is_links) (small_sums net changes links (omega (arith, few, slots_is)) keeps)

-- and as a demand that was made again has it
pub redone_of_network : (net now : Net) (changes : List Change) (number : ℕ) (links result : List Link) → net ≡ now → result ≡ links → IsDemand links
    → IsRedone net changes number links → AreOfNetwork now result
redone_of_network net now changes number links result same is_links is redone =
    kept_of_network net now redone.before links result same is_links is redone.keeps

pub redone_small : (net now : Net) (changes : List Change) (number : ℕ) (links result : List Link) {slots : ℕ} → net ≡ now → result ≡ links → slots ≤ MOST_SLOTS
    → slots ≡ net.slots → IsRedone net changes number links → HasSumsTo MOST_SUM (matrix_of now result)
redone_small net now changes number links result same is_links few slots_is redone =
    kept_small net now redone.before links result same is_links few slots_is redone.keeps
