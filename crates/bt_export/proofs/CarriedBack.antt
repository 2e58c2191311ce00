-- A demand that was carried onto another network is one alone, and its journal tells it there.
use Rattle.std.proofs.Common.{◌≡◌, ◌⊎◌, ℕ, ◌-◌, ◌<◌, ◌≤◌, ◌==◌, ◌&&◌, if◌then◌else◌, Bool, true, false, inl, inr, List, length, take, get_or, refl, sym, ap, ◌∙◌, subst, ⊎_elim, arith}
use Rattle.std.specs.Str.{bytes_eq}
use Rattle.std.proofs.lemmas.Bool.{and_parts, cases_eq, cases_lt, eq-eqb, eqb-true, false_from_ne_true}
use Rattle.std.proofs.lemmas.Cmp.{nat_list_eq_equiv}
use Rattle.std.proofs.lemmas.List.{get_or-take, length-take-le}
use Rattle.std.proofs.lemmas.List.Sums.{get_or-le-sum_by}
use Rattle.std.proofs.lemmas.Slice.Eq.{bytes_eq-Decides}
use Rattle.bt_frame.specs.declared.numbers.TermNo.{TermNo}
use Rattle.bt_frame.proofs.Counts.{sum_by-le-within, sum_by-none}
use Rattle.bt_net.specs.Network.{Net, IsSound}
use Rattle.bt_net.specs.Terminals.{IsTerminal, name_at}
use Rattle.bt_demand.specs.declared.demand.Link.{Link}
use Rattle.bt_demand.specs.Demand.{IsDemand, units_of}
use Rattle.bt_demand.specs.Traffic.{AreOfNetwork, HasSumsTo, matrix_of}
use Rattle.bt_demand.proofs.Flyable.{units_outside}
use Rattle.bt_demand.proofs.SameDemand.{same_demands}
use Rattle.bt_journal.specs.declared.call.Change.{Change}
use Rattle.bt_history.specs.Changes.{IsDemandAfter}
use Rattle.bt_history.specs.Recovery.{Recovered}
use Rattle.bt_history.proofs.OneJournal.{AreLines, one_list}
use Rattle.bt_look.specs.Compact.{adds_of, compact_lines}
use Rattle.bt_look.proofs.Adds.{adds_recovered, demand_of_adds}
use Rattle.bt_export.specs.declared.carry.Carried.{Carried}
use Rattle.bt_export.specs.declared.carry.Carried.TheVariants as carried
use Rattle.bt_export.specs.Carry.{ComesTo, HasEnds, IsCarried, IsFirstGone, units_named}
use Rattle.bt_export.proofs.Names.{one_name}

-- each of two tests passes where the other does
same_tests : (a b : Bool) → (a ≡ true → b ≡ true) → (b ≡ true → a ≡ true) → a ≡ b
same_tests true b so back = sym (so refl)
same_tests false true so back = back refl
same_tests false false so back = refl

-- terminals of a network have one name just where they are one
names_tell : (net : Net) (a b : TermNo) → IsSound net → IsTerminal net a → IsTerminal net b → bytes_eq (name_at net a) (name_at net b) ≡ (a.0 == b.0)
names_tell net a b sound is also =
    same_tests (bytes_eq (name_at net a) (name_at net b)) (a.0 == b.0)
    (λ same. eq-eqb a.0 b.0 (one_name net a b sound is also ((bytes_eq-Decides (name_at net a) (name_at net b)).0 same)))
    (λ same.
    let one : a ≡ b = ap (λ (n : ℕ). let t : TermNo = record { 0 = n } in t) (eqb-true a.0 b.0 same) in
    ap (λ (t : TermNo). bytes_eq (name_at net a) (name_at net t)) (sym one) ∙ nat_list_eq_equiv.refl (name_at net a))

-- the test of the names of two terminals
abbrev are_names_of : Net → TermNo → TermNo → List ℕ → List ℕ → Bool
are_names_of net from to a b = bytes_eq a (name_at net from) && bytes_eq b (name_at net to)

-- by their names they have the slots of their link
named_units : (net : Net) (links : List Link) (from to : TermNo) → IsSound net → AreOfNetwork net links → IsTerminal net from → IsTerminal net to
    → units_named net (are_names_of net from to) links ≡ units_of links from to
named_units net links from to sound of sends receives =
    let named = λ (link : Link). let n : ℕ = if are_names_of net from to (name_at net link.from) (name_at net link.to) then link.units else 0 in n in
    let numbered = λ (link : Link). let n : ℕ = if link.from.0 == from.0 && link.to.0 == to.0 then link.units else 0 in n in
    let each : (k : ℕ) → (d : Link) → k < length links → named (get_or links k d) ≡ numbered (get_or links k d) = λ k d within.
    let link = get_or links k d in
    let ends = of k d within in
    ap (λ (b : Bool). let n : ℕ = if b && bytes_eq (name_at net link.to) (name_at net to) then link.units else 0 in n) (names_tell net link.from from sound ends.0 sends)
    ∙ ap (λ (b : Bool). let n : ℕ = if link.from.0 == from.0 && b then link.units else 0 in n) (names_tell net link.to to sound ends.1 receives) in
    omega (
      arith,
      sum_by-le-within named numbered links (λ k d within. omega (arith, each k d within)),
      sum_by-le-within numbered named links (λ k d within. omega (arith, each k d within)),
    )

-- two demands that were carried have the same slots on each link
same_units : (net : Net) (links : List Link) (new : Net) (a b : List Link) (from to : TermNo) → IsSound new → IsCarried net links new a → IsCarried net links new b
    → units_of a from to ≡ units_of b from to
same_units net links new a b from to sound is also =
    let n = length new.terminals in
    let none = λ (past : (n ≤ from.0) ⊎ (n ≤ to.0)).
    let same : units_of a from to ≡ units_of b from to = omega (arith, units_outside new a is.terminals from to past, units_outside new b also.terminals from to past) in same in
    ⊎_elim
    (λ (sends : from.0 < n). ⊎_elim
    (λ (receives : to.0 < n).
    omega (
      arith,
      named_units new a from to sound is.terminals sends receives,
      named_units new b from to sound also.terminals sends receives,
      is.units (are_names_of new from to),
      also.units (are_names_of new from to),
    ))
    (λ (past : n ≤ to.0). none (inr past))
    (cases_lt to.0 n))
    (λ (past : n ≤ from.0). none (inl past))
    (cases_lt from.0 n)

-- so they are one
one_carried : (net : Net) (links : List Link) (new : Net) (a b : List Link) → IsSound new → IsCarried net links new a → IsCarried net links new b → a ≡ b
one_carried net links new a b sound is also = same_demands a b is.demand also.demand (λ e. same_units net links new a b e.0 e.1 sound is also)

-- ---- what links come to

-- a demand that was carried has each name that a link with slots has
has_each : (net : Net) (links : List Link) (new : Net) (carried : List Link) (k : ℕ) (d : Link) → IsDemand links → IsCarried net links new carried → k < length links
    → (HasEnds net new (get_or links k d) → ⊥) → ⊥
has_each net links new carried k d demand is within none =
    let link = get_or links k d in
    let test = λ (a b : List ℕ). bytes_eq a (name_at net link.from) && bytes_eq b (name_at net link.to) in
    let own : test (name_at net link.from) (name_at net link.to) ≡ true =
    ap (λ (b : Bool). b && bytes_eq (name_at net link.to) (name_at net link.to)) (nat_list_eq_equiv.refl (name_at net link.from)) ∙ nat_list_eq_equiv.refl (name_at net link.to) in
    let share = λ (l : Link). let n : ℕ = if test (name_at net l.from) (name_at net l.to) then l.units else 0 in n in
    let here : share link ≡ link.units = ap (λ (b : Bool). let n : ℕ = if b then link.units else 0 in n) own in
    let there = λ (l : Link). let n : ℕ = if test (name_at new l.from) (name_at new l.to) then l.units else 0 in n in
    let nothing : units_named new test carried ≡ 0 = sum_by-none there carried (λ i e inside.
    let other = get_or carried i e in
    let ends = is.terminals i e inside in
    ap (λ (b : Bool). let n : ℕ = if b then other.units else 0 in n) (false_from_ne_true (test (name_at new other.from) (name_at new other.to)) (λ passes.
    let both = and_parts (bytes_eq (name_at new other.from) (name_at net link.from)) (bytes_eq (name_at new other.to) (name_at net link.to)) passes in
    none (record {
      sends = (other.from, ends.0, (bytes_eq-Decides (name_at new other.from) (name_at net link.from)).0 both.0);
      receives = (other.to, ends.1, (bytes_eq-Decides (name_at new other.to) (name_at net link.to)).0 both.1);
    })))) in
    omega (arith, nothing, is.units test, here, get_or-le-sum_by share links k d within, (demand.each k d within).some)

-- so where one was carried, no link is gone
never_both : (net : Net) (links : List Link) (new : Net) (carried : List Link) (number : ℕ) → IsDemand links → IsCarried net links new carried → IsFirstGone net links new number → ⊥
never_both net links new carried number demand is gone =
    let d : Link = record { from = record { 0 = 0 }; to = record { 0 = 0 }; units = 0 } in
    has_each net links new carried (number - 1) d demand is (omega (arith, gone.counted)) (gone.gone d)

-- no link is the first that is gone behind another
not_behind : (net : Net) (links : List Link) (new : Net) (first second : ℕ) → IsFirstGone net links new first → IsFirstGone net links new second → first < second → ⊥
not_behind net links new first second is also before =
    let d : Link = record { from = record { 0 = 0 }; to = record { 0 = 0 }; units = 0 } in
    let at : first - 1 < second - 1 = omega (arith, before, is.counted) in
    let among : first - 1 < length (take (second - 1) links) = omega (arith, at, length-take-le (second - 1) links (omega (arith, also.counted))) in
    is.gone d (subst (HasEnds net new) (get_or-take (second - 1) links (first - 1) d at) (also.before (first - 1) d among))

one_gone : (net : Net) (links : List Link) (new : Net) (a b : ℕ) → IsFirstGone net links new a → IsFirstGone net links new b → a ≡ b
one_gone net links new a b is also = ⊎_elim
    (λ (same : a ≡ b). same)
    (λ (other : a ≡ b → ⊥). ⊎_elim
    (λ (before : a < b). absurd (not_behind net links new a b is also before))
    (λ (behind : b ≤ a). absurd (not_behind net links new b a also is (omega (arith, other, behind))))
    (cases_lt a b))
    (cases_eq a b)

-- links come to one thing
pub one_coming : (net : Net) (links : List Link) (new : Net) (a b : Carried) → IsSound new → IsDemand links → ComesTo net links new a → ComesTo net links new b → a ≡ b
one_coming net links new (carried.Demand x) (carried.Demand y) sound demand is also = ap carried.Demand (one_carried net links new x y sound is also)
one_coming net links new (carried.Demand x) (carried.Gone n) sound demand is also = absurd (never_both net links new x n demand is also)
one_coming net links new (carried.Gone n) (carried.Demand y) sound demand is also = absurd (never_both net links new y n demand also is)
one_coming net links new (carried.Gone m) (carried.Gone n) sound demand is also = ap carried.Gone (one_gone net links new m n is also)

-- ---- its journal

-- the journal is recovered to the adds
pub carried_recovered : (net : Net) (links : List Link) (new : Net) (carried : List Link) → AreLines new → IsSound new → IsCarried net links new carried
    → HasSumsTo new.slots (matrix_of new carried) → Recovered new (compact_lines new carried) (adds_of carried)
carried_recovered net links new carried are sound is fits = adds_recovered new are carried sound is.demand is.terminals fits

-- and what it tells is what was carried
pub carried_told : (net : Net) (links : List Link) (new : Net) (carried : List Link) (changes : List Change) (after : List Link) → AreLines new → IsSound new
    → IsCarried net links new carried → HasSumsTo new.slots (matrix_of new carried) → Recovered new (compact_lines new carried) changes → IsDemandAfter changes after
    → IsCarried net links new after
carried_told net links new carried changes after are sound is fits told demand =
    let one : changes ≡ adds_of carried = one_list new are (compact_lines new carried) changes (adds_of carried) told (carried_recovered net links new carried are sound is fits) in
    let there = demand_of_adds carried is.demand in
    let mine = subst (λ (c : List Change). IsDemandAfter c after) one demand in
    let same : after ≡ carried = same_demands after carried mine.demand there.demand (λ e. mine.slots _ ∙ sym (there.slots _)) in
    subst (IsCarried net links new) (sym same) is
