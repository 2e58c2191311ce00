-- The demand on another network, link by link.
use Rattle.std.proofs.Common.{◌≡◌, ℕ, ◌+◌, ◌-◌, ◌<◌, ◌≤◌, ◌==◌, ◌&&◌, if◌then◌else◌, true, List, [], length, take, get_or, All, refl, sym, ap, ◌∙◌, subst, arith}
use Rattle.std.specs.List.{HoldsAt}
use Rattle.std.proofs.lemmas.List.{get_or_default, take_all}
use Rattle.std.proofs.lemmas.List.Elements.{All-more}
use Rattle.std.proofs.lemmas.List.Sums.{sum_by_more, sum_by-take-le}
use Rattle.bt_frame.specs.declared.limits.TheConstants.{MOST_SUM}
use Rattle.bt_frame.specs.declared.numbers.TermNo.{TermNo}
use Rattle.bt_net.specs.Network.{Net}
use Rattle.bt_net.specs.Terminals.{name_at}
use Rattle.bt_demand.specs.declared.demand.Link.{Link}
use Rattle.bt_demand.specs.Demand.{Gains, IsDemand, LinkEnds, units_of}
use Rattle.bt_demand.specs.Traffic.{HasSumsTo, matrix_of}
use Rattle.bt_cut.proofs.Gained.{are_gained}
use Rattle.bt_export.specs.Carry.{HasEnds, IsCarried, IsFirstGone}
use Rattle.bt_export.specs.Named.{AreNamed}
use Rattle.bt_export.proofs.Beyond.{passed}
use Rattle.bt_export.proofs.Names.{has_ends}
use Rattle.bt_export.proofs.Total.{all_units, no_more, small_sums}

-- What holds when so many links were added.
pub record SoFar (net : Net) (links : List Link) (new : Net) (count : ℕ) (there : List Link) : Type 0 where
  pub carried : IsCarried net (take count links) new there
  pub had : All (HasEnds net new) (take count links)

-- no link was added to no demand
pub at_first : (net : Net) (links : List Link) (new : Net) (there : List Link) → there ≡ [] → SoFar net links new 0 there
at_first net links new there none =
    let empty : SoFar net links new 0 [] = record {
      carried = record {
        demand = record { ordered = λ i j d lt within. absurd (omega (arith, within)); each = λ k d within. absurd (omega (arith, within)) };
        terminals = λ k d within. absurd (omega (arith, within));
        units = λ test. refl;
      };
      had = λ k d within. absurd (omega (arith, within));
    } in
    subst (SoFar net links new 0) (sym none) empty

-- there is room for one more
pub fits_one_more : (net : Net) (links : List Link) (new : Net) (k : ℕ) (d : Link) (there : List Link) (from to : TermNo) → k < length links → all_units links ≤ MOST_SUM
    → SoFar net links new k there → units_of there from to + (get_or links k d).units ≤ MOST_SUM
fits_one_more net links new k d there from to within few so_far =
    let every = λ (a b : List ℕ). true in
    omega (
      arith,
      no_more (λ a b. a.0 == from.0 && b.0 == to.0) there,
      so_far.carried.units every,
      sum_by_more (passed (λ (a b : TermNo). true)) links k d within,
      sum_by-take-le (passed (λ (a b : TermNo). true)) links (k + 1),
      few,
    )

-- the link was added between the terminals of its names
pub carried_next : (net : Net) (links : List Link) (new : Net) (k : ℕ) (d : Link) (ends : LinkEnds) (old after : List Link) → k < length links → SoFar net links new k old
    → AreNamed net (get_or links k d) new ends → Gains old after ends.0 ends.1 (get_or links k d).units → IsDemand after → SoFar net links new (k + 1) after
carried_next net links new k d ends old after within so_far named gains is =
    let link = get_or links k d in
    record {
      carried = record {
        demand = is;
        terminals = are_gained new old after ends.0 ends.1 link.units so_far.carried.terminals (named.sends, named.receives) is gains;
        units = λ test.
            let added : (if test (name_at new ends.0) (name_at new ends.1) then link.units else 0) ≡ (if test (name_at net link.from) (name_at net link.to) then link.units else 0) =
            ap (λ (a : List ℕ). let n : ℕ = if test a (name_at new ends.1) then link.units else 0 in n) named.from
            ∙ ap (λ (b : List ℕ). let n : ℕ = if test (name_at net link.from) b then link.units else 0 in n) named.to in
            omega (
              arith,
              gains (λ a b. test (name_at new a) (name_at new b)),
              added,
              so_far.carried.units test,
              sum_by_more (passed (λ (a b : TermNo). test (name_at net a) (name_at net b))) links k d within,
            );
      };
      had = All-more (HasEnds net new) links k d within so_far.had (has_ends net new link ends named);
    }

-- the other network has not both ends of the next
pub first_gone : (net : Net) (links : List Link) (new : Net) (k : ℕ) (d : Link) → k < length links → All (HasEnds net new) (take k links) → (HasEnds net new (get_or links k d) → ⊥)
    → IsFirstGone net links new (k + 1)
first_gone net links new k d within had none =
    let back : k + 1 - 1 ≡ k = omega arith in
    record {
      counted = (omega arith, omega (arith, within));
      gone = subst (HoldsAt (λ link. HasEnds net new link → ⊥) links) (sym back) (λ e. subst (λ (link : Link). HasEnds net new link → ⊥) (get_or_default links k d e within) none);
      before = subst (λ (n : ℕ). All (HasEnds net new) (take n links)) (sym back) had;
    }

-- all were added
pub all_added : (net : Net) (links : List Link) (new : Net) (count : ℕ) (there : List Link) → length links ≤ count → SoFar net links new count there → IsCarried net links new there
all_added net links new count there past so_far = subst (λ (l : List Link). IsCarried net l new there) (take_all count links past) so_far.carried

-- and have no more slots in all, nor in a line
pub carried_small : (net : Net) (links : List Link) (new : Net) (there : List Link) → all_units links ≤ MOST_SUM → IsCarried net links new there → HasSumsTo MOST_SUM (matrix_of new there)
carried_small net links new there few is = small_sums new there (omega (arith, is.units (λ (a b : List ℕ). true), few))
