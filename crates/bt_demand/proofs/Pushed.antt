-- A link behind all others: the row of its sender takes it behind its own links, and so do all links together.
use Rattle.std.proofs.Common.{◌≡◌, ℕ, ◌<◌, ◌==◌, ◌&&◌, if◌then◌else◌, Bool, List, [], ◌∷◌, ◌++◌, length, get_or, slice_set, All, sym, subst, arith}
use Rattle.std.proofs.lemmas.List.{get_or_read}
use Rattle.std.proofs.lemmas.List.Elements.{All-append}
use Rattle.std.proofs.lemmas.List.Sums.{sum_by-append, sum_by-cons}
use Rattle.bt_frame.proofs.Pairs.{AllPairs-append, AllPairs-second, All-across, All-second}
use Rattle.bt_frame.specs.declared.numbers.TermNo.{TermNo}
use Rattle.bt_demand.specs.declared.demand.Link.{Link}
use Rattle.bt_demand.specs.Demand.{ends_of, IsBefore, IsLink, IsDemand, Gains}
use Rattle.bt_demand.specs.Rows.{all_links, AreRows}
use Rattle.bt_demand.proofs.BySender.{IsRead, gained}
use Rattle.bt_demand.proofs.FlatPlaces.{flat_place, flat_link, flat_within}
use Rattle.bt_demand.proofs.SameDemand.{same_demands}

-- links stand in order
abbrev AreInOrder : Link → Link → Type 0
AreInOrder a b = IsBefore (ends_of a) (ends_of b)

-- a link behind others is gained
Gains-pushed : (links : List Link) (link : Link) → Gains links (links ++ link ∷ []) link.from link.to link.units
Gains-pushed links link test =
    let share = λ (l : Link). if test l.from l.to then l.units else 0 in
    omega (arith, sum_by-append share links (link ∷ []), sum_by-cons share link [])

-- a row with a link that stands behind the links of all rows is a demand
row-pushed : (rows : List (List Link)) (place : ℕ) (link : Link) → AreRows rows → place < length rows → IsDemand (all_links rows ++ link ∷ [])
    → IsDemand (get_or rows place [] ++ link ∷ [])
row-pushed rows place link are within is =
    let here = (are place [] within).demand in
    let across = All-across AreInOrder (all_links rows) (link ∷ []) is.ordered in
    record {
      ordered = AllPairs-append AreInOrder (get_or rows place []) (link ∷ []) here.ordered (AllPairs-second AreInOrder (all_links rows) (link ∷ []) is.ordered)
          (λ i d inside. subst (λ (l : Link). All (AreInOrder l) (link ∷ [])) (flat_link rows place i d within inside) (across (flat_place rows place i) d (flat_within rows place i within inside)));
      each = All-append IsLink (get_or rows place []) (link ∷ []) here.each (All-second IsLink (all_links rows) (link ∷ []) is.each);
    }

-- and so is the row that was read
pub read-pushed : (rows : List (List Link)) (now : List Link) (place : ℕ) (row : List Link) (link : Link) → all_links rows ≡ now → AreRows rows
    → IsRead rows place link.from row → IsDemand (now ++ link ∷ []) → IsDemand (row ++ link ∷ [])
read-pushed rows now place row link view are read is =
    let all = subst (λ (links : List Link). IsDemand (links ++ link ∷ [])) (sym view) is in
    subst (λ (links : List Link). IsDemand (links ++ link ∷ [])) (sym (get_or_read rows place row read.within read.row_is [])) (row-pushed rows place link are read.within all)

-- What the rows are where that row took the link.
pub record Pushed (rows : List (List Link)) (now : List Link) (place : ℕ) (row : List Link) (link : Link) : Type 0 where
  pub still : AreRows (slice_set rows place row)
  pub links : all_links (slice_set rows place row) ≡ now ++ link ∷ []

pub pushed : (rows : List (List Link)) (now : List Link) (place : ℕ) (row next : List Link) (link : Link) → all_links rows ≡ now → AreRows rows
    → IsRead rows place link.from row → IsDemand (now ++ link ∷ []) → next ≡ row ++ link ∷ [] → Pushed rows now place next link
pushed rows now place row next link view are read is next_is =
    let demand = subst IsDemand (sym next_is) (read-pushed rows now place row link view are read is) in
    let gains = subst (λ (links : List Link). Gains row links link.from link.to link.units) (sym next_is) (Gains-pushed row link) in
    let made = gained rows now place row next link.from link.to link.units view are read demand gains in
    record {
      still = made.still;
      links = same_demands (all_links (slice_set rows place next)) (now ++ link ∷ []) made.demand is (λ e.
          let test = λ (a b : TermNo). let same : Bool = a.0 == e.0.0 && b.0 == e.1.0 in same in
          omega (arith, made.gains test, Gains-pushed now link test));
    }
