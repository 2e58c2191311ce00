-- How many links rows have.
use Rattle.std.proofs.Common.{◌≡◌, ℕ, ◌+◌, ◌<◌, ◌≤◌, List, [], length, get_or, ap, ◌∙◌, arith}
use Rattle.std.proofs.lemmas.List.{get_or_read}
use Rattle.std.proofs.lemmas.List.Folds.{length-flat_map-take}
use Rattle.bt_demand.specs.declared.demand.Link.{Link}
use Rattle.bt_demand.specs.Rows.{all_links}
use Rattle.bt_demand.proofs.FlatPlaces.{flat_place, flat_next}

-- with the links of a row that was read begins the next one, and there are no more than all
pub record IsCounted (rows : List (List Link)) (i : ℕ) (row : List Link) : Type 0 where
  pub next : flat_place rows i 0 + length row ≡ flat_place rows (i + 1) 0
  pub within : flat_place rows i 0 + length row ≤ length (all_links rows)

pub row_counted : (rows : List (List Link)) (i : ℕ) (row item : List Link) → i < length rows → row ≡ item → item ≡ get_or rows i item → IsCounted rows i row
row_counted rows i row item inside same is =
    let read : row ≡ get_or rows i [] = same ∙ get_or_read rows i item inside is [] in
    let long = ap (λ (r : List Link). length r) read in
    record {
      next = omega (arith, flat_next rows i inside, long);
      within = omega (arith, length-flat_map-take (λ (r : List Link). r) rows i [] inside, long);
    }
