-- The links of a demand, by the terminal that sends.
use Rattle.std.specs.Prelude.{◌≡◌, ℕ, ◌<◌, ◌==◌, List, length, filter, slice_index_or, All}
use Rattle.std.specs.List.{flat_map}
use Rattle.bt_frame.specs.declared.numbers.TermNo.{TermNo}
use Rattle.bt_demand.specs.declared.demand.Link.{Link}
use Rattle.bt_demand.specs.Demand.{IsDemand}

-- the links that a terminal sends on, in the order in which they stand
abbrev pub sent_by : TermNo → List Link → List Link
sent_by sender links = filter (λ (link : Link). link.from.0 == sender.0) links

-- the links of the rows, one row behind the other
abbrev pub all_links : List (List Link) → List Link
all_links rows = flat_map (λ (row : List Link). row) rows

-- the row of a sender, by its number: a demand, of links from that terminal alone
pub record IsRowOf (sender : ℕ) (row : List Link) : Type 0 where
  pub demand : IsDemand row
  pub sent : All (λ link. link.from.0 ≡ sender) row

-- each row is that of the sender of its place
abbrev pub AreRows : List (List Link) → Type 0
AreRows rows = (place : ℕ) (other : List Link) → place < length rows → IsRowOf place (slice_index_or rows place other)

-- the rows have the links of the older ones, in order, and are rows where those are
pub record KeepLinks (old new : List (List Link)) : Type 0 where
  pub links : all_links new ≡ all_links old
  pub rows : AreRows old → AreRows new
