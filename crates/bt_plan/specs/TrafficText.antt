-- The text of a demand: a line for each link, in any order.
use Rattle.std.specs.Prelude.{◌≡◌, ◌≢◌, ℕ, ◌+◌, ◌<◌, ◌≤◌, ◌==◌, ◌&&◌, ◌||◌, if◌then◌else◌, nat_le, nat_lt, codes, Bool, false, unwrap_or, option_map, List, [], ◌∷◌, Ok, Err}
use Rattle.bt_frame.specs.declared.limits.TheConstants.{MOST_UNITS, MOST_SUM}
use Rattle.bt_text.specs.Text.{words, lines, number_of, is_word}
use Rattle.bt_frame.specs.declared.numbers.TermNo.{TermNo}
use Rattle.bt_text.specs.Reading.{◌>>=◌, or_fault}
use Rattle.bt_matrix.specs.Traffic.{row_sum, column_sum, IsTraffic}
use Rattle.bt_net.specs.Network.{Net}
use Rattle.bt_demand.specs.declared.demand.Link.{Link}
use Rattle.bt_plan.specs.declared.text_fault.TextCode.TheVariants.{T1, T2, T3, T4, T5}
use Rattle.bt_demand.specs.Demand.{LinkEnds, IsDemand, units_of}
use Rattle.bt_net.specs.Terminals.{beam_at, IsTerminal}
use Rattle.bt_net.specs.Name.{are_names}
use Rattle.bt_plan.specs.Reading.{Reading}
use Rattle.bt_plan.specs.TerminalNames.{ends_in}
use Rattle.bt_demand.specs.Traffic.{matrix_of, AreOfNetwork}

-- units from 1 to as many as a link may have in a text
abbrev pub units_in : ℕ → ℕ → Reading ℕ
units_in at units = if nat_le 1 units && nat_le units MOST_UNITS then Ok units else Err (T3, at)

-- a link between two terminals that are not the same
abbrev pub link_between : ℕ → LinkEnds → ℕ → Reading Link
link_between at ends units = if ends.0.0 == ends.1.0 then Err (T4, at) else Ok (record { from = ends.0; to = ends.1; units = units })

-- the link of two names and a number, once the line has its shape
abbrev pub link_with : Net → ℕ → List ℕ → List ℕ → ℕ → Reading Link
link_with net at from to number = ends_in net (T2, at) from to >>= λ ends. units_in at number >>= λ units. link_between at ends units

-- the names and the number of a line, where each has its shape
abbrev pub named_link : Net → ℕ → List ℕ → List ℕ → List ℕ → Reading Link
named_link net at from to units = if are_names from to then (or_fault (T1, at) (number_of units) >>= λ number. link_with net at from to number) else Err (T1, at)

-- what stands behind `link`
abbrev pub link_behind : Net → ℕ → List (List ℕ) → Reading Link
link_behind net at (from ∷ to ∷ units ∷ []) = named_link net at from to units
link_behind net at _ = Err (T1, at)

-- `link FROM TO UNITS`
abbrev pub link_in : Net → ℕ → List (List ℕ) → Reading Link
link_in net at (name ∷ rest) = if is_word (codes "link") name then link_behind net at rest else Err (T1, at)
link_in net at [] = Err (T1, at)

-- the link belongs before the other: by the terminal that sends, then by the one that receives
abbrev pub belongs_before : Link → Link → Bool
belongs_before a b = nat_lt a.from.0 b.from.0 || (a.from.0 == b.from.0 && nat_lt a.to.0 b.to.0)

-- links in order with one more, which stands where it belongs
abbrev pub with_link : Link → List Link → List Link
with_link link [] = link ∷ []
with_link link (first ∷ rest) = if belongs_before link first then link ∷ first ∷ rest else first ∷ with_link link rest

-- the link is among these, each of which asks for some slots
abbrev pub stands_in : List Link → Link → Bool
stands_in links link = nat_lt 0 (units_of links link.from link.to)

-- the row of the matrix that is of the sending terminal's beam is within the limit of sums
abbrev pub row_fits : Net → List Link → TermNo → Bool
row_fits net links from = unwrap_or (option_map (λ up. nat_le (row_sum (matrix_of net links) up.0) MOST_SUM) (beam_at net from)) false

-- the column of the matrix that is of the receiving terminal's beam is within the limit of sums
abbrev pub column_fits : Net → List Link → TermNo → Bool
column_fits net links to = unwrap_or (option_map (λ down. nat_le (column_sum (matrix_of net links) down.0) MOST_SUM) (beam_at net to)) false

-- the links with that of line `at`, where both of its sums are within the limit
abbrev pub fitting : ℕ → Net → List Link → Link → Reading (List Link)
fitting at net links link = if row_fits net links link.from && column_fits net links link.to then Ok links else Err (T3, at)

-- the links so far with that of line `at`, where it did not stand before
abbrev pub links_with : Net → ℕ → List Link → Link → Reading (List Link)
links_with net at links link = if stands_in links link then Err (T5, at) else fitting at net (with_link link links) link

-- the links so far with that of the words of line `at`
abbrev pub line_with : Net → ℕ → List Link → List (List ℕ) → Reading (List Link)
line_with net at links words = link_in net at words >>= λ link. links_with net at links link

-- the links so far with those of these lines, the first of which is line `at`; nothing stands behind the last newline
abbrev pub links_in : Net → ℕ → List Link → List (List ℕ) → Reading (List Link)
links_in net at links (line ∷ next ∷ rest) = line_with net at links (words line) >>= λ more. links_in net (at + 1) more (next ∷ rest)
links_in net at links ([] ∷ []) = Ok links
links_in net at links _ = Err (T1, at)

-- the demand that a text spells for this network
abbrev pub demand_of : Net → List ℕ → Reading (List Link)
demand_of net text = links_in net 1 [] (lines text)

-- a link that a line can spell: between two terminals of the network, for at least one slot and at most as many as a line may have
pub record IsSpelled (net : Net) (link : Link) : Type 0 where
  pub sends : IsTerminal net link.from
  pub receives : IsTerminal net link.to
  pub differ : link.from.0 ≢ link.to.0
  pub some : 0 < link.units
  pub few : link.units ≤ MOST_UNITS

-- what holds of the links of the lines so far, and of their matrix
pub record AreRead (net : Net) (links : List Link) (rows : List (List ℕ)) : Type 0 where
  pub demand : IsDemand links
  pub terminals : AreOfNetwork net links
  pub traffic : IsTraffic (matrix_of net links)
  pub matrix : rows ≡ matrix_of net links
