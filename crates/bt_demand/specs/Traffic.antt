-- The traffic matrix of a demand: what the links from each beam to each beam ask for together.
use Rattle.std.specs.Prelude.{ℕ, ◌≤◌, ◌&&◌, List, length, map, All}
use Rattle.std.specs.List.{range_with_len}
use Rattle.bt_frame.specs.declared.schedule.Critical.{Critical}
use Rattle.bt_net.specs.Network.{Net}
use Rattle.bt_net.specs.Terminals.{IsTerminal, is_in_beam}
use Rattle.bt_matrix.specs.Traffic.{IsLine, line_sum}
use Rattle.bt_demand.specs.declared.demand.Link.{Link}
use Rattle.bt_demand.specs.Demand.{units_where}

-- the slots of the links from a terminal of one beam to a terminal of another, or of the same
abbrev pub units_between : Net → List Link → ℕ → ℕ → ℕ
units_between net links up down = units_where (λ from to. is_in_beam net up from && is_in_beam net down to) links

-- what a function of two beams gives at each pair of so many beams, a row for each first beam
abbrev pub table_of : ℕ → (ℕ → ℕ → ℕ) → List (List ℕ)
table_of beams f = map (λ up. map (f up) (range_with_len 0 beams)) (range_with_len 0 beams)

-- the traffic matrix of a demand
abbrev pub matrix_of : Net → List Link → List (List ℕ)
matrix_of net links = table_of (length net.beams) (units_between net links)

-- each link is between terminals of the network
abbrev pub AreOfNetwork : Net → List Link → Type 0
AreOfNetwork net links = All (λ link. IsTerminal net link.from × IsTerminal net link.to) links

-- no line of the matrix asks for more than so many slots
abbrev pub HasSumsTo : ℕ → List (List ℕ) → Type 0
HasSumsTo most rows = (line : Critical) → IsLine rows line → line_sum rows line ≤ most
