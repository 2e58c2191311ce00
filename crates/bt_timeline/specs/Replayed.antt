-- The lines that tell what a journal comes to: its last edition, the newest plan, the orders, and the demand.
use Rattle.std.specs.Prelude.{ℕ, ◌++◌, List, [], ◌∷◌, codes, decimal, flat_map}
use Rattle.bt_net.specs.Network.{Net}
use Rattle.bt_net.specs.Terminals.{name_at}
use Rattle.bt_demand.specs.declared.demand.Link.{Link}
use Rattle.bt_demand.specs.declared.plan.Plan.{Plan}
use Rattle.bt_words.specs.Lines.{line_of}

-- `link FROM TO UNITS`
abbrev pub link_line : Net → Link → List ℕ
link_line net link = line_of (codes "link" ∷ name_at net link.from ∷ name_at net link.to ∷ decimal link.units ∷ [])

-- the links of a demand, a line each
abbrev pub link_lines : Net → List Link → List ℕ
link_lines net links = flat_map (link_line net) links

-- `edition K`, `plan E length L` and `orders C`
abbrev pub state_lines : ℕ → Plan → ℕ → List ℕ
state_lines edition plan orders =
    line_of (codes "edition" ∷ decimal edition ∷ [])
    ++ line_of (codes "plan" ∷ decimal plan.edition.0 ∷ codes "length" ∷ decimal plan.schedule.length ∷ [])
    ++ line_of (codes "orders" ∷ decimal orders ∷ [])

-- the last edition, the newest plan, the number of orders, the links of the demand, and `end`
abbrev pub replay_lines : Net → ℕ → Plan → ℕ → List Link → List ℕ
replay_lines net edition plan orders links = state_lines edition plan orders ++ link_lines net links ++ line_of (codes "end" ∷ [])
