-- Links kept in a table with a place for each pair of terminals. Only bodies use it.
use Rattle.std.specs.Prelude.{ℕ, zero, suc, ◌≡◌, ◌≢◌, ◌+◌, ◌*◌, ◌/◌, ◌%◌, ◌<◌, ◌≤◌, List, [], ◌∷◌, length}
use Rattle.bt_frame.specs.declared.limits.TheConstants.{MOST_TERMINALS, MOST_SUM}
use Rattle.bt_frame.specs.declared.numbers.TermNo.{TermNo}
use Rattle.bt_demand.specs.declared.demand.Link.{Link}

-- the terminal that sends on the link of a place: each has one for each that receives
abbrev pub sender : ℕ → TermNo
sender place = record { 0 = place / MOST_TERMINALS }

-- the terminal that receives
abbrev pub receiver : ℕ → TermNo
receiver place = record { 0 = place % MOST_TERMINALS }

-- the link of a place
abbrev pub link_at : ℕ → ℕ → Link
link_at place units = record { from = sender place; to = receiver place; units = units }

-- the link of a place in front of others, where it asks for slots
unfoldable pub with_place : ℕ → ℕ → List Link → List Link
with_place place zero links = links
with_place place (suc n) links = link_at place (suc n) ∷ links

-- the links of places that follow each other, the first of which is this one
unfoldable pub links_from : ℕ → List ℕ → List Link
links_from place [] = []
links_from place (units ∷ rest) = with_place place units (links_from (place + 1) rest)

-- what a place may ask for: nothing between a terminal and itself, and no more than a line may have
pub record IsPlace (place units : ℕ) : Type 0 where
  pub differ : 0 < units → place / MOST_TERMINALS ≢ place % MOST_TERMINALS
  pub few : units ≤ MOST_SUM

-- places that follow each other, the first of which is this one
unfoldable pub ArePlaces : ℕ → List ℕ → Type 0
ArePlaces place [] = Unit {0}
ArePlaces place (units ∷ rest) = IsPlace place units × ArePlaces (place + 1) rest

-- the table of all pairs of terminals
pub record IsTable (places : List ℕ) : Type 0 where
  pub size : length places ≡ MOST_TERMINALS * MOST_TERMINALS
  pub each : ArePlaces 0 places
