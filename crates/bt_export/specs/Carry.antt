-- The demand of one network on another, by the names of terminals: which demand that is, which of its links is the first that has
-- no place there, and the journal that is printed of it.
use Rattle.std.specs.Prelude.{◌≡◌, ℕ, ◌-◌, Bool, List, length, take, All}
use Rattle.std.specs.List.{HoldsAt}
use Rattle.bt_frame.specs.declared.numbers.TermNo.{TermNo}
use Rattle.bt_frame.specs.Range.{IsWithin}
use Rattle.bt_net.specs.Network.{Net}
use Rattle.bt_net.specs.Terminals.{IsTerminal, name_at}
use Rattle.bt_demand.specs.declared.demand.Link.{Link}
use Rattle.bt_demand.specs.Demand.{IsDemand, units_where}
use Rattle.bt_demand.specs.Traffic.{AreOfNetwork, HasSumsTo, matrix_of}
use Rattle.bt_journal.specs.declared.call.Change.{Change}
use Rattle.bt_history.specs.Changes.{IsDemandAfter}
use Rattle.bt_history.specs.Recovery.{Recovered}
use Rattle.bt_export.specs.declared.carry.Carried.{Carried}
use Rattle.bt_export.specs.declared.carry.Carried.TheVariants as carried

-- some terminal of the network has that name
abbrev pub HasNamed : Net → List ℕ → Type 0
HasNamed net name = (terminal : TermNo) × IsTerminal net terminal × (name_at net terminal ≡ name)

-- another network has a terminal of the name of each end of a link
pub record HasEnds (net new : Net) (link : Link) : Type 0 where
  pub sends : HasNamed new (name_at net link.from)
  pub receives : HasNamed new (name_at net link.to)

-- the slots of the links between terminals whose names pass a test, in all
abbrev pub units_named : Net → (List ℕ → List ℕ → Bool) → List Link → ℕ
units_named net test links = units_where (λ from to. test (name_at net from) (name_at net to)) links

-- A demand on another network is by names that of the links: whichever names are added up, there are as many slots.
pub record IsCarried (net : Net) (links : List Link) (new : Net) (carried : List Link) : Type 0 where
  pub demand : IsDemand carried
  pub terminals : AreOfNetwork new carried
  pub units : (test : List ℕ → List ℕ → Bool) → units_named new test carried ≡ units_named net test links

-- the link of that number, counted from 1, is the first of which the other network has not both ends
pub record IsFirstGone (net : Net) (links : List Link) (new : Net) (number : ℕ) : Type 0 where
  pub counted : IsWithin 1 (length links) number
  pub gone : HoldsAt (λ link. ¬ (HasEnds net new link)) links (number - 1)
  pub before : All (HasEnds net new) (take (number - 1) links)

-- what links come to on another network: a demand there, or the first that has no place
abbrev pub ComesTo : Net → List Link → Net → Carried → Type 0
ComesTo net links new (carried.Demand demand) = IsCarried net links new demand
ComesTo net links new (carried.Gone number) = IsFirstGone net links new number

-- what the demand that the bytes tell comes to there
pub record TellsCarried (net : Net) (bytes : List ℕ) (new : Net) (carried : Carried) : Type 0 where
  pub changes : List Change
  pub told : Recovered net bytes changes
  pub links : List Link
  pub demand : IsDemandAfter changes links
  pub comes : ComesTo net links new carried

-- ---- for bodies alone

-- no line of its matrix has more slots than a matrix may have
abbrev pub HasSmallSums : ℕ → Net → Carried → Type 0
HasSmallSums most new (carried.Demand demand) = HasSumsTo most (matrix_of new demand)
HasSmallSums most new (carried.Gone _) = Unit {0}

-- it is between terminals of the network
abbrev pub AreBetween : Net → Carried → Type 0
AreBetween new (carried.Demand demand) = AreOfNetwork new demand
AreBetween new (carried.Gone _) = Unit {0}
