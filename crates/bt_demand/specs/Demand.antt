-- The demand as a list of links, each with its terminals and its slots per frame.
use Rattle.std.specs.Prelude.{◌≡◌, ◌≢◌, ℕ, ◌+◌, ◌<◌, ◌≤◌, ◌==◌, ◌&&◌, if◌then◌else◌, Bool, List, length, take, drop, sum_by, All, AllPairs}
use Rattle.std.specs.List.{HoldsAt}
use Rattle.bt_frame.specs.declared.limits.TheConstants.{MOST_SUM}
use Rattle.bt_frame.specs.declared.numbers.TermNo.{TermNo}
use Rattle.bt_demand.specs.declared.demand.Link.{Link}

-- the terminal that sends, and the one that receives
abbrev pub LinkEnds : Type 0
LinkEnds = TermNo × TermNo

-- the ends of a link
abbrev pub ends_of : Link → LinkEnds
ends_of link = (link.from, link.to)

-- Links stand in order of the terminal that sends, and where that is the same, of the one that receives.
pub record IsBefore (a b : LinkEnds) : Type 0 where
  pub from : a.0.0 ≤ b.0.0
  pub to : a.0.0 ≡ b.0.0 → a.1.0 < b.1.0

-- a link asks for slots between two terminals, for as many as a line may have at most
pub record IsLink (link : Link) : Type 0 where
  pub differ : link.from.0 ≢ link.to.0
  pub some : 0 < link.units
  pub few : link.units ≤ MOST_SUM

-- what holds of every demand: its links are in order, so that each stands once
pub record IsDemand (links : List Link) : Type 0 where
  pub ordered : AllPairs (λ a b. IsBefore (ends_of a) (ends_of b)) links
  pub each : All IsLink links

-- the slots of the links whose ends pass a test, in all
abbrev pub units_where : (TermNo → TermNo → Bool) → List Link → ℕ
units_where test links = sum_by (λ link. if test link.from link.to then link.units else 0) links

-- the slots of one link, 0 where it is not in the list
abbrev pub units_of : List Link → TermNo → TermNo → ℕ
units_of links from to = units_where (λ a b. a.0 == from.0 && b.0 == to.0) links

-- One link has gained so many slots, and all else stayed: whichever links are added up, there are so many more
-- where this link is among them, and as many as before where it is not.
abbrev pub Gains : List Link → List Link → TermNo → TermNo → ℕ → Type 0
Gains old new from to units = (test : TermNo → TermNo → Bool) → units_where test new ≡ units_where test old + (if test from to then units else 0)

-- the link with these ends stands at that place
pub record IsAt (links : List Link) (ends : LinkEnds) (place : ℕ) : Type 0 where
  pub in_range : place < length links
  pub has_ends : HoldsAt (λ link. ends_of link ≡ ends) links place

-- no link has these ends, and one that has them would stand at that place
pub record IsGapFor (links : List Link) (ends : LinkEnds) (place : ℕ) : Type 0 where
  pub in_range : place ≤ length links
  pub before : All (λ link. IsBefore (ends_of link) ends) (take place links)
  pub after : All (λ link. IsBefore ends (ends_of link)) (drop place links)
