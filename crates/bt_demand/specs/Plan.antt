-- What a burst time plan is, and when none is shorter. The meaning of a plan is a list of triples: a slot of the
-- frame, the terminal that sends in it and the one that receives.
use Rattle.std.specs.Prelude.{◌≡◌, ◌⊎◌, ℕ, ◌+◌, ◌<◌, ◌≤◌, ◌==◌, ◌&&◌, if◌then◌else◌, List, [], length, map, take, sum_by, slice_index, All, AllPairs}
use Rattle.std.specs.List.{range_with_len, flat_map, HoldsAt}
use Rattle.bt_frame.specs.declared.numbers.BeamNo.{BeamNo}
use Rattle.bt_frame.specs.declared.numbers.TermNo.{TermNo}
use Rattle.bt_frame.specs.declared.mode.Mode.{Mode}
use Rattle.bt_frame.specs.declared.schedule.Critical.TheVariants.{Row}
use Rattle.bt_frame.specs.declared.schedule.Schedule.{Schedule}
use Rattle.bt_net.specs.Network.{Net}
use Rattle.bt_matrix.specs.Traffic.{IsLine, line_sum}
use Rattle.bt_matrix.specs.Good.{IsPermutation, HasDurations, IsFilled, total_duration}
use Rattle.bt_demand.specs.declared.burst.Burst.{Burst}
use Rattle.bt_demand.specs.declared.demand.Link.{Link}
use Rattle.bt_demand.specs.declared.plan.Plan.{Plan}
use Rattle.bt_demand.specs.Demand.{units_of}
use Rattle.bt_demand.specs.Traffic.{matrix_of}
use Rattle.bt_net.specs.Terminals.{beam_at, IsInBeam}

-- in this slot one terminal sends to another
pub record Triple : Type 0 where
  pub slot : ℕ
  pub from : TermNo
  pub to : TermNo

-- the triples that a burst spells, one for each of its slots
abbrev pub triples_of : Burst → List Triple
triples_of burst = map (λ slot. record { slot = slot; from = burst.from; to = burst.to }) (range_with_len burst.start burst.length)

-- the triples that all bursts spell
abbrev pub all_triples : List Burst → List Triple
all_triples bursts = flat_map triples_of bursts

-- both links have their uplink in one beam, or both have their downlink in one beam
abbrev pub ShareABeam : Net → TermNo → TermNo → TermNo → TermNo → Type 0
ShareABeam net from to other_from other_to = (beam_at net from ≡ beam_at net other_from) ⊎ (beam_at net to ≡ beam_at net other_to)

-- two triples meet: in one slot, at one beam
pub record Meet (net : Net) (a b : Triple) : Type 0 where
  pub slot : a.slot ≡ b.slot
  pub beam : ShareABeam net a.from a.to b.from b.to

-- how often a link occurs among triples
abbrev pub occurrences : List Triple → TermNo → TermNo → ℕ
occurrences triples from to = sum_by (λ t. if t.from.0 == from.0 && t.to.0 == to.0 then 1 else 0) triples

-- The triples carry the demand in so many slots: no two meet, all lie in these slots, and each link occurs as
-- often as it asks for slots, so that a link that asks for none does not occur.
pub record Carries (net : Net) (links : List Link) (slots : ℕ) (triples : List Triple) : Type 0 where
  pub apart : AllPairs (λ a b. ¬ (Meet net a b)) triples
  pub within : All (λ t. t.slot < slots) triples
  pub served : (from to : TermNo) → occurrences triples from to ≡ units_of links from to

-- the first slot of the mode at that place: the durations of those before it
abbrev pub begin_of : List Mode → ℕ → ℕ
begin_of modes place = total_duration (take place modes)

-- a mode sends the uplink beam of a link to its downlink beam
abbrev pub Connects : Net → Mode → TermNo → TermNo → Type 0
Connects net mode from to = (up down : BeamNo) → IsInBeam net from up → IsInBeam net to down → slice_index mode.perm up.0 ≡ down.0

-- the burst lies within the span of the mode at that place, which makes its connection
pub record IsWithinMode (net : Net) (modes : List Mode) (burst : Burst) (place : ℕ) : Type 0 where
  pub begins : begin_of modes place ≤ burst.start
  pub connected : HoldsAt (λ mode. (burst.start + burst.length ≤ begin_of modes place + mode.duration) × Connects net mode burst.from burst.to) modes place

-- the burst is not empty and lies within one mode, which makes its connection
pub record IsHeld (net : Net) (modes : List Mode) (burst : Burst) : Type 0 where
  pub some : 0 < burst.length
  pub place : ℕ
  pub within : IsWithinMode net modes burst place

-- each mode sends each of the network's beams to a beam of its own
abbrev pub HasSwitchings : Net → Schedule → Type 0
HasSwitchings net schedule = All (λ mode. IsPermutation (length net.beams) mode.perm) schedule.modes

-- the plan is one of the demand: its modes fill its length, and its bursts carry the demand through them
pub record IsPlan (net : Net) (links : List Link) (plan : Plan) : Type 0 where
  pub permutations : HasSwitchings net plan.schedule
  pub durations : HasDurations plan.schedule
  pub filled : IsFilled plan.schedule
  pub carried : Carries net links plan.schedule.length (all_triples plan.bursts)
  pub held : All (IsHeld net plan.schedule.modes) plan.bursts

-- The critical line asks for all of the length, and no list of triples whatever carries the demand in less.
pub record IsShortest (net : Net) (links : List Link) (schedule : Schedule) : Type 0 where
  pub on_matrix : IsLine (matrix_of net links) schedule.critical
  pub reached : line_sum (matrix_of net links) schedule.critical ≡ schedule.length
  pub shortest : (triples : List Triple) (slots : ℕ) → Carries net links slots triples → schedule.length ≤ slots

-- a plan of the demand that no other is shorter than
pub record IsGoodPlan (net : Net) (links : List Link) (plan : Plan) : Type 0 where
  pub carries : IsPlan net links plan
  pub least : IsShortest net links plan.schedule

-- the empty plan, which edition 0 has from the start
abbrev pub empty_plan : Plan
empty_plan = record { edition = record { 0 = 0 }; schedule = record { length = 0; critical = Row (record { 0 = 0 }); modes = [] }; bursts = [] }
