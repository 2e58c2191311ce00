-- Bursts that meet, as the checker looks for them: by the end of the latest burst in each beam.
use Rattle.std.specs.Prelude.{◌≡◌, ℕ, ◌+◌, ◌<◌, ◌≤◌, List, length, take, slice_index, Option, Some, All}
use Rattle.std.specs.List.{HoldsAt, Any}
use Rattle.bt_frame.specs.declared.limits.TheConstants.{MOST_BEAMS}
use Rattle.bt_frame.specs.declared.numbers.BeamNo.{BeamNo}
use Rattle.bt_net.specs.Network.{Net}
use Rattle.bt_demand.specs.declared.burst.Burst.{Burst}
use Rattle.bt_demand.specs.Burst.{Covers}
use Rattle.bt_net.specs.Terminals.{beam_at}
use Rattle.bt_demand.specs.PlanVerdict.{Collide, AreApart}

-- one slot is of both bursts
pub record ShareASlot (a b : Burst) : Type 0 where
  pub slot : ℕ
  pub first : Covers a slot
  pub second : Covers b slot

-- the burst at that place is the first that meets the other one
pub record IsFirstMet (net : Net) (bursts : List Burst) (burst : Burst) (place : ℕ) : Type 0 where
  pub within : place < length bursts
  pub meets : HoldsAt (λ a. Collide net a burst) bursts place
  pub earlier : All (λ a. ¬ (Collide net a burst)) (take place bursts)

-- the burst at that place is the first that does not miss all earlier ones
pub record IsFirstLate (net : Net) (bursts : List Burst) (place : ℕ) : Type 0 where
  pub within : place < length bursts
  pub late : HoldsAt (λ b. ¬ (All (λ a. ¬ (Collide net a b)) (take place bursts))) bursts place
  pub apart : AreApart net (take place bursts)

-- the burst is not empty, and in that beam at the end that is looked at
pub record IsOfBeam (beam_of : Burst → Option BeamNo) (beam : BeamNo) (burst : Burst) : Type 0 where
  pub some : 0 < burst.length
  pub in_beam : beam_of burst ≡ Some beam

-- The latest end of these bursts in each beam, at the one end of each that is looked at; 0 where the beam has none.
pub record AreEnds (beam_of : Burst → Option BeamNo) (bursts : List Burst) (ends : List ℕ) : Type 0 where
  pub wide : length ends ≡ MOST_BEAMS
  pub none_later : (beam : BeamNo) → beam.0 < MOST_BEAMS → All (λ a. IsOfBeam beam_of beam a → a.start + a.length ≤ slice_index ends beam.0) bursts
  pub reached : (beam : BeamNo) → beam.0 < MOST_BEAMS → 0 < slice_index ends beam.0 → Any (λ a. IsOfBeam beam_of beam a × (a.start + a.length ≡ slice_index ends beam.0)) bursts

-- the beam in which a burst goes up, and the one in which it comes down
abbrev pub uplink_of : Net → Burst → Option BeamNo
uplink_of net burst = beam_at net burst.from

abbrev pub downlink_of : Net → Burst → Option BeamNo
downlink_of net burst = beam_at net burst.to
