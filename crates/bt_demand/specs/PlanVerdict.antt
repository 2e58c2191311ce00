-- Which verdict a burst time plan gets: of all that is wrong, the fault of the lowest number, at its first place.
use Rattle.std.specs.Prelude.{◌≡◌, ◌≢◌, ℕ, ◌<◌, List, length, take, All}
use Rattle.std.specs.List.{HoldsAt}
use Rattle.bt_frame.specs.declared.numbers.TermNo.{TermNo}
use Rattle.bt_frame.specs.declared.schedule.Schedule.{Schedule}
use Rattle.bt_net.specs.Network.{Net}
use Rattle.bt_net.specs.Terminals.{IsTerminal}
use Rattle.bt_matrix.specs.Traffic.{IsHeaviest}
use Rattle.bt_matrix.specs.Good.{IsPermutation, HasDurations, IsFilled, IsLeast, total_duration}
use Rattle.bt_demand.specs.declared.burst.Burst.{Burst}
use Rattle.bt_demand.specs.declared.demand.Link.{Link}
use Rattle.bt_demand.specs.declared.plan.Plan.{Plan}
use Rattle.bt_demand.specs.declared.verdict.Verdict.{Verdict}
use Rattle.bt_demand.specs.declared.verdict.Verdict.TheVariants.{Good, V1, V2, V3, V4, V5, V6, V7, V8}
pub use Rattle.bt_demand.specs.Apart.{AreApart, AreBetweenTerminals, Collide, slots_sent}
use Rattle.bt_demand.specs.Demand.{IsBefore, units_of}
use Rattle.bt_demand.specs.Plan.{HasSwitchings, IsHeld, IsGoodPlan}
use Rattle.bt_demand.specs.Traffic.{matrix_of}
use Rattle.bt_demand.specs.Verdict.{IsFirstWithout}

-- the burst at place `second` is the first that meets an earlier one, and `first` is the earliest that it meets
pub record IsFirstMeeting (net : Net) (bursts : List Burst) (first second : ℕ) : Type 0 where
  pub before : first < second
  pub meet : HoldsAt (λ b. HoldsAt (λ a. Collide net a b) bursts first) bursts second
  pub earliest : HoldsAt (λ b. All (λ a. ¬ (Collide net a b)) (take first bursts)) bursts second
  pub apart : AreApart net (take second bursts)

-- the link has as many slots of bursts as it asks for
abbrev pub IsServed : List Link → List Burst → TermNo → TermNo → Type 0
IsServed links bursts from to = slots_sent bursts from to ≡ units_of links from to

-- the first link in order whose bursts have another number of slots than it asks for, with both numbers
pub record IsFirstUnserved (net : Net) (links : List Link) (bursts : List Burst) (from to : TermNo) (want have : ℕ) : Type 0 where
  pub sends : IsTerminal net from
  pub receives : IsTerminal net to
  pub wanted : want ≡ units_of links from to
  pub sent : have ≡ slots_sent bursts from to
  pub differ : want ≢ have
  pub earlier : (a b : TermNo) → IsBefore (a, b) (from, to) → IsServed links bursts a b

-- the modes are permutations, last, fill the length, and the length is the greatest line sum
pub record HasGoodModes (net : Net) (links : List Link) (schedule : Schedule) : Type 0 where
  pub permutations : HasSwitchings net schedule
  pub durations : HasDurations schedule
  pub filled : IsFilled schedule
  pub least : IsLeast (matrix_of net links) schedule

-- The verdict on a plan. V8 speaks of connections that modes alone leave short; a plan's links are named by V7.
abbrev pub IsPlanVerdict : Net → List Link → Plan → Verdict → Type 0
IsPlanVerdict net links plan Good = IsGoodPlan net links plan
IsPlanVerdict net links plan (V1 mode) = IsFirstWithout (λ m. IsPermutation (length net.beams) m.perm) plan.schedule.modes mode
IsPlanVerdict net links plan (V2 mode) = HasSwitchings net plan.schedule × IsFirstWithout (λ m. 0 < m.duration) plan.schedule.modes mode
IsPlanVerdict net links plan (V3 sum length) = HasSwitchings net plan.schedule × HasDurations plan.schedule × (sum ≡ total_duration plan.schedule.modes) × (length ≡ plan.schedule.length) × (sum ≢ length)
IsPlanVerdict net links plan (V4 critical sum) = HasSwitchings net plan.schedule × HasDurations plan.schedule × IsFilled plan.schedule × ¬ (IsLeast (matrix_of net links) plan.schedule) × IsHeaviest (matrix_of net links) critical sum
IsPlanVerdict net links plan (V5 first second) = HasGoodModes net links plan.schedule × IsFirstMeeting net plan.bursts first second
IsPlanVerdict net links plan (V6 burst) = HasGoodModes net links plan.schedule × AreApart net plan.bursts × IsFirstWithout (IsHeld net plan.schedule.modes) plan.bursts burst
IsPlanVerdict net links plan (V7 from to want have) = HasGoodModes net links plan.schedule × AreApart net plan.bursts × All (IsHeld net plan.schedule.modes) plan.bursts × IsFirstUnserved net links plan.bursts from to want have
IsPlanVerdict net links plan (V8 _ _ _ _) = ⊥
