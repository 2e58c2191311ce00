-- The bursts of a good plan keep to their slots.
use Rattle.std.proofs.Common.{List, get_or, All, AllPairs, arith}
use Rattle.bt_net.specs.Network.{Net}
use Rattle.bt_demand.specs.declared.demand.Link.{Link}
use Rattle.bt_demand.specs.declared.plan.Plan.{Plan}
use Rattle.bt_demand.specs.Apart.{AreBetweenTerminals}
use Rattle.bt_demand.specs.Plan.{IsGoodPlan}
use Rattle.bt_demand.proofs.BurstTriples.{bursts_apart}
use Rattle.bt_timing.specs.Times.{Times, AreTimes}
use Rattle.bt_timing.specs.Arrival.{TrueDelays, AreWithinGuard, KeepsToItsSlots, KeepsToItsMode, ArriveApart, LeaveApart}
use Rattle.bt_timing.proofs.Windows.{keeps_to_slots, keeps_to_mode, arrive_apart, leave_apart}

module _ (net : Net) (links : List Link) (plan : Plan) (times : Times) (delays : TrueDelays) (good : IsGoodPlan net links plan)
    (between : AreBetweenTerminals net plan.bursts) (are : AreTimes times) (guarded : AreWithinGuard net times delays) where
  -- each in its slots
  pub all_keep_to_slots : All (KeepsToItsSlots times delays) plan.bursts
  all_keep_to_slots k d within =
      let burst = get_or plan.bursts k d in
      keeps_to_slots times delays burst are (guarded burst.from (between k d within).0) (good.carries.held k d within).some

  -- each in its mode
  pub all_keep_to_modes : All (KeepsToItsMode net plan.schedule.modes times delays) plan.bursts
  all_keep_to_modes k d within =
      keeps_to_mode net plan.schedule.modes times delays (get_or plan.bursts k d) (good.carries.held k d within) (all_keep_to_slots k d within)

  -- no two in one tick at one beam
  pub all_arrive_apart : AllPairs (ArriveApart net times delays) plan.bursts
  all_arrive_apart i j d lt within =
      arrive_apart net times delays (get_or plan.bursts i d) (get_or plan.bursts j d) (bursts_apart net plan.bursts good.carries.carried.apart i j d lt within)
      (all_keep_to_slots i d (omega arith)) (all_keep_to_slots j d within)

-- no terminal sends two in one tick
pub all_leave_apart : (net : Net) (links : List Link) (plan : Plan) (times : Times) → IsGoodPlan net links plan → AllPairs (LeaveApart times) plan.bursts
all_leave_apart net links plan times good i j d lt within =
    leave_apart net times (get_or plan.bursts i d) (get_or plan.bursts j d) (bursts_apart net plan.bursts good.carries.carried.apart i j d lt within)
