-- The terminals that a verdict on a plan names are the network's, and a verdict on a schedule names none.
use Rattle.std.proofs.Common.{ℕ, List, Some, None}
use Rattle.bt_net.specs.Network.{Net}
use Rattle.bt_demand.specs.declared.demand.Link.{Link}
use Rattle.bt_demand.specs.declared.plan.Plan.{Plan}
use Rattle.bt_demand.specs.declared.verdict.Verdict.{Verdict}
use Rattle.bt_demand.specs.declared.verdict.Verdict.TheVariants.{Good, V1, V2, V3, V4, V5, V6, V7, V8}
use Rattle.bt_frame.specs.declared.schedule.Schedule.{Schedule}
use Rattle.bt_demand.specs.Verdict.{IsVerdict}
use Rattle.bt_demand.specs.PlanVerdict.{IsPlanVerdict}
use Rattle.bt_timeline.specs.Verdicts.{CanName}

pub verdict_names : (net : Net) (links : List Link) (plan : Plan) (verdict : Verdict) → IsPlanVerdict net links plan verdict → CanName (Some net) verdict
verdict_names net links plan Good is = tt
verdict_names net links plan (V1 _) is = tt
verdict_names net links plan (V2 _) is = tt
verdict_names net links plan (V3 _ _) is = tt
verdict_names net links plan (V4 _ _) is = tt
verdict_names net links plan (V5 _ _) is = tt
verdict_names net links plan (V6 _) is = tt
verdict_names net links plan (V7 from to want have) is = (is.3.sends, is.3.receives)
verdict_names net links plan (V8 _ _ _ _) is = tt

pub verdict_names_none : (rows : List (List ℕ)) (schedule : Schedule) (verdict : Verdict) → IsVerdict rows schedule verdict → CanName None verdict
verdict_names_none rows schedule Good is = tt
verdict_names_none rows schedule (V1 _) is = tt
verdict_names_none rows schedule (V2 _) is = tt
verdict_names_none rows schedule (V3 _ _) is = tt
verdict_names_none rows schedule (V4 _ _) is = tt
verdict_names_none rows schedule (V5 _ _) is = tt
verdict_names_none rows schedule (V6 _) is = tt
verdict_names_none rows schedule (V7 _ _ _ _) is = absurd is
verdict_names_none rows schedule (V8 _ _ _ _) is = tt
