use Rattle.std.proofs.Common.{length, ◌∙◌, ap, arith}
use Rattle.bt_air.specs.declared.order.Status.{Status}
use Rattle.bt_machines.specs.Satellite.{status_of}
use Rattle.bt_world.specs.Life.{Life, past_of}
use Rattle.bt_world.proofs.Framed.{length-terminals, few-kept, air-kept}
use Rattle.bt_world.proofs.Kept.{kept-as}
use Rattle.bt_world.proofs.world.WorldOver.frame.Goals as goal

pub on_air-requires-clause-few : goal.on_air-requires-clause-few
on_air-requires-clause-few g c =
    let view : Life = c.args.self.now in
    let is = kept-as _ _ _ c.self.view_is c.self.invariant in
    omega (arith, ap length c.as_slice.ensures.value, ap length is.terminals, length-terminals view.opening (past_of view), is.sound.terminals.count.1)

pub on_air-requires-clause-short : goal.on_air-requires-clause-short
on_air-requires-clause-short g c =
    let view : Life = c.args.self.now in
    let is = kept-as _ _ _ c.self.view_is c.self.invariant in
    let status = c.status-status.ensures.status ∙ ap status_of is.satellite ∙ c.satellite_is_said.ensures.status view.opening (past_of view) in
    few-kept c.transmissions_are_said.ensures.bursts c.flyable_plans_are_small.ensures.few_bursts view _ c.as_slice.result.now c.status-status.result.mark is c.as_slice.ensures.value (ap (λ (s : Status). s.mark.0) status)

pub returns-clause-shown : goal.returns-clause-shown
returns-clause-shown g c =
    let view : Life = c.args.self.now in
    let is = kept-as _ _ _ c.self.view_is c.self.invariant in
    let status = c.status-status.ensures.status ∙ ap status_of is.satellite ∙ c.satellite_is_said.ensures.status view.opening (past_of view) in
    record {
      mark = ap (λ (s : Status). s.mark.0) status;
      number = is.frames_shown;
      fore = ap (λ (s : Status). s.fore) status;
      air = air-kept c.transmissions_are_said.ensures.bursts view _ c.as_slice.result.now c.status-status.result.mark c.in_ok-bursts.bursts is c.as_slice.ensures.value (ap (λ (s : Status). s.mark.0) status)
          c.in_ok-bursts.ensures.of_all c.in_ok-bursts.ensures.ordered;
    }
