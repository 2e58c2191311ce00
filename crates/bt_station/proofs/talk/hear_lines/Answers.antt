-- the lines were answered, or the talk stopped
use Rattle.std.proofs.Common.{◌≡◌, ◌∙◌, List, ◌++◌, ℕ, Option, refl, sym, ap, subst, rules, arith}
use Rattle.bt_outside.specs.declared.source.Incoming.{Incoming}
use Rattle.bt_outside.specs.Input.{Comes}
use Rattle.bt_outside.specs.Talk.{heard, took}
use Rattle.bt_frame.specs.declared.limits.TheConstants.{MOST_STATION_LINE_BYTES}
use Rattle.bt_station.proofs.Turns.{answer_unsaid, broken_off, err_is, err_is_memory, going_first, going_more, heard_all, heard_fault, heard_over, opening_unsaid, rose_from, unanswered}
use Rattle.bt_station.proofs.talk.hear_lines.Goals as goal

pub returns-in-Err-clause-ends : goal.returns-in-Err-clause-ends
returns-in-Err-clause-ends g c =
    let why = c.in-Err.fault in
    opening_unsaid c.args.net.now _ c.args.station why c.unwritten.result c.in-Err.ensures.no_turn (λ is. c.in-Err.ensures.cause (err_is why is)) (λ is. c.in-Err.ensures.failed (err_is why is))
    (λ is. c.in-Err.ensures.out_of_memory (err_is_memory why is)) c.unwritten.ensures.memory c.unwritten.ensures.failed

pub loop-at-init : goal.loop-at-init
loop-at-init g c = record {
  later = c.say_opening.ensures.later;
  heard = omega (arith, c.say_opening.ensures.input_faults);
  last = omega arith;
  ready = c.requires.ready;
  going = going_first c.args.net.now _ c.args.station _ _ _ _ _ _ c.say_opening.ensures.input (search rules) (search rules);
}

pub returns-in-Err-OutOfMemory-clause-ends : goal.returns-in-Err-OutOfMemory-clause-ends
returns-in-Err-OutOfMemory-clause-ends g c =
    broken_off c.args.net.now _ c.args.station c.loop-at.at c.loop-at.station _ _ _ 1 c.loop-at.invariant.going c.hear.ensures.output c.in-Err-OutOfMemory.ensures.no_turn refl

pub returns-in-Err-hear-clause-ends : goal.returns-in-Err-hear-clause-ends
returns-in-Err-hear-clause-ends g c =
    let comes = subst (λ (o : Option Incoming). Comes MOST_STATION_LINE_BYTES (g.T.Talk.coming c.loop-at.talk) o (g.T.Talk.coming c.hear.new.self)) c.in-Ok-Some.field-0-is c.in-Ok-Some.ensures.next in
    let turn = subst (λ (o : Option Incoming). g.T.Talk.turns c.hear.new.self ≡ took (g.T.Talk.turns c.loop-at.talk) (heard o)) c.in-Ok-Some.field-0-is c.in-Ok-Some.ensures.turn in
    unanswered c.args.net.now _ c.args.station c.loop-at.at c.loop-at.station c.in-Ok-Some.came _ _ _ _ 1 c.loop-at.invariant.going comes c.hear.ensures.output turn refl

pub returns-in-Err-say-clause-ends : goal.returns-in-Err-say-clause-ends
returns-in-Err-say-clause-ends g c =
    let at = c.loop-at.invariant in
    let why = c.in-Err-say.fault in
    let comes = subst (λ (o : Option Incoming). Comes MOST_STATION_LINE_BYTES (g.T.Talk.coming c.loop-at.talk) o (g.T.Talk.coming c.hear.new.self)) c.in-Ok-Some.field-0-is c.in-Ok-Some.ensures.next in
    let turn = subst (λ (o : Option Incoming). g.T.Talk.turns c.hear.new.self ≡ took (g.T.Talk.turns c.loop-at.talk) (heard o)) c.in-Ok-Some.field-0-is c.in-Ok-Some.ensures.turn in
    answer_unsaid c.args.net.now _ c.args.station c.loop-at.at c.loop-at.station c.in-Ok-Some.came c.as_slice.result.now _ _ _ _ _ _ why c.unwritten-in-Err-say.result at.going comes c.hear.ensures.output turn
    (c.as_slice.ensures.value ∙ c.in-Ok.ensures.answer) c.in-Err-say.ensures.no_turn
    (λ is. rose_from _ _ _ (omega (arith, at.later, c.hear.ensures.output_faults)) (c.in-Err-say.ensures.cause.failed (err_is why is))) (λ is. c.in-Err-say.ensures.failed (err_is why is))
    (λ is. c.in-Err-say.ensures.out_of_memory (err_is_memory why is)) c.unwritten-in-Err-say.ensures.memory c.unwritten-in-Err-say.ensures.failed

pub loop-at-preserved : goal.loop-at-preserved
loop-at-preserved g c =
    let at = c.loop-at.invariant in
    let comes = subst (λ (o : Option Incoming). Comes MOST_STATION_LINE_BYTES (g.T.Talk.coming c.loop-at.talk) o (g.T.Talk.coming c.hear.new.self)) c.in-Ok-Some.field-0-is c.in-Ok-Some.ensures.next in
    let turn = subst (λ (o : Option Incoming). g.T.Talk.turns c.hear.new.self ≡ took (g.T.Talk.turns c.loop-at.talk) (heard o)) c.in-Ok-Some.field-0-is c.in-Ok-Some.ensures.turn in
    record {
      later = omega (arith, at.later, c.hear.ensures.output_faults, c.say.ensures.cause.later);
      heard = omega (arith, at.heard, c.hear.ensures.cause.later, c.say.ensures.input_faults);
      last = omega (arith, c.loop-at-test.true);
      ready = c.in-Ok.ensures.ready;
      going = going_more c.args.net.now _ c.args.station c.loop-at.at c.loop-at.station c.in-Ok.answered.0 c.in-Ok-Some.came c.as_slice.result.now _ _ _ _ _ _ _ _ _ _ _ _ at.going comes c.hear.ensures.output turn
          c.in-Ok.ensures.state (c.as_slice.ensures.value ∙ c.in-Ok.ensures.answer) (search rules) (search rules) c.say.ensures.input;
    }
