-- that the input failed was said, or the output failed over it
use Rattle.std.proofs.Common.{rules, ◌≡◌, arith}
use Rattle.bt_station.proofs.Turns.{err_is, err_is_memory, fault_said, fault_unsaid}
use Rattle.bt_station.proofs.talk.hold_talk.Goals as goal

pub returns-in-Ok : goal.returns-in-Ok
returns-in-Ok g c = record {
  ends = fault_said c.args.net.now _ c.args.station _ _ _ _ c.in-Ok-Failed.field-0 c.in-Ok-Failed.field-0-is c.in-Ok-Failed.ensures.heard c.say_input_fault.ensures.input_faults (search rules) (search rules);
}

pub returns-in-Err-say_input_fault : goal.returns-in-Err-say_input_fault
returns-in-Err-say_input_fault g c =
    let why = c.in-Err-say_input_fault.fault in
    record {
      ends = fault_unsaid c.args.net.now _ c.args.station _ _ _ _ why c.unwritten.result c.in-Ok-Failed.field-0 c.in-Ok-Failed.field-0-is c.in-Ok-Failed.ensures.heard c.say_input_fault.ensures.input_faults
          c.in-Err-say_input_fault.ensures.no_turn c.hear_lines.ensures.later (λ is. c.in-Err-say_input_fault.ensures.cause (err_is why is)) (λ is. c.in-Err-say_input_fault.ensures.failed (err_is why is))
          (λ is. c.in-Err-say_input_fault.ensures.out_of_memory (err_is_memory why is)) c.unwritten.ensures.memory c.unwritten.ensures.failed;
    }
