-- the lines were played and answered, or the session stopped
use Rattle.std.proofs.Common.{◌≡◌, ◌∙◌, false, option_map, List, ◌++◌, ℕ, Option, refl, sym, ap, subst, rules, arith}
use Rattle.std.proofs.lemmas.List.Elements.{All-nil}
use Rattle.bt_outside.specs.declared.source.Incoming.{Incoming}
use Rattle.bt_outside.specs.Input.{said_by}
use Rattle.bt_outside.specs.Talk.{heard, took}
use Rattle.bt_history.specs.Machine.{State}
use Rattle.bt_talk.specs.Blocks.{IsBlockFor, IsOpenFor, Open, row_of}
use Rattle.bt_round.proofs.OnOk.{where_ok}
use Rattle.bt_centre.specs.Answering.{SessionGoing}
use Rattle.bt_centre.proofs.Ended.{err_is, rose_from}
use Rattle.bt_centre.proofs.SessionEnds.{going_not_played, going_not_said, going_not_taken, going_stopped, heard_all, heard_fault, heard_over, same_session_end, session_not_begun, source_failed}
use Rattle.bt_centre.proofs.Sessions.{comes_of, going_as, going_first, going_more, rounds_behind}
use Rattle.bt_centre.proofs.session.play_lines.Goals as goal

pub returns-in-Err-clause-ended : goal.returns-in-Err-clause-ended
returns-in-Err-clause-ended g c =
    let end = c.end.ensures in
    same_session_end c.args.net.now c.args.sites _ _ _ _ _ _ _ _ _ _ _ c.args.playing.book c.stop.result _ _ _ _ _ _ c.unwritten.result end.told end.faults end.crashes end.histories end.events end.status
    (session_not_begun c.args.net.now c.args.sites c.args.playing c.stop.result c.in-Err.fault _ _ _ _ _ _ _ _ _ _ _ c.unwritten.result (c.installed_plans_are_good.ensures.good c.args.net.now) c.requires.begun c.stop.ensures
    (λ is. c.in-Err.ensures.cause (err_is c.in-Err.fault is)) (λ is. c.in-Err.ensures.failed (err_is c.in-Err.fault is)) c.in-Err.ensures.no_turn c.unwritten.ensures.memory c.unwritten.ensures.failed refl c.say_opening.ensures.last)

pub loop-at-init : goal.loop-at-init
loop-at-init g c =
    let closed = sym c.none-opened.ensures.none in
    record {
      later = c.say_opening.ensures.later;
      heard = omega (arith, c.say_opening.ensures.input_faults);
      few = omega (arith, c.requires.begun.rounds);
      last = omega arith;
      names = subst (IsOpenFor c.args.net.now) closed (All-nil (IsBlockFor c.args.net.now));
      going = subst (λ (b : Open). SessionGoing c.args.net.now c.args.sites c.args.playing.book 1 b false c.args.playing (g.T.Talk.coming c.args.talk.now) (g.T.Talk.coming c.say_opening.new.talk) (g.T.Sink.told c.args.talk.now) (g.T.Sink.told c.say_opening.new.talk)
          (g.T.Talk.turns c.args.talk.now) (g.T.Talk.turns c.say_opening.new.talk) (g.C.Clock.coming c.args.clock.now) (g.C.Clock.coming c.args.clock.now)) closed
          (going_first c.args.net.now c.args.sites c.args.playing (record { told = c.args.playing.book.told; faults = c.args.playing.book.faults; crashes = c.args.playing.book.crashes }) c.requires.begun _ _ _ _ _ _ _ c.say_opening.ensures.input (search rules)
          (where_ok c.say_opening.result (search rules) c.say_opening.ensures.turn) c.say_opening.ensures.shows refl c.say_opening.ensures.last);
    }

pub returns-in-Ok-None-clause-heard : goal.returns-in-Ok-None-clause-heard
returns-in-Ok-None-clause-heard g c =
    let at = c.loop-at.invariant in
    let comes = comes_of c.args.sites c.line_bytes.result (g.T.Talk.coming c.loop-at.talk) (g.T.Talk.coming c.hear.new.self) _ _ c.line_bytes.ensures c.in-Ok-None.field-0-is c.in-Ok-None.ensures.next in
    let turn = subst (λ (o : Option Incoming). g.T.Talk.turns c.hear.new.self ≡ took (g.T.Talk.turns c.loop-at.talk) (heard o)) c.in-Ok-None.field-0-is c.in-Ok-None.ensures.turn in
    heard_over c.args.net.now c.args.sites c.args.playing.book c.loop-at.at c.loop-at.opened c.loop-at.timed c.loop-at.playing _ _ _ _ _ _ _ _ _ _ _ _ _ _ _ _ at.going comes c.hear.ensures.output turn

pub returns-in-Err-Failed-clause-heard : goal.returns-in-Err-Failed-clause-heard
returns-in-Err-Failed-clause-heard g c =
    let at = c.loop-at.invariant in
    heard_fault c.args.net.now c.args.sites c.args.playing.book c.loop-at.at c.loop-at.opened c.loop-at.timed c.loop-at.playing _ _ _ _ _ _ _ _ _ _ _ _ _ _ _ at.going
    (rose_from _ _ _ at.heard (source_failed _ _ c.in-Err-Failed.field-0 c.in-Err-Failed.ensures.cause c.in-Err-Failed.field-0-is)) c.hear.ensures.output c.in-Err-Failed.ensures.no_turn

pub returns-in-Err-OutOfMemory-clause-ended : goal.returns-in-Err-OutOfMemory-clause-ended
returns-in-Err-OutOfMemory-clause-ended g c =
    let end = c.end-in-Err-OutOfMemory.ensures in
    same_session_end c.args.net.now c.args.sites _ _ _ _ _ _ _ _ _ _ _ c.args.playing.book c.stop-in-Err-OutOfMemory.result _ _ _ _ _ _ 1 end.told end.faults end.crashes end.histories end.events end.status
    (going_stopped c.args.net.now c.args.sites _ c.args.playing.book c.loop-at.at c.loop-at.opened c.loop-at.timed c.loop-at.playing c.stop-in-Err-OutOfMemory.result _ _ _ _ _ 1 c.loop-at.invariant.going c.in-Err-OutOfMemory.ensures.no_turn c.stop-in-Err-OutOfMemory.ensures refl refl)

pub returns-in-Err-take-clause-ended : goal.returns-in-Err-take-clause-ended
returns-in-Err-take-clause-ended g c =
    let end = c.end-in-Err-take.ensures in
    same_session_end c.args.net.now c.args.sites _ _ _ _ _ _ _ _ _ _ _ c.args.playing.book c.stop-in-Err-take.result _ _ _ _ _ _ 1 end.told end.faults end.crashes end.histories end.events end.status
    (going_not_taken c.args.net.now c.args.sites _ c.args.playing.book c.loop-at.at c.loop-at.opened c.loop-at.timed c.in-Ok-Some.came c.loop-at.playing c.stop-in-Err-take.result _ _ _ _ _ _ c.in-Err-take.ensures.err.0 1 c.loop-at.invariant.going
    (subst (λ (o : Option Incoming). g.T.Talk.turns c.hear.new.self ≡ took (g.T.Talk.turns c.loop-at.talk) (heard o)) c.in-Ok-Some.field-0-is c.in-Ok-Some.ensures.turn) c.in-Err-take.ensures.err.1 c.stop-in-Err-take.ensures refl refl)

pub returns-in-Err-say_both-clause-ended : goal.returns-in-Err-say_both-clause-ended
returns-in-Err-say_both-clause-ended g c =
    let end = c.end-in-Err-say_both.ensures in
    let at = c.loop-at.invariant in
    let why = c.in-Err-say_both.fault in
    let text = c.in-Ok-play_step.text.items in
    let comes = comes_of c.args.sites c.line_bytes.result (g.T.Talk.coming c.loop-at.talk) (g.T.Talk.coming c.hear.new.self) _ _ c.line_bytes.ensures c.in-Ok-Some.field-0-is c.in-Ok-Some.ensures.next in
    let turn = subst (λ (o : Option Incoming). g.T.Talk.turns c.hear.new.self ≡ took (g.T.Talk.turns c.loop-at.talk) (heard o)) c.in-Ok-Some.field-0-is c.in-Ok-Some.ensures.turn in
    same_session_end c.args.net.now c.args.sites _ _ _ _ _ _ _ _ _ _ _ c.args.playing.book c.stop-in-Err-say_both.result _ _ _ _ _ _ c.unwritten-in-Err-say_both.result end.told end.faults end.crashes end.histories end.events end.status
    (going_not_said c.args.net.now c.args.sites c.args.playing.book c.loop-at.at c.loop-at.opened c.in-Ok.taken.blocks c.loop-at.timed c.in-Ok-Some.came c.in-Ok.taken.step (option_map (λ told. told.items) c.in-Ok.taken.told) c.loop-at.playing c.in-Ok-play_step.next text
    (text ++ c.as_slice.result.now) (record { told = c.in-Ok-play_step.next.book.told; faults = c.in-Ok-play_step.next.book.faults; crashes = c.in-Ok-play_step.next.book.crashes }) c.stop-in-Err-say_both.result why _ _ _ _ _ _ _ _ _ _ _ _ _ _ _ _ _ _ _ _ c.unwritten-in-Err-say_both.result (c.installed_plans_are_good.ensures.good c.args.net.now)
    at.going comes c.hear.ensures.output turn (c.in-Ok.ensures.row ∙ ap (λ (s : State). row_of c.args.net.now c.args.sites c.loop-at.at c.loop-at.opened s.changes (said_by c.in-Ok-Some.came)) c.book.ensures.state) c.in-Ok-play_step.ensures.played (c.in-Ok.ensures.asked ∙ c.in-Ok.ensures.timed) c.in-Ok.ensures.ticks c.stop-in-Err-say_both.ensures refl
    (ap (λ (a : List ℕ). text ++ a) (c.as_slice.ensures.value ∙ c.in-Ok.ensures.answer))
    (omega (arith, at.later, c.hear.ensures.output_faults)) (λ is. c.in-Err-say_both.ensures.cause (err_is why is)) (λ is. c.in-Err-say_both.ensures.failed (err_is why is)) c.in-Err-say_both.ensures.no_turn
    c.unwritten-in-Err-say_both.ensures.memory c.unwritten-in-Err-say_both.ensures.failed refl refl c.say_both.ensures.last)

pub returns-in-Err-play_step-clause-ended : goal.returns-in-Err-play_step-clause-ended
returns-in-Err-play_step-clause-ended g c =
    let end = c.end-in-Err-play_step.ensures in
    let at = c.loop-at.invariant in
    let comes = comes_of c.args.sites c.line_bytes.result (g.T.Talk.coming c.loop-at.talk) (g.T.Talk.coming c.hear.new.self) _ _ c.line_bytes.ensures c.in-Ok-Some.field-0-is c.in-Ok-Some.ensures.next in
    let turn = subst (λ (o : Option Incoming). g.T.Talk.turns c.hear.new.self ≡ took (g.T.Talk.turns c.loop-at.talk) (heard o)) c.in-Ok-Some.field-0-is c.in-Ok-Some.ensures.turn in
    same_session_end c.args.net.now c.args.sites _ _ _ _ _ _ _ _ _ _ _ c.args.playing.book c.in-Err-play_step.remains _ _ _ _ _ _ c.say_no_restart-status.result end.told end.faults end.crashes end.histories end.events end.status
    (going_not_played c.args.net.now c.args.sites c.args.playing.book c.loop-at.at c.loop-at.opened c.in-Ok.taken.blocks c.loop-at.timed c.in-Ok-Some.came c.in-Ok.taken.step (option_map (λ told. told.items) c.in-Ok.taken.told) c.loop-at.playing c.in-Err-play_step.remains
    c.in-Err-play_step.fault _ _ _ _ _ _ _ _ _ _ _ _ _ _ _ _ _ _ _ _ _ c.say_no_restart-status.result (c.installed_plans_are_good.ensures.good c.args.net.now)
    at.going comes c.hear.ensures.output turn (c.in-Ok.ensures.row ∙ ap (λ (s : State). row_of c.args.net.now c.args.sites c.loop-at.at c.loop-at.opened s.changes (said_by c.in-Ok-Some.came)) c.book.ensures.state) c.in-Ok.ensures.ticks c.in-Err-play_step.ensures.failed (omega (arith, at.later, c.hear.ensures.output_faults)) c.say_no_restart-status.ensures.said refl)

pub loop-at-preserved : goal.loop-at-preserved
loop-at-preserved g c =
    let at = c.loop-at.invariant in
    let text = c.in-Ok-play_step.text.items in
    let comes = comes_of c.args.sites c.line_bytes.result (g.T.Talk.coming c.loop-at.talk) (g.T.Talk.coming c.hear.new.self) _ _ c.line_bytes.ensures c.in-Ok-Some.field-0-is c.in-Ok-Some.ensures.next in
    let turn = subst (λ (o : Option Incoming). g.T.Talk.turns c.hear.new.self ≡ took (g.T.Talk.turns c.loop-at.talk) (heard o)) c.in-Ok-Some.field-0-is c.in-Ok-Some.ensures.turn in
    record {
      later = omega (arith, at.later, c.hear.ensures.output_faults, c.say_both.ensures.later);
      heard = omega (arith, at.heard, c.hear.ensures.cause.later, c.say_both.ensures.input_faults);
      few = rounds_behind c.args.net.now c.in-Ok.taken.step c.loop-at.playing c.in-Ok-play_step.next text c.loop-at.at c.in-Ok.ensures.part c.in-Ok-play_step.ensures.played at.few;
      last = omega (arith, c.loop-at-test.true);
      names = c.in-Ok.ensures.terminals;
      going = going_as _ _ _ _ _ _ _ _ _ _ _ _ _ _ _ _ c.in-Ok.ensures.timed (going_more c.args.net.now c.args.sites c.args.playing.book c.loop-at.at c.loop-at.opened c.in-Ok.taken.blocks c.loop-at.timed c.in-Ok-Some.came c.in-Ok.taken.step (option_map (λ told. told.items) c.in-Ok.taken.told) c.loop-at.playing c.in-Ok-play_step.next text
          (text ++ c.as_slice.result.now) (record { told = c.in-Ok-play_step.next.book.told; faults = c.in-Ok-play_step.next.book.faults; crashes = c.in-Ok-play_step.next.book.crashes }) _ _ _ (g.T.Talk.coming c.say_both.new.talk) _ _ _ (g.T.Sink.told c.say_both.new.talk) _ _ _ (g.T.Talk.turns c.say_both.new.talk) _ _ _ at.going comes c.hear.ensures.output turn (c.in-Ok.ensures.row ∙ ap (λ (s : State). row_of c.args.net.now c.args.sites c.loop-at.at c.loop-at.opened s.changes (said_by c.in-Ok-Some.came)) c.book.ensures.state) c.in-Ok-play_step.ensures.played (c.in-Ok.ensures.asked ∙ c.in-Ok.ensures.timed) c.in-Ok.ensures.ticks
          (ap (λ (a : List ℕ). text ++ a) (c.as_slice.ensures.value ∙ c.in-Ok.ensures.answer)) (search rules) (search rules) c.say_both.ensures.shows c.say_both.ensures.input refl c.say_both.ensures.last);
    }

pub returns-clause-heard : goal.returns-clause-heard
returns-clause-heard g c =
    let at = c.loop-at.invariant in
    heard_all c.args.net.now c.args.sites c.args.playing.book c.loop-at.at c.loop-at.opened c.loop-at.timed c.loop-at.playing _ _ _ _ _ _ _ _ _ _ _ _ _ at.going (omega (arith, at.last, c.loop-at-test.false))
