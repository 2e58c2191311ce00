use Rattle.std.proofs.Common.{ap, ◌∙◌}
use Rattle.std.proofs.lemmas.Result.{on_ok_weaker}
use Rattle.bt_demand.specs.Flyable.{IsFlyable}
use Rattle.bt_journal.specs.declared.call.Call.TheVariants as call
use Rattle.bt_frame.specs.declared.numbers.EditionNo.{EditionNo}
use Rattle.bt_history.specs.Changes.{newest}
use Rattle.bt_round.specs.Callers.{own_of}
use Rattle.bt_round.proofs.Asking.{still_same}
use Rattle.bt_round.proofs.Turning.{lent-newer, newer-holds, turn-done}
use Rattle.bt_round.proofs.turn.CentreOver+SimulatedCentre+E.take_turn.Goals as goal

pub install-requires-clause-flyable : goal.install-requires-clause-flyable
install-requires-clause-flyable g c =
    let net = c.args.net.now in
    let answered = c.in_ok-reply.ensures.answered in
    newer-holds (IsFlyable net) c.newest-after.result (newest answered.old.changes) c.in-Newest.newer
    (lent-newer net c.in_ok-reply.field-0 c.newest-after.result c.in-Newest.newer answered c.in_ok-reply.ensures.call c.in-Newest.is)
    (c.installed_plans_can_be_flown.ensures.newest net answered.old.changes c.beam_count-beams.ensures.sound answered.follows)

pub returns-clause-played : goal.returns-clause-played
returns-clause-played g c =
    on_ok_weaker c.place_wanted.result
    (λ placed. turn-done c.args.net.now c.args.self.now c.install.new.self c.act.new.self c.place_wanted.new.self c.in_ok-reply.field-0 c.in-Newest.newer
    (own_of c.args.caller.now) (own_of c.ask.new.self) (own_of c.place_wanted.new.caller) c.args.text.now.items c.act.new.text.items c.place_wanted.new.text.items
    (c.in_ok-reply.ensures.caller ∙ c.requires.number) (c.in_ok-reply.ensures.call ∙ ap (λ (e : EditionNo). call.Newest e) c.newest-after.ensures)
    c.in-Newest.is c.in_ok-reply.ensures.kept c.in_ok-install.ensures.air c.in_ok-act.ensures.air c.in_ok-act.ensures.text placed)
    c.place_wanted.ensures.played

pub returns-clause-same : goal.returns-clause-same
returns-clause-same g c = still_same c.args.caller.now c.ask.new.self c.place_wanted.new.caller c.ask.ensures.same c.place_wanted.ensures.same
