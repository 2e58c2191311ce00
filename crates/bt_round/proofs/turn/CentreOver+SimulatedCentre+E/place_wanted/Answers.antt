use Rattle.std.proofs.Common.{Option, IfSome, sym, ◌∙◌, subst}
use Rattle.bt_air.specs.declared.order.Order.{Order}
use Rattle.bt_history.specs.Causes.{CanCome}
use Rattle.bt_round.specs.Callers.{own_of}
use Rattle.bt_round.proofs.Wanted.{order-answers}
use Rattle.bt_round.proofs.Turning.{none-asked}
use Rattle.bt_round.proofs.turn.CentreOver+SimulatedCentre+E.place_wanted.Goals as goal

pub returns-in_default-clause-played : goal.returns-in_default-clause-played
returns-in_default-clause-played g c =
    none-asked c.args.net.now c.args.self.now _ (own_of c.args.caller.now) c.args.text.now.items (sym c.placeable.ensures.wanted ∙ c.in_default.is)

pub ask-requires-clause-terminals : goal.ask-requires-clause-terminals
ask-requires-clause-terminals g c = subst (λ (w : Option Order). IfSome w CanCome) c.in-Some.is c.placeable.ensures.can_come

pub tell_answer-requires-clause-reply : goal.tell_answer-requires-clause-reply
tell_answer-requires-clause-reply g c = order-answers c.args.net.now c.in_ok-entry.entry c.in-Some.order c.in_ok-entry.ensures.answered c.in_ok-entry.ensures.call
