use Rattle.std.proofs.Common.{rules, ap, ◌∙◌, subst}
use Rattle.bt_shared.specs.Turns.{HasTurn}
use Rattle.bt_shared.proofs.Steps.{draws, looks}
use Rattle.bt_shared.proofs.turn.take_turn.Goals as goal

pub fetch_add-ticket-requires : goal.fetch_add-ticket-requires
fetch_add-ticket-requires g c = (search rules, search rules, draws g.O.Object.steps g.O.Object.history c.args.top.now.key.value _ _ _ c.requires.start c.requires.idle)

pub load-served-requires : goal.load-served-requires
load-served-requires g c = let kept = c.loop.invariant.2 in
    (search rules, search rules, looks g.O.Object.steps g.O.Object.history c.args.top.now.key.value _ _ _ kept.0 (ap (λ m. m.0.ticket) kept.2) (ap (λ m. m.0.base) kept.2 ∙ c.requires.idle.1) (ap (λ m. m.1) kept.2 ∙ c.requires.idle.2))

pub returns-then-served-ticket-clause-turn : goal.returns-then-served-ticket-clause-turn
returns-then-served-ticket-clause-turn g c = let kept = c.loop.invariant.2 in let told = c.load-served.ensures.2 kept.0 (ap (λ m. m.0.ticket) kept.2) in
    (kept.0, subst (λ m. HasTurn g.O.Object.steps g.O.Object.history kept.0 m c.load-served.new.seat.me) kept.2 (told.0 (c.if-served-ticket.true ∙ kept.1)))
