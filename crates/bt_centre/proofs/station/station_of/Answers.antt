-- the board shows the newest plan of the book
use Rattle.std.proofs.Common.{[], ◌∷◌, sym, ap, ◌∙◌}
use Rattle.std.proofs.lemmas.List.{append-nil}
use Rattle.bt_demand.specs.declared.plan.Plan.{Plan}
use Rattle.bt_centre.proofs.station.station_of.Goals as goal

pub returns-in-Ok-board-clause-published : goal.returns-in-Ok-board-clause-published
returns-in-Ok-board-clause-published g c = record {
  opening = c.args.book.state.changes;
  since = [];
  parts = sym (append-nil c.args.book.state.changes);
  posted = c.in-Ok-board.ensures.plans ∙ ap (λ (plan : Plan). plan ∷ []) (c.in-Ok.ensures.same ∙ c.newest.ensures.newest);
  desks = c.in-Ok-board.ensures.count;
  met = c.in-Ok-board.ensures.same;
}
