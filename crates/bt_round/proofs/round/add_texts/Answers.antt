-- three texts one behind the other
use Rattle.std.proofs.Common.{◌+◌, ◌++◌, List, ap, map, ◌∙◌, arith, rules}
use Rattle.std.specs.List.{flat_map}
use Rattle.bt_round.specs.Seats.{text_at}
use Rattle.bt_round.proofs.DeskSeats.{Desk}
use Rattle.bt_round.proofs.Rounds.{three_texts}
use Rattle.bt_round.proofs.round.add_texts.Goals as goal

pub returns-clause-texts : goal.returns-clause-texts
returns-clause-texts g c =
    three_texts c.args.workers.now (λ w. w.text.items) c.index-workers-0.result c.index-workers-1.result c.args.text.now.items c.add_desk_texts.new.text.items c.extend_from_slice.new.self.items
    c.extend_from_slice-2.new.self.items _ (omega (arith, c.requires.seats)) c.index-workers-1.is c.index-workers-0.is (c.in_ok-add_desk_texts.ensures
    ∙ ap (λ (desks : List Desk). c.args.text.now.items ++ flat_map (λ (desk : Desk). text_at (desk.0 + 1) (map (λ worker. worker.text.items) c.args.workers.now)) desks) c.as_slice.ensures.same)
    (search rules) (search rules)
