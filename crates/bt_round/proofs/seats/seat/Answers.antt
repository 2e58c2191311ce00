-- a pass that has seen nothing is one of a caller
use Rattle.std.proofs.Common.{List, refl, sym, subst}
use Rattle.bt_shared.specs.declared.object.TurnEntry as line
use Rattle.bt_shared.specs.Legal.{Legal}
use Rattle.bt_journal.specs.declared.call.Call.{Call}
use Rattle.bt_journal.specs.declared.reply.Reply.{Reply}
use Rattle.bt_history.specs.Book.{book_steps}
use Rattle.bt_round.proofs.seats.seat.Goals as goal

pub new-requires-clause-legal : goal.new-requires-clause-legal
new-requires-clause-legal g c =
    let start = c.args.line.now.table.shared.key.value in
    (start, subst (λ (l : List (line.TurnEntry Call Reply)). Legal book_steps start l start) (sym c.requires.unseen) refl)
