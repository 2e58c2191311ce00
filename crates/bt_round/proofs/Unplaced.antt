-- What a machine's reply to an order may be.
use Rattle.std.proofs.Common.{◌≡◌, List, inl, inr, refl, sym, subst}
use Rattle.bt_net.specs.Network.{Net}
use Rattle.bt_air.specs.declared.order.Order.{Order}
use Rattle.bt_history.specs.Causes.{IsCause}
use Rattle.bt_history.specs.Machine.{ChangeStep, State, Tells}
use Rattle.bt_journal.specs.declared.call.Change.{Change}
use Rattle.bt_journal.specs.declared.call.Change.TheVariants as change
use Rattle.bt_journal.specs.declared.reply.Reply.{Reply}
use Rattle.bt_journal.specs.declared.reply.Reply.TheVariants as replies
use Rattle.bt_timeline.specs.Air.{IsUnplaced}
use Rattle.bt_round.specs.Worker.{AnswersOrder}

refused-unplaced : (net : Net) (changes : List Change) (order : Order) (reply : Reply) → IsCause net changes (change.Order order) reply → IsUnplaced reply
refused-unplaced net changes order (replies.OutOfTurn last) cause = tt
refused-unplaced net changes order (replies.NotInstalled newest) cause = tt
refused-unplaced net changes order _ cause = absurd cause

tells-placed : (net : Net) (changes : List Change) (order : Order) (reply : Reply) → Tells net changes (change.Order order) reply → reply ≡ replies.Placed
tells-placed net changes order replies.Placed tells = refl
tells-placed net changes order _ tells = absurd tells

-- it is placed, or something keeps it from being placed
pub change-answers : (net : Net) (old new : State) (order : Order) (reply : Reply) → ChangeStep net old (change.Order order) reply new → AnswersOrder reply
change-answers net old new order reply (inl halted) = inr (subst IsUnplaced (sym halted.told) tt)
change-answers net old new order reply (inr (inl refused)) = inr (refused-unplaced net old.changes order reply refused.cause)
change-answers net old new order reply (inr (inr (inl full))) = inr (subst IsUnplaced (sym full.told) tt)
change-answers net old new order reply (inr (inr (inr (inl done)))) = inl (tells-placed net new.changes order reply done.told)
change-answers net old new order reply (inr (inr (inr (inr lost)))) = inr (subst IsUnplaced (sym lost.told) tt)
