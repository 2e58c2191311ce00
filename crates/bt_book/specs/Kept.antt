-- For bodies alone: what is kept of the changes and beside them, the room for one more, and what it is answered.
use Rattle.std.specs.Prelude.{◌≡◌, ℕ, ◌<◌, vec_capacity, vec_len}
use Rattle.bt_frame.specs.declared.numbers.EditionNo.{EditionNo}
use Rattle.bt_journal.specs.declared.call.Change.{Change}
use Rattle.bt_journal.specs.declared.call.Change.TheVariants as change
use Rattle.bt_journal.specs.declared.reply.Reply.{Reply}
use Rattle.bt_journal.specs.declared.reply.Reply.TheVariants.{Done, Installed, Placed}
use Rattle.bt_history.specs.Changes.{edits_among}
use Rattle.bt_history.specs.Occupancy.{HasRoom}
use Rattle.bt_history.specs.Records.{Counts, KeepsUp, Lists}
use Rattle.bt_book.specs.declared.kept.Kept.{Kept}

-- what holds of all that is kept beside the changes
pub record KeepsAll (kept : Kept) : Type 0 where
  pub keeps : KeepsUp kept.occupancy.net kept.changes kept.occupancy.links
  pub counts : Counts kept.occupancy.net kept.changes kept.count kept.edits kept.bytes
  pub lists : Lists kept.changes kept.plans.items kept.orders.items
  pub past : kept.past.items ≡ edits_among kept.changes

-- there is room for what is kept of the change
abbrev pub HasRoomFor : Kept → Change → Type 0
HasRoomFor kept (change.Edit edit) = HasRoom kept.occupancy edit × (vec_len kept.past < vec_capacity kept.past)
HasRoomFor kept (change.Install plan) = vec_len kept.plans < vec_capacity kept.plans
HasRoomFor kept (change.Order order) = vec_len kept.orders < vec_capacity kept.orders

-- the answer to a change that was made, where the last edition has this number and the heaviest line so many slots
abbrev pub reply_to : Change → EditionNo → ℕ → Reply
reply_to (change.Edit edit) number most = Done number most
reply_to (change.Install plan) number most = Installed plan.edition
reply_to (change.Order order) number most = Placed
