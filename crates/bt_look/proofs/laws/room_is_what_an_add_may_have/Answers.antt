use Rattle.bt_look.proofs.Room.{add_fits, room_has_ends, room_is_small}
use Rattle.bt_look.proofs.RoomOfLink.{link_fits}
use Rattle.bt_look.proofs.laws.room_is_what_an_add_may_have.Goals as goal

pub returns : goal.returns
returns c = record {
  fits = add_fits;
  link = link_fits;
  ends = λ net rows up down some. let ends = room_has_ends net rows up down some in (ends.from, ends.to, ends.sends, ends.receives, ends.differ);
  asked = room_is_small;
}
