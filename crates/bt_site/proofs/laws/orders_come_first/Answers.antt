use Rattle.bt_site.proofs.Standing.{messages-ordered, world-holds}
use Rattle.bt_site.proofs.laws.orders_come_first.Goals as goal

pub returns : goal.returns
returns c = record {
  sent = λ o events. messages-ordered o events;
  accepted = λ o events. (world-holds o events).own;
  ascend = λ o events. (world-holds o events).ascend;
}
