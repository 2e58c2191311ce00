use Rattle.bt_machines.proofs.Sets.{has-none, has-with, has-without}
use Rattle.bt_machines.proofs.centre_laws.sets_hold_what_joined.Goals as goal

pub returns : goal.returns
returns c = record {
  none = λ terminal. has-none terminal;
  joined = λ terminals joins terminal h. has-with terminals joins terminal h;
  left = λ terminals leaves terminal h within. has-without terminals leaves terminal h within;
}
