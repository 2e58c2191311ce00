use Rattle.bt_apart_laws.proofs.May.{may-hear, may-install, may-order, may-restart, may-turn}
use Rattle.bt_apart_laws.proofs.laws.centre_may_act.Goals as goal

pub returns : goal.returns
returns c = record { hear = may-hear; turn = may-turn; order = may-order; install = may-install; restart = may-restart }
