use Rattle.bt_site.proofs.WorldCentre.{centre-said}
use Rattle.bt_site.proofs.laws.centre_is_said.Goals as goal

pub returns : goal.returns
returns c = record { said = centre-said c.sets_hold_what_joined.ensures.none c.sets_hold_what_joined.ensures.joined c.sets_hold_what_joined.ensures.left }
