use Rattle.bt_site.specs.World.{accepted, log, sent}
use Rattle.bt_site.proofs.Agree.{all-agree}
use Rattle.bt_site.proofs.laws.references_of_a_superframe_agree.Goals as goal

pub returns : goal.returns
returns c = record { agree = λ o events. all-agree (accepted o (log o events)) (sent o (log o events)) (c.references_are_right.ensures.right o events) }
