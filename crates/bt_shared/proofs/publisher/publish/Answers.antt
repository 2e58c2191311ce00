use Rattle.bt_shared.proofs.Rules.{posts}
use Rattle.bt_shared.proofs.publisher.publish.Goals as goal

pub publish_as-after-requires : goal.publish_as-after-requires
publish_as-after-requires g c next is =
    let on = c.requires.onward in
    posts _ _ c.loop.writer.desk.shown.value next (cc (is, c.loop.invariant.2, c.loop.invariant.3, c.requires.same)) (on.0, cc (is, c.loop.invariant.2, c.loop.invariant.3, on.1))
