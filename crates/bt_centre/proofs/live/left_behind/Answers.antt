-- the one history that is left stands behind those of the times that are over
use Rattle.std.proofs.Common.{◌++◌, List, ap, ◌∙◌, map, length, sym}
use Rattle.bt_centre.specs.declared.history.History.{History}
use Rattle.bt_centre.specs.Handed.{with_front}
use Rattle.bt_centre.specs.Progress.{Left}
use Rattle.bt_centre.specs.Whole.{whole_left}
use Rattle.bt_centre.proofs.live.left_behind.Goals as goal

pub take_only-requires : goal.take_only-requires
take_only-requires g c = record { one = ap (λ (left : Left). length left.histories) c.remains.view_is ∙ c.requires.one }

pub returns : goal.returns
returns g c =
    let log = c.args.log in
    let inside = c.remains.inside in
    ap (λ (h : List History). let left : Left = record { told = g.K.Keeper.told inside.store; faults = g.K.Keeper.fault_count inside.store; crashes = g.K.Keeper.crashes inside.store; histories = h; events = inside.events.all } in left)
    (c.stop-histories.ensures.times ∙ ap (λ (h : List History). log.times ++ map (with_front log.front) h) (sym c.take_only.ensures.taken))
    ∙ ap (whole_left log.times log.front) c.remains.view_is
