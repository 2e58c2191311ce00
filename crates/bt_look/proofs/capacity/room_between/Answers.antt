use Rattle.std.proofs.Common.{min, if◌then◌else◌, Bool, ap, ◌∙◌}
use Rattle.bt_look.specs.Room.{free_down, free_up}
use Rattle.bt_look.proofs.capacity.room_between.Goals as goal

-- the beams can have a link
pub returns-then-can_link : goal.returns-then-can_link
returns-then-can_link c =
    let net = c.args.net.now in
    let rows = c.args.matrix.now in
    let up = c.args.up.0 in
    let down = c.args.down.0 in
    let can = c.if-can_link.ensures net (c.requires.counts up c.requires.up) (c.requires.counts down c.requires.down) in
    c.free_between.ensures ∙ ap (λ (b : Bool). if b then min (free_up net rows up) (free_down net rows down) else 0) can

-- they cannot
pub returns-else-can_link : goal.returns-else-can_link
returns-else-can_link c =
    let net = c.args.net.now in
    let rows = c.args.matrix.now in
    let up = c.args.up.0 in
    let down = c.args.down.0 in
    let cannot = c.if-can_link.ensures net (c.requires.counts up c.requires.up) (c.requires.counts down c.requires.down) in
    ap (λ (b : Bool). if b then min (free_up net rows up) (free_down net rows down) else 0) cannot
