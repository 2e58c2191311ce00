-- the two ends lie over each other
use Rattle.std.proofs.Common.{◌-◌, rules, length}
use Rattle.std.proofs.lemmas.List.{take_rest}
use Rattle.bt_text.proofs.Places.{Placed-ends}
use Rattle.bt_text.proofs.short.place_ends.Goals as goal

pub returns : goal.returns
returns g c =
    let piece = c.args.piece.now in
    Placed-ends piece g.row.N (search rules) c.requires.covers.0 c.requires.covers.1 c.place_front.ensures
    (rw (take_rest piece (length piece - g.row.N)) at c.place_front-2.ensures)
