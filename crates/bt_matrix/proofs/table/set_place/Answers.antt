use Rattle.std.proofs.Common.{sym, ap, ℕ, Option, Vec, Global, slice_index_or, set}
use Rattle.std.specs.Vec.{with_item}
use Rattle.bt_matrix.proofs.Tables.{lists-set_place}
use Rattle.bt_matrix.proofs.table.set_place.Goals as goal

pub returns : goal.returns
returns c =
    let line = c.index-table-up.result in
    let old = slice_index_or c.args.table.now c.args.up.0 line in
    lists-set_place c.args.table.now c.args.up.0 c.args.down.0 c.args.at line (with_item old c.args.down.0 c.args.at) c.requires.up
    c.index-table-up.is (ap (λ (v : Vec (Option ℕ) Global). set v.items c.args.down.0 c.args.at) (sym c.index-table-up.is))
