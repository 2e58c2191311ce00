use Rattle.std.proofs.Common.{◌<◌, ℕ, Vec, Global, length, arith, ap}
use Rattle.std.proofs.lemmas.List.{length-map}
use Rattle.bt_matrix.proofs.Lines.{vec_len-row}
use Rattle.bt_matrix.proofs.dense.DenseTraffic.get.Goals as goal

-- the row is as long as the matrix
pub index-requires : goal.index-requires
index-requires c =
    let rows = c.self.inside.rows.items in
    let row = c.index-row.result.now in
    let size = length-map rows (λ (r : Vec ℕ Global). r.items) in
    let seen = ap length c.self.view_is in
    let within : c.args.up.0 < length rows = omega (arith, size, seen) in
    let long = vec_len-row rows c.args.up.0 row c.self.invariant.traffic within in
    let same = ap (λ (r : Vec ℕ Global). length r.items) c.index-row.ensures in
    omega (arith, long, same, row.ok.0, size, seen)
