-- What is kept before the first call.
use Rattle.std.proofs.Common.{◌≡◌, ℕ, ◌<◌, List, [], length, replicate, slice_index, refl, sym, subst, arith}
use Rattle.std.proofs.lemmas.List.{get_or-replicate, length-replicate}
use Rattle.std.proofs.lemmas.List.Folds.{sum_by-replicate}
use Rattle.bt_frame.specs.declared.schedule.Critical.TheVariants.{Row, Column}
use Rattle.bt_net.specs.Network.{Net}
use Rattle.bt_demand.specs.Traffic.{HasSumsTo}
use Rattle.bt_demand.proofs.Matrices.{matrix_of-none}
use Rattle.bt_history.specs.Records.{KeepsUp, Counts}

-- the lines of a matrix of zeros ask for nothing
HasSumsTo-zeros : (size most : ℕ) → HasSumsTo most (replicate size (replicate size 0))
HasSumsTo-zeros size most (Row up) within =
    let zeros : List ℕ = replicate size 0 in
    let there : up.0 < size = omega (arith, length-replicate size zeros) in
    rw (get_or-replicate size up.0 zeros [] there) (omega (arith, sum_by-replicate (λ (x : ℕ). x) size 0))
HasSumsTo-zeros size most (Column down) within =
    let zeros : List ℕ = replicate size 0 in
    let there : down.0 < size = omega (arith, length-replicate size zeros) in
    let nothing : slice_index zeros down.0 ≡ 0 = get_or-replicate size down.0 0 0 there in
    rw (sum_by-replicate (λ (row : List ℕ). slice_index row down.0) size zeros, nothing) (omega arith)

-- no change and no link
pub KeepsUp-start : (net : Net) → KeepsUp net [] []
KeepsUp-start net = record {
  adds_up = λ test. refl;
  fits = subst (HasSumsTo net.slots) (sym (matrix_of-none net)) (HasSumsTo-zeros (length net.beams) net.slots);
  follows = tt;
}

pub Counts-start : (net : Net) → Counts net [] 0 0 0
Counts-start net = record {
  counted = refl;
  edited = refl;
  fewer = omega arith;
  summed = refl;
  covered = omega arith;
  readable = omega arith;
}
