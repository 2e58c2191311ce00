-- All entries together of a matrix that a text spells.
use Rattle.std.proofs.Common.{◌≡◌, ℕ, ◌≤◌, List, length, Ok, arith}
use Rattle.bt_plan.specs.MatrixText.{matrix_reading}
use Rattle.bt_plan.proofs.Spelled.{row_sum-small}
use Rattle.bt_trans.specs.Part.{total_slots}
use Rattle.bt_trans.proofs.Totals.{total_slots-le}

-- of few beams they are within the greatest line sum
pub total_slots-spelled : (text : List ℕ) (rows : List (List ℕ)) → matrix_reading text ≡ Ok rows → length rows ≤ 16 → total_slots rows ≤ 1048576
total_slots-spelled text rows reads few =
    omega (arith, total_slots-le rows 65536 (λ up within. omega (arith, row_sum-small text rows reads up within)))
