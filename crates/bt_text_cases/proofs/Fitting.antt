-- All entries together of a matrix that fits the frame.
use Rattle.std.proofs.Common.{ℕ, ◌≤◌, List, length, arith}
use Rattle.bt_frame.specs.declared.schedule.Critical.TheVariants.{Row}
use Rattle.bt_demand.specs.Traffic.{HasSumsTo}
use Rattle.bt_trans.specs.Part.{total_slots}
use Rattle.bt_trans.proofs.Totals.{total_slots-le}

-- of few beams they are within the greatest line sum
pub total_of_fitting : (rows : List (List ℕ)) → HasSumsTo 4096 rows → length rows ≤ 16 → total_slots rows ≤ 1048576
total_of_fitting rows fits few = omega (arith, total_slots-le rows 4096 (λ up within. fits (Row (record { 0 = up })) within))
