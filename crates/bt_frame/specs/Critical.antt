-- A line of a matrix of so many beams.
use Rattle.std.specs.Prelude.{ℕ, ◌<◌}
use Rattle.bt_frame.specs.declared.schedule.Critical.{Critical}
use Rattle.bt_frame.specs.declared.schedule.Critical.TheVariants.{Row, Column}

-- the line's beam is one of so many
abbrev pub IsOfBeams : ℕ → Critical → Type 0
IsOfBeams size (Row up) = up.0 < size
IsOfBeams size (Column down) = down.0 < size
