-- Which picture of a run a picture is, by the title that it begins with.
use Rattle.std.specs.Prelude.{ℕ, ◌⊎◌, List, codes}
use Rattle.bt_picture.specs.declared.shape.Anchor.TheVariants as anchor
use Rattle.bt_picture.specs.declared.style.Style.TheVariants as style
use Rattle.bt_picture.specs.Picture.{Label, Picture}
use Rattle.bt_picture.specs.Drawn.{BeginsWith}

-- a picture of that title
abbrev pub IsTitled : List ℕ → Picture → Type 0
IsTitled title picture = BeginsWith (Label (record { x = 320; y = 480 }) anchor.Start style.Title title) picture

-- of a run from left to right, step by step or counted by superframes
abbrev pub IsOfRun : Picture → Type 0
IsOfRun picture = IsTitled (codes "What the run printed") picture ⊎ IsTitled (codes "What the run printed, by superframes") picture

-- of a run from top to bottom
abbrev pub IsLadder : Picture → Type 0
IsLadder picture = IsTitled (codes "What the run printed, from top to bottom") picture
