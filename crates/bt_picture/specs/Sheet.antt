-- The style sheet of every picture.
use Rattle.std.specs.Prelude.{ℕ, List}
use Rattle.bt_picture.specs.declared.sheet.TheConstants.{SHEET}

-- its text, with its last newline
unfoldable pub sheet_text : List ℕ
sheet_text = SHEET.now
