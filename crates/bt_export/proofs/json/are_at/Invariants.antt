-- what is left of the line has the places that are left
use Rattle.std.proofs.Common.{◌≡◌, map}
use Rattle.bt_text.specs.Text.{words}
use Rattle.bt_words.specs.Forms.{part_of}
use Rattle.bt_words.proofs.Places.{places_at}
use Rattle.bt_export.specs.Json.{are_at}
use Rattle.bt_export.proofs.json.are_at.Given as goal

abbrev pub invariant-loop-token : goal.invariant-loop-token
invariant-loop-token l = are_at (places_at l.tokens l.token-index) l.words ≡ are_at (map part_of l.tokens) (words l.line)
