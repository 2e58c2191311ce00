-- the text so far, and the words of the places that are left behind it
use Rattle.std.proofs.Common.{◌≡◌, ◌++◌, map, string_bytes}
use Rattle.bt_text.specs.Text.{spaced}
use Rattle.bt_words.specs.Forms.{part_of}
use Rattle.bt_words.proofs.Places.{left_of}
use Rattle.bt_export.specs.Object.{form_words}
use Rattle.bt_export.proofs.Fields.{names_left, texts}
use Rattle.bt_export.proofs.object.form_text.Given as goal

abbrev pub invariant-loop-token : goal.invariant-loop-token
invariant-loop-token l = string_bytes l.text ++ left_of l.is_further (names_left l.tokens l.token-index l.names l.at) ≡ spaced (form_words (map part_of l.tokens) (texts l.names))
