-- the members so far, with what is left of the line
use Rattle.std.proofs.Common.{◌≡◌, map}
use Rattle.serde_json.specs.View.{members_view}
use Rattle.bt_text.specs.Text.{words}
use Rattle.bt_words.specs.Forms.{part_of}
use Rattle.bt_export.specs.Object.{open_words, with_fields}
use Rattle.bt_export.proofs.Fields.{members_left, texts}
use Rattle.bt_export.proofs.object.add_fields.Given as goal

abbrev pub invariant-loop-token : goal.invariant-loop-token
invariant-loop-token l = members_left l.tokens l.token-index l.names l.at l.words (members_view l.fields.entries) ≡ with_fields (texts l.names) (open_words (map part_of l.tokens) (words l.line)) (members_view l.fn.fields.entries)
