use Rattle.std.proofs.Common.{◌+◌, rules, string_bytes}
use Rattle.bt_words.proofs.Places.{one_less}
use Rattle.bt_export.specs.Object.{marked}
use Rattle.bt_export.proofs.Fields.{names_left, next_fixed, next_open, past_names}
use Rattle.bt_export.proofs.object.form_text.Goals.{in-Text+in_ok-add_word-in-Text, in_default+in-Some+in_ok-add_word-in_default}
use Rattle.bt_export.proofs.object.form_text.Goals as goal

-- the word at the next place was added
pub loop-token-preserved : goal.loop-token-preserved
loop-token-preserved c =
    let tokens = c.args.tokens.now in
    let names = c.args.names.now in
    let at = c.loop-token.token-index in
    let used = c.loop-token.at in
    let before = string_bytes c.loop-token.text in
    elim c.match-token.branch [
      | in-Text+in_ok-add_word-in-Text w ↦ rw (w.text-is, w.at-is, w.is_further-is)
          (one_less c.loop-token.is_further before (string_bytes w.add_word.new.text) w.in-Text.word.now _ (names_left tokens at names used) (names_left tokens (at + 1) names used)
          (next_fixed tokens at names used w.in-Text.word c.loop-token-test.true w.in-Text.is) c.loop-token.invariant w.in_ok-add_word-in-Text.ensures.added)
      | in_default+in-Some+in_ok-add_word-in_default w ↦ rw (w.text-is, w.at-is, w.is_further-is)
          (one_less c.loop-token.is_further before (string_bytes w.add_word-in_default.new.text) (marked w.in-Some.name.now.now) _ (names_left tokens at names used) (names_left tokens (at + 1) names (used + 1))
          (next_open tokens at names used w.in-Some.name.now c.loop-token-test.true w.in_default.not-Text (search rules) (search rules)) c.loop-token.invariant w.in_ok-add_word-in_default.ensures.added)
    ]

-- there is no name for the place, and so no word from it on
pub returns-in_default-get : goal.returns-in_default-get
returns-in_default-get c = record {
  text = past_names c.loop-token.is_further (string_bytes c.loop-token.text) _ c.args.tokens.now c.loop-token.token-index c.args.names.now c.loop-token.at
      c.loop-token-test.true c.in_default.not-Text (search rules) c.loop-token.invariant;
}
