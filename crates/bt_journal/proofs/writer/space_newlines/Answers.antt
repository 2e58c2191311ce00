-- one byte more
use Rattle.std.proofs.Common.{◌<◌, length, get_or, set, ap, ◌∙◌, arith}
use Rattle.std.proofs.lemmas.List.{get_or_default}
use Rattle.std.proofs.lemmas.List.Edits.{map_over_more}
use Rattle.bt_journal.specs.LineReading.{space_for_newline}
use Rattle.bt_journal.proofs.writer.space_newlines.Goals as goal

pub loop-byte-preserved : goal.loop-byte-preserved
loop-byte-preserved c =
    let text = c.loop-byte.text in
    let i = c.loop-byte.byte-index in
    let within : i < length text = omega arith in
    ap (λ b. set text i b) c.space_for_newline.ensures
    ∙ map_over_more space_for_newline c.args.text.now text i (get_or text i 0) c.loop-byte-test.true c.loop-byte.invariant (get_or_default text i 0 (get_or text i 0) within)
