-- the tag is the first word, and the line stands behind it and a space
use Rattle.std.proofs.Common.{◌≡◌, Some, false, length, drop, ◌∙◌, rules}
use Rattle.std.specs.Prelude.{◌==◌}
use Rattle.bt_text.specs.Text.{words}
use Rattle.bt_text.specs.WordReader.{first_word}
use Rattle.bt_talk.proofs.Tags.{Cut, cut}
use Rattle.bt_talk.proofs.tag.cut_tag.Goals as goal

pub split_at-requires : goal.split_at-requires
split_at-requires c =
    let text = c.args.text.now in
    let tag = c.in-Some.first.now in
    let first : first_word (words text) ≡ Some tag = cc in
    let more : (length (drop 1 (words text)) == 0) ≡ false = cc in
    let so : Cut text tag = cut text tag first (search rules) more in
    so.within

pub returns-in-Some-clause-tag : goal.returns-in-Some-clause-tag
returns-in-Some-clause-tag c =
    let text = c.args.text.now in
    let tag = c.in-Some.first.now in
    let first : first_word (words text) ≡ Some tag = cc in
    let more : (length (drop 1 (words text)) == 0) ≡ false = cc in
    let so : Cut text tag = cut text tag first (search rules) more in
    so.tag_is

pub returns-in-Some-clause-line : goal.returns-in-Some-clause-line
returns-in-Some-clause-line c =
    let text = c.args.text.now in
    let tag = c.in-Some.first.now in
    let first : first_word (words text) ≡ Some tag = cc in
    let more : (length (drop 1 (words text)) == 0) ≡ false = cc in
    let so : Cut text tag = cut text tag first (search rules) more in
    c.split_at.ensures.back ∙ so.line_is
