-- one downlink more behind those so far
use Rattle.std.proofs.Common.{◌≡◌, ◌<◌, ◌++◌, ◌∷◌, length, get_or, take, ap, sym, ◌∙◌, append_assoc, rules}
use Rattle.bt_trans.specs.PartText.{downlink_word}
use Rattle.bt_trans.proofs.Printed.{part_mode_begun, part_mode_begun-take}
use Rattle.bt_trans.proofs.writer.write_mode.Goals as goal

pub loop-down-preserved : goal.loop-down-preserved
loop-down-preserved c =
    let before = c.args.text.now.items in
    let perm = c.args.mode.now.perm in
    let duration = c.args.mode.now.duration in
    let i = c.loop-down.down-index in
    let down = get_or c.as_slice-down-items.result.now i 0 in
    let within : i < length perm = search rules in
    let down_is : down ≡ get_or perm i 0 = search rules in
    c.in_ok-write_downlink.ensures
    ∙ ap (λ text. text ++ 32 ∷ downlink_word down) c.loop-down.invariant
    ∙ append_assoc before (part_mode_begun duration (take i perm)) (32 ∷ downlink_word down)
    ∙ ap (λ d. before ++ (part_mode_begun duration (take i perm) ++ 32 ∷ downlink_word d)) down_is
    ∙ ap (λ line. before ++ line) (sym (part_mode_begun-take duration perm i within))
