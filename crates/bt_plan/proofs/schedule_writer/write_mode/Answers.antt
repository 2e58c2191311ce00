-- one downlink more behind those so far
use Rattle.std.proofs.Common.{◌≡◌, ◌<◌, ◌++◌, ◌∷◌, decimal, length, get_or, take, ap, sym, ◌∙◌, append_assoc, rules}
use Rattle.bt_plan.proofs.Printed.{mode_begun, mode_begun-take}
use Rattle.bt_plan.proofs.schedule_writer.write_mode.Goals as goal

pub loop-down-preserved : goal.loop-down-preserved
loop-down-preserved c =
    let before = c.args.text.now.items in
    let perm = c.args.mode.now.perm in
    let duration = c.args.mode.now.duration in
    let i = c.loop-down.down-index in
    let within : i < length perm = search rules in
    let down_is : c.from-in-loop-down.result ≡ get_or perm i 0 = search rules in
    c.in_ok-write_next-2.ensures
    ∙ ap (λ text. text ++ 32 ∷ decimal c.from-in-loop-down.result) c.loop-down.invariant
    ∙ append_assoc before (mode_begun duration (take i perm)) (32 ∷ decimal c.from-in-loop-down.result)
    ∙ ap (λ down. before ++ (mode_begun duration (take i perm) ++ 32 ∷ decimal down)) down_is
    ∙ ap (λ line. before ++ line) (sym (mode_begun-take duration perm i within))
