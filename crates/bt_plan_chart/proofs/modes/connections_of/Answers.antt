use Rattle.std.proofs.Common.{◌≡◌, ℕ, ◌++◌, codes, flat_map, length, string_bytes, ap, ◌∙◌, arith}
use Rattle.std.specs.List.{range_with_len}
use Rattle.bt_plan_chart.specs.Chart.{connection_text, connections_text, name_of_beam}
use Rattle.bt_plan_chart.specs.declared.bursts.TheConstants.{ARROW}
use Rattle.bt_plan_chart.proofs.Adding.{four_behind, next_text}
use Rattle.bt_plan_chart.proofs.modes.connections_of.Goals as goal

pub loop-up-preserved : goal.loop-up-preserved
loop-up-preserved c =
    let net = c.args.net.now in
    let before = string_bytes c.loop-up.text in
    let from = name_of_beam net c.loop-up.up in
    next_text (connection_text net c.args.perm.now) c.loop-up.up _ _ c.loop-up.invariant
    (c.in_ok-add_connection.ensures ∙ four_behind before (codes " ") from ARROW.now (name_of_beam net c.from.result)
    ∙ ap (λ (down : ℕ). before ++ (codes " " ++ from ++ ARROW.now ++ name_of_beam net down)) c.from.ensures)

pub returns : goal.returns
unfolding connections_text
returns c =
    let same : c.loop-up.up ≡ length c.args.perm.now = omega arith in
    record { told = c.loop-up.invariant ∙ ap (λ n. flat_map (connection_text c.args.net.now c.args.perm.now) (range_with_len 0 n)) same }
