-- what stands before the picture, the picture of all, and what stands behind it
use Rattle.std.proofs.Common.{◌++◌, ap, ◌∙◌}
use Rattle.bt_words.proofs.Extending.{three_behind}
use Rattle.bt_picture.specs.Picture.{picture_text}
use Rattle.bt_plan_chart.specs.Chart.{plan_picture}
use Rattle.bt_plan_chart.specs.Scale.{whole}
use Rattle.bt_plan_chart.specs.declared.choice.Choice.{Choice}
use Rattle.bt_chart.specs.Pieces.{picture_end, picture_head}
use Rattle.bt_chart.proofs.plan_part.add_picture.Goals as goal

pub returns : goal.returns
returns c =
    let net = c.args.net.now in
    let plan = c.args.plan.now in
    three_behind c.add_words-2.result c.args.out.now.items _ _ _ picture_head (picture_text (plan_picture net plan whole)) picture_end
    c.in_ok-add_words.ensures
    (c.in_ok-plan_picture.ensures.written ∙ ap (λ (choice : Choice). c.add_words.new.out.items ++ picture_text (plan_picture net plan choice)) c.whole.ensures)
    c.add_words-2.ensures
