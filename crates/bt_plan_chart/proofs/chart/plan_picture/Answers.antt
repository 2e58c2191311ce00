use Rattle.std.proofs.Common.{◌≡◌, ◌++◌, ap, ◌∙◌}
use Rattle.bt_picture.specs.Picture.{head_text, foot_text, part_text}
use Rattle.std.specs.List.{flat_map}
use Rattle.bt_words.proofs.Extending.{three_behind}
use Rattle.bt_plan_chart.specs.Chart.{chart_parts}
use Rattle.bt_plan_chart.specs.Scale.{height_of, scale_of, width_of}
use Rattle.bt_plan_chart.specs.declared.scale.Scale.{Scale}
use Rattle.bt_plan_chart.proofs.Adding.{parts_text-is}
use Rattle.bt_plan_chart.proofs.chart.plan_picture.Goals as goal

-- the head, the parts and the foot, at the scale of the plan
pub returns : goal.returns
returns c =
    let net = c.args.net.now in
    let plan = c.args.plan.now in
    let choice = c.args.choice in
    let before = c.args.out.now.items in
    let head = λ (scale : Scale). head_text (width_of scale) (height_of scale) in
    let parts = λ (scale : Scale). flat_map part_text (chart_parts net scale plan choice) in
    let same : c.scale_of-scale.result ≡ scale_of net plan choice = c.scale_of-scale.ensures.same in
    let first : c.write_head.new.out.items ≡ before ++ head (scale_of net plan choice) = c.in_ok-write_head.ensures.written
    ∙ ap (λ wide. before ++ head_text wide c.height_of.result) c.width_of.ensures ∙ ap (λ high. before ++ head_text (width_of c.scale_of-scale.result) high) c.height_of.ensures
    ∙ ap (λ (scale : Scale). before ++ head scale) same in
    let second : c.add_chart.new.out.items ≡ c.write_head.new.out.items ++ parts (scale_of net plan choice) = c.in_ok-add_chart.ensures
    ∙ ap (λ t. c.write_head.new.out.items ++ t) (parts_text-is (chart_parts net c.scale_of-scale.result plan choice)) ∙ ap (λ (scale : Scale). c.write_head.new.out.items ++ parts scale) same in
    record { written = three_behind c.write_foot.result before _ _ _ (head (scale_of net plan choice)) (parts (scale_of net plan choice)) foot_text first second c.write_foot.ensures.written }
