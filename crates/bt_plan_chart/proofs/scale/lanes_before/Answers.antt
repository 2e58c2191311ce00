use Rattle.std.proofs.Common.{get_or, ap, ◌∙◌, arith}
use Rattle.bt_plan_chart.proofs.Places.{few_before, places_read}
use Rattle.bt_plan_chart.proofs.scale.lanes_before.Goals as goal

-- the table of places was read
pub returns-clause-same : goal.returns-clause-same
returns-clause-same c = c.from.ensures ∙ ap (λ places. get_or places c.args.beam 0) c.requires.scale.places ∙ places_read c.args.scale.drawn c.args.beam (omega (arith, c.requires.beam))

pub returns-clause-few : goal.returns-clause-few
returns-clause-few c =
    let same = returns-clause-same c in
    let few = few_before c.args.scale.drawn c.args.beam in
    omega (arith, same, few, c.requires.beam)
