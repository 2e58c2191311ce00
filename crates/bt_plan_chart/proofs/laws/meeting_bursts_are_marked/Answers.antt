use Rattle.bt_plan_chart.specs.Scale.{scale_of, whole}
use Rattle.bt_plan_chart.proofs.Marked.{marked, marked_drawn, meets_one, meets_one_drawn}
use Rattle.bt_plan_chart.proofs.laws.meeting_bursts_are_marked.Goals as goal

pub returns-clause-marked : goal.returns-clause-marked
returns-clause-marked c = λ net plan place between are within. (
  λ mark. meets_one net (scale_of net plan whole) plan.bursts place (meets_one_drawn net plan whole place between are within mark),
  marked net plan place within,
)

pub returns-clause-drawn : goal.returns-clause-drawn
returns-clause-drawn c = λ net plan choice place between are within. (
  meets_one_drawn net plan choice place between are within,
  marked_drawn net (scale_of net plan choice) plan.bursts place within,
)
