-- what `plan` prints is in range, so that it is read back; and a good plan has the one verdict
use Rattle.std.proofs.Common.{[], ◌∷◌, codes, ap, ◌∙◌}
use Rattle.bt_plan.specs.PlanText.{plan_reading}
use Rattle.bt_words.specs.Lines.{line_of}
use Rattle.bt_report.specs.Outcome.{Outcome, text_alone}
use Rattle.bt_cli.proofs.OneReport.{JudgesPlan-same}
use Rattle.bt_cli.proofs.PrintedPlans.{plan-in_range, good_plan_line}
use Rattle.bt_cli.proofs.laws.printed_plans_are_read_back.Goals as goal

pub returns-clause-read : goal.returns-clause-read
returns-clause-read c = λ net links outcome sound of_network fits printed.
    ap (λ (o : Outcome). plan_reading net o.text) printed.printed
    ∙ c.plans_have_one_spelling.ensures.read net printed.plan sound (plan-in_range c.good_plans_are_flyable.ensures.flyable net links outcome sound of_network fits printed)

pub returns-clause-judged : goal.returns-clause-judged
returns-clause-judged c = λ net links outcome demand printed. good_plan_line net links printed.plan demand printed.good

pub returns-clause-alone : goal.returns-clause-alone
returns-clause-alone c = λ net links outcome judged printed judges.
    JudgesPlan-same c.one_plan_verdict.ensures.same net links printed.plan judged (text_alone (line_of (codes "good" ∷ [])) 0) judges (good_plan_line net links printed.plan judges.demand printed.good)
