use Rattle.std.proofs.Common.{◌++◌, List, filter, sym, ◌∙◌, ap}
use Rattle.bt_frame.specs.declared.numbers.Command.{Command}
use Rattle.bt_frame.specs.declared.numbers.TermNo.{TermNo}
use Rattle.bt_machines.specs.Terminals.{has, terminals_of}
use Rattle.bt_machines.specs.Plans.{has_burst, plan_of}
use Rattle.bt_machines.specs.Says.{plans_for}
use Rattle.bt_site.proofs.Sending.{filter-both}
use Rattle.bt_site.proofs.says.send_known.Goals as goal

pub returns-in-Some : goal.returns-in-Some
returns-in-Some c =
    rw c.in-Some.is
    (c.send_asking.ensures ∙ ap (λ (list : List TermNo). c.args.sent.now.items ++ plans_for list c.load_of.result c.in-Some.edition)
    (sym (filter-both (λ (t : TermNo). has c.args.centre.now.asking t) (has_burst (plan_of c.args.plans.now.all c.in-Some.edition)) (terminals_of c.args.plans.now.terminals)))
    ∙ ap (λ (load : Command). c.args.sent.now.items ++ plans_for (filter (has_burst (plan_of c.args.plans.now.all c.in-Some.edition))
    (filter (λ (t : TermNo). has c.args.centre.now.asking t) (terminals_of c.args.plans.now.terminals))) load c.in-Some.edition) c.load_of.ensures.load)
