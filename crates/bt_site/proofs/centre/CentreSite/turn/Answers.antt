use Rattle.std.proofs.Common.{◌≡◌, ◌++◌, subst}
use Rattle.bt_machines.specs.Terminals.{terminals_of}
use Rattle.bt_site.specs.Sites.{CentreAt, turn_says}
use Rattle.bt_site.proofs.Turning.{turn-told}
use Rattle.bt_site.proofs.centre.CentreSite.turn.Goals as goal

pub returns-clause-said : goal.returns-clause-said
returns-clause-said c =
    subst (λ (site : CentreAt). c.send_known.new.sent.items ≡ c.args.said.now.items ++ turn_says (terminals_of site.terminals) site.centre site.plans c.args.mark c.args.target c.args.lead c.args.patience)
    c.self.view_is
    (turn-told (terminals_of c.self.inside.plans.terminals) c.self.inside.centre c.turn-act.new.self c.self.inside.plans.all c.args.mark c.args.target c.args.lead c.args.patience
    c.known-in_force.result c.next-next.result c.turn-act.result c.args.said.now.items c.post.new.sent.items c.send_act.new.sent.items c.send_known.new.sent.items
    c.known-in_force.ensures.known c.next-next.ensures.next c.turn-act.ensures.act c.turn-act.ensures.state
    c.post.ensures.items c.send_act.ensures.said c.send_known.ensures)
