use Rattle.std.proofs.Common.{◌<◌, ◌∙◌, sym, subst}
use Rattle.bt_site.specs.Plans.{Planned, StandsAt}
use Rattle.bt_site.proofs.Lookup.{shares-at, share-within, share-said}
use Rattle.bt_site.proofs.plans.Plans.share.Goals as goal

pub at-requires : goal.at-requires
at-requires c =
    let stands = subst (λ (p : Planned). StandsAt p.all c.args.edition c.in-Some.number) (sym c.self.view_is) c.in-Some.ensures.place in
    let within : c.args.terminal.0 < c.self.inside.terminals = subst (λ (p : Planned). c.args.terminal.0 < p.terminals) (sym c.self.view_is) c.requires.terminal in
    rw c.index.ensures (share-within _ _ _ c.args.edition c.in-Some.number _ c.args.terminal c.self.invariant.shares stands within)

pub returns-in-Some : goal.returns-in-Some
returns-in-Some c =
    let stands = subst (λ (p : Planned). StandsAt p.all c.args.edition c.in-Some.number) (sym c.self.view_is) c.in-Some.ensures.place in
    let within : c.args.terminal.0 < c.self.inside.terminals = subst (λ (p : Planned). c.args.terminal.0 < p.terminals) (sym c.self.view_is) c.requires.terminal in
    let are = c.index.ensures ∙ shares-at _ _ _ c.args.edition c.in-Some.number _ c.self.invariant.shares stands in
    record { share = rw (← c.self.view_is) (share-said _ _ _ c.args.edition c.in-Some.number c.args.terminal _ are stands within c.at.ensures) }
