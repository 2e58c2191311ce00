use Rattle.std.proofs.Common.{◌≡◌, List, None, subst, sym, ap, ◌∙◌}
use mathlib.Core.List.{IsPrefix}
use Rattle.bt_demand.specs.declared.plan.Plan.{Plan}
use Rattle.bt_shared.specs.Plans.{last_of, next_edition}
use Rattle.bt_shared.specs.Posted.{Posted}
use Rattle.bt_shared.proofs.Beginnings.{same_next}
use Rattle.bt_shared.proofs.publisher.agree.Goals as goal

pub returns : goal.returns
returns c =
    let mine = c.args.seen.now.log in
    let theirs = c.reader.inside.kept.seen.log in
    let both = c.learn.new.self.log in
    let this : IsPrefix mine both = subst (λ (l : List Plan). IsPrefix l both) (ap (λ s. s.log) c.again-both.ensures) c.learn.ensures.2 in
    let same : next_edition theirs ≡ next_edition mine = ap (λ (v : Posted). next_edition v.plans) c.reader.view_is ∙ c.requires.expected in
    let one : theirs ≡ mine = same_next None theirs mine both c.learn.ensures.4.1.ascends c.learn.ensures.3 this same in record {
      plans = ap (λ (v : Posted). v.plans) (sym c.reader.view_is) ∙ one;
      shown = ap (λ (v : Posted). v.shown) (sym c.reader.view_is) ∙ ap last_of one;
    }
