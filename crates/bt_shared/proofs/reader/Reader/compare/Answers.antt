use Rattle.std.proofs.Common.{List, None, subst, ap}
use mathlib.Core.List.{IsPrefix}
use Rattle.bt_demand.specs.declared.plan.Plan.{Plan}
use Rattle.bt_shared.proofs.Beginnings.{one_begins, lower_begins}
use Rattle.bt_shared.proofs.reader.Reader.compare.Goals as goal

pub returns : goal.returns
returns c =
    let mine = c.self.inside.kept.seen.log in
    let theirs = c.other.inside.kept.seen.log in
    let both = c.learn.new.self.log in
    let this : IsPrefix mine both = subst (λ (l : List Plan). IsPrefix l both) (ap (λ s. s.log) c.again-both.ensures) c.learn.ensures.2 in
    let up = c.learn.ensures.4.1.ascends in record {
      begins = rw (← c.self.view_is, ← c.other.view_is) (one_begins mine theirs both up this c.learn.ensures.3);
      ahead = rw (← c.self.view_is, ← c.other.view_is) (lower_begins None mine theirs both up this c.learn.ensures.3);
      behind = rw (← c.self.view_is, ← c.other.view_is) (lower_begins None theirs mine both up c.learn.ensures.3 this);
    }
