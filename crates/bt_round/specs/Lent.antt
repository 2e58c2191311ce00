-- What the reader of a desk has seen of the board, and what it lends.
use Rattle.std.specs.Prelude.{◌+◌, ◌<◌, ◌≤◌, List, Contains}
use mathlib.Core.List.{IsPrefix}
use Rattle.bt_demand.specs.declared.plan.Plan.{Plan}
use Rattle.bt_shared.specs.Plans.{next_edition}

-- one plan is no newer than another
abbrev pub IsNoNewer : Plan → Plan → Type 0
IsNoNewer before plan = before.edition.0 ≤ plan.edition.0

-- A plan that a reader lent: one of those that it has seen by now, no older than the last that it had seen before, and no newer
-- than the last.
pub record IsLent (before after : List Plan) (plan : Plan) : Type 0 where
  pub seen : Contains after plan
  pub fresh : next_edition before ≤ plan.edition.0 + 1
  pub last : plan.edition.0 < next_edition after

-- What a reader has seen rises: the plans before begin those after.
pub record Rises (before after : List Plan) : Type 0 where
  pub begins : IsPrefix before after
  pub rises : next_edition before ≤ next_edition after
