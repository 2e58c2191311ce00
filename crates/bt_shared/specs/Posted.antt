-- What a contract sees of a publisher and of a reader.
use Rattle.std.specs.Prelude.{List, Option}
use Rattle.logbook.specs.Pages.{Book}
use Rattle.bt_demand.specs.declared.plan.Plan.{Plan}
use Rattle.bt_shared.specs.Plans.{last_of}

-- a board, a list of plans that were posted on it, and the plan that is shown: by the board for its publisher, and for a reader the one
-- that it keeps
pub record Posted : Type 0 where
  pub board : Book
  pub plans : List Plan
  pub shown : Option Plan

-- this board with these plans, the last of which is shown
abbrev pub posted : Book → List Plan → Posted
posted b plans = record { board = b; plans = plans; shown = last_of plans }
