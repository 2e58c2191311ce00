-- The board of a round: what its publisher has posted, what the readers of its desks have seen, and what a desk is shown.
use Rattle.std.specs.Prelude.{◌≡◌, ◌≤◌, ◌++◌, List, ◌∷◌, length, All, Contains}
use Rattle.bt_demand.specs.declared.plan.Plan.{Plan}
use Rattle.bt_journal.specs.declared.call.Change.{Change}
use Rattle.bt_shared.specs.Posted.{Posted}
use Rattle.bt_history.specs.Changes.{installs, newest, plans}
use Rattle.bt_round.specs.declared.seats.TheConstants.{DESKS}

-- The board is that of a book with these changes: what was posted is the plan that was the newest when the board was made, and
-- then each plan that was installed since; and the reader of each desk has seen just that.
pub record IsPublished (changes : List Change) (publisher : Posted) (readers : List Posted) : Type 0 where
  pub opening : List Change
  pub since : List Change
  pub parts : changes ≡ opening ++ since
  pub posted : publisher.plans ≡ newest opening ∷ installs since
  pub desks : length readers ≡ DESKS
  pub met : All (λ (reader : Posted). reader ≡ publisher) readers

-- a plan that was shown between two moments: it is installed by the end, and no older than the newest at the start
pub record IsShownBetween (before after : List Change) (plan : Plan) : Type 0 where
  pub installed : Contains (plans after) plan
  pub fresh : (newest before).edition.0 ≤ plan.edition.0
  pub last : plan.edition.0 ≤ (newest after).edition.0
