-- For bodies alone: the workers of a round, what each can do, and what it has done once its lines are over.
use Rattle.std.specs.Prelude.{◌≡◌, ◌+◌, ℕ, List, All, OnOk, Result}
use Rattle.bt_frame.specs.declared.numbers.OutOfMemory.{OutOfMemory}
use Rattle.bt_net.specs.Network.{Net}
use Rattle.bt_shared.specs.Posted.{Posted}
use Rattle.bt_journal.specs.declared.entry.Entry.{Entry}
use Rattle.bt_script.specs.Named.{IsAirLineFor, IsLineFor}
use Rattle.bt_round.specs.declared.workers.Job.{Job}
use Rattle.bt_round.specs.declared.workers.Job.TheVariants.{Air, Plans, Desk}
use Rattle.bt_round.specs.declared.workers.Worker.{Worker}
use Rattle.bt_round.specs.AirLines.{AirState, PlaysAirLines, opening_in}
use Rattle.bt_round.specs.Callers.{Calling, IsSameCaller, caller_number, own_of}
use Rattle.bt_round.specs.Done.{DeskDone, PlannerDone}
use Rattle.bt_round.specs.Planned.{HasPosted}
use Rattle.bt_round.specs.Worker.{Asks}

-- The caller can do the job: the centre's worker is caller 0, the planner caller 1, and desk `d` is caller `d + 1`; and the lines
-- name terminals of the network alone.
abbrev pub CanDo : Net → Calling → Job AirState → Type 0
CanDo net caller (Air lines centre) = (caller_number caller ≡ 0) × All (IsAirLineFor net) lines.now × ((opening_in centre).net ≡ net)
CanDo net caller (Plans count publisher) = (caller_number caller ≡ 1) × HasPosted caller publisher.plans
CanDo net caller (Desk desk lines reader) = (caller_number caller ≡ desk + 1) × All (IsLineFor net) lines.now

-- The lines of a job were done, where memory did not run out: the caller's own entries and its text before and after. The
-- centre's worker has its air as it is then, the planner its publisher and a desk its reader, both of the same board; all else of
-- a job stays.
abbrev pub JobDone : Net → Job AirState → Job AirState → Result Unit OutOfMemory → List Entry → List Entry → List ℕ → List ℕ → Type 0
JobDone net (Air lines centre) job ended before after text written =
    (over : AirState) × (job ≡ Air lines over) × (opening_in over ≡ opening_in centre)
    × OnOk ended (Asks (PlaysAirLines net centre lines.now) over before after text written)
JobDone net (Plans count publisher) job ended before after text written =
    (over : Posted) × (job ≡ Plans count over) × (over.board ≡ publisher.board)
    × OnOk ended (PlannerDone net count publisher.plans over.plans before after text written)
JobDone net (Desk desk lines reader) job ended before after text written =
    (over : Posted) × (job ≡ Desk desk lines over) × (over.board ≡ reader.board)
    × OnOk ended (DeskDone net desk lines.now reader.plans over.plans before after text written)

-- a worker before and after its lines
pub record WorkDone {G K E : Type 0} (net : Net) (old new : Worker G K E) : Type 0 where
  pub same : IsSameCaller old.caller new.caller
  pub done : JobDone net old.job new.job new.ended (own_of old.caller) (own_of new.caller) old.text.items new.text.items
