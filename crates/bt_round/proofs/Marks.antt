-- The superframe of a world is never past the last.
use Rattle.std.proofs.Common.{◌≡◌, ◌+◌, ◌≤◌, List, [], ◌∷◌, reverse, sym, ap, ◌∙◌, arith}
use Rattle.bt_site.specs.Event.{Opening, Event, Tick, Turn, Second, Ordered, Deliver, Frame, ResetTerminal, RestartCentre, Install, Happening}
use Rattle.bt_frame.specs.declared.limits.TheConstants.{LAST_MARK}
use Rattle.bt_site.specs.Fits.{IsWorld}
use Rattle.bt_site.specs.World.{log, mark}
use Rattle.bt_site.proofs.Counted.{due-in_time}
use Rattle.bt_round.specs.Simulated.{SimulatedAir, having, mark_of}
use Rattle.bt_round.specs.Worker.{IsRunning}
use Rattle.bt_round.proofs.Running.{past-having}

pub mark-small : (o : Opening) (events : List Event) → IsWorld o events → mark o (log o events) ≤ 4000000000
mark-small o [] world = due-in_time o.orders world.in_time
mark-small o (Tick ∷ earlier) world = omega (arith, world.0)
mark-small o (Turn target ∷ earlier) world = mark-small o earlier world.1
mark-small o (Second in_force ∷ earlier) world = mark-small o earlier world.1
mark-small o (Ordered ∷ earlier) world = mark-small o earlier world.1
mark-small o (Deliver number place ∷ earlier) world = mark-small o earlier world.1
mark-small o (Frame ∷ earlier) world = mark-small o earlier world.1
mark-small o (ResetTerminal terminal ∷ earlier) world = mark-small o earlier world.1
mark-small o (RestartCentre kept ∷ earlier) world = mark-small o earlier world.1
mark-small o (Install plan ∷ earlier) world = mark-small o earlier world.1

-- past the last superframe is at it
pub last-mark : (air inside : SimulatedAir) → inside ≡ air → IsRunning inside → LAST_MARK ≤ (mark_of inside).0 → (mark_of air).0 ≡ LAST_MARK
last-mark air inside same running late =
    let small : (mark_of inside).0 ≤ 4000000000 = mark-small inside.life.opening (reverse inside.life.events) running.world in
    ap (λ (a : SimulatedAir). (mark_of a).0) (sym same) ∙ (omega (arith, small, late))

-- a tick begins the next superframe
pub mark-ticked : (air : SimulatedAir) → mark_of (having air Tick) ≡ record { 0 = (mark_of air).0 + 1 }
mark-ticked air = ap (λ (past : List Happening). record { 0 = mark air.life.opening past }) (past-having air.life Tick)
