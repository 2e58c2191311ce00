-- What a terminal has heard and holds after a run is said by its events.
use Rattle.std.proofs.Common.{◌≡◌, List, [], ◌∷◌, ◌++◌, Option, None, refl, sym, subst}
use Rattle.bt_frame.specs.declared.numbers.Mark.{Mark}
use Rattle.bt_frame.specs.declared.numbers.TermNo.{TermNo}
use Rattle.bt_air.specs.declared.message.Message.{Message}
use Rattle.bt_air.specs.declared.message.Message.TheVariants as message
use Rattle.bt_machines.specs.declared.burst_bank.Holding.{Holding}
use Rattle.bt_machines.specs.declared.reference.Reference.{Reference}
use Rattle.bt_machines.specs.Terminal.{State, new_of, step_of}
use Rattle.bt_machines.specs.TerminalRun.{TerminalEvent, Hears, Restarts, after_event, state_after, oldest_first}
use Rattle.bt_machines.specs.Said.{heard_with, last_heard, held_with, held_after, Agrees}
use Rattle.bt_machines.proofs.Ground.{plan-agrees, reference-agrees, new-agrees}

-- the state after a run with one event more
state_more : (s : State) (events : List TerminalEvent) (event : TerminalEvent) → state_after s (events ++ event ∷ []) ≡ after_event (state_after s events) event
state_more s [] event = refl
state_more s (first ∷ events) event = state_more (after_event s first) events event

-- a message
message-agrees : (number : TermNo) (at : Mark) (told : Option Reference) (held : List Holding) (s : State) (one : Message) → Agrees number told held s
    → Agrees number (heard_with told at one) (held_with held told number at one) (step_of s at one).1
message-agrees number at told held s (message.PlanFor to load edition bursts) agrees = plan-agrees number at.0 told held s to load edition bursts _ refl agrees
message-agrees number at told held s (message.Reference superframe found next) agrees = reference-agrees number at.0 told held s superframe found next _ refl agrees
message-agrees number at told held s (message.Load command edition modes) agrees = agrees
message-agrees number at told held s (message.Arm command edition due) agrees = agrees
message-agrees number at told held s (message.Status status) agrees = agrees
message-agrees number at told held s (message.Confirm from load edition) agrees = agrees
message-agrees number at told held s (message.Lost from) agrees = agrees

-- after every run
pub run-agrees : (number : TermNo) (latest : List TerminalEvent)
    → Agrees number (last_heard latest) (held_after number latest) (state_after (new_of number) (oldest_first latest))
run-agrees number [] = new-agrees number
run-agrees number (Hears at one ∷ earlier) =
    subst (Agrees number (last_heard (Hears at one ∷ earlier)) (held_after number (Hears at one ∷ earlier))) (sym (state_more (new_of number) (oldest_first earlier) (Hears at one)))
    (message-agrees number at (last_heard earlier) (held_after number earlier) (state_after (new_of number) (oldest_first earlier)) one (run-agrees number earlier))
run-agrees number (Restarts ∷ earlier) =
    let before = run-agrees number earlier in
    subst (Agrees number None []) (sym (state_more (new_of number) (oldest_first earlier) Restarts))
    (subst (λ (n : TermNo). Agrees number None [] (new_of n)) (sym before.same) (new-agrees number))
