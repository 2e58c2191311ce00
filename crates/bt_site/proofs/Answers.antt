-- What the satellite and each terminal send when they hear is what their answers call for.
use Rattle.std.proofs.Common.{◌≡◌, ℕ, ◌==◌, not, if◌then◌else◌, Bool, true, false, List, [], ◌∷◌, ◌++◌, Option, Some, None, refl, sym, ◌∙◌, ap}
use Rattle.std.proofs.lemmas.Bool.{or_parts}
use Rattle.bt_frame.specs.declared.mode.Mode.{Mode}
use Rattle.bt_frame.specs.declared.numbers.Command.{Command}
use Rattle.bt_frame.specs.declared.numbers.EditionNo.{EditionNo}
use Rattle.bt_frame.specs.declared.numbers.Mark.{Mark}
use Rattle.bt_frame.specs.declared.numbers.TermNo.{TermNo}
use Rattle.bt_demand.specs.declared.burst.Burst.{Burst}
use Rattle.bt_demand.specs.declared.plan.Plan.{Plan}
use Rattle.bt_air.specs.declared.message.Message.{Message}
use Rattle.bt_air.specs.declared.message.Message.TheVariants as message
use Rattle.bt_air.specs.declared.order.Order.{Order}
use Rattle.bt_air.specs.declared.order.Order.TheVariants.{Load, Arm}
use Rattle.bt_air.specs.declared.order.Status.{Status}
use Rattle.bt_air.specs.declared.sent.Place.TheVariants.{Satellite, Terminal}
use Rattle.bt_air.specs.declared.sent.Aired.{Aired}
use Rattle.bt_air.specs.declared.sent.Aired.TheVariants as sends
use Rattle.bt_air.specs.declared.sent.Taken.{Taken}
use Rattle.bt_air.specs.declared.sent.Taken.TheVariants.{Accepted, Stale, Busy, NotLoaded, TooLate}
use Rattle.bt_machines.specs.Orders.{StandsFor, joining, telling}
use Rattle.bt_machines.specs.SatelliteRun.{Hears as Takes, is_accepted, oldest_first}
use Rattle.bt_machines.specs.Satellite.{State as Onboard, new_at, status_of, is_stale, is_armed, is_not_loaded, is_too_late, loaded, with_armed, step_of as take}
use Rattle.bt_machines.proofs.SatelliteByEvents.{state_more}
use Rattle.bt_machines.proofs.Ground.{plan-agrees}
use Rattle.bt_machines.proofs.TerminalRows.{plan_rows}
use Rattle.bt_machines.specs.declared.burst_bank.Holding.{Holding}
use Rattle.bt_machines.specs.Banks.{is_of, hold, have_room, are_used, next_bank, bank_of, load_of_bank}
use Rattle.bt_machines.specs.declared.burst_bank.Bank.{Bank}
use Rattle.bt_machines.specs.declared.reference.Reference.{Reference}
use Rattle.bt_machines.specs.Said.{Agrees, IsFilledInOrder, held_in, load_in}
use Rattle.bt_machines.specs.Terminal.{State, load_of, step_of, is_before, is_for_another, raising, storing}
use Rattle.bt_machines.specs.Says.{told_by, is_confirming, confirmed_by, carried, confirms}
use Rattle.bt_site.specs.Event.{Opening, Happening, Hears}
use Rattle.bt_site.specs.Ground.{terminal}
use Rattle.bt_site.specs.Satellite.{satellite, to_satellite}
use Rattle.bt_site.specs.World.{greatest_due, mark, plans, accepted, last_heard, held, held_by, sent_by_satellite, sent_by_terminal, sent_by_hearing}
use Rattle.bt_machines.specs.Plans.{plan_of, bursts_for}
use Rattle.bt_site.proofs.Ground.{terminal-agrees}

-- there is an order
abbrev some : List Order → Bool
some [] = false
some (order ∷ rest) = true

-- the rows, by their tests
abbrev load_row : Onboard → Command → EditionNo → List Mode → Bool → Bool → Taken × Onboard
load_row s command edition modes stale armed = if stale then (Stale, s) else (if armed then (Busy, s) else (Accepted, loaded s command edition modes))

abbrev arm_row : Onboard → Command → EditionNo → Mark → Bool → Bool → Bool → Bool → Taken × Onboard
arm_row s command edition due stale armed missing late =
    if stale then (Stale, s) else (if armed then (Busy, s) else (if missing then (NotLoaded, s) else (if late then (TooLate, s) else (Accepted, with_armed s command edition due))))

load-some : (s : Onboard) (command : Command) (edition : EditionNo) (modes : List Mode) (stale armed : Bool)
    → is_accepted (load_row s command edition modes stale armed).0 ≡ some (if stale then [] else (if armed then [] else Load command edition ∷ []))
load-some s command edition modes true armed = refl
load-some s command edition modes false true = refl
load-some s command edition modes false false = refl

arm-some : (s : Onboard) (command : Command) (edition : EditionNo) (due : Mark) (stale armed missing late : Bool)
    → is_accepted (arm_row s command edition due stale armed missing late).0
    ≡ some (if stale then [] else (if armed then [] else (if missing then [] else (if late then [] else Arm command edition due ∷ []))))
arm-some s command edition due true armed missing late = refl
arm-some s command edition due false true missing late = refl
arm-some s command edition due false false true late = refl
arm-some s command edition due false false false true = refl
arm-some s command edition due false false false false = refl

-- the satellite accepts exactly where an order joins
accepts-some : (taken : List Order) (s : Onboard) (one : Message) → StandsFor taken s → is_accepted (take s one).0 ≡ some (joining taken s.mark.0 one)
accepts-some taken s (message.Load command edition modes) stands =
    load-some s command edition modes (is_stale s command) (is_armed s.armed) ∙ rw (stands.last, stands.armed) refl
accepts-some taken s (message.Arm command edition due) stands =
    arm-some s command edition due (is_stale s command) (is_armed s.armed) (is_not_loaded s edition) (is_too_late s due) ∙ rw (stands.last, stands.armed, stands.back) refl
accepts-some taken s (message.Status status) stands = refl
accepts-some taken s (message.PlanFor to load edition bursts) stands = refl
accepts-some taken s (message.Confirm from load edition) stands = refl
accepts-some taken s (message.Reference superframe in_force next) stands = refl
accepts-some taken s (message.Lost from) stands = refl

tells : (more before : List Order) (now : ℕ) (status : Status) (test : Bool) → test ≡ some more → status ≡ telling (more ++ before) now
    → sent_by_satellite more before now ≡ (if test then sends.Status status ∷ [] else [])
tells [] before now status test e same = rw e refl
tells (first ∷ rest) before now status test e same = rw (e, same) refl

-- by what is said of the satellite
module _
    (stands : (o : Opening) (past : List Happening) → StandsFor (accepted o past) (satellite o past))
    (on_mark : (o : Opening) (past : List Happening) → (satellite o past).mark.0 ≡ mark o past)
    (on_status : (o : Opening) (past : List Happening) → status_of (satellite o past) ≡ telling (accepted o past) (mark o past))
  where
    pub satellite-answers : (o : Opening) (past : List Happening) (one : Aired) → sent_by_hearing o past (Some one) Satellite ≡ told_by (take (satellite o past) (carried (plans o past) one))
    satellite-answers o past one =
        let m = carried (plans o past) one in
        let s = satellite o past in
        let next : satellite o (Hears (Some one) Satellite ∷ past) ≡ (take s m).1 =
        state_more (new_at (record { 0 = greatest_due o.orders })) (oldest_first (to_satellite o past)) (Takes m) in
        tells (joining (accepted o past) (mark o past) m) (accepted o past) (mark o past) (status_of (take s m).1) (is_accepted (take s m).0)
        (accepts-some (accepted o past) s m (stands o past) ∙ ap (λ (n : ℕ). some (joining (accepted o past) n m)) (on_mark o past))
        (ap status_of (sym next) ∙ on_status o (Hears (Some one) Satellite ∷ past))

-- the Load for which the bursts of an edition came, by what is held and by the banks
load-one : (a : Bank) (edition : EditionNo) (test : Bool) → (a.holding.edition.0 == edition.0) ≡ test
    → load_in (a.holding ∷ []) edition ≡ load_of_bank (bank_of (record { first = Some a; second = None }) edition)
load-one a edition true e = rw e refl
load-one a edition false e = rw e refl

load-two : (a b : Bank) (edition : EditionNo) (first second : Bool) → (a.holding.edition.0 == edition.0) ≡ first → (b.holding.edition.0 == edition.0) ≡ second
    → load_in (a.holding ∷ b.holding ∷ []) edition ≡ load_of_bank (bank_of (record { first = Some a; second = Some b }) edition)
load-two a b edition true second p q = rw p refl
load-two a b edition false true p q = rw (p, q) refl
load-two a b edition false false p q = rw (p, q) refl

load-banks : (first second : Option Bank) (edition : EditionNo) → IsFilledInOrder first second
    → load_in (held_in first second) edition ≡ load_of_bank (bank_of (record { first = first; second = second }) edition)
load-banks None None edition filled = refl
load-banks None (Some b) edition filled = absurd filled
load-banks (Some a) None edition filled = load-one a edition _ refl
load-banks (Some a) (Some b) edition filled = load-two a b edition _ _ refl refl

-- no bank is of an edition that is not held
none-held : (s : State) (edition : EditionNo) → hold s.banks edition ≡ false → load_of s edition ≡ None
none-held s edition e = let parts = or_parts (is_of s.banks.first edition) (is_of s.banks.second edition) e in rw (parts.0, parts.1) refl

-- of the rows of bursts that come, those that do not confirm hold none of the edition
rows-confirm : (to : TermNo) (s : State) (now : ℕ) (new : Holding) (bursts : List Burst) (held room used older : Bool) → hold s.banks new.edition ≡ held
    → (let step = plan_rows s (raising s new.edition new.load) (storing s now new bursts) false held room used older in
    confirms to new.edition (load_of step.1 new.edition) ≡ (if is_confirming step.0 then confirms to new.edition (load_of step.1 new.edition) else []))
rows-confirm to s now new bursts true room used older e = refl
rows-confirm to s now new bursts false true used older e = refl
rows-confirm to s now new bursts false false true older e = ap (confirms to new.edition) (none-held s new.edition e)
rows-confirm to s now new bursts false false false true e = ap (confirms to new.edition) (none-held s new.edition e)
rows-confirm to s now new bursts false false false false e = refl

-- bursts that come to a terminal
plan-confirms : (to for : TermNo) (load : Command) (edition : EditionNo) (bursts : List Burst) (now : ℕ) (s : State) (another : Bool) → is_for_another s for ≡ another → another ≡ false
    → confirms to edition (load_of (step_of s (record { 0 = now }) (message.PlanFor for load edition bursts)).1 edition)
    ≡ confirmed_by to (sends.PlanFor for load edition) (step_of s (record { 0 = now }) (message.PlanFor for load edition bursts))
plan-confirms to for load edition bursts now s true e own = cc
plan-confirms to for load edition bursts now s false e own =
    let new : Holding = record { load = load; edition = edition } in
    rw e (rows-confirm to s now new bursts _ (have_room s.banks) (are_used s.heard now s.banks) (is_before new (next_bank s.heard now s.banks)) refl)

plan-answers : (to for : TermNo) (load : Command) (edition : EditionNo) (bursts : List Burst) (now : ℕ) (told : Option Reference) (pairs : List Holding) (s : State) (test : Bool) → (for.0 == to.0) ≡ test
    → Agrees to told pairs s
    → sent_by_terminal (held_by pairs told now to (Some (sends.PlanFor for load edition))) to (Some (sends.PlanFor for load edition))
    ≡ confirmed_by to (sends.PlanFor for load edition) (step_of s (record { 0 = now }) (message.PlanFor for load edition bursts))
plan-answers to for load edition bursts now told pairs s true e agrees =
    let after = (step_of s (record { 0 = now }) (message.PlanFor for load edition bursts)).1 in
    let then_agrees = plan-agrees to now told pairs s for load edition bursts true e agrees in
    let own : is_for_another s for ≡ false = ap (λ (t : TermNo). not (for.0 == t.0)) agrees.same ∙ ap not e in
    rw e (ap (λ (list : List Holding). confirms to edition (load_in list edition)) (sym then_agrees.held)
    ∙ ap (confirms to edition) (load-banks after.banks.first after.banks.second edition then_agrees.filled)
    ∙ plan-confirms to for load edition bursts now s _ refl own)
plan-answers to for load edition bursts now told pairs s false e agrees =
    let other : is_for_another s for ≡ true = ap (λ (t : TermNo). not (for.0 == t.0)) agrees.same ∙ ap not e in
    rw (e, other) refl

terminal-answers-by : (to : TermNo) (all : List Plan) (one : Aired) (now : ℕ) (told : Option Reference) (pairs : List Holding) (s : State) → Agrees to told pairs s
    → sent_by_terminal (held_by pairs told now to (Some one)) to (Some one) ≡ confirmed_by to one (step_of s (record { 0 = now }) (carried all one))
terminal-answers-by to all (sends.PlanFor for load edition) now told pairs s agrees = plan-answers to for load edition (bursts_for for (plan_of all edition)) now told pairs s _ refl agrees
terminal-answers-by to all (sends.Load command edition) now told pairs s agrees = refl
terminal-answers-by to all (sends.Arm command edition due) now told pairs s agrees = refl
terminal-answers-by to all (sends.Status status) now told pairs s agrees = refl
terminal-answers-by to all (sends.Confirm from load edition) now told pairs s agrees = refl
terminal-answers-by to all (sends.Reference superframe in_force next) now told pairs s agrees = refl
terminal-answers-by to all (sends.Lost from) now told pairs s agrees = refl

pub terminal-answers : (o : Opening) (past : List Happening) (one : Aired) (to : TermNo)
    → sent_by_hearing o past (Some one) (Terminal to) ≡ confirmed_by to one (step_of (terminal o past to) (record { 0 = mark o past }) (carried (plans o past) one))
terminal-answers o past one to = terminal-answers-by to (plans o past) one (mark o past) (last_heard o past to) (held o past to) (terminal o past to) (terminal-agrees o past to)
