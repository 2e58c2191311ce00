-- What a terminal heard in this superframe names the edition in front, or none.
use Rattle.std.proofs.Common.{◌≡◌, inl, inr, ℕ, ◌+◌, ◌==◌, if◌then◌else◌, Bool, true, false, List, [], ◌∷◌, ◌++◌, Option, Some, None, refl, ◌∙◌, ap}
use Rattle.bt_frame.specs.declared.numbers.EditionNo.{EditionNo}
use Rattle.bt_frame.specs.declared.numbers.Mark.{Mark}
use Rattle.bt_frame.specs.declared.numbers.TermNo.{TermNo}
use Rattle.bt_demand.specs.declared.plan.Plan.{Plan}
use Rattle.bt_air.specs.declared.order.Order.{Order}
use Rattle.bt_air.specs.declared.order.Order.TheVariants.{Load, Arm}
use Rattle.bt_air.specs.declared.sent.Place.{Place}
use Rattle.bt_air.specs.declared.sent.Place.TheVariants.{Satellite, Centre, Terminal}
use Rattle.bt_air.specs.declared.sent.Aired.{Aired}
use Rattle.bt_air.specs.declared.sent.Aired.TheVariants as sends
use Rattle.bt_air.specs.Orders.{fore_at}
use Rattle.bt_site.specs.Event.{Opening, Event, Happening, Ticks, Turns, Seconds, Orders, Hears, Shows, Resets, Restarts, Installs}
use Rattle.bt_machines.specs.declared.reference.Reference.{Reference}
use Rattle.bt_machines.specs.Terminal.{in_force}
use Rattle.std.proofs.lemmas.Bool.{eqb-true}
use Rattle.bt_site.specs.World.{mark, plans, accepted, wanted, orders, comes_to, log, joining_with, heard, heard_by, last_heard}
use Rattle.bt_machines.specs.CentreSteps.{with_wanted}
use Rattle.bt_site.proofs.Tells.{IsSound, MayJoin, NamesFront, sound-placed, sound-begun, sound-joined}
use Rattle.bt_site.specs.Laws.{IsNoneOr}
use Rattle.bt_site.proofs.Joins.{Nothing, One, IsSoundIfAny, joined}
use Rattle.bt_site.proofs.Standing.{Comes, comes, world-holds}

-- the Reference that is heard last is sound
abbrev pub HeardSound : List Order → List Order → ℕ → Option Reference → Type 0
HeardSound placed taken now None = Unit {0}
HeardSound placed taken now (Some told) = IsSound placed taken now (sends.Reference told.superframe told.in_force told.next)

heard-placed : (order : Order) (placed taken : List Order) (now : ℕ) (told : Option Reference) → HeardSound placed taken now told → HeardSound (order ∷ placed) taken now told
heard-placed order placed taken now None sound = tt
heard-placed order placed taken now (Some told) sound = sound-placed order placed taken now (sends.Reference told.superframe told.in_force told.next) sound

heard-wanted : (next : Option Order) (placed taken : List Order) (now : ℕ) (told : Option Reference) → HeardSound placed taken now told → HeardSound (with_wanted next placed) taken now told
heard-wanted None placed taken now told sound = sound
heard-wanted (Some order) placed taken now told sound = heard-placed order placed taken now told sound

heard-begun : (placed taken : List Order) (now : ℕ) (told : Option Reference) → HeardSound placed taken now told → HeardSound placed taken (now + 1) told
heard-begun placed taken now None sound = tt
heard-begun placed taken now (Some told) sound = sound-begun placed taken now (sends.Reference told.superframe told.in_force told.next) sound

heard-accepted : (placed taken : List Order) (now : ℕ) (order : Order) (told : Option Reference) → MayJoin placed taken now order → HeardSound placed taken now told → HeardSound placed (order ∷ taken) now told
heard-accepted placed taken now order None may sound = tt
heard-accepted placed taken now order (Some told) may sound = sound-joined placed taken now order (sends.Reference told.superframe told.in_force told.next) may sound

heard-joined : (placed taken : List Order) (now : ℕ) (all : List Plan) (told : Option Reference) (one : Option Aired) → IsSoundIfAny placed taken now one → HeardSound placed taken now told
    → HeardSound placed (joining_with taken now all one ++ taken) now told
heard-joined placed taken now all told one sound old = elim (joined placed taken now all one sound) [
  | Nothing none ↦ rw none old
  | One order is free may ↦ rw is (heard-accepted placed taken now order told may old)
]

-- a terminal hears
if-sound : (placed taken : List Order) (now : ℕ) (a b : Option Reference) (test : Bool) → HeardSound placed taken now a → HeardSound placed taken now b → HeardSound placed taken now (if test then a else b)
if-sound placed taken now a b true p q = p
if-sound placed taken now a b false p q = q

heard-one : (placed taken : List Order) (now : ℕ) (before : Option Reference) (one : Option Aired) → IsSoundIfAny placed taken now one
    → HeardSound placed taken now before → HeardSound placed taken now (heard_by before now one)
heard-one placed taken now before None sound old = old
heard-one placed taken now before (Some (sends.Reference superframe in_force next)) sound old =
    if-sound placed taken now (Some (record { superframe = superframe; in_force = in_force; next = next })) before _ sound old
heard-one placed taken now before (Some (sends.Load command edition)) sound old = old
heard-one placed taken now before (Some (sends.Arm command edition due)) sound old = old
heard-one placed taken now before (Some (sends.Status status)) sound old = old
heard-one placed taken now before (Some (sends.PlanFor to load edition)) sound old = old
heard-one placed taken now before (Some (sends.Confirm from load edition)) sound old = old
heard-one placed taken now before (Some (sends.Lost from)) sound old = old

-- what is heard of a terminal is sound
abbrev pub HearsSound : Opening → TermNo → List Happening → Type 0
HearsSound o terminal past = HeardSound (orders o past) (accepted o past) (mark o past) (last_heard o past terminal)

hearing : (o : Opening) (terminal : TermNo) (past : List Happening) (one : Option Aired) (place : Place) → Comes o past (Hears one place) → HearsSound o terminal past
    → HearsSound o terminal (Hears one place ∷ past)
hearing o terminal past one Satellite sound old = heard-joined (orders o past) (accepted o past) (mark o past) (plans o past) (last_heard o past terminal) one sound old
hearing o terminal past one Centre sound old = old
hearing o terminal past one (Terminal to) sound old =
    if-sound (orders o past) (accepted o past) (mark o past) (heard_by (last_heard o past terminal) (mark o past) one) (last_heard o past terminal) (to.0 == terminal.0)
    (heard-one (orders o past) (accepted o past) (mark o past) (last_heard o past terminal) one sound old) old

happening-sound : (o : Opening) (terminal : TermNo) (past : List Happening) (happening : Happening) → Comes o past happening → HearsSound o terminal past
    → HearsSound o terminal (happening ∷ past)
happening-sound o terminal past Ticks come old = heard-begun (orders o past) (accepted o past) (mark o past) (last_heard o past terminal) old
happening-sound o terminal past (Turns target act) come old = old
happening-sound o terminal past (Seconds in_force) come old = old
happening-sound o terminal past Orders come old = heard-wanted (wanted past) (orders o past) (accepted o past) (mark o past) (last_heard o past terminal) old
happening-sound o terminal past (Hears one place) come old = hearing o terminal past one place come old
happening-sound o terminal past Shows come old = old
happening-sound o terminal past (Resets other) come old =
    if-sound (orders o past) (accepted o past) (mark o past) None (last_heard o past terminal) (other.0 == terminal.0) tt old
happening-sound o terminal past (Restarts true) come old = heard-wanted (wanted past) (orders o past) (accepted o past) (mark o past) (last_heard o past terminal) old
happening-sound o terminal past (Restarts false) come old = old
happening-sound o terminal past (Installs plan) come old = old

pub heard-sound : (o : Opening) (terminal : TermNo) (events : List Event) → HearsSound o terminal (log o events)
heard-sound o terminal [] = tt
heard-sound o terminal (event ∷ earlier) =
    let past = log o earlier in happening-sound o terminal past (comes_to o past event) (comes o past event (world-holds o earlier)) (heard-sound o terminal earlier)

-- what it names in its own superframe is the edition in front
named-front : (taken : List Order) (now : ℕ) (superframe : Mark) (in_force : Option EditionNo) (test : Bool) → (superframe.0 == now) ≡ test → NamesFront taken now superframe in_force
    → IsNoneOr (if test then in_force else None) (fore_at taken now)
named-front taken now superframe None true e names = inl refl
named-front taken now superframe (Some edition) true e names = inr (ap (λ (x : EditionNo). Some x) (names.front ∙ ap (fore_at taken) (eqb-true _ _ e)))
named-front taken now superframe in_force false e names = inl refl

heard-front : (placed taken : List Order) (now : ℕ) (told : Option Reference) → HeardSound placed taken now told → IsNoneOr (in_force told (record { 0 = now })) (fore_at taken now)
heard-front placed taken now None sound = inl refl
heard-front placed taken now (Some told) sound = named-front taken now told.superframe told.in_force _ refl sound.names

-- what is heard, if anything, is the edition in front
abbrev pub HearsRight : Opening → TermNo → List Happening → Type 0
HearsRight o terminal past = IsNoneOr (heard o past terminal) (fore_at (accepted o past) (mark o past))

pub heard-right : (o : Opening) (terminal : TermNo) (events : List Event) → HearsRight o terminal (log o events)
heard-right o terminal events =
    let past = log o events in heard-front (orders o past) (accepted o past) (mark o past) (last_heard o past terminal) (heard-sound o terminal events)
