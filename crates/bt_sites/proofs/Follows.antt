-- One step more, and one event more of the world behind it.
use Rattle.std.proofs.Common.{◌≡◌, ℕ, ◌≤◌, if◌then◌else◌, Bool, true, false, List, [], ◌∷◌, ◌++◌, length, map, Option, Some, None, refl, sym, ◌∙◌, ap}
use Rattle.std.proofs.lemmas.List.{map-append}
use Rattle.std.proofs.lemmas.List.Folds.{list_any-append}
use Rattle.std.proofs.lemmas.Bool.{or_left}
use Rattle.bt_frame.specs.declared.numbers.Command.{Command}
use Rattle.bt_frame.specs.declared.numbers.EditionNo.{EditionNo}
use Rattle.bt_frame.specs.declared.numbers.TermNo.{TermNo}
use Rattle.bt_demand.specs.declared.plan.Plan.{Plan}
use Rattle.bt_air.specs.declared.order.Status.{Status}
use Rattle.bt_air.specs.declared.sent.Aired.{Aired}
use Rattle.bt_air.specs.declared.sent.Aired.TheVariants as sends
use Rattle.bt_air.specs.declared.sent.Heard.{Heard}
use Rattle.bt_air.specs.declared.sent.Taken.{Taken}
use Rattle.bt_machines.specs.SatelliteRun.{is_accepted}
use Rattle.bt_machines.specs.Satellite.{State as Onboard, status_of}
use Rattle.bt_machines.specs.Terminal.{State as Ground, load_of}
use Rattle.bt_machines.specs.Says.{confirms, confirmed_by, is_confirming, told_by}
use Rattle.bt_site.specs.Centre.{centre}
use Rattle.bt_site.specs.Event.{Opening, Event, Happening}
use Rattle.bt_site.specs.Fits.{IsWorld, Meets}
use Rattle.bt_site.specs.Ground.{terminal}
use Rattle.bt_site.specs.Satellite.{satellite}
use Rattle.bt_site.specs.World.{comes_to, is_told, log, orders, plans, sent, sent_with, tells}
use Rattle.bt_sites.specs.Acts.{AreLed, AreLedEvents, has_begun, has_ticked, resets_in, starts_in}
use Rattle.bt_sites.specs.Behind.{IsWorldBehind}
use Rattle.bt_sites.specs.Fits.{AreSites, order_count}
use Rattle.bt_sites.specs.Sites.{bytes_of, centre_after, plans_after, said, said_with, satellite_after, standby_after, terminal_after}
use Rattle.bt_sites.specs.Step.{Step}

-- the status that is kept was sent
abbrev pub WasSent : Option Status → List Aired → Type 0
WasSent None sent = Unit {0}
WasSent (Some status) sent = is_told sent status.mark.0 status.fore ≡ true

-- a world behind sites, whose orders are no more than were placed, and which sent the status that the standby keeps
pub record Stands (o : Opening) (steps : List Step) (events : List Event) : Type 0 where
  pub behind : IsWorldBehind o steps events
  pub few : length (orders o (log o events)) ≤ order_count o steps
  pub kept : WasSent (standby_after steps) (sent o (log o events))

-- there is one
pub record HasStand (o : Opening) (steps : List Step) : Type 0 where
  pub events : List Event
  pub stands : Stands o steps events

-- where what happens comes once a superframe has begun and behind the start of a terminal, so do the steps
pub record Leads (events : List Event) (steps : List Step) : Type 0 where
  pub begun : has_ticked events ≡ true → has_begun steps ≡ true
  pub started : (number : TermNo) → resets_in number events ≡ true → starts_in number steps ≡ true
  pub led : AreLedEvents events → AreLed steps

-- sites that do what happens in a world
pub record HasSitesOf (o : Opening) (events : List Event) : Type 0 where
  pub steps : List Step
  pub sites : AreSites o steps
  pub stands : Stands o steps events
  pub leads : Leads events steps

-- what happened is what the steps say
pub record Follows (o : Opening) (steps : List Step) (past : List Happening) : Type 0 where
  pub satellite : satellite_after o steps ≡ satellite o past
  pub terminals : (number : TermNo) → terminal_after number steps ≡ terminal o past number
  pub said : said o steps ≡ map (λ (one : Aired). bytes_of (plans o past) one) (sent o past)
  pub plans : plans_after o steps ≡ plans o past
  pub centre : centre_after o steps ≡ centre o past
  pub few : length (orders o past) ≤ order_count o steps

-- what was sent stays so
pub sent-still : (kept : Option Status) (sent more : List Aired) → WasSent kept sent → WasSent kept (sent ++ more)
sent-still None sent more was = tt
sent-still (Some status) sent more was =
    list_any-append (tells status.mark.0 status.fore) sent more
    ∙ or_left (is_told sent status.mark.0 status.fore) (is_told more status.mark.0 status.fore) was

pub stands-more : (o : Opening) (steps : List Step) (events : List Event) (event : Event) → IsWorld o events → WasSent (standby_after steps) (sent o (log o events))
    → Meets o (log o events) event → Follows o steps (comes_to o (log o events) event ∷ log o events) → Stands o steps (event ∷ events)
stands-more o steps events event world kept meets follows = record {
  behind = record { world = (meets, world); satellite = follows.satellite; terminals = follows.terminals; said = follows.said; plans = follows.plans; centre = follows.centre };
  few = follows.few;
  kept = sent-still (standby_after steps) (sent o (log o events)) (sent_with o (log o events) (comes_to o (log o events) event)) kept;
}

-- a message that carries nothing of a plan, where a test passes
bare-if : (all : List Plan) (one : Aired) (test : Bool) → bytes_of [] one ≡ bytes_of all one
    → map (λ (x : Aired). bytes_of [] x) (if test then one ∷ [] else []) ≡ map (λ (x : Aired). bytes_of all x) (if test then one ∷ [] else [])
bare-if all one true same = ap (λ (b : List ℕ). b ∷ []) same
bare-if all one false same = refl

confirms-bare : (all : List Plan) (number : TermNo) (edition : EditionNo) (load : Option Command)
    → map (λ (x : Aired). bytes_of [] x) (confirms number edition load) ≡ map (λ (x : Aired). bytes_of all x) (confirms number edition load)
confirms-bare all number edition None = refl
confirms-bare all number edition (Some load) = refl

confirms-if : (all : List Plan) (number : TermNo) (edition : EditionNo) (load : Option Command) (test : Bool)
    → map (λ (x : Aired). bytes_of [] x) (if test then confirms number edition load else []) ≡ map (λ (x : Aired). bytes_of all x) (if test then confirms number edition load else [])
confirms-if all number edition load true = confirms-bare all number edition load
confirms-if all number edition load false = refl

-- what is said with a step is what is sent with what happens
pub said-more : (o : Opening) (before : List Step) (step : Step) (past : List Happening) (more : List Aired)
    → said o before ≡ map (λ (one : Aired). bytes_of (plans o past) one) (sent o past) → said_with o before step ≡ map (λ (one : Aired). bytes_of (plans o past) one) more
    → said o before ++ said_with o before step ≡ map (λ (one : Aired). bytes_of (plans o past) one) (sent o past ++ more)
said-more o before step past more told says_so =
    let bytes = λ (one : Aired). bytes_of (plans o past) one in
    ap (λ (list : List (List ℕ)). list ++ said_with o before step) told
    ∙ ap (λ (list : List (List ℕ)). map bytes (sent o past) ++ list) says_so
    ∙ sym (map-append bytes (sent o past) more)

-- what the satellite and terminals say carries nothing of a plan
pub told-bare : (all : List Plan) (step : Taken × Onboard) → map (λ (one : Aired). bytes_of [] one) (told_by step) ≡ map (λ (one : Aired). bytes_of all one) (told_by step)
told-bare all step = bare-if all (sends.Status (status_of step.1)) (is_accepted step.0) refl

pub confirmed-bare : (all : List Plan) (number : TermNo) (one : Aired) (step : Heard × Ground)
    → map (λ (x : Aired). bytes_of [] x) (confirmed_by number one step) ≡ map (λ (x : Aired). bytes_of all x) (confirmed_by number one step)
confirmed-bare all number (sends.PlanFor to load edition) step = confirms-if all number edition (load_of step.1 edition) (is_confirming step.0)
confirmed-bare all number (sends.Load command edition) step = refl
confirmed-bare all number (sends.Arm command edition due) step = refl
confirmed-bare all number (sends.Status status) step = refl
confirmed-bare all number (sends.Confirm from load edition) step = refl
confirmed-bare all number (sends.Reference superframe in_force next) step = refl
confirmed-bare all number (sends.Lost from) step = refl
