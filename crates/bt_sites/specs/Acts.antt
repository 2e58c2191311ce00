-- Runs of sites that lines with stamps make.
use Rattle.std.specs.Prelude.{◌≡◌, ◌==◌, ◌||◌, Bool, true, false, List, [], ◌∷◌}
use Rattle.bt_frame.specs.declared.numbers.TermNo.{TermNo}
use Rattle.bt_air.specs.declared.sent.Place.TheVariants.{Satellite, Centre, Terminal}
use Rattle.bt_site.specs.Event.{Opening, Event, Tick, Turn, Second, Ordered, Deliver, ResetTerminal}
use Rattle.bt_sites.specs.Behind.{IsWorldBehind}
use Rattle.bt_sites.specs.Stamps.{Act, AreStamped, steps_by}
use Rattle.bt_sites.specs.Step.{Step, Begins, Starts, TerminalHears, CentreHears, Turns, Places, StandbyHears, Seconds}

-- some superframe has begun
abbrev pub has_begun : List Step → Bool
has_begun [] = false
has_begun (Begins ∷ before) = true
has_begun (_ ∷ before) = has_begun before

-- the terminal has started
abbrev pub starts_in : TermNo → List Step → Bool
starts_in number [] = false
starts_in number (Starts other ∷ before) = other.0 == number.0 || starts_in number before
starts_in number (_ ∷ before) = starts_in number before

-- who goes by a superframe does so once one has begun, and a terminal hears nothing before its start
abbrev pub IsLed : List Step → Step → Type 0
IsLed before (TerminalHears number mark bytes) = (starts_in number before ≡ true) × (has_begun before ≡ true)
IsLed before (CentreHears mark bytes) = has_begun before ≡ true
IsLed before (Turns mark target) = has_begun before ≡ true
IsLed before Places = has_begun before ≡ true
IsLed before (StandbyHears mark bytes) = has_begun before ≡ true
IsLed before (Seconds mark) = has_begun before ≡ true
IsLed before _ = Unit {0}

-- each of these steps
abbrev pub AreLed : List Step → Type 0
AreLed [] = Unit {0}
AreLed (step ∷ before) = IsLed before step × AreLed before

-- acts by which sites that hear lines with stamps make these very steps
pub record HasActs (o : Opening) (steps : List Step) : Type 0 where
  pub acts : List Act
  pub stamped : AreStamped o acts
  pub are : steps_by o acts ≡ steps

-- some superframe of a world has begun
abbrev pub has_ticked : List Event → Bool
has_ticked [] = false
has_ticked (Tick ∷ earlier) = true
has_ticked (_ ∷ earlier) = has_ticked earlier

-- the terminal has restarted in a world
abbrev pub resets_in : TermNo → List Event → Bool
resets_in number [] = false
resets_in number (ResetTerminal other ∷ earlier) = other.0 == number.0 || resets_in number earlier
resets_in number (_ ∷ earlier) = resets_in number earlier

-- the same of an event: what the ground hears or sends comes once a superframe has begun, and a terminal hears nothing before its start
abbrev pub IsLedEvent : List Event → Event → Type 0
IsLedEvent earlier (Turn target) = has_ticked earlier ≡ true
IsLedEvent earlier (Second in_force) = has_ticked earlier ≡ true
IsLedEvent earlier Ordered = has_ticked earlier ≡ true
IsLedEvent earlier (Deliver number Satellite) = Unit {0}
IsLedEvent earlier (Deliver number Centre) = has_ticked earlier ≡ true
IsLedEvent earlier (Deliver number (Terminal to)) = (resets_in to earlier ≡ true) × (has_ticked earlier ≡ true)
IsLedEvent earlier _ = Unit {0}

-- each of these events
abbrev pub AreLedEvents : List Event → Type 0
AreLedEvents [] = Unit {0}
AreLedEvents (event ∷ earlier) = IsLedEvent earlier event × AreLedEvents earlier

-- sites that hear lines with stamps and do what happens in a world
pub record HasActsOf (o : Opening) (events : List Event) : Type 0 where
  pub acts : List Act
  pub stamped : AreStamped o acts
  pub behind : IsWorldBehind o (steps_by o acts) events
