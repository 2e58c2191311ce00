-- Sites that hear of each other by lines: each message has in front the superframe that its sayer takes for the present one.
use Rattle.std.specs.Prelude.{◌≡◌, ◌⊎◌, ℕ, zero, suc, ◌+◌, ◌<◌, ◌≤◌, ◌==◌, ◌||◌, max, if◌then◌else◌, Bool, true, false, List, [], ◌∷◌, ◌++◌, map, Option, Some, None, IsSome}
use Rattle.bt_frame.specs.declared.limits.TheConstants.{LAST_MARK}
use Rattle.bt_frame.specs.declared.numbers.EditionNo.{EditionNo}
use Rattle.bt_frame.specs.declared.numbers.Mark.{Mark}
use Rattle.bt_frame.specs.declared.numbers.TermNo.{TermNo}
use Rattle.bt_sites.specs.Step.{Site, Satellite, Centre, Terminal, Standby, Step}
use Rattle.bt_demand.specs.declared.plan.Plan.{Plan}
use Rattle.bt_demand.specs.Flyable.{IsFlyable}
use Rattle.bt_net.specs.Terminals.{IsTerminal}
use Rattle.bt_machines.specs.Plans.{newest_of, plan_of}
use Rattle.bt_site.specs.Event.{Opening}
use Rattle.bt_site.specs.Fits.{IsOpening}
use Rattle.bt_site.specs.World.{greatest_due}
use Rattle.bt_sites.specs.Late.{Late, now_of, steps_of}
use Rattle.bt_sites.specs.Sites.{centre_after, plans_after, said_with}
use Rattle.bt_sites.specs.Step as step

-- A line: a superframe begins, which the satellite alone says, or the bytes of a message behind the superframe that its sayer
-- takes for the present one, 0 where it knows of none.
pub data Line : Type 0 where
  Begun : ℕ → Line
  Radio : ℕ → List ℕ → Line

-- the superframe that a line names
abbrev pub stamp_of : Line → ℕ
stamp_of (Begun stamp) = stamp
stamp_of (Radio stamp bytes) = stamp

-- What happens: a site hears a line, or does something of its own. Lists of acts have the latest first.
pub data Act : Type 0 where
  Hears : Site → Line → Act
  Begins : Act
  Starts : TermNo → Act
  Turns : EditionNo → Act
  Places : Act
  Installs : Plan → Act
  Restarts : Bool → Act
  StandbyStarts : Act
  Seconds : Act

-- whose act it is
abbrev pub actor_of : Act → Site
actor_of (Hears site line) = site
actor_of Begins = Satellite
actor_of (Starts number) = Terminal number
actor_of (Turns target) = Centre
actor_of Places = Centre
actor_of (Installs plan) = Centre
actor_of (Restarts kept) = Centre
actor_of StandbyStarts = Standby
actor_of Seconds = Standby

-- two sites are one
abbrev pub is_same_site : Site → Site → Bool
is_same_site Satellite Satellite = true
is_same_site Centre Centre = true
is_same_site Standby Standby = true
is_same_site (Terminal one) (Terminal other) = one.0 == other.0
is_same_site _ _ = false

-- the superframe that a site knows after an act of its own: who hears a line of a later one goes on to it, and who starts knows none
abbrev pub known_by : ℕ → Act → ℕ
known_by before (Hears site line) = max before (stamp_of line)
known_by before (Starts number) = 0
known_by before (Restarts kept) = 0
known_by before StandbyStarts = 0
known_by before _ = before

-- the superframe that a site on the ground takes for the present one: the latest of the lines that it heard since its start, or 0
abbrev pub known : Site → List Act → ℕ
known site [] = 0
known site (act ∷ before) = if is_same_site (actor_of act) site then known_by (known site before) act else known site before

-- the latest superframe that a site knew in any of its lives; before any it is that in which the satellite opens
abbrev pub reached : Opening → Site → List Act → ℕ
reached o site [] = greatest_due o.orders
reached o site (act ∷ before) = max (reached o site before) (known site (act ∷ before))

-- a step in a superframe, where the site knows one
abbrev pub where_known : ℕ → (Mark → Step) → Option Step
where_known zero step_in = None
where_known (suc n) step_in = Some (step_in (record { 0 = suc n }))

-- The step that an act is, if it is one. A site that knows no superframe passes over a message, and has no turn.
abbrev pub step_by : List Act → Act → Option Step
step_by before (Hears site (Begun stamp)) = None
step_by before (Hears Satellite (Radio stamp bytes)) = Some (step.SatelliteHears bytes)
step_by before (Hears Centre (Radio stamp bytes)) = where_known (max (known Centre before) stamp) (λ (mark : Mark). step.CentreHears mark bytes)
step_by before (Hears (Terminal number) (Radio stamp bytes)) =
    where_known (max (known (Terminal number) before) stamp) (λ (mark : Mark). step.TerminalHears number mark bytes)
step_by before (Hears Standby (Radio stamp bytes)) = where_known (max (known Standby before) stamp) (λ (mark : Mark). step.StandbyHears mark bytes)
step_by before Begins = Some step.Begins
step_by before (Starts number) = Some (step.Starts number)
step_by before (Turns target) = where_known (known Centre before) (λ (mark : Mark). step.Turns mark target)
step_by before Places = where_known (known Centre before) (λ (mark : Mark). step.Places)
step_by before (Installs plan) = Some (step.Installs plan)
step_by before (Restarts kept) = Some (step.Restarts kept)
step_by before StandbyStarts = Some step.StandbyStarts
step_by before Seconds = where_known (known Standby before) (λ (mark : Mark). step.Seconds mark)

-- the superframe in which a step is made: the satellite goes by its own count, in which it is now
abbrev pub made_in : Opening → ℕ → List Act → Act → ℕ
made_in o now before Begins = now + 1
made_in o now before (Hears Satellite line) = now
made_in o now before act = reached o (actor_of act) (act ∷ before)

-- with a step more, if there is one
abbrev pub joined : ℕ → Option Step → List Late → List Late
joined mark None late = late
joined mark (Some made) late = record { mark = mark; step = made } ∷ late

-- the steps that were made, each with the superframe of its site
abbrev pub late_of : Opening → List Act → List Late
late_of o [] = []
late_of o (act ∷ before) = joined (made_in o (now_of o (steps_of (late_of o before))) before act) (step_by before act) (late_of o before)

-- the steps alone
abbrev pub steps_by : Opening → List Act → List Step
steps_by o acts = steps_of (late_of o acts)

-- the superframe that stands in front of what is said with an act: a terminal that starts knows none
abbrev pub stamp_by : ℕ → List Act → Act → ℕ
stamp_by now before Begins = now + 1
stamp_by now before (Hears Satellite line) = now
stamp_by now before (Starts number) = 0
stamp_by now before act = known (actor_of act) (act ∷ before)

-- the satellite says that its next superframe begins
abbrev pub begun_by : ℕ → Act → List Line
begun_by now Begins = Begun (now + 1) ∷ []
begun_by now _ = []

-- the bytes that are said with a step, if there is one
abbrev pub said_if : Opening → List Step → Option Step → List (List ℕ)
said_if o before None = []
said_if o before (Some made) = said_with o before made

-- the lines that are said with an act
abbrev pub lines_by : Opening → List Act → Act → List Line
lines_by o before act =
    begun_by (now_of o (steps_by o before)) act
    ++ map (λ (bytes : List ℕ). Radio (stamp_by (now_of o (steps_by o before)) before act) bytes) (said_if o (steps_by o before) (step_by before act))

-- the lines that were said
abbrev pub lines : Opening → List Act → List Line
lines o [] = []
lines o (act ∷ before) = lines_by o before act ++ lines o before

-- the line is one of these
abbrev pub HasLine : List Line → Line → Type 0
HasLine [] line = ⊥
HasLine (one ∷ others) line = (line ≡ one) ⊎ HasLine others line

-- a terminal has started
abbrev pub has_started : TermNo → List Act → Bool
has_started number [] = false
has_started number (Starts other ∷ before) = other.0 == number.0 || has_started number before
has_started number (act ∷ before) = has_started number before

-- the first superframe that a site hears of since its start is no earlier than those that it knew before it
abbrev pub GoesOn : Opening → List Act → Site → ℕ → Type 0
GoesOn o before site stamp = known site before ≡ 0 → 0 < stamp → reached o site before ≤ stamp

-- a site may hear a line of this superframe: a terminal of the network once it has started
abbrev pub MayHear : Opening → List Act → Site → ℕ → Type 0
MayHear o before Satellite stamp = Unit {0}
MayHear o before Centre stamp = GoesOn o before Centre stamp
MayHear o before Standby stamp = GoesOn o before Standby stamp
MayHear o before (Terminal number) stamp = IsTerminal o.net number × (has_started number before ≡ true) × GoesOn o before (Terminal number) stamp

-- what must hold of an act of each kind: a line that is heard was said before, whenever and however often it was heard
abbrev pub MayAct : Opening → List Act → Act → Type 0
MayAct o before (Hears site line) = HasLine (lines o before) line × MayHear o before site (stamp_of line)
MayAct o before Begins = now_of o (steps_by o before) < LAST_MARK
MayAct o before (Starts number) = IsTerminal o.net number
MayAct o before (Turns target) = IsSome (plan_of (plans_after o (steps_by o before)) target)
MayAct o before Places = IsSome (centre_after o (steps_by o before)).wanted
MayAct o before (Installs plan) = ((newest_of (plans_after o (steps_by o before))).0 < plan.edition.0) × IsFlyable o.net plan
MayAct o before (Restarts true) = IsSome (centre_after o (steps_by o before)).wanted
MayAct o before (Restarts false) = Unit {0}
MayAct o before StandbyStarts = Unit {0}
MayAct o before Seconds = Unit {0}

-- a run of sites that hear lines with stamps
abbrev pub AreStamped : Opening → List Act → Type 0
AreStamped o [] = IsOpening o
AreStamped o (act ∷ before) = MayAct o before act × AreStamped o before
