-- The centre of sites apart as a site that hears lines with stamps (`bt_sites`). Lists of acts have the latest first.
use Rattle.std.specs.Prelude.{◌≡◌, ℕ, ◌+◌, ◌<◌, ◌≤◌, nat_le, if◌then◌else◌, Bool, true, false, List, [], ◌∷◌, ◌++◌, Some}
use Rattle.bt_net.specs.Network.{Net}
use Rattle.bt_demand.specs.declared.burst.Burst.{Burst}
use Rattle.bt_demand.specs.declared.plan.Plan.{Plan}
use Rattle.bt_demand.specs.Flyable.{IsFlyable}
use Rattle.bt_air.specs.declared.sent.Aired.{Aired}
use Rattle.bt_air.specs.Sent.{sent_as}
use Rattle.bt_machines.specs.CentreSteps.{orders_kept}
use Rattle.bt_machines.specs.Plans.{plan_of}
use Rattle.bt_machines.specs.Satellite.{State as Satellite}
use Rattle.bt_timeline.specs.Air.{sent_line}
use Rattle.bt_site.specs.Air.{IsSafe}
use Rattle.bt_site.specs.Event.{Opening, Event}
use Rattle.bt_sites.specs.Sites.{centre_after, plans_after}
use Rattle.bt_sites.specs.Stamps.{Act, Begun, Hears, Line, Radio, known, lines_by, reached, steps_by}
use Rattle.bt_sites.specs.Step as site
use Rattle.bt_script.specs.Heard.{bus_line_of}
use Rattle.bt_script.specs.declared.heard.BusLine.{BusLine}
use Rattle.bt_apart.specs.Apart.{ApartAir, having_apart, lines_apart, says_apart}
use Rattle.bt_station.specs.Acts.{heard_as, text_of, texts_of}

-- the superframe that the centre knows, or 0, where it has heard of none since its start
abbrev pub known_in : ApartAir → ℕ
known_in air = if air.marked then air.mark.0 else 0

-- Where the centre is after these acts: with their plans and by their table, in the network of the opening and in the superframe that
-- it knows by them. What it said before, and to which edition it goes back, is no part of it.
pub record IsCentreAt (o : Opening) (acts : List Act) (air : ApartAir) : Type 0 where
  pub net : air.opening.net ≡ o.net
  pub plans : air.plans ≡ plans_after o (steps_by o acts)
  pub centre : air.centre ≡ centre_after o (steps_by o acts)
  pub knows : known site.Centre acts ≡ known_in air
  pub some : air.marked ≡ true → 0 < air.mark.0

-- with what a new process opens after these acts: the plans and the orders to which they came, with the order that was wanted or without it
abbrev pub opening_again : Opening → List Act → Bool → Opening
opening_again o before kept = record {
  net = o.net;
  plans = plans_after o (steps_by o before);
  orders = orders_kept (centre_after o (steps_by o before)) kept;
}

-- the centre takes a line up: a superframe that begins and is not behind its own, and a message once it has heard that one began
abbrev pub takes_up : ApartAir → Line → Bool
takes_up air (Begun stamp) = nat_le air.mark.0 stamp
takes_up air (Radio stamp bytes) = air.marked

-- a superframe that begins is from 1 on
abbrev pub BeginsSome : Line → Type 0
BeginsSome (Begun stamp) = 0 < stamp
BeginsSome (Radio stamp bytes) = Unit {0}

-- the centre is not behind any superframe that it knew, in whatever life: what it takes for the present one is no earlier
abbrev pub IsNotBehind : Opening → List Act → ApartAir → Type 0
IsNotBehind o acts air = reached o site.Centre acts ≤ air.mark.0

-- the act is that the centre hears a line
abbrev pub is_hearing : Act → Bool
is_hearing (Hears site.Centre line) = true
is_hearing _ = false

-- The messages that are printed, the first of them with this number, and behind each the line that is said of it. Where there are more
-- of either, they stand alone at the end.
abbrev pub printed_with : Net → ℕ → List Aired → List Line → List ℕ
printed_with net number [] lines = texts_of lines
printed_with net number (one ∷ more) [] = sent_line net number (sent_as one) ++ printed_with net (number + 1) more []
printed_with net number (one ∷ more) (line ∷ lines) = (sent_line net number (sent_as one) ++ text_of line) ++ printed_with net (number + 1) more lines

-- That something happens to the centre is an act: behind it the centre is where the act takes it, and behind each message that it
-- prints stands the line that is said with the act.
pub record IsAct (net : Net) (o : Opening) (before : List Act) (air : ApartAir) (event : Event) (act : Act) : Type 0 where
  pub stands : IsCentreAt o (act ∷ before) (having_apart air event)
  pub says : lines_apart net air event ≡ printed_with net air.said (says_apart air event) (lines_by o before act)

-- the edition in front on board is that of an installed plan, which can be flown, and the modes in front are that plan's
pub record IsPlanInFront (air : ApartAir) (onboard : Satellite) : Type 0 where
  pub plan : Plan
  pub installed : plan_of air.plans onboard.fore.edition ≡ Some plan
  pub modes : onboard.fore.modes ≡ plan.schedule.modes
  pub flyable : IsFlyable air.opening.net plan

-- in such a frame bursts are safe through the modes of the plan in front
pub record IsSafeInFront (net : Net) (air : ApartAir) (onboard : Satellite) (bursts : List Burst) : Type 0 where
  pub front : IsPlanInFront air onboard
  pub safe : IsSafe net front.plan.schedule.modes bursts

-- a text is heard as this line
abbrev pub IsHeardAs : List ℕ → Line → Type 0
IsHeardAs text line = bus_line_of text ≡ Some (heard_as line)

-- what was read of a text is what is heard of some line, of a superframe from 1 on where one begins
pub record IsOfLine (one : BusLine) : Type 0 where
  pub line : Line
  pub is : heard_as line ≡ one
  pub some : BeginsSome line
