-- Where the processes of the satellite, the terminals and the standby stand, and what they say.
use Rattle.std.proofs.Common.{◌≡◌, ℕ, zero, suc, ◌≤◌, ◌==◌, max, true, false, List, [], ◌∷◌, map, Option, Some, None, refl, sym, ap, ◌∙◌, arith}
use Rattle.std.specs.Prelude.{nat_lt}
use Rattle.bt_frame.specs.declared.limits.TheConstants.{LAST_MARK}
use Rattle.bt_frame.specs.declared.numbers.Mark.{Mark}
use Rattle.bt_frame.specs.declared.numbers.TermNo.{TermNo}
use Rattle.bt_air.specs.declared.message.Message.{Message}
use Rattle.bt_air.specs.declared.sent.Aired.TheVariants as sends
use Rattle.bt_machines.specs.Satellite.{status_of, ticked}
use Rattle.bt_machines.specs.Terminal.{State as Terminal}
use Rattle.bt_site.specs.Event.{Opening}
use Rattle.bt_site.specs.Sites.{satellite_says, terminal_says}
use Rattle.bt_sites.specs.Late.{now_of}
use Rattle.bt_sites.specs.Sites.{satellite_after, standby_after, terminal_after}
use Rattle.bt_sites.specs.Sites as sites
use Rattle.bt_sites.specs.Stamps.{Act, Begins, Begun, Hears, Line, Radio, Seconds, actor_of, is_same_site, known, lines_by, reached, said_if, step_by, steps_by, where_known}
use Rattle.bt_sites.specs.Step.{Step}
use Rattle.bt_sites.specs.Step as step
use Rattle.bt_script.specs.Heard.{if_begun, read_of}
use Rattle.bt_station.specs.declared.asked.Asked.TheVariants as asked
use Rattle.bt_station.specs.declared.station.Station.{Station}
use Rattle.bt_station.specs.Acts.{IsTakenUp, asked_by_line, satellite_at, standby_at, terminal_at}
use Rattle.bt_station.specs.Terminal.{present_by}
use Rattle.bt_station.proofs.Acts.{begun-some, goes-on_by, if-true, is-itself, mark-ticked, number-after, read-same, terminal_hears}
use Rattle.bt_apart_laws.specs.Processes.{asked_lines, begun_lines, confirm_lines, number_in, present_in, radios, second_lines}
use Rattle.bt_apart_laws.proofs.Others.{reached-more, reached-still, satellite-still, standby-still, terminal-still}

-- the superframe that a station knows is the one that the site knows
number-begun : (k : ℕ) → number_in (if_begun k) ≡ k
number-begun zero = refl
number-begun (suc k) = ap number_in (begun-some (suc k) (omega arith))

pub terminal-known : (o : Opening) (acts : List Act) (number : TermNo) (x : Station) → x ≡ terminal_at o number acts → known (step.Terminal number) acts ≡ present_in x
terminal-known o acts number x is = sym (ap present_in is ∙ number-begun (known (step.Terminal number) acts))

pub standby-known : (o : Opening) (acts : List Act) (x : Station) → x ≡ standby_at o acts → known step.Standby acts ≡ present_in x
standby-known o acts x is = sym (ap present_in is ∙ number-begun (known step.Standby acts))

-- the processes after acts, with the latest superframe that they knew
pub record IsSatelliteAt (o : Opening) (acts : List Act) (x : Station) : Type 0 where
  pub shown : ℕ
  pub is : x ≡ satellite_at o shown acts

pub record IsTerminalAt (o : Opening) (acts : List Act) (number : TermNo) (x : Station) (reach : ℕ) : Type 0 where
  pub is : x ≡ terminal_at o number acts
  pub reached : reached o (step.Terminal number) acts ≤ reach

pub record IsStandbyAt (o : Opening) (acts : List Act) (x : Station) (reach : ℕ) : Type 0 where
  pub is : x ≡ standby_at o acts
  pub reached : reached o step.Standby acts ≤ reach

-- with an act of its own, or of another site
pub terminal-next : (o : Opening) (acts : List Act) (act : Act) (number : TermNo) (y : Station) (reach : ℕ) → reached o (step.Terminal number) acts ≤ reach → y ≡ terminal_at o number (act ∷ acts)
    → IsTerminalAt o (act ∷ acts) number y (max reach (present_in y))
terminal-next o acts act number y reach most is = record {
  is = is;
  reached = reached-more o (step.Terminal number) acts act reach (present_in y) most (terminal-known o (act ∷ acts) number y is);
}

pub standby-next : (o : Opening) (acts : List Act) (act : Act) (y : Station) (reach : ℕ) → reached o step.Standby acts ≤ reach → y ≡ standby_at o (act ∷ acts)
    → IsStandbyAt o (act ∷ acts) y (max reach (present_in y))
standby-next o acts act y reach most is = record {
  is = is;
  reached = reached-more o step.Standby acts act reach (present_in y) most (standby-known o (act ∷ acts) y is);
}

pub satellite-kept : (o : Opening) (acts : List Act) (act : Act) (x : Station) → is_same_site (actor_of act) step.Satellite ≡ false → IsSatelliteAt o acts x → IsSatelliteAt o (act ∷ acts) x
satellite-kept o acts act x other at = record { shown = at.shown; is = at.is ∙ satellite-still o at.shown acts act other }

pub terminal-kept : (o : Opening) (acts : List Act) (act : Act) (number : TermNo) (x : Station) (reach : ℕ) → is_same_site (actor_of act) (step.Terminal number) ≡ false
    → IsTerminalAt o acts number x reach → IsTerminalAt o (act ∷ acts) number x (max reach (present_in x))
terminal-kept o acts act number x reach other at = terminal-next o acts act number x reach at.reached (at.is ∙ terminal-still o number acts act other)

pub standby-kept : (o : Opening) (acts : List Act) (act : Act) (x : Station) (reach : ℕ) → is_same_site (actor_of act) step.Standby ≡ false
    → IsStandbyAt o acts x reach → IsStandbyAt o (act ∷ acts) x (max reach (present_in x))
standby-kept o acts act x reach other at = standby-next o acts act x reach at.reached (at.is ∙ standby-still o acts act other)

-- with no act
pub terminal-idle : (o : Opening) (acts : List Act) (number : TermNo) (x y : Station) (reach : ℕ) → y ≡ x → IsTerminalAt o acts number x reach → IsTerminalAt o acts number y (max reach (present_in y))
terminal-idle o acts number x y reach same at = record { is = same ∙ at.is; reached = reached-still (reached o (step.Terminal number) acts) reach (present_in y) at.reached }

pub standby-idle : (o : Opening) (acts : List Act) (x y : Station) (reach : ℕ) → y ≡ x → IsStandbyAt o acts x reach → IsStandbyAt o acts y (max reach (present_in y))
standby-idle o acts x y reach same at = record { is = same ∙ at.is; reached = reached-still (reached o step.Standby acts) reach (present_in y) at.reached }

-- as far as a later superframe
pub terminal-lower : (o : Opening) (acts : List Act) (number : TermNo) (x : Station) (reach bound : ℕ) → reach ≤ bound → IsTerminalAt o acts number x reach → IsTerminalAt o acts number x bound
terminal-lower o acts number x reach bound most at = record { is = at.is; reached = omega (arith, at.reached, most) }

pub standby-lower : (o : Opening) (acts : List Act) (x : Station) (reach bound : ℕ) → reach ≤ bound → IsStandbyAt o acts x reach → IsStandbyAt o acts x bound
standby-lower o acts x reach bound most at = record { is = at.is; reached = omega (arith, at.reached, most) }

-- what the satellite says with a line that it hears
pub satellite-says : (o : Opening) (shown : ℕ) (acts : List Act) (line : Line) → asked_lines (satellite_at o shown acts) (Some (asked_by_line line)) ≡ lines_by o acts (Hears step.Satellite line)
satellite-says o shown acts (Begun stamp) = refl
satellite-says o shown acts (Radio stamp bytes) =
    let was = satellite_after o (steps_by o acts) in
    ap (λ (m : Option Message). radios was.mark.0 [] (satellite_says was m)) (read-same bytes)

-- and where its next superframe begins
pub satellite-begins : (o : Opening) (shown : ℕ) (acts : List Act) → nat_lt (now_of o (steps_by o acts)) LAST_MARK ≡ true → asked_lines (satellite_at o shown acts) (Some asked.Tick) ≡ lines_by o acts Begins
satellite-begins o shown acts below =
    let was = satellite_after o (steps_by o acts) in
    if-true (nat_lt was.mark.0 LAST_MARK) (begun_lines (ticked was)) [] below
    ∙ ap (λ (n : ℕ). Begun n ∷ radios n [] (sends.Status (status_of (ticked was)) ∷ [])) (mark-ticked was)

-- what a terminal says with a line that it takes up
confirms-known : (o : Opening) (number : TermNo) (steps : List Step) (k : ℕ) (bytes : List ℕ)
    → confirm_lines (terminal_after number steps) (if_begun k) (read_of bytes) ≡ map (λ (one : List ℕ). Radio k one) (said_if o steps (where_known k (terminal_hears number bytes)))
confirms-known o number steps zero bytes = refl
confirms-known o number steps (suc k) bytes =
    let was = terminal_after number steps in
    let mark : Mark = record { 0 = suc k } in
    ap (λ (p : Option Mark). confirm_lines was p (read_of bytes)) (begun-some (suc k) (omega arith))
    ∙ ap (λ (m : Option Message). radios (suc k) [] (terminal_says was.number was mark m)) (read-same bytes)
    ∙ ap (λ (n : TermNo). radios (suc k) [] (terminal_says n was mark (sites.read_of bytes))) (number-after number steps)

pub terminal-says : (o : Opening) (number : TermNo) (acts : List Act) (line : Line) → IsTakenUp (known (step.Terminal number) acts) line
    → asked_lines (terminal_at o number acts) (Some (asked_by_line line)) ≡ lines_by o acts (Hears (step.Terminal number) line)
terminal-says o number acts (Begun stamp) takes = refl
terminal-says o number acts (Radio stamp bytes) takes =
    let was = terminal_after number (steps_by o acts) in
    let act = Hears (step.Terminal number) (Radio stamp bytes) in
    let k = known (step.Terminal number) acts in
    ap (λ (p : Option Mark). confirm_lines was p (read_of bytes)) (goes-on_by k stamp takes)
    ∙ confirms-known o number (steps_by o acts) (max k stamp) bytes
    ∙ ap (λ (n : ℕ). map (λ (one : List ℕ). Radio n one) (said_if o (steps_by o acts) (step_by acts act))) (sym (if-true (number.0 == number.0) (max k stamp) k (is-itself number.0)))

-- one that knows no superframe says nothing to a message
silent-by : (s : Terminal) (k stamp : ℕ) (message : Option Message) → k ≡ 0 → confirm_lines s (present_by (if_begun k) (record { 0 = stamp })) message ≡ []
silent-by s zero stamp message none = refl
silent-by s (suc k) stamp message none = absurd (omega (arith, none))

pub terminal-silent : (o : Opening) (number : TermNo) (acts : List Act) (stamp : ℕ) (bytes : List ℕ) → known (step.Terminal number) acts ≡ 0
    → asked_lines (terminal_at o number acts) (Some (asked_by_line (Radio stamp bytes))) ≡ []
terminal-silent o number acts stamp bytes none = silent-by (terminal_after number (steps_by o acts)) (known (step.Terminal number) acts) stamp (read_of bytes) none

-- what the standby says with its burst
seconds-known : (o : Opening) (steps : List Step) (present : Option Mark) (k : ℕ) → present ≡ if_begun k
    → second_lines (record { kept = standby_after steps; present = if_begun k }) present ≡ map (λ (one : List ℕ). Radio k one) (said_if o steps (where_known k (λ (mark : Mark). step.Seconds mark)))
seconds-known o steps present zero is = ap (λ (p : Option Mark). second_lines (record { kept = standby_after steps; present = None }) p) is
seconds-known o steps present (suc k) is =
    ap (λ (p : Option Mark). second_lines (record { kept = standby_after steps; present = if_begun (suc k) }) p) (is ∙ begun-some (suc k) (omega arith))

pub standby-says : (o : Opening) (acts : List Act) → asked_lines (standby_at o acts) (Some asked.Second) ≡ lines_by o acts Seconds
standby-says o acts = seconds-known o (steps_by o acts) (if_begun (known step.Standby acts)) (known step.Standby acts) refl
