-- What another site does leaves a site as it is.
use Rattle.std.proofs.Common.{◌≡◌, ℕ, zero, suc, ◌<◌, ◌≤◌, ◌==◌, max, false, List, ◌∷◌, Option, refl, sym, ap, ◌∙◌, arith}
use Rattle.std.proofs.Math.Nat.{le-max_left, le-max_right, max-le}
use Rattle.bt_frame.specs.declared.numbers.Mark.{Mark}
use Rattle.bt_frame.specs.declared.numbers.TermNo.{TermNo}
use Rattle.bt_air.specs.declared.order.Status.{Status}
use Rattle.bt_machines.specs.Satellite.{State as Satellite}
use Rattle.bt_machines.specs.Terminal.{State as Terminal}
use Rattle.bt_site.specs.Event.{Opening}
use Rattle.bt_sites.specs.Fits.{order_count}
use Rattle.bt_sites.specs.Late.{Late, now_of, site_of, steps_of}
use Rattle.bt_sites.specs.Sites.{centre_after, plans_after, satellite_after, standby_after, terminal_after}
use Rattle.bt_sites.specs.Stamps.{Act, Begins, Begun, Hears, Installs, Places, Radio, Restarts, Seconds, StandbyStarts, Starts, Turns, actor_of, is_same_site, joined, known, known_by, late_of, made_in, reached, steps_by, where_known}
use Rattle.bt_sites.specs.Step.{Site, Step}
use Rattle.bt_sites.specs.Step as step
use Rattle.bt_script.specs.Heard.{if_begun}
use Rattle.bt_station.specs.declared.station.Station.TheVariants as station
use Rattle.bt_station.specs.Acts.{satellite_at, standby_at, terminal_at}
use Rattle.bt_station.proofs.Acts.{if-false}

-- a step of a site that knows a superframe, and one that leaves something as it was
pub where-some : {X : Type 0} (f : List Step → X) (late : List Late) (made k : ℕ) (make : Mark → Step) → 0 < k → f (steps_of (joined made (where_known k make) late)) ≡ f (make (record { 0 = k }) ∷ steps_of late)
where-some f late made zero make some = absurd (omega (arith, some))
where-some f late made (suc k) make some = refl

pub where-same : {X : Type 0} (f : List Step → X) (late : List Late) (made k : ℕ) (make : Mark → Step) → ((mark : Mark) → f (make mark ∷ steps_of late) ≡ f (steps_of late))
    → f (steps_of (joined made (where_known k make) late)) ≡ f (steps_of late)
where-same f late made zero make same = refl
where-same f late made (suc k) make same = same (record { 0 = suc k })

-- an act of another site makes a step of another site
pub other-same : {X : Type 0} (f : List Step → X) (o : Opening) (site : Site) (before : List Act) (act : Act) → is_same_site (actor_of act) site ≡ false
    → ((one : Step) → is_same_site (site_of one) site ≡ false → f (one ∷ steps_by o before) ≡ f (steps_by o before)) → f (steps_by o (act ∷ before)) ≡ f (steps_by o before)
other-same f o site before (Hears step.Satellite (Begun stamp)) other same = refl
other-same f o site before (Hears step.Satellite (Radio stamp bytes)) other same = same (step.SatelliteHears bytes) other
other-same f o site before (Hears step.Centre (Begun stamp)) other same = refl
other-same f o site before (Hears step.Centre (Radio stamp bytes)) other same =
    where-same f (late_of o before) (made_in o (now_of o (steps_by o before)) before (Hears step.Centre (Radio stamp bytes))) (max (known step.Centre before) stamp)
    (λ (mark : Mark). step.CentreHears mark bytes) (λ mark. same (step.CentreHears mark bytes) other)
other-same f o site before (Hears (step.Terminal number) (Begun stamp)) other same = refl
other-same f o site before (Hears (step.Terminal number) (Radio stamp bytes)) other same =
    where-same f (late_of o before) (made_in o (now_of o (steps_by o before)) before (Hears (step.Terminal number) (Radio stamp bytes))) (max (known (step.Terminal number) before) stamp)
    (λ (mark : Mark). step.TerminalHears number mark bytes) (λ mark. same (step.TerminalHears number mark bytes) other)
other-same f o site before (Hears step.Standby (Begun stamp)) other same = refl
other-same f o site before (Hears step.Standby (Radio stamp bytes)) other same =
    where-same f (late_of o before) (made_in o (now_of o (steps_by o before)) before (Hears step.Standby (Radio stamp bytes))) (max (known step.Standby before) stamp)
    (λ (mark : Mark). step.StandbyHears mark bytes) (λ mark. same (step.StandbyHears mark bytes) other)
other-same f o site before Begins other same = same step.Begins other
other-same f o site before (Starts number) other same = same (step.Starts number) other
other-same f o site before (Turns target) other same =
    where-same f (late_of o before) (made_in o (now_of o (steps_by o before)) before (Turns target)) (known step.Centre before) (λ (mark : Mark). step.Turns mark target)
    (λ mark. same (step.Turns mark target) other)
other-same f o site before Places other same =
    where-same f (late_of o before) (made_in o (now_of o (steps_by o before)) before Places) (known step.Centre before) (λ (mark : Mark). step.Places) (λ mark. same step.Places other)
other-same f o site before (Installs plan) other same = same (step.Installs plan) other
other-same f o site before (Restarts kept) other same = same (step.Restarts kept) other
other-same f o site before StandbyStarts other same = same step.StandbyStarts other
other-same f o site before Seconds other same =
    where-same f (late_of o before) (made_in o (now_of o (steps_by o before)) before Seconds) (known step.Standby before) (λ (mark : Mark). step.Seconds mark) (λ mark. same (step.Seconds mark) other)

pub known-other : (site : Site) (before : List Act) (act : Act) → is_same_site (actor_of act) site ≡ false → known site (act ∷ before) ≡ known site before
known-other site before act other = if-false (is_same_site (actor_of act) site) (known_by (known site before) act) (known site before) other

-- a step of another site is none of the satellite's, of a terminal's or of the standby's
other-satellite : (o : Opening) (steps : List Step) (one : Step) → is_same_site (site_of one) step.Satellite ≡ false → satellite_after o (one ∷ steps) ≡ satellite_after o steps
other-satellite o steps step.Begins other = absurd cc
other-satellite o steps (step.SatelliteHears bytes) other = absurd cc
other-satellite o steps _ other = refl

other-terminal : (number : TermNo) (steps : List Step) (one : Step) → is_same_site (site_of one) (step.Terminal number) ≡ false → terminal_after number (one ∷ steps) ≡ terminal_after number steps
other-terminal number steps (step.Starts to) other = if-false (to.0 == number.0) _ _ other
other-terminal number steps (step.TerminalHears to mark bytes) other = if-false (to.0 == number.0) _ _ other
other-terminal number steps _ other = refl

other-standby : (steps : List Step) (one : Step) → is_same_site (site_of one) step.Standby ≡ false → standby_after (one ∷ steps) ≡ standby_after steps
other-standby steps step.StandbyStarts other = absurd cc
other-standby steps (step.StandbyHears mark bytes) other = absurd cc
other-standby steps (step.Seconds mark) other = absurd cc
other-standby steps _ other = refl

-- nor of the centre's
other-plans : (o : Opening) (steps : List Step) (one : Step) → is_same_site (site_of one) step.Centre ≡ false → plans_after o (one ∷ steps) ≡ plans_after o steps
other-plans o steps (step.CentreHears mark bytes) other = absurd cc
other-plans o steps (step.Turns mark target) other = absurd cc
other-plans o steps step.Places other = absurd cc
other-plans o steps (step.Installs plan) other = absurd cc
other-plans o steps (step.Restarts kept) other = absurd cc
other-plans o steps _ other = refl

other-centre : (o : Opening) (steps : List Step) (one : Step) → is_same_site (site_of one) step.Centre ≡ false → centre_after o (one ∷ steps) ≡ centre_after o steps
other-centre o steps (step.CentreHears mark bytes) other = absurd cc
other-centre o steps (step.Turns mark target) other = absurd cc
other-centre o steps step.Places other = absurd cc
other-centre o steps (step.Installs plan) other = absurd cc
other-centre o steps (step.Restarts kept) other = absurd cc
other-centre o steps _ other = refl

other-count : (o : Opening) (steps : List Step) (one : Step) → is_same_site (site_of one) step.Centre ≡ false → order_count o (one ∷ steps) ≡ order_count o steps
other-count o steps (step.CentreHears mark bytes) other = absurd cc
other-count o steps (step.Turns mark target) other = absurd cc
other-count o steps step.Places other = absurd cc
other-count o steps (step.Installs plan) other = absurd cc
other-count o steps (step.Restarts kept) other = absurd cc
other-count o steps _ other = refl

pub plans-still : (o : Opening) (before : List Act) (act : Act) → is_same_site (actor_of act) step.Centre ≡ false → plans_after o (steps_by o (act ∷ before)) ≡ plans_after o (steps_by o before)
plans-still o before act other = other-same (λ (list : List Step). plans_after o list) o step.Centre before act other (λ one theirs. other-plans o (steps_by o before) one theirs)

pub centre-still : (o : Opening) (before : List Act) (act : Act) → is_same_site (actor_of act) step.Centre ≡ false → centre_after o (steps_by o (act ∷ before)) ≡ centre_after o (steps_by o before)
centre-still o before act other = other-same (λ (list : List Step). centre_after o list) o step.Centre before act other (λ one theirs. other-centre o (steps_by o before) one theirs)

pub count-still : (o : Opening) (before : List Act) (act : Act) → is_same_site (actor_of act) step.Centre ≡ false → order_count o (steps_by o (act ∷ before)) ≡ order_count o (steps_by o before)
count-still o before act other = other-same (λ (list : List Step). order_count o list) o step.Centre before act other (λ one theirs. other-count o (steps_by o before) one theirs)

-- so a station stays as it is
pub satellite-still : (o : Opening) (shown : ℕ) (before : List Act) (act : Act) → is_same_site (actor_of act) step.Satellite ≡ false → satellite_at o shown before ≡ satellite_at o shown (act ∷ before)
satellite-still o shown before act other =
    ap (λ (s : Satellite). station.Satellite (record { site = s; shown = shown }))
    (sym (other-same (λ (list : List Step). satellite_after o list) o step.Satellite before act other (λ one theirs. other-satellite o (steps_by o before) one theirs)))

pub terminal-still : (o : Opening) (number : TermNo) (before : List Act) (act : Act) → is_same_site (actor_of act) (step.Terminal number) ≡ false → terminal_at o number before ≡ terminal_at o number (act ∷ before)
terminal-still o number before act other =
    ap (λ (s : Terminal). station.Terminal (record { site = s; present = if_begun (known (step.Terminal number) before) }))
    (sym (other-same (λ (list : List Step). terminal_after number list) o (step.Terminal number) before act other (λ one theirs. other-terminal number (steps_by o before) one theirs)))
    ∙ ap (λ (k : ℕ). station.Terminal (record { site = terminal_after number (steps_by o (act ∷ before)); present = if_begun k })) (sym (known-other (step.Terminal number) before act other))

pub standby-still : (o : Opening) (before : List Act) (act : Act) → is_same_site (actor_of act) step.Standby ≡ false → standby_at o before ≡ standby_at o (act ∷ before)
standby-still o before act other =
    ap (λ (s : Option Status). station.Standby (record { kept = s; present = if_begun (known step.Standby before) }))
    (sym (other-same (λ (list : List Step). standby_after list) o step.Standby before act other (λ one theirs. other-standby (steps_by o before) one theirs)))
    ∙ ap (λ (k : ℕ). station.Standby (record { kept = standby_after (steps_by o (act ∷ before)); present = if_begun k })) (sym (known-other step.Standby before act other))

-- how far a site has come with an act more
pub reached-more : (o : Opening) (site : Site) (before : List Act) (act : Act) (reach k : ℕ) → reached o site before ≤ reach → known site (act ∷ before) ≡ k → reached o site (act ∷ before) ≤ max reach k
reached-more o site before act reach k most is = max-le (omega (arith, most, le-max_left reach k)) (omega (arith, is, le-max_right reach k))

pub reached-still : (n reach k : ℕ) → n ≤ reach → n ≤ max reach k
reached-still n reach k most = omega (arith, most, le-max_left reach k)
