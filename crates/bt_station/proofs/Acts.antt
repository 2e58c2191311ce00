-- What a station is and says with a line is what a site is and says with an act.
use Rattle.std.proofs.Common.{◌≡◌, ◌⊎◌, inl, inr, ℕ, zero, suc, ◌+◌, ◌<◌, ◌≤◌, ◌==◌, max, if◌then◌else◌, Bool, true, false, Result, Ok, Err, List, [], ◌∷◌, ◌++◌, map, Option, Some, None, refl, sym, ap, ◌∙◌, arith}
use Rattle.std.specs.Prelude.{nat_lt}
use Rattle.std.proofs.Math.Nat.{le-max_left, le-max_right, max-le}
use Rattle.std.proofs.lemmas.Bool.{eqb-true}
use Rattle.std.proofs.lemmas.Bool.Decides.{nat_tests}
use Rattle.std.proofs.lemmas.List.{append-nil}
use Rattle.bt_frame.specs.declared.limits.TheConstants.{LAST_MARK}
use Rattle.bt_frame.specs.declared.numbers.Mark.{Mark}
use Rattle.bt_frame.specs.declared.numbers.TermNo.{TermNo}
use Rattle.bt_net.specs.Network.{Net}
use Rattle.bt_air.specs.declared.fault.AirFault.{AirFault}
use Rattle.bt_air.specs.declared.message.Message.{Message}
use Rattle.bt_air.specs.declared.order.Status.{Status}
use Rattle.bt_air.specs.declared.sent.Aired.{Aired}
use Rattle.bt_air.specs.declared.sent.Aired.TheVariants as sends
use Rattle.bt_air.specs.MessageText.{message_of}
use Rattle.bt_timeline.specs.Air.{last_tick_line}
use Rattle.bt_machines.specs.Satellite.{State as Satellite, begun, changed, is_due, status_of, ticked}
use Rattle.bt_machines.specs.Terminal.{State as Terminal, new_of, transmitted}
use Rattle.bt_site.specs.Present.{present_with}
use Rattle.bt_site.specs.Sites.{satellite_says, satellite_with, standby_says, terminal_says, terminal_with}
use Rattle.bt_site.specs.Event.{Opening}
use Rattle.bt_sites.specs.Late.{Late, now_of, steps_of}
use Rattle.bt_sites.specs.OnAir.{SendsIn}
use Rattle.bt_sites.specs.Sites.{bytes_of, satellite_after, standby_after, terminal_after}
use Rattle.bt_sites.specs.Sites as sites
use Rattle.bt_sites.specs.Stamps.{Act, Begins, Begun, Hears, Line, Radio, Seconds, Starts, joined, known, late_of, lines_by, made_in, said_if, stamp_of, step_by, steps_by, where_known}
use Rattle.bt_sites.specs.Step.{Step}
use Rattle.bt_sites.specs.Step as step
use Rattle.bt_script.specs.Heard.{if_begun, if_read, read_of}
use Rattle.bt_station.specs.declared.asked.Asked.{Asked}
use Rattle.bt_station.specs.declared.asked.Asked.TheVariants as asked
use Rattle.bt_station.specs.declared.station.Station.{Station}
use Rattle.bt_station.specs.declared.station.Station.TheVariants as station
use Rattle.bt_station.specs.Acts.{IsAct, IsHeardAs, IsPassedOver, IsTakenUp, ShowsSent, asked_by_line, present_after, satellite_at, satellite_log, satellite_logs, second_logs, standby_at, standby_log, terminal_at, terminal_log, terminal_logs, text_of, texts_of}
use Rattle.bt_station.specs.Asked.{asked_of}
use Rattle.bt_station.specs.Lines.{burst_frame_lines, radio_line, radio_lines}
use Rattle.bt_station.specs.Satellite.{SatelliteAt, begun_lines, having_heard, heard_by_satellite}
use Rattle.bt_station.specs.Standby.{heard_by_standby, kept_by, second_lines}
use Rattle.bt_station.specs.Station.{after, after_asked, answer, answer_asked, asked_after, asked_answer}
use Rattle.bt_station.specs.Terminal.{heard_by_terminal, is_present, present_by, site_by, start_lines, terminal_of}
use Rattle.bt_station.proofs.Confirms.{number_kept}

-- the superframe of that number
abbrev pub mark_of : ℕ → Mark
mark_of number = record { 0 = number }

-- a test that holds, and one that does not
pub if-true : {X : Type 0} (test : Bool) (a b : X) → test ≡ true → (if test then a else b) ≡ a
if-true true a b is = refl
if-true false a b is = absurd cc

pub if-false : {X : Type 0} (test : Bool) (a b : X) → test ≡ false → (if test then a else b) ≡ b
if-false true a b is = absurd cc
if-false false a b is = refl

pub is-itself : (n : ℕ) → (n == n) ≡ true
is-itself n = grind (arith, nat_tests)

is-some : (n : ℕ) → 0 < n → (n == 0) ≡ false
is-some n some = grind (arith, nat_tests, some)

is-before : (a b : ℕ) → a < b → nat_lt a b ≡ true
is-before a b before = grind (arith, nat_tests, before)

-- a station reads bytes as a site does
same-read : (read : Result Message AirFault) → if_read read ≡ sites.if_read read
same-read (Ok message) = refl
same-read (Err fault) = refl

pub read-same : (bytes : List ℕ) → read_of bytes ≡ sites.read_of bytes
read-same bytes = same-read (message_of bytes)

-- a superframe from 1 on is one
pub begun-some : (n : ℕ) → 0 < n → if_begun n ≡ Some (mark_of n)
begun-some n some = if-false (n == 0) None (Some (mark_of n)) (is-some n some)

pub max-first : (a b : ℕ) → b ≤ a → max a b ≡ a
max-first a b le = let up : max a b ≤ a = max-le (omega arith) le in omega (arith, up, le-max_left a b)

pub max-last : (a b : ℕ) → a ≤ b → max a b ≡ b
max-last a b le = let up : max a b ≤ b = max-le le (omega arith) in omega (arith, up, le-max_right a b)

-- the later of two superframes
later-either : (k n : ℕ) (test : Bool) → nat_lt k n ≡ test → (if test then Some (mark_of n) else Some (mark_of k)) ≡ Some (mark_of (max k n))
later-either k n true is =
    let before : k < n = grind (arith, nat_tests, is) in
    ap (λ (m : ℕ). Some (mark_of m)) (sym (max-last k n (omega (arith, before))))
later-either k n false is =
    let behind : n ≤ k = grind (arith, nat_tests, is) in
    ap (λ (m : ℕ). Some (mark_of m)) (sym (max-first k n behind))

-- who knows a superframe goes on to a later one
goes-on : (k n : ℕ) → 0 < k → present_with (Some (mark_of k)) (mark_of n) ≡ if_begun (max k n)
goes-on k n some = later-either k n (nat_lt k n) refl ∙ sym (begun-some (max k n) (omega (arith, some, le-max_left k n)))

-- who hears a message in it, where it knows one
pub goes-on_by : (k n : ℕ) → 0 < k → present_by (if_begun k) (mark_of n) ≡ if_begun (max k n)
goes-on_by k n some = ap (λ (p : Option Mark). present_by p (mark_of n)) (begun-some k some) ∙ goes-on k n some

-- who hears that one begins
pub goes-on_with : (k n : ℕ) → 0 < n → present_with (if_begun k) (mark_of n) ≡ if_begun (max k n)
goes-on_with zero n some = sym (ap (λ (m : ℕ). if_begun m) (max-last 0 n (omega arith)) ∙ begun-some n some)
goes-on_with (suc k) n some = ap (λ (p : Option Mark). present_with p (mark_of n)) (begun-some (suc k) (omega arith)) ∙ goes-on (suc k) n (omega arith)

-- a text that asks this
by-asked : (net : Net) (at : ℕ) (s behind : Station) (text : List ℕ) (one : Asked) (logged : List ℕ) (said : List Line) → asked_of net text ≡ Some one
    → asked_after net s one ≡ behind → asked_answer net at s one ≡ logged ++ texts_of said → IsAct net at s text behind logged said
by-asked net at s behind text one logged said is state says = record {
  state = ap (λ (o : Option Asked). after_asked net s o) is ∙ state;
  says = ap (λ (o : Option Asked). answer_asked net at s o) is ∙ says;
}

-- the lines of messages that are said without plans
said-texts : (mark : Mark) (said : List Aired) → texts_of (map (λ (bytes : List ℕ). Radio mark.0 bytes) (map (λ (one : Aired). bytes_of [] one) said)) ≡ radio_lines mark said
said-texts mark [] = refl
said-texts mark (one ∷ said) = ap (λ (text : List ℕ). radio_line mark one ++ text) (said-texts mark said)

-- what is said in a superframe by a site that knows one
abbrev texts_in : ℕ → List (List ℕ) → List ℕ
texts_in stamp said = texts_of (map (λ (bytes : List ℕ). Radio stamp bytes) said)

-- a terminal keeps its number
number-either : (number : TermNo) (test : Bool) (x y : Terminal) → x.number ≡ number → y.number ≡ number → (if test then x else y).number ≡ number
number-either number true x y this other = this
number-either number false x y this other = other

number-with : (s : Terminal) (mark : Mark) (message : Option Message) → (terminal_with s mark message).number ≡ s.number
number-with s mark None = refl
number-with s mark (Some message) = number_kept s mark message

pub number-after : (number : TermNo) (steps : List Step) → (terminal_after number steps).number ≡ number
number-after number [] = refl
number-after number (step.Starts other ∷ before) = number-either number (other.0 == number.0) _ _ refl (number-after number before)
number-after number (step.TerminalHears to mark bytes ∷ before) =
    number-either number (to.0 == number.0) _ _ (number-with (terminal_after number before) mark (sites.read_of bytes) ∙ number-after number before) (number-after number before)
number-after number (step.Begins ∷ before) = number-after number before
number-after number (step.SatelliteHears bytes ∷ before) = number-after number before
number-after number (step.CentreHears mark bytes ∷ before) = number-after number before
number-after number (step.Turns mark target ∷ before) = number-after number before
number-after number (step.Places ∷ before) = number-after number before
number-after number (step.Installs plan ∷ before) = number-after number before
number-after number (step.Restarts kept ∷ before) = number-after number before
number-after number (step.StandbyStarts ∷ before) = number-after number before
number-after number (step.StandbyHears mark bytes ∷ before) = number-after number before
number-after number (step.Seconds mark ∷ before) = number-after number before

-- a terminal at work
abbrev terminal_with_present : Terminal → Option Mark → Station
terminal_with_present s present = station.Terminal (record { site = s; present = present })

-- its step in a superframe, where it knows one
abbrev pub terminal_hears : TermNo → List ℕ → Mark → Step
terminal_hears number bytes mark = step.TerminalHears number mark bytes

terminal-step : (number : TermNo) (late : List Late) (made k : ℕ) (bytes : List ℕ)
    → site_by (terminal_after number (steps_of late)) (if_begun k) (read_of bytes) ≡ terminal_after number (steps_of (joined made (where_known k (terminal_hears number bytes)) late))
terminal-step number late made zero bytes = refl
terminal-step number late made (suc k) bytes =
    let was = terminal_after number (steps_of late) in
    ap (λ (p : Option Mark). site_by was p (read_of bytes)) (begun-some (suc k) (omega arith))
    ∙ ap (λ (m : Option Message). terminal_with was (mark_of (suc k)) m) (read-same bytes)
    ∙ sym (if-true (number.0 == number.0) (terminal_with was (mark_of (suc k)) (sites.read_of bytes)) was (is-itself number.0))

-- what it says, without what it logs
abbrev terminal_texts : Terminal → Option Mark → Option Message → List ℕ
terminal_texts s None message = []
terminal_texts s (Some mark) message = radio_lines mark (terminal_says s.number s mark message)

terminal-split : (net : Net) (at : ℕ) (s : Terminal) (present : Option Mark) (message : Option Message)
    → heard_by_terminal net at s present message ≡ terminal_logs net at s present message ++ terminal_texts s present message
terminal-split net at s None message = refl
terminal-split net at s (Some mark) None = refl
terminal-split net at s (Some mark) (Some message) = refl

terminal-said : (o : Opening) (number : TermNo) (steps : List Step) (k : ℕ) (bytes : List ℕ)
    → terminal_texts (terminal_after number steps) (if_begun k) (read_of bytes) ≡ texts_in k (said_if o steps (where_known k (terminal_hears number bytes)))
terminal-said o number steps zero bytes = refl
terminal-said o number steps (suc k) bytes =
    let was = terminal_after number steps in
    let mark = mark_of (suc k) in
    ap (λ (p : Option Mark). terminal_texts was p (read_of bytes)) (begun-some (suc k) (omega arith))
    ∙ ap (λ (m : Option Message). terminal_texts was (Some mark) m) (read-same bytes)
    ∙ ap (λ (n : TermNo). radio_lines mark (terminal_says n was mark (sites.read_of bytes))) (number-after number steps)
    ∙ sym (said-texts mark (terminal_says number was mark (sites.read_of bytes)))

-- what it knows once it has heard a line
terminal-knows : (number : TermNo) (before : List Act) (line : Line) → known (step.Terminal number) (Hears (step.Terminal number) line ∷ before) ≡ max (known (step.Terminal number) before) (stamp_of line)
terminal-knows number before line = if-true (number.0 == number.0) (max (known (step.Terminal number) before) (stamp_of line)) (known (step.Terminal number) before) (is-itself number.0)

terminal-begun : (o : Opening) (number : TermNo) (before : List Act) (stamp : ℕ) → 0 < stamp
    → terminal_with_present (terminal_after number (steps_by o before)) (present_with (present_after (step.Terminal number) before) (mark_of stamp))
    ≡ terminal_at o number (Hears (step.Terminal number) (Begun stamp) ∷ before)
terminal-begun o number before stamp some =
    ap (λ (p : Option Mark). terminal_with_present (terminal_after number (steps_by o before)) p)
    (goes-on_with (known (step.Terminal number) before) stamp some ∙ ap (λ (k : ℕ). if_begun k) (sym (terminal-knows number before (Begun stamp))))

-- a terminal hears a line
pub terminal-heard : (net : Net) (at : ℕ) (o : Opening) (number : TermNo) (before : List Act) (line : Line) (text : List ℕ) → IsHeardAs net text line
    → IsTakenUp (known (step.Terminal number) before) line
    → IsAct net at (terminal_at o number before) text (terminal_at o number (Hears (step.Terminal number) line ∷ before)) (terminal_log net at number o before line) (lines_by o before (Hears (step.Terminal number) line))
terminal-heard net at o number before (Begun stamp) text is some =
    by-asked net at (terminal_at o number before) _ text (asked_by_line (Begun stamp)) [] (lines_by o before (Hears (step.Terminal number) (Begun stamp))) is
    (terminal-begun o number before stamp some) refl
terminal-heard net at o number before (Radio stamp bytes) text is some =
    let who = step.Terminal number in
    let act = Hears who (Radio stamp bytes) in
    let was = terminal_after number (steps_by o before) in
    let k = known who before in
    let on = goes-on_by k stamp some in
    let knows = terminal-knows number before (Radio stamp bytes) in
    let made = made_in o (now_of o (steps_by o before)) before act in
    by-asked net at (terminal_at o number before) (terminal_at o number (act ∷ before)) text (asked_by_line (Radio stamp bytes)) (terminal_log net at number o before (Radio stamp bytes)) (lines_by o before act) is
    (ap (λ (p : Option Mark). terminal_with_present (site_by was p (read_of bytes)) p) on
    ∙ ap (λ (s : Terminal). terminal_with_present s (if_begun (max k stamp))) (terminal-step number (late_of o before) made (max k stamp) bytes)
    ∙ ap (λ (n : ℕ). terminal_with_present (terminal_after number (steps_by o (act ∷ before))) (if_begun n)) (sym knows))
    (ap (λ (p : Option Mark). heard_by_terminal net at was p (read_of bytes)) on
    ∙ terminal-split net at was (if_begun (max k stamp)) (read_of bytes)
    ∙ ap (λ (t : List ℕ). terminal_log net at number o before (Radio stamp bytes) ++ t)
    (terminal-said o number (steps_by o before) (max k stamp) bytes
    ∙ ap (λ (n : ℕ). texts_in n (said_if o (steps_by o before) (step_by before act))) (sym knows)))

-- one that knows no superframe passes a message over
terminal-unknown : (net : Net) (at : ℕ) (s : Terminal) (k stamp : ℕ) (bytes : List ℕ) → k ≡ 0
    → terminal_with_present (site_by s (present_by (if_begun k) (mark_of stamp)) (read_of bytes)) (present_by (if_begun k) (mark_of stamp)) ≡ terminal_with_present s (if_begun k)
terminal-unknown net at s zero stamp bytes none = refl
terminal-unknown net at s (suc k) stamp bytes none = absurd (omega (arith, none))

terminal-silent : (net : Net) (at : ℕ) (s : Terminal) (k stamp : ℕ) (bytes : List ℕ) → k ≡ 0 → heard_by_terminal net at s (present_by (if_begun k) (mark_of stamp)) (read_of bytes) ≡ []
terminal-silent net at s zero stamp bytes none = refl
terminal-silent net at s (suc k) stamp bytes none = absurd (omega (arith, none))

pub terminal-passed_over : (net : Net) (at : ℕ) (o : Opening) (number : TermNo) (before : List Act) (stamp : ℕ) (bytes text : List ℕ) → IsHeardAs net text (Radio stamp bytes)
    → known (step.Terminal number) before ≡ 0 → IsPassedOver net at (terminal_at o number before) text
terminal-passed_over net at o number before stamp bytes text is none =
    let was = terminal_after number (steps_by o before) in
    by-asked net at (terminal_at o number before) (terminal_at o number before) text (asked_by_line (Radio stamp bytes)) [] [] is
    (terminal-unknown net at was (known (step.Terminal number) before) stamp bytes none)
    (terminal-silent net at was (known (step.Terminal number) before) stamp bytes none)

-- its modem takes it on
pub terminal-modem : (net : Net) (o : Opening) (number : TermNo) (before : List Act) (mark frame : ℕ) (text : List ℕ) → asked_of net text ≡ Some (asked.FrameOf (mark_of mark) frame) → 0 < mark
    → after net (terminal_at o number before) (Some text) ≡ terminal_at o number (Hears (step.Terminal number) (Begun mark) ∷ before)
terminal-modem net o number before mark frame text is some =
    ap (λ (a : Option Asked). after_asked net (terminal_at o number before) a) is ∙ terminal-begun o number before mark some

-- and what it is to transmit
pub terminal-sends : (o : Opening) (number : TermNo) (before : List Act) (mark : ℕ) (test : Bool) → 0 < mark → (max (known (step.Terminal number) before) mark == mark) ≡ test
    → ((if test then transmitted (terminal_after number (steps_by o before)) (mark_of mark) else []) ≡ [])
    ⊎ SendsIn o (Hears (step.Terminal number) (Begun mark) ∷ before) mark number (if test then transmitted (terminal_after number (steps_by o before)) (mark_of mark) else [])
terminal-sends o number before mark true some is = inr (record {
  done = Hears (step.Terminal number) (Begun mark) ∷ before;
  later = [];
  is = refl;
  knows = terminal-knows number before (Begun mark) ∙ eqb-true _ _ is;
  some = some;
  sends = refl;
})
terminal-sends o number before mark false some is = inl refl

pub terminal-sent : (net : Net) (at : ℕ) (o : Opening) (number : TermNo) (before : List Act) (mark frame : ℕ) (text : List ℕ) → asked_of net text ≡ Some (asked.FrameOf (mark_of mark) frame) → 0 < mark
    → ShowsSent net o (Hears (step.Terminal number) (Begun mark) ∷ before) number mark frame (answer net at (terminal_at o number before) (Some text))
terminal-sent net at o number before mark frame text is some =
    let was = terminal_after number (steps_by o before) in
    let k = known (step.Terminal number) before in
    let knows = goes-on_with k mark some ∙ begun-some (max k mark) (omega (arith, some, le-max_right k mark)) in
    record {
      bursts = if max k mark == mark then transmitted was (mark_of mark) else [];
      lines = ap (λ (a : Option Asked). answer_asked net at (terminal_at o number before) a) is
          ∙ ap (λ (p : Option Mark). burst_frame_lines net (mark_of mark) frame (if is_present p (mark_of mark) then transmitted was (mark_of mark) else [])) knows;
      sent = terminal-sends o number before mark (max k mark == mark) some refl;
    }

-- a terminal that starts
pub terminal-starts : (o : Opening) (number : TermNo) (before : List Act) → station.Terminal (terminal_of number) ≡ terminal_at o number (Starts number ∷ before)
terminal-starts o number before =
    ap (λ (s : Terminal). terminal_with_present s None) (sym (if-true (number.0 == number.0) (new_of number) (terminal_after number (steps_by o before)) (is-itself number.0)))
    ∙ ap (λ (n : ℕ). terminal_with_present (terminal_after number (steps_by o (Starts number ∷ before))) (if_begun n))
    (sym (if-true (number.0 == number.0) 0 (known (step.Terminal number) before) (is-itself number.0)))

pub terminal-start_said : (o : Opening) (number : TermNo) (before : List Act) → start_lines number ≡ texts_of (lines_by o before (Starts number))
terminal-start_said o number before = sym (append-nil (start_lines number))

-- the standby
abbrev standby_with_present : Option Status → Option Mark → Station
standby_with_present kept present = station.Standby (record { kept = kept; present = present })

abbrev standby_hears : List ℕ → Mark → Step
standby_hears bytes mark = step.StandbyHears mark bytes

standby-step : (late : List Late) (made k : ℕ) (bytes : List ℕ)
    → kept_by (standby_after (steps_of late)) (if_begun k) (read_of bytes) ≡ standby_after (steps_of (joined made (where_known k (standby_hears bytes)) late))
standby-step late made zero bytes = refl
standby-step late made (suc k) bytes =
    let was = standby_after (steps_of late) in
    ap (λ (p : Option Mark). kept_by was p (read_of bytes)) (begun-some (suc k) (omega arith))
    ∙ ap (λ (m : Option Message). kept_by was (Some (mark_of (suc k))) m) (read-same bytes)

-- it says nothing to a message
standby-silent : (o : Opening) (steps : List Step) (k : ℕ) (bytes : List ℕ) → texts_in k (said_if o steps (where_known k (standby_hears bytes))) ≡ []
standby-silent o steps zero bytes = refl
standby-silent o steps (suc k) bytes = refl

standby-begun : (o : Opening) (before : List Act) (stamp : ℕ) → 0 < stamp
    → standby_with_present (standby_after (steps_by o before)) (present_with (present_after step.Standby before) (mark_of stamp)) ≡ standby_at o (Hears step.Standby (Begun stamp) ∷ before)
standby-begun o before stamp some = ap (λ (p : Option Mark). standby_with_present (standby_after (steps_by o before)) p) (goes-on_with (known step.Standby before) stamp some)

-- the standby hears a line
pub standby-heard : (net : Net) (at : ℕ) (o : Opening) (before : List Act) (line : Line) (text : List ℕ) → IsHeardAs net text line → IsTakenUp (known step.Standby before) line
    → IsAct net at (standby_at o before) text (standby_at o (Hears step.Standby line ∷ before)) (standby_log at o before line) (lines_by o before (Hears step.Standby line))
standby-heard net at o before (Begun stamp) text is some =
    by-asked net at (standby_at o before) _ text (asked_by_line (Begun stamp)) [] (lines_by o before (Hears step.Standby (Begun stamp))) is (standby-begun o before stamp some) refl
standby-heard net at o before (Radio stamp bytes) text is some =
    let act = Hears step.Standby (Radio stamp bytes) in
    let was = standby_after (steps_by o before) in
    let k = known step.Standby before in
    let on = goes-on_by k stamp some in
    let made = made_in o (now_of o (steps_by o before)) before act in
    let logged = standby_log at o before (Radio stamp bytes) in
    by-asked net at (standby_at o before) (standby_at o (act ∷ before)) text (asked_by_line (Radio stamp bytes)) logged (lines_by o before act) is
    (ap (λ (p : Option Mark). standby_with_present (kept_by was p (read_of bytes)) p) on
    ∙ ap (λ (s : Option Status). standby_with_present s (if_begun (max k stamp))) (standby-step (late_of o before) made (max k stamp) bytes))
    (ap (λ (p : Option Mark). heard_by_standby at was p (read_of bytes)) on
    ∙ sym (append-nil logged)
    ∙ ap (λ (t : List ℕ). logged ++ t) (sym (standby-silent o (steps_by o before) (max k stamp) bytes)))

standby-unknown : (s : Option Status) (k stamp : ℕ) (bytes : List ℕ) → k ≡ 0
    → standby_with_present (kept_by s (present_by (if_begun k) (mark_of stamp)) (read_of bytes)) (present_by (if_begun k) (mark_of stamp)) ≡ standby_with_present s (if_begun k)
standby-unknown s zero stamp bytes none = refl
standby-unknown s (suc k) stamp bytes none = absurd (omega (arith, none))

standby-deaf : (at : ℕ) (s : Option Status) (k stamp : ℕ) (bytes : List ℕ) → k ≡ 0 → heard_by_standby at s (present_by (if_begun k) (mark_of stamp)) (read_of bytes) ≡ []
standby-deaf at s zero stamp bytes none = refl
standby-deaf at s (suc k) stamp bytes none = absurd (omega (arith, none))

pub standby-passed_over : (net : Net) (at : ℕ) (o : Opening) (before : List Act) (stamp : ℕ) (bytes text : List ℕ) → IsHeardAs net text (Radio stamp bytes)
    → known step.Standby before ≡ 0 → IsPassedOver net at (standby_at o before) text
standby-passed_over net at o before stamp bytes text is none =
    let was = standby_after (steps_by o before) in
    by-asked net at (standby_at o before) (standby_at o before) text (asked_by_line (Radio stamp bytes)) [] [] is
    (standby-unknown was (known step.Standby before) stamp bytes none)
    (standby-deaf at was (known step.Standby before) stamp bytes none)

-- the second reference burst
abbrev seconds : Mark → Step
seconds mark = step.Seconds mark

second-step : (late : List Late) (made k : ℕ) → standby_after (steps_of late) ≡ standby_after (steps_of (joined made (where_known k seconds) late))
second-step late made zero = refl
second-step late made (suc k) = refl

second-said : (o : Opening) (steps : List Step) (k : ℕ)
    → second_lines (standby_after steps) (if_begun k) ≡ second_logs (if_begun k) ++ texts_in k (said_if o steps (where_known k seconds))
second-said o steps zero = refl
second-said o steps (suc k) =
    let mark = mark_of (suc k) in
    let some = begun-some (suc k) (omega arith) in
    let text = radio_line mark (standby_says (standby_after steps) mark) in
    ap (λ (p : Option Mark). second_lines (standby_after steps) p) some
    ∙ ap (λ (t : List ℕ). second_logs (Some mark) ++ t) (sym (append-nil text))
    ∙ ap (λ (p : Option Mark). second_logs p ++ (text ++ [])) (sym some)

pub standby-seconds : (net : Net) (at : ℕ) (o : Opening) (before : List Act) (text : List ℕ) → asked_of net text ≡ Some asked.Second
    → IsAct net at (standby_at o before) text (standby_at o (Seconds ∷ before)) (second_logs (present_after step.Standby before)) (lines_by o before Seconds)
standby-seconds net at o before text is =
    let k = known step.Standby before in
    by-asked net at (standby_at o before) (standby_at o (Seconds ∷ before)) text asked.Second (second_logs (present_after step.Standby before)) (lines_by o before Seconds) is
    (ap (λ (s : Option Status). standby_with_present s (if_begun k)) (second-step (late_of o before) (made_in o (now_of o (steps_by o before)) before Seconds) k))
    (second-said o (steps_by o before) k)

-- the satellite
abbrev satellite_showing : ℕ → Satellite → Station
satellite_showing shown s = station.Satellite (record { site = s; shown = shown })

satellite-step : (s : Satellite) (shown : ℕ) (message : Option Message) → station.Satellite (having_heard (record { site = s; shown = shown }) message) ≡ satellite_showing shown (satellite_with s message)
satellite-step s shown None = refl
satellite-step s shown (Some message) = refl

satellite-split : (net : Net) (at : ℕ) (s : Satellite) (message : Option Message)
    → heard_by_satellite net at s message ≡ satellite_logs net at s message ++ radio_lines s.mark (satellite_says s message)
satellite-split net at s None = refl
satellite-split net at s (Some message) = refl

-- the satellite hears a line
pub satellite-heard : (net : Net) (at : ℕ) (o : Opening) (shown : ℕ) (before : List Act) (line : Line) (text : List ℕ) → IsHeardAs net text line
    → IsAct net at (satellite_at o shown before) text (satellite_at o shown (Hears step.Satellite line ∷ before)) (satellite_log net at o before line) (lines_by o before (Hears step.Satellite line))
satellite-heard net at o shown before (Begun stamp) text is =
    by-asked net at (satellite_at o shown before) (satellite_at o shown (Hears step.Satellite (Begun stamp) ∷ before)) text (asked_by_line (Begun stamp)) [] (lines_by o before (Hears step.Satellite (Begun stamp))) is refl refl
satellite-heard net at o shown before (Radio stamp bytes) text is =
    let act = Hears step.Satellite (Radio stamp bytes) in
    let was = satellite_after o (steps_by o before) in
    let logged = satellite_log net at o before (Radio stamp bytes) in
    by-asked net at (satellite_at o shown before) (satellite_at o shown (act ∷ before)) text (asked_by_line (Radio stamp bytes)) logged (lines_by o before act) is
    (satellite-step was shown (read_of bytes) ∙ ap (λ (m : Option Message). satellite_showing shown (satellite_with was m)) (read-same bytes))
    (satellite-split net at was (read_of bytes)
    ∙ ap (λ (m : Option Message). logged ++ radio_lines was.mark (satellite_says was m)) (read-same bytes)
    ∙ ap (λ (t : List ℕ). logged ++ t) (sym (said-texts was.mark (satellite_says was (sites.read_of bytes)))))

-- its next superframe
mark-either : (s : Satellite) (due : Bool) → (if due then changed (begun s) else begun s).mark.0 ≡ s.mark.0 + 1
mark-either s true = refl
mark-either s false = refl

pub mark-ticked : (s : Satellite) → (ticked s).mark.0 ≡ s.mark.0 + 1
mark-ticked s = mark-either s (is_due s.armed (s.mark.0 + 1))

pub satellite-ticks : (net : Net) (at : ℕ) (o : Opening) (shown : ℕ) (before : List Act) (text : List ℕ) → asked_of net text ≡ Some asked.Tick
    → now_of o (steps_by o before) < LAST_MARK → IsAct net at (satellite_at o shown before) text (satellite_at o 0 (Begins ∷ before)) [] (lines_by o before Begins)
satellite-ticks net at o shown before text is below =
    let was = satellite_after o (steps_by o before) in
    let told = sends.Status (status_of (ticked was)) in
    let test = is-before was.mark.0 LAST_MARK below in
    by-asked net at (satellite_at o shown before) (satellite_at o 0 (Begins ∷ before)) text asked.Tick [] (lines_by o before Begins) is
    (ap (λ (s : SatelliteAt). station.Satellite s) (if-true (nat_lt was.mark.0 LAST_MARK) (record { site = ticked was; shown = 0 }) (record { site = was; shown = shown }) test))
    (if-true (nat_lt was.mark.0 LAST_MARK) (begun_lines (status_of (ticked was))) last_tick_line test
    ∙ ap (λ (n : ℕ). text_of (Begun n) ++ text_of (Radio n (bytes_of [] told))) (mark-ticked was)
    ∙ ap (λ (t : List ℕ). text_of (Begun (was.mark.0 + 1)) ++ t) (sym (append-nil (text_of (Radio (was.mark.0 + 1) (bytes_of [] told))))))
