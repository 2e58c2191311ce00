-- What processes transmit is safe, through the modes of a plan that is good for its edition.
use Rattle.std.proofs.Common.{◌≡◌, ◌⊎◌, inl, inr, ℕ, ◌<◌, ◌==◌, max, if◌then◌else◌, Bool, true, false, List, [], ◌∷◌, ◌++◌, All, Option, Some, None, IfSome, refl, sym, ap, ◌∙◌, subst, append_assoc, arith}
use Rattle.std.specs.List.{flat_map}
use Rattle.std.specs.List.Sorted.{IsPermutation}
use Rattle.std.proofs.Math.Nat.{le-max_right}
use Rattle.std.proofs.lemmas.Bool.{eqb-true}
use Rattle.std.proofs.lemmas.List.{length-reverse}
use Rattle.std.proofs.lemmas.List.Elements.{All-cons, All-weaker}
use Rattle.bt_frame.specs.declared.mode.Mode.{Mode}
use Rattle.bt_frame.specs.declared.numbers.EditionNo.{EditionNo}
use Rattle.bt_frame.specs.declared.numbers.Mark.{Mark}
use Rattle.bt_frame.specs.declared.numbers.TermNo.{TermNo}
use Rattle.bt_net.specs.Network.{IsSound, Net}
use Rattle.bt_demand.specs.declared.burst.Burst.{Burst}
use Rattle.bt_demand.specs.declared.plan.Plan.{Plan}
use Rattle.bt_demand.specs.Plan.{empty_plan}
use Rattle.bt_air.specs.Range.{IsWord}
use Rattle.bt_machines.specs.Plans.{IsStored, first_or, plan_of}
use Rattle.bt_machines.specs.Satellite.{State as Satellite, new_at}
use Rattle.bt_machines.specs.Terminal.{transmitted}
use Rattle.bt_journal.specs.declared.call.Change.{Change}
use Rattle.bt_history.specs.Causes.{Follows, IsGoodForItsEdition}
use Rattle.bt_history.specs.Changes.{installs, orders, plans}
use Rattle.bt_site.specs.Air.{IsSafe}
use Rattle.bt_site.specs.Event.{Opening}
use Rattle.bt_site.specs.World.{terminals}
use Rattle.bt_site.proofs.WorldPlans.{plan-holds}
use Rattle.bt_sites.specs.Fits.{AreSmall}
use Rattle.bt_sites.specs.OnAir.{AreSentIn, IsOnBoard as IsOnBoardBy, SendsIn}
use Rattle.bt_sites.specs.Sites.{satellite_after, terminal_after}
use Rattle.bt_sites.specs.Stamps.{Act, AreStamped, Begun, Hears as Acts, known, steps_by}
use Rattle.bt_sites.specs.Step as site
use Rattle.bt_apart.specs.Apart.{ApartAir}
use Rattle.bt_station.specs.declared.asked.Asked.{Asked}
use Rattle.bt_station.specs.declared.asked.Asked.TheVariants as asked
use Rattle.bt_station.specs.declared.station.Station.{Station}
use Rattle.bt_station.specs.declared.station.Station.TheVariants as station
use Rattle.bt_station.specs.Acts.{terminal_at}
use Rattle.bt_station.specs.Satellite.{SatelliteAt}
use Rattle.bt_station.specs.Terminal.{TerminalAt, is_present, sent_in, terminal_of}
use Rattle.bt_station.proofs.Acts.{begun-some, goes-on_with, terminal-sends}
use Rattle.bt_apart_laws.specs.Acts.{IsCentreAt, IsPlanInFront}
use Rattle.bt_apart_laws.specs.Premises.{ActAsSites, AreProcesses, AreTransmitted, IsGoodInFront, IsMoment, IsOnBoard, IsSafeInGood, IsSmall, MayAsk, TransmitsIn}
use Rattle.bt_apart_laws.specs.Processes.{Asks, Deed, Start, centre_by, journal_by, satellite_by}
use Rattle.bt_apart_laws.proofs.Front.{small-moment}
use Rattle.bt_apart_laws.proofs.Journals.{all-over, plans_over}
use Rattle.bt_apart_laws.proofs.Near.{with_plans}
use Rattle.bt_apart_laws.proofs.Processes.{Stands, acts_of, acts_with, if_framed, over}
use Rattle.bt_apart_laws.proofs.Running.{stands}
use Rattle.bt_apart_laws.proofs.Within.{begun-past}

-- the satellite of a station, and its terminal
abbrev site_in : Station → Satellite
site_in (station.Satellite x) = x.site
site_in _ = new_at (record { 0 = 0 })

abbrev terminal_in : Station → TerminalAt
terminal_in (station.Terminal x) = x
terminal_in _ = terminal_of (record { 0 = 0 })

-- the acts up to a moment are the first
record ActsAt (s : Start) (deeds done : List Deed) : Type 0 where
  more : List Act
  is : more ++ acts_of s done ≡ acts_of s deeds

acts-behind : (s : Start) (later done : List Deed) → ActsAt s (later ++ done) done
acts-behind s [] done = record { more = []; is = refl }
acts-behind s (deed ∷ later) done =
    let there = acts-behind s later done in
    let first = acts_with s (later ++ done) deed in
    record { more = first ++ there.more; is = append_assoc first there.more (acts_of s done) ∙ ap (λ (list : List Act). first ++ list) there.is }

acts-at : (s : Start) (deeds done : List Deed) → IsMoment deeds done → ActsAt s deeds done
acts-at s deeds done moment = subst (λ (list : List Deed). ActsAt s list done) moment.is (acts-behind s moment.later done)

are-behind : (s : Start) (later done : List Deed) → AreProcesses s (later ++ done) → AreProcesses s done
are-behind s [] done are = are
are-behind s (deed ∷ later) done are = are-behind s later done are.1

are-at : (s : Start) (deeds done : List Deed) → IsMoment deeds done → AreProcesses s deeds → AreProcesses s done
are-at s deeds done moment are = are-behind s moment.later done (subst (λ (list : List Deed). AreProcesses s list) (sym moment.is) are)

-- so they do what sites do
pub acts-as : (s : Start) (deeds : List Deed) → IsSound s.net → AreProcesses s deeds → ActAsSites s deeds
acts-as s deeds sound are =
    let st = stands s sound deeds are in
    record {
      acts = acts_of s deeds;
      stamped = st.stamped;
      shown = st.satellite.shown;
      satellite = st.satellite.is;
      terminals = λ number. (st.terminals number).is;
      standby = st.standby.is;
      said = st.said;
    }

-- no number of the journal is too great for the sites
small-of : (s : Start) (deeds : List Deed) (acts : List Act) → Stands s deeds acts → IsSmall (journal_by s deeds) → AreSmall (over s) (steps_by (over s) acts)
small-of s deeds acts st small =
    let journal = journal_by s deeds in
    record {
      plans = subst (λ (all : List Plan). All IsStored all) st.centre.at.plans (all-over IsStored (plans journal) small.plans);
      orders = subst IsWord (sym (st.centre.count ∙ length-reverse (orders journal))) small.orders;
    }

small-at : (s : Start) (deeds done : List Deed) → IsSound s.net → AreProcesses s deeds → IsSmall (journal_by s deeds) → IsMoment deeds done → AreSmall (over s) (steps_by (over s) (acts_of s done))
small-at s deeds done sound are small moment =
    let o = over s in
    let a = acts-at s deeds done moment in
    small-moment o a.more (acts_of s done) (subst (λ (list : List Act). AreSmall o (steps_by o list)) (sym a.is) (small-of s deeds (acts_of s deeds) (stands s sound deeds are) small))

-- the plan of an edition is of it
first-edition : (found : Option Plan) (edition : EditionNo) (plan : Plan) (test : Bool) → (plan.edition.0 == edition.0) ≡ test → IfSome found (λ one. one.edition.0 ≡ edition.0)
    → IfSome (first_or found edition plan) (λ one. one.edition.0 ≡ edition.0)
first-edition (Some own) edition plan test is found = found
first-edition None edition plan true is found = rw is (eqb-true _ _ is)
first-edition None edition plan false is found = rw is tt

edition-of : (all : List Plan) (edition : EditionNo) → IfSome (plan_of all edition) (λ one. one.edition.0 ≡ edition.0)
edition-of [] edition = tt
edition-of (plan ∷ earlier) edition = first-edition (plan_of earlier edition) edition plan (plan.edition.0 == edition.0) refl (edition-of earlier edition)

-- each plan of a journal is good for its edition, but for the empty one
abbrev IsGoodOrEmpty : Net → List Change → Plan → Type 0
IsGoodOrEmpty net journal plan = (plan ≡ empty_plan) ⊎ IsGoodForItsEdition net journal plan

all-good : (net : Net) (journal : List Change) → All (IsGoodForItsEdition net journal) (installs journal) → All (IsGoodOrEmpty net journal) (plans_over journal)
all-good net journal good =
    all-over (IsGoodOrEmpty net journal) (plans journal)
    (All-cons (IsGoodOrEmpty net journal) empty_plan (installs journal) (inl refl) (All-weaker (IsGoodForItsEdition net journal) (IsGoodOrEmpty net journal) (λ (plan : Plan) is. inr is) (installs journal) good))

good-front : (net : Net) (journal : List Change) (air : ApartAir) (x : Satellite) → All (IsGoodForItsEdition net journal) (installs journal) → IsPlanInFront (with_plans air (plans_over journal)) x
    → IsGoodInFront net journal x
good-front net journal air x good front =
    let all = plans_over journal in
    record {
      plan = front.plan;
      installed = front.installed;
      edition = subst (λ (p : Option Plan). IfSome p (λ one. one.edition.0 ≡ x.fore.edition.0)) front.installed (edition-of all x.fore.edition);
      modes = front.modes;
      good = subst (λ (p : Option Plan). IfSome p (IsGoodOrEmpty net journal)) front.installed (plan-holds (IsGoodOrEmpty net journal) all x.fore.edition (all-good net journal good));
    }

-- the satellite's process is the site
onboard-is : (s : Start) (done : List Deed) (onboard : SatelliteAt) → satellite_by s done ≡ station.Satellite onboard → Stands s done (acts_of s done)
    → onboard.site ≡ satellite_after (over s) (steps_by (over s) (acts_of s done))
onboard-is s done onboard is st = ap site_in (sym is ∙ st.satellite.is)

-- by what is said of the plan in front, and of the plans of a journal
pub front-at :
    (fronts : (o : Opening) (acts : List Act) (air : ApartAir) → IsSound o.net → AreStamped o acts → AreSmall o (steps_by o acts) → IsCentreAt o acts air
    → IsPlanInFront air (satellite_after o (steps_by o acts)))
    → (goods : (net : Net) (changes : List Change) → Follows net changes → All (IsGoodForItsEdition net changes) (installs changes))
    → (s : Start) (deeds board : List Deed) (onboard : SatelliteAt) → IsSound s.net → AreProcesses s deeds → IsSmall (journal_by s deeds) → IsOnBoard s deeds board onboard
    → IsGoodInFront s.net (journal_by s board) onboard.site
front-at fronts goods s deeds board onboard sound are small on =
    let o = over s in
    let acts = acts_of s board in
    let st = stands s sound board (are-at s deeds board on.moment are) in
    let journal = journal_by s board in
    let air = with_plans (centre_by s board) (plans_over journal) in
    subst (λ (x : Satellite). IsGoodInFront s.net journal x) (sym (onboard-is s board onboard on.is st))
    (good-front s.net journal (centre_by s board) (satellite_after o (steps_by o acts)) (goods s.net journal st.follows)
    (fronts o acts air sound st.stamped (small-at s deeds board sound are small on.moment) st.centre.at))

-- what a terminal transmits when its modem asks
abbrev SendsOr : Opening → List Act → ℕ → TermNo → List Burst → Type 0
SendsOr o acts mark number bursts = (bursts ≡ []) ⊎ SendsIn o acts mark number bursts

sends-by : (o : Opening) (number : TermNo) (acts : List Act) (mark : ℕ) → 0 < mark
    → SendsOr o (Acts (site.Terminal number) (Begun mark) ∷ acts) mark number (sent_in (terminal_in (terminal_at o number acts)) (record { 0 = mark }))
sends-by o number acts mark some =
    let k = known (site.Terminal number) acts in
    let was = terminal_after number (steps_by o acts) in
    let here : Mark = record { 0 = mark } in
    let knows = goes-on_with k mark some ∙ begun-some (max k mark) (omega (arith, some, le-max_right k mark)) in
    subst (λ (list : List Burst). SendsOr o (Acts (site.Terminal number) (Begun mark) ∷ acts) mark number list)
    (sym (ap (λ (p : Option Mark). if is_present p here then transmitted was here else []) knows)) (terminal-sends o number acts mark (max k mark == mark) some refl)

sends-later : (o : Opening) (acts small more : List Act) (mark : ℕ) (number : TermNo) (bursts : List Burst) → more ++ small ≡ acts → SendsOr o small mark number bursts → SendsOr o acts mark number bursts
sends-later o acts small more mark number bursts is (inl none) = inl none
sends-later o acts small more mark number bursts is (inr d) = inr (record {
  done = d.done;
  later = more ++ d.later;
  is = append_assoc more d.later d.done ∙ ap (λ (list : List Act). more ++ list) d.is ∙ is;
  knows = d.knows;
  some = d.some;
  sends = d.sends;
})

transmits-at : (s : Start) (deeds : List Deed) (mark : ℕ) (number : TermNo) (bursts : List Burst) → IsSound s.net → AreProcesses s deeds → TransmitsIn s deeds mark number bursts
    → SendsOr (over s) (acts_of s deeds) mark number bursts
transmits-at s deeds mark number bursts sound are t =
    let o = over s in
    let here = are-at s deeds (Asks (site.Terminal number) t.text ∷ t.done) t.moment are in
    let st = stands s sound t.done here.1 in
    let acts = acts_of s t.done in
    let asks : MayAsk s t.done (site.Terminal number) (Some (asked.FrameOf (record { 0 = mark }) t.frame)) = subst (λ (a : Option Asked). MayAsk s t.done (site.Terminal number) a) t.asks here.0 in
    let some = begun-past o acts mark (st.said (Begun mark) asks.0) in
    let a = acts-at s deeds (Asks (site.Terminal number) t.text ∷ t.done) t.moment in
    let is : t.terminal ≡ terminal_in (terminal_at o number acts) = ap terminal_in (sym t.is ∙ (st.terminals number).is) in
    sends-later o (acts_of s deeds) (Acts (site.Terminal number) (Begun mark) ∷ acts) a.more mark number bursts
    (ap (λ (one : Option Asked). a.more ++ (if_framed number one ++ acts)) (sym t.asks) ∙ a.is)
    (subst (λ (list : List Burst). SendsOr o (Acts (site.Terminal number) (Begun mark) ∷ acts) mark number list)
    (sym (t.sends ∙ ap (λ (x : TerminalAt). sent_in x (record { 0 = mark })) is)) (sends-by o number acts mark some))

sent-either : (s : Start) (deeds : List Deed) (mark : ℕ) (number : TermNo) (bursts : List Burst) → IsSound s.net → AreProcesses s deeds → (bursts ≡ []) ⊎ TransmitsIn s deeds mark number bursts
    → SendsOr (over s) (acts_of s deeds) mark number bursts
sent-either s deeds mark number bursts sound are (inl none) = inl none
sent-either s deeds mark number bursts sound are (inr t) = transmits-at s deeds mark number bursts sound are t

-- and by what is said of what terminals transmit
pub safe-at :
    (safes : (o : Opening) (acts board : List Act) (mark : ℕ) (sends : TermNo → List Burst) (bursts : List Burst) → IsSound o.net → AreStamped o acts → AreSmall o (steps_by o acts)
    → IsOnBoardBy o acts mark board → AreSentIn o acts mark sends → IsPermutation (flat_map sends (terminals o)) bursts → IsSafe o.net (satellite_after o (steps_by o board)).fore.modes bursts)
    → (s : Start) (deeds board : List Deed) (onboard : SatelliteAt) (sends : TermNo → List Burst) (bursts : List Burst) → IsSound s.net → AreProcesses s deeds → IsSmall (journal_by s deeds)
    → IsOnBoard s deeds board onboard → AreTransmitted s deeds onboard.site.mark.0 sends → IsPermutation (flat_map sends (terminals (over s))) bursts
    → IsGoodInFront s.net (journal_by s board) onboard.site → IsSafeInGood s.net (journal_by s board) onboard.site bursts
safe-at safes s deeds board onboard sends bursts sound are small on sent of_all front =
    let o = over s in
    let acts = acts_of s deeds in
    let st = stands s sound board (are-at s deeds board on.moment are) in
    let is = onboard-is s board onboard on.is st in
    let a = acts-at s deeds board on.moment in
    let whole = stands s sound deeds are in
    let safe = safes o acts (acts_of s board) onboard.site.mark.0 sends bursts sound whole.stamped (small-of s deeds acts whole small)
    (record { later = a.more; is = a.is; now = ap (λ (x : Satellite). x.mark.0) (sym is) })
    (λ number. sent-either s deeds onboard.site.mark.0 number (sends number) sound are (sent number)) of_all in
    record {
      front = front;
      safe = subst (λ (modes : List Mode). IsSafe s.net modes bursts) (ap (λ (x : Satellite). x.fore.modes) (sym is) ∙ front.modes) safe;
    }
