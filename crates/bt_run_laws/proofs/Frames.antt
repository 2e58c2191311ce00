-- The lines of frames on the air.
use Rattle.std.proofs.Common.{◌<◌, List, [], ◌∷◌, All, Option, Some, None, IfSome, refl, sym, subst, arith}
use Rattle.std.specs.List.{flat_map}
use Rattle.std.proofs.lemmas.List.Elements.{All-append, All-head, All-nil, All-tail, All-weaker}
use Rattle.std.proofs.lemmas.List.Sorted.{All-permutation}
use Rattle.bt_frame.specs.declared.numbers.EditionNo.{EditionNo}
use Rattle.bt_frame.specs.declared.numbers.TermNo.{TermNo}
use Rattle.bt_net.specs.Network.{Net, IsSound}
use Rattle.bt_net.specs.Terminals.{IsTerminal}
use Rattle.bt_demand.specs.declared.burst.Burst.{Burst}
use Rattle.bt_demand.specs.declared.plan.Plan.{Plan}
use Rattle.bt_demand.specs.Apart.{bursts_from}
use Rattle.bt_demand.specs.Flyable.{IsFlyable, IsSentBy}
use Rattle.bt_demand.proofs.Flyable.{sent_by}
use Rattle.bt_air.specs.declared.shown.AirFrame.{AirFrame}
use Rattle.bt_site.specs.Air.{bursts_under, transmits, where_held}
use Rattle.bt_site.specs.Event.{Opening, Event, Happening}
use Rattle.bt_site.specs.World.{accepted, frames_shown, heard, held, log, mark, plans, terminals}
use Rattle.bt_machines.specs.Plans.{bursts_for, plan_of}
use Rattle.bt_site.proofs.WorldPlans.{flies-each, plan-holds, plans-flyable}
use Rattle.bt_site.proofs.Ranges.{front-fits, world-fits}
use Rattle.bt_world.specs.Shown.{IsFrame}
use Rattle.bt_words.specs.declared.form.Form.TheVariants as form
use Rattle.bt_timeline.specs.Air.{frame_lines}
use Rattle.bt_timeline.specs.Timeline.{burst_line, burst_lines}
use Rattle.bt_run_lines.specs.declared.printed.Value.TheVariants as value
use Rattle.bt_run_lines.specs.Printers.{line, printed_line}
use Rattle.bt_run_laws.specs.Readable.{AreLines}
use Rattle.bt_run_laws.specs.Small.{IsSmall, IsSmallBurst}
use Rattle.bt_round.proofs.Marks.{mark-small}
use Rattle.bt_round.proofs.Sending.{terminals-own}
use Rattle.bt_centre.specs.World.{IsSpelledWorld}
use Rattle.bt_run_laws.proofs.Read.{each_lines, line_printed, more_lines}
use Rattle.bt_run_laws.proofs.Sent.{small_superframe, small_word}

-- the bursts that a terminal sends in a plan that can be flown
plan_small : (net : Net) (terminal : TermNo) (plan : Option Plan) → IsTerminal net terminal → IfSome plan (IsFlyable net) → All (IsSmallBurst net) (bursts_for terminal plan)
plan_small net terminal None own flies = All-nil (IsSmallBurst net)
plan_small net terminal (Some plan) own flies =
    All-weaker (IsSentBy net terminal) (IsSmallBurst net)
    (λ burst sent. record {
      start = omega (arith, sent.start.1);
      slots = omega (arith, sent.slots.1);
      from = subst (IsTerminal net) (sym sent.sender) own;
      to = sent.receiver;
    })
    (bursts_from terminal plan.bursts) (sent_by net plan terminal flies)

-- and those of the plan of an edition, where one is named
under_small : (net : Net) (all : List Plan) (terminal : TermNo) (edition : Option EditionNo) → IsTerminal net terminal → All (IsFlyable net) all
    → All (IsSmallBurst net) (bursts_under all terminal edition)
under_small net all terminal None own fly = All-nil (IsSmallBurst net)
under_small net all terminal (Some edition) own fly = plan_small net terminal (plan_of all edition) own (plan-holds (IsFlyable net) all edition fly)

-- what terminals transmit
transmits_small : (o : Opening) (past : List Happening) (these : List TermNo) → All (IsTerminal o.net) these → All (IsFlyable o.net) (plans o past)
    → All (IsSmallBurst o.net) (flat_map (transmits o past) these)
transmits_small o past [] own fly = All-nil (IsSmallBurst o.net)
transmits_small o past (terminal ∷ rest) own fly =
    All-append (IsSmallBurst o.net) (transmits o past terminal) (flat_map (transmits o past) rest)
    (under_small o.net (plans o past) terminal (where_held (held o past terminal) (heard o past terminal)) (All-head (IsTerminal o.net) terminal rest own) fly)
    (transmits_small o past rest (All-tail (IsTerminal o.net) terminal rest own) fly)

-- the line of a burst on the air
burst_printed : (net : Net) (burst : Burst) → IsSmallBurst net burst → AreLines net (burst_line net form.Air burst)
burst_printed net burst is =
    line_printed net form.Air (value.Number burst.start ∷ value.Number burst.length ∷ value.Terminal burst.from ∷ value.Terminal burst.to ∷ []) refl refl (is.start, (is.slots, (is.from, (is.to, tt))))

-- the lines of a frame of a world
pub frame_printed : (o : Opening) (events : List Event) (frame : AirFrame) → IsSound o.net → IsSpelledWorld o events → IsFrame o (log o events) frame → frames_shown (log o events) < o.net.frames
    → AreLines o.net (frame_lines o.net frame)
frame_printed o events frame sound so is left =
    let past = log o events in
    let begun : IsSmall frame.mark.0 = subst IsSmall (sym is.mark) (small_superframe (mark o past) (mark-small o events so.world)) in
    let number : IsSmall frame.number = omega (arith, is.number, left, sound.frames.1) in
    let fore : IsSmall frame.fore.0 =
    subst (λ (edition : EditionNo). IsSmall edition.0) (sym is.fore) (small_word _ (front-fits (accepted o past) (mark o past) (world-fits o events sound so.world so.stored).accepted)) in
    let head = value.Frame frame.mark frame.number ∷ value.Number frame.fore.0 ∷ [] in
    more_lines o.net (printed_line o.net (line form.Frame head)) (burst_lines o.net form.Air frame.bursts)
    (line_printed o.net form.Frame head refl refl ((begun, number), (fore, tt)))
    (each_lines o.net (burst_line o.net form.Air) frame.bursts
    (All-weaker (IsSmallBurst o.net) (λ (burst : Burst). AreLines o.net (burst_line o.net form.Air burst)) (burst_printed o.net) frame.bursts
    (All-permutation (IsSmallBurst o.net) (flat_map (transmits o past) (terminals o)) frame.bursts is.air.of_all
    (transmits_small o past (terminals o) (terminals-own o) (plans-flyable o events (flies-each o events so.world))))))
