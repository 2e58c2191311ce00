-- The forms of the lines that a run and a session print: what stands at each place of them.
use Rattle.std.specs.Prelude.{ℕ, if◌then◌else◌, List, [], ◌∷◌, codes, Bool, true, false, count_by, not}
use Rattle.bt_text.specs.Text.{is_word}
use Rattle.bt_words.specs.declared.form.Form.{Form}
use Rattle.bt_words.specs.declared.form.Form.TheVariants as form
use Rattle.bt_words.specs.declared.token.Token.{Token}
use Rattle.bt_words.specs.declared.token.Token.TheVariants as token

-- What may stand at a place of a line: a number, a count, the number of a desk, a frame, the name of a beam or of a
-- terminal, what the satellite or a terminal did with a message, the tag of those who speak, the moment that a clock told, and this word alone.
pub data Part : Type 0 where
  Number : Part
  Count : Part
  Desk : Part
  Frame : Part
  Beam : Part
  Terminal : Part
  Taken : Part
  Heard : Part
  Tag : Part
  Moment : Part
  Text : List ℕ → Part

-- what a token of the code stands for
abbrev pub part_of : Token → Part
part_of token.Number = Number
part_of token.Count = Count
part_of token.Desk = Desk
part_of token.Frame = Frame
part_of token.Beam = Beam
part_of token.Terminal = Terminal
part_of token.Taken = Taken
part_of token.Heard = Heard
part_of token.Tag = Tag
part_of token.Moment = Moment
part_of (token.Text text) = Text text.now

-- the place has one word alone
abbrev pub is_fixed : Part → Bool
is_fixed (Text _) = true
is_fixed _ = false

-- how many places have no fixed word
abbrev pub open_places : List Part → ℕ
open_places parts = count_by (λ part. not (is_fixed part)) parts

-- the places of a form, in order
abbrev pub parts_of : Form → List Part
parts_of form.SentLoad = Text (codes "sent") ∷ Number ∷ Text (codes "load") ∷ Number ∷ Number ∷ []
parts_of form.SentArm = Text (codes "sent") ∷ Number ∷ Text (codes "arm") ∷ Number ∷ Number ∷ Number ∷ []
parts_of form.SentStatus = Text (codes "sent") ∷ Number ∷ Text (codes "status") ∷ Text (codes "mark") ∷ Number ∷ Text (codes "fore") ∷ Number ∷ Text (codes "back") ∷ Number ∷ Text (codes "armed") ∷ Text (codes "none") ∷ Text (codes "last") ∷ Number ∷ []
parts_of form.SentArmedStatus = Text (codes "sent") ∷ Number ∷ Text (codes "status") ∷ Text (codes "mark") ∷ Number ∷ Text (codes "fore") ∷ Number ∷ Text (codes "back") ∷ Number ∷ Text (codes "armed") ∷ Number ∷ Text (codes "due") ∷ Number ∷ Text (codes "last") ∷ Number ∷ []
parts_of form.SentPlan = Text (codes "sent") ∷ Number ∷ Text (codes "plan") ∷ Number ∷ Terminal ∷ []
parts_of form.SentConfirm = Text (codes "sent") ∷ Number ∷ Text (codes "confirm") ∷ Number ∷ Terminal ∷ []
parts_of form.SentReference = Text (codes "sent") ∷ Number ∷ Text (codes "reference") ∷ Number ∷ Number ∷ []
parts_of form.SentNoReference = Text (codes "sent") ∷ Number ∷ Text (codes "reference") ∷ Number ∷ Text (codes "none") ∷ []
parts_of form.SentLost = Text (codes "sent") ∷ Number ∷ Text (codes "lost") ∷ Terminal ∷ []
parts_of form.GotSatellite = Text (codes "got") ∷ Number ∷ Text (codes "sat") ∷ Taken ∷ []
parts_of form.GotCentre = Text (codes "got") ∷ Number ∷ Text (codes "centre") ∷ Text (codes "noted") ∷ []
parts_of form.GotTerminal = Text (codes "got") ∷ Number ∷ Terminal ∷ Heard ∷ []
parts_of form.NotForSatellite = Text (codes "got") ∷ Number ∷ Text (codes "sat") ∷ Text (codes "notforme") ∷ []
parts_of form.NotForCentre = Text (codes "got") ∷ Number ∷ Text (codes "centre") ∷ Text (codes "notforme") ∷ []
parts_of form.NotForTerminal = Text (codes "got") ∷ Number ∷ Terminal ∷ Text (codes "notforme") ∷ []
parts_of form.Air = Text (codes "air") ∷ Number ∷ Number ∷ Terminal ∷ Terminal ∷ []
parts_of form.Frame = Text (codes "frame") ∷ Frame ∷ Text (codes "fore") ∷ Number ∷ []
parts_of form.Over = Text (codes "frame") ∷ Number ∷ Text (codes "over") ∷ []
parts_of form.Tick = Text (codes "tick") ∷ Number ∷ []
parts_of form.LastTick = Text (codes "tick") ∷ Text (codes "last") ∷ []
parts_of form.Turn = Text (codes "turn") ∷ Number ∷ Text (codes "newest") ∷ Number ∷ []
parts_of form.BackTurn = Text (codes "turn") ∷ Number ∷ Text (codes "back") ∷ Number ∷ []
parts_of form.TurnWithoutMark = Text (codes "turn") ∷ Text (codes "nomark") ∷ []
parts_of form.Back = Text (codes "back") ∷ Number ∷ []
parts_of form.NotInstalled = Text (codes "back") ∷ Number ∷ Text (codes "not") ∷ Text (codes "installed") ∷ []
parts_of form.Ahead = Text (codes "ahead") ∷ []
parts_of form.Flow = Text (codes "flow") ∷ []
parts_of form.Lost = Text (codes "lost") ∷ Count ∷ []
parts_of form.NotSent = Text (codes "deliver") ∷ Number ∷ Text (codes "not") ∷ Text (codes "sent") ∷ []
parts_of form.Start = Text (codes "start") ∷ Text (codes "edition") ∷ Number ∷ Text (codes "plan") ∷ Number ∷ Text (codes "mark") ∷ Number ∷ []
parts_of form.Restart = Text (codes "restart") ∷ []
parts_of form.Round = Text (codes "round") ∷ Count ∷ []
parts_of form.Total = Text (codes "total") ∷ Text (codes "done") ∷ Count ∷ Text (codes "refused") ∷ Count ∷ Text (codes "store") ∷ Count ∷ []
parts_of form.DeskDone = Text (codes "desk") ∷ Desk ∷ Text (codes "done") ∷ Number ∷ Number ∷ []
parts_of form.DeskSameTerminal = Text (codes "desk") ∷ Desk ∷ Text (codes "refused") ∷ Text (codes "E1") ∷ []
parts_of form.DeskNotThere = Text (codes "desk") ∷ Desk ∷ Text (codes "refused") ∷ Text (codes "E2") ∷ Number ∷ []
parts_of form.DeskRowFull = Text (codes "desk") ∷ Desk ∷ Text (codes "refused") ∷ Text (codes "E3") ∷ Beam ∷ Number ∷ []
parts_of form.DeskColumnFull = Text (codes "desk") ∷ Desk ∷ Text (codes "refused") ∷ Text (codes "E4") ∷ Beam ∷ Number ∷ []
parts_of form.DeskBookFull = Text (codes "desk") ∷ Desk ∷ Text (codes "refused") ∷ Text (codes "E5") ∷ Number ∷ []
parts_of form.DeskStoreFault = Text (codes "desk") ∷ Desk ∷ Text (codes "store") ∷ Text (codes "fault") ∷ []
parts_of form.DeskStopped = Text (codes "desk") ∷ Desk ∷ Text (codes "stopped") ∷ []
parts_of form.Shows = Text (codes "desk") ∷ Desk ∷ Text (codes "shows") ∷ Number ∷ Text (codes "length") ∷ Number ∷ Text (codes "modes") ∷ Number ∷ []
parts_of form.Burst = Text (codes "burst") ∷ Number ∷ Number ∷ Terminal ∷ Terminal ∷ []
parts_of form.Planned = Text (codes "plan") ∷ Number ∷ Text (codes "length") ∷ Number ∷ Text (codes "modes") ∷ Number ∷ Text (codes "bursts") ∷ Number ∷ []
parts_of form.NothingNew = Text (codes "plan") ∷ Text (codes "nothing") ∷ Text (codes "new") ∷ []
parts_of form.PlanBookFull = Text (codes "plan") ∷ Text (codes "refused") ∷ Text (codes "E5") ∷ Number ∷ []
parts_of form.PlanStoreFault = Text (codes "plan") ∷ Text (codes "store") ∷ Text (codes "fault") ∷ []
parts_of form.PlanStopped = Text (codes "plan") ∷ Text (codes "stopped") ∷ []
parts_of form.OrderLoad = Text (codes "order") ∷ Text (codes "load") ∷ Number ∷ Number ∷ []
parts_of form.OrderArm = Text (codes "order") ∷ Text (codes "arm") ∷ Number ∷ Number ∷ Number ∷ []
parts_of form.OrderBookFull = Text (codes "order") ∷ Text (codes "refused") ∷ Text (codes "E5") ∷ Number ∷ []
parts_of form.OrderOutOfTurn = Text (codes "order") ∷ Text (codes "refused") ∷ Text (codes "E9") ∷ Number ∷ []
parts_of form.OrderNotInstalled = Text (codes "order") ∷ Text (codes "refused") ∷ Text (codes "E10") ∷ Number ∷ []
parts_of form.OrderStoreFault = Text (codes "order") ∷ Text (codes "store") ∷ Text (codes "fault") ∷ []
parts_of form.OrderStopped = Text (codes "order") ∷ Text (codes "stopped") ∷ []
parts_of form.Reset = Text (codes "reset") ∷ Terminal ∷ []
parts_of form.StandbyNoted = Text (codes "standby") ∷ Text (codes "hears") ∷ Number ∷ Text (codes "noted") ∷ []
parts_of form.StandbyWrongMark = Text (codes "standby") ∷ Text (codes "hears") ∷ Number ∷ Text (codes "wrongmark") ∷ []
parts_of form.StandbyNotForMe = Text (codes "standby") ∷ Text (codes "hears") ∷ Number ∷ Text (codes "notforme") ∷ []
parts_of form.StandbyNotSent = Text (codes "standby") ∷ Text (codes "hears") ∷ Number ∷ Text (codes "not") ∷ Text (codes "sent") ∷ []
parts_of form.StandbyBurst = Text (codes "standby") ∷ Text (codes "burst") ∷ []
parts_of form.StoreFault = Text (codes "fault") ∷ Text (codes "store") ∷ []
parts_of form.Ready = Text (codes "ready") ∷ Count ∷ []
parts_of form.ReadyOpen = Text (codes "ready") ∷ Count ∷ Text (codes "open") ∷ Count ∷ []
parts_of form.ReadyTag = Text (codes "ready") ∷ Count ∷ Tag ∷ []
parts_of form.ReadyOpenTag = Text (codes "ready") ∷ Count ∷ Text (codes "open") ∷ Count ∷ Tag ∷ []
parts_of form.ReadyAt = Text (codes "ready") ∷ Count ∷ Text (codes "at") ∷ Moment ∷ []
parts_of form.ReadyOpenAt = Text (codes "ready") ∷ Count ∷ Text (codes "open") ∷ Count ∷ Text (codes "at") ∷ Moment ∷ []
parts_of form.ReadyAtTag = Text (codes "ready") ∷ Count ∷ Text (codes "at") ∷ Moment ∷ Tag ∷ []
parts_of form.ReadyOpenAtTag = Text (codes "ready") ∷ Count ∷ Text (codes "open") ∷ Count ∷ Text (codes "at") ∷ Moment ∷ Tag ∷ []
parts_of form.BlockOpen = Text (codes "block") ∷ Count ∷ Text (codes "lines") ∷ Count ∷ []
parts_of form.BlockOpenTag = Text (codes "block") ∷ Count ∷ Text (codes "lines") ∷ Count ∷ Tag ∷ []
parts_of form.BlockRefused = Text (codes "block") ∷ Text (codes "refused") ∷ Count ∷ []
parts_of form.Stopped = Text (codes "stopped") ∷ []
parts_of form.Lines = Text (codes "lines") ∷ Count ∷ []
parts_of form.Superframe = Text (codes "superframe") ∷ Number ∷ []
parts_of form.NoSuperframe = Text (codes "superframe") ∷ Text (codes "none") ∷ []
parts_of form.Status = Text (codes "status") ∷ Text (codes "mark") ∷ Number ∷ Text (codes "age") ∷ Number ∷ Text (codes "fore") ∷ Number ∷ Text (codes "back") ∷ Number ∷ Text (codes "armed") ∷ Text (codes "none") ∷ Text (codes "last") ∷ Number ∷ []
parts_of form.ArmedStatus = Text (codes "status") ∷ Text (codes "mark") ∷ Number ∷ Text (codes "age") ∷ Number ∷ Text (codes "fore") ∷ Number ∷ Text (codes "back") ∷ Number ∷ Text (codes "armed") ∷ Number ∷ Text (codes "due") ∷ Number ∷ Text (codes "last") ∷ Number ∷ []
parts_of form.NoStatus = Text (codes "status") ∷ Text (codes "none") ∷ []
parts_of form.LastLoad = Text (codes "last") ∷ Text (codes "load") ∷ Number ∷ Number ∷ Text (codes "unconfirmed") ∷ []
parts_of form.LastLoadConfirmed = Text (codes "last") ∷ Text (codes "load") ∷ Number ∷ Number ∷ Text (codes "confirmed") ∷ []
parts_of form.LastArm = Text (codes "last") ∷ Text (codes "arm") ∷ Number ∷ Number ∷ Number ∷ Text (codes "unconfirmed") ∷ []
parts_of form.LastArmConfirmed = Text (codes "last") ∷ Text (codes "arm") ∷ Number ∷ Number ∷ Number ∷ Text (codes "confirmed") ∷ []
parts_of form.NoLast = Text (codes "last") ∷ Text (codes "none") ∷ []
parts_of form.Missing = Text (codes "missing") ∷ Terminal ∷ []
parts_of form.Asks = Text (codes "asks") ∷ Terminal ∷ []
parts_of form.LineFaultS1 = Text (codes "fault") ∷ Text (codes "S1") ∷ Count ∷ []
parts_of form.LineFaultS2 = Text (codes "fault") ∷ Text (codes "S2") ∷ Count ∷ []
parts_of form.LineFaultS3 = Text (codes "fault") ∷ Text (codes "S3") ∷ Count ∷ []
parts_of form.LineFaultS4 = Text (codes "fault") ∷ Text (codes "S4") ∷ Count ∷ []
parts_of form.LineFaultS5 = Text (codes "fault") ∷ Text (codes "S5") ∷ Count ∷ []
parts_of form.InputFault = Text (codes "fault") ∷ Text (codes "input") ∷ []
parts_of form.PlanDone = Text (codes "plan") ∷ Text (codes "done") ∷ Number ∷ Number ∷ []
parts_of form.PlanSameTerminal = Text (codes "plan") ∷ Text (codes "refused") ∷ Text (codes "E1") ∷ []
parts_of form.PlanNotThere = Text (codes "plan") ∷ Text (codes "refused") ∷ Text (codes "E2") ∷ Number ∷ []
parts_of form.PlanRowFull = Text (codes "plan") ∷ Text (codes "refused") ∷ Text (codes "E3") ∷ Beam ∷ Number ∷ []
parts_of form.PlanColumnFull = Text (codes "plan") ∷ Text (codes "refused") ∷ Text (codes "E4") ∷ Beam ∷ Number ∷ []
parts_of form.PlanNotNewer = Text (codes "plan") ∷ Text (codes "refused") ∷ Text (codes "E6") ∷ Number ∷ []
parts_of form.PlanNoSuchEdition = Text (codes "plan") ∷ Text (codes "refused") ∷ Text (codes "E7") ∷ Number ∷ []
parts_of form.PlanNotGood = Text (codes "plan") ∷ Text (codes "refused") ∷ Text (codes "E8") ∷ []

-- a run or a session prints lines of this form: of the others are answers to the planner that no run lets it be given, and none of
-- these is read back
abbrev pub is_of_a_run : Form → Bool
is_of_a_run form.PlanDone = false
is_of_a_run form.PlanSameTerminal = false
is_of_a_run form.PlanNotThere = false
is_of_a_run form.PlanRowFull = false
is_of_a_run form.PlanColumnFull = false
is_of_a_run form.PlanNotNewer = false
is_of_a_run form.PlanNoSuchEdition = false
is_of_a_run form.PlanNotGood = false
is_of_a_run _ = true

-- the forms of a run whose first word is this one
abbrev pub forms_from : List ℕ → List Form
forms_from head =
    if is_word (codes "sent") head then form.SentLoad ∷ form.SentArm ∷ form.SentStatus ∷ form.SentArmedStatus ∷ form.SentPlan ∷ form.SentConfirm ∷ form.SentReference ∷ form.SentNoReference ∷ form.SentLost ∷ [] else
    if is_word (codes "got") head then form.GotSatellite ∷ form.GotCentre ∷ form.GotTerminal ∷ form.NotForSatellite ∷ form.NotForCentre ∷ form.NotForTerminal ∷ [] else
    if is_word (codes "air") head then form.Air ∷ [] else
    if is_word (codes "frame") head then form.Frame ∷ form.Over ∷ [] else
    if is_word (codes "tick") head then form.Tick ∷ form.LastTick ∷ [] else
    if is_word (codes "turn") head then form.Turn ∷ form.BackTurn ∷ form.TurnWithoutMark ∷ [] else
    if is_word (codes "back") head then form.Back ∷ form.NotInstalled ∷ [] else
    if is_word (codes "ahead") head then form.Ahead ∷ [] else
    if is_word (codes "flow") head then form.Flow ∷ [] else
    if is_word (codes "lost") head then form.Lost ∷ [] else
    if is_word (codes "deliver") head then form.NotSent ∷ [] else
    if is_word (codes "start") head then form.Start ∷ [] else
    if is_word (codes "restart") head then form.Restart ∷ [] else
    if is_word (codes "round") head then form.Round ∷ [] else
    if is_word (codes "total") head then form.Total ∷ [] else
    if is_word (codes "desk") head then form.DeskDone ∷ form.DeskSameTerminal ∷ form.DeskNotThere ∷ form.DeskRowFull ∷ form.DeskColumnFull ∷ form.DeskBookFull ∷ form.DeskStoreFault ∷ form.DeskStopped ∷ form.Shows ∷ [] else
    if is_word (codes "burst") head then form.Burst ∷ [] else
    if is_word (codes "plan") head then form.Planned ∷ form.NothingNew ∷ form.PlanBookFull ∷ form.PlanStoreFault ∷ form.PlanStopped ∷ [] else
    if is_word (codes "order") head then form.OrderLoad ∷ form.OrderArm ∷ form.OrderBookFull ∷ form.OrderOutOfTurn ∷ form.OrderNotInstalled ∷ form.OrderStoreFault ∷ form.OrderStopped ∷ [] else
    if is_word (codes "reset") head then form.Reset ∷ [] else
    if is_word (codes "standby") head then form.StandbyNoted ∷ form.StandbyWrongMark ∷ form.StandbyNotForMe ∷ form.StandbyNotSent ∷ form.StandbyBurst ∷ [] else
    if is_word (codes "fault") head then form.StoreFault ∷ form.LineFaultS1 ∷ form.LineFaultS2 ∷ form.LineFaultS3 ∷ form.LineFaultS4 ∷ form.LineFaultS5 ∷ form.InputFault ∷ [] else
    if is_word (codes "ready") head then form.Ready ∷ form.ReadyOpen ∷ form.ReadyTag ∷ form.ReadyOpenTag ∷ form.ReadyAt ∷ form.ReadyOpenAt ∷ form.ReadyAtTag ∷ form.ReadyOpenAtTag ∷ [] else
    if is_word (codes "block") head then form.BlockOpen ∷ form.BlockOpenTag ∷ form.BlockRefused ∷ [] else
    if is_word (codes "stopped") head then form.Stopped ∷ [] else
    if is_word (codes "lines") head then form.Lines ∷ [] else
    if is_word (codes "superframe") head then form.Superframe ∷ form.NoSuperframe ∷ [] else
    if is_word (codes "status") head then form.Status ∷ form.ArmedStatus ∷ form.NoStatus ∷ [] else
    if is_word (codes "last") head then form.LastLoad ∷ form.LastLoadConfirmed ∷ form.LastArm ∷ form.LastArmConfirmed ∷ form.NoLast ∷ [] else
    if is_word (codes "missing") head then form.Missing ∷ [] else
    if is_word (codes "asks") head then form.Asks ∷ [] else
    []
