-- What the turns of a round know of the plans that are installed.
use Rattle.std.proofs.Common.{◌≡◌, ◌≤◌, ◌==◌, ℕ, nat_lt, if◌then◌else◌, Bool, true, false, List, [], ◌∷◌, ◌++◌, Option, Some, None, refl, sym, ap, ◌∙◌, subst, append_assoc, arith}
use Rattle.std.proofs.lemmas.Bool.{ltb-false}
use Rattle.std.proofs.lemmas.List.{append-nil}
use Rattle.std.proofs.lemmas.List.Elements.{filter-append, filter_map-append}
use Rattle.bt_frame.specs.declared.numbers.EditionNo.{EditionNo}
use Rattle.bt_frame.proofs.OneNumber.{same_edition}
use Rattle.bt_net.specs.Network.{Net}
use Rattle.bt_demand.specs.declared.plan.Plan.{Plan}
use Rattle.bt_air.specs.declared.order.Order.{Order}
use Rattle.bt_journal.specs.declared.call.Call.{Call}
use Rattle.bt_journal.specs.declared.call.Call.TheVariants as call
use Rattle.bt_journal.specs.declared.call.Change.{Change}
use Rattle.bt_journal.specs.declared.entry.Entry.{Entry}
use Rattle.bt_journal.specs.declared.reply.Reply.{Reply}
use Rattle.bt_journal.specs.declared.reply.Reply.TheVariants as reply
use Rattle.bt_journal.specs.Journal.{calls_of, change_made, changes_of}
use Rattle.bt_history.specs.Causes.{Follows}
use Rattle.bt_history.specs.Changes.{newest}
use Rattle.bt_history.specs.Machine.{CallStep, Legal, newer_than, running, state_after}
use Rattle.bt_history.proofs.Histories.{Legal-follows}
use Rattle.bt_script.specs.declared.script.AirLine.{AirLine}
use Rattle.bt_script.specs.declared.script.AirLine.TheVariants as line
use Rattle.bt_round.specs.declared.worker.CentreOver.TheVariants.{Simulated, Apart}
use Rattle.bt_round.specs.AirLines.{AirState, PlaysAirLine, PlaysAirLines, PlaysOrder, PlaysTurnIf, TakesTurn, back_of, going, having, installing, is_marked, newest_in, once_answered, target_by, target_of, turning, wanted_in}
use Rattle.bt_round.proofs.Installed.{newest_ascends}
use Rattle.bt_centre.specs.Turns.{IsNewestOf, IsNoNewer, LineKnows, LinesKnow, TurnKnows}
use Rattle.bt_centre.proofs.Lawful.{step_at, steps_first}
use Rattle.bt_centre.proofs.OrdersPlayed.{Stays, installed_edition, ordered_edition, turned_edition, stays_back, stays_burst, stays_delivery, stays_flow, stays_frame_line, stays_going, stays_is, stays_loss, stays_notice, stays_reset_line, stays_tick_line}

-- entries in two parts, of which the first has these calls of the centre's worker and the other has those
record IsCut (entries own others : List Entry) : Type 0 where
  pub first : List Entry
  pub rest : List Entry
  pub parts : entries ≡ first ++ rest
  pub own_is : calls_of first 0 ≡ own
  pub others_are : calls_of rest 0 ≡ others

cut_by : (b : Bool) (one : Entry) (entries : List Entry) (x : Entry) (own others : List Entry) → (one.caller == 0) ≡ b
    → (if b then one ∷ calls_of entries 0 else calls_of entries 0) ≡ x ∷ own ++ others
    → ((list : List Entry) → calls_of entries 0 ≡ list ++ others → IsCut entries list others) → IsCut (one ∷ entries) (x ∷ own) others
cut_by true one entries x own others mine is more =
    let same : one ≡ x = cc in
    let later : calls_of entries 0 ≡ own ++ others = cc in
    let cut = more own later in
    record {
      first = one ∷ cut.first;
      rest = cut.rest;
      parts = ap (λ (l : List Entry). one ∷ l) cut.parts;
      own_is = ap (λ (b : Bool). if b then one ∷ calls_of cut.first 0 else calls_of cut.first 0) mine
          ∙ ap (λ (l : List Entry). one ∷ l) cut.own_is ∙ ap (λ (e : Entry). e ∷ own) same;
      others_are = cut.others_are;
    }
cut_by false one entries x own others mine is more =
    let cut = more (x ∷ own) is in
    record {
      first = one ∷ cut.first;
      rest = cut.rest;
      parts = ap (λ (l : List Entry). one ∷ l) cut.parts;
      own_is = ap (λ (b : Bool). if b then one ∷ calls_of cut.first 0 else calls_of cut.first 0) mine ∙ cut.own_is;
      others_are = cut.others_are;
    }

-- entries are cut behind any of these calls
cut : (entries own others : List Entry) → calls_of entries 0 ≡ own ++ others → IsCut entries own others
cut entries [] others is = record { first = []; rest = entries; parts = refl; own_is = refl; others_are = is }
cut [] (x ∷ own) others is = absurd cc
cut (one ∷ entries) (x ∷ own) others is = cut_by (one.caller == 0) one entries x own others refl is (λ list same. cut entries list others same)

-- the first of these calls stands here
record IsFirstAt (entries : List Entry) (asked : Entry) : Type 0 where
  pub earlier : List Entry
  pub later : List Entry
  pub order : entries ≡ earlier ++ asked ∷ later
  pub none : calls_of earlier 0 ≡ []

first_by : (b : Bool) (one : Entry) (entries : List Entry) (asked : Entry) (others : List Entry) → (one.caller == 0) ≡ b
    → (if b then one ∷ calls_of entries 0 else calls_of entries 0) ≡ asked ∷ others
    → (calls_of entries 0 ≡ asked ∷ others → IsFirstAt entries asked) → IsFirstAt (one ∷ entries) asked
first_by true one entries asked others mine is more =
    let same : one ≡ asked = cc in
    record { earlier = []; later = entries; order = ap (λ (e : Entry). e ∷ entries) same; none = refl }
first_by false one entries asked others mine is more =
    let at = more is in
    record {
      earlier = one ∷ at.earlier;
      later = at.later;
      order = ap (λ (l : List Entry). one ∷ l) at.order;
      none = ap (λ (b : Bool). if b then one ∷ calls_of at.earlier 0 else calls_of at.earlier 0) mine ∙ at.none;
    }

first_at : (entries : List Entry) (asked : Entry) (others : List Entry) → calls_of entries 0 ≡ asked ∷ others → IsFirstAt entries asked
first_at [] asked others is = absurd cc
first_at (one ∷ entries) asked others is = first_by (one.caller == 0) one entries asked others refl is (λ same. first_at entries asked others same)

calls-append : (a b : List Entry) → calls_of (a ++ b) 0 ≡ calls_of a 0 ++ calls_of b 0
calls-append a b = filter-append (λ (entry : Entry). entry.caller == 0) a b

-- the changes behind more entries
behind : (opening : List Change) (a b : List Entry) → opening ++ changes_of (a ++ b) ≡ (opening ++ changes_of a) ++ changes_of b
behind opening a b =
    ap (λ (c : List Change). opening ++ c) (filter_map-append (λ (entry : Entry). change_made entry.call entry.reply) a b)
    ∙ sym (append_assoc opening (changes_of a) (changes_of b))

-- the world has no plan newer than the changes after these entries
abbrev pub IsBehind : List Change → List Entry → AirState → Type 0
IsBehind opening history air = IsNoNewer (opening ++ changes_of history) air

-- nor behind more of them
grows : (net : Net) (opening : List Change) (a b : List Entry) (air : AirState) → Follows net opening → Legal net opening (a ++ b) → IsBehind opening a air → IsBehind opening (a ++ b) air
grows net opening a b air follow legal so =
    let is = behind opening a b in
    let up = newest_ascends net (opening ++ changes_of a) (changes_of b) (subst (Follows net) is (Legal-follows net opening (a ++ b) follow legal)) in
    subst (λ (c : List Change). IsNoNewer c air) (sym is) (omega (arith, so, up))

-- over an air with the same newest edition
stays_behind : (opening : List Change) (history : List Entry) (air after : AirState) → newest_in after ≡ newest_in air → IsBehind opening history air → IsBehind opening history after
stays_behind opening history air after same so = omega (arith, so, ap (λ (e : EditionNo). e.0) same)

newer_is : (a b : Option Plan) → reply.Newest a ≡ reply.Newest b → a ≡ b
newer_is a b is = cc

-- the answer to a question for a newer plan
answer_is : (net : Net) (opening : List Change) (before : List Entry) (asked : Entry) (later : List Entry) (after : EditionNo) (newer : Option Plan)
    → Legal net opening (before ++ asked ∷ later) → asked.call ≡ call.Newest after → asked.reply ≡ reply.Newest newer
    → newer ≡ newer_than after (newest (opening ++ changes_of before))
answer_is net opening before asked later after newer legal is told =
    let at = step_at net (running opening) before asked later legal in
    let step = subst (λ (c : Call). CallStep net (state_after opening before) c asked.reply at.0) is at.1.answered in
    newer_is newer (newer_than after (newest (opening ++ changes_of before))) (sym told ∙ step.0)

not_above : (a b : ℕ) → nat_lt a b ≡ false → a ≤ b → a ≡ b
not_above a b over le = omega (arith, ltb-false a b over, le)

installed_by : (air : AirState) (plan : Plan) (newer : Option Plan) (b : Bool) → nat_lt (newest_in air).0 plan.edition.0 ≡ b → newer ≡ (if b then Some plan else None)
    → (newest_in air).0 ≤ plan.edition.0 → newest_in (installing air newer) ≡ plan.edition
installed_by air plan newer true over is le =
    ap (λ (n : Option Plan). newest_in (installing air n)) is ∙ installed_edition air plan
installed_by air plan newer false over is le =
    ap (λ (n : Option Plan). newest_in (installing air n)) is ∙ same_edition (newest_in air) plan.edition (not_above (newest_in air).0 plan.edition.0 over le)

-- with the answer, the newest edition is that of the newest plan
installed_newest : (air : AirState) (plan : Plan) (newer : Option Plan) → newer ≡ newer_than (newest_in air) plan → (newest_in air).0 ≤ plan.edition.0
    → newest_in (installing air newer) ≡ plan.edition
installed_newest air plan newer is le = installed_by air plan newer (nat_lt (newest_in air).0 plan.edition.0) refl is le

-- and the edition to which the centre goes back stays
installed_back : (air : AirState) (newer : Option Plan) → back_of (installing air newer) ≡ back_of air
installed_back air None = refl
installed_back (Simulated a) (Some plan) = refl
installed_back (Apart a) (Some plan) = refl

installed_target : (air : AirState) (newer : Option Plan) (edition : EditionNo) → newest_in (installing air newer) ≡ edition → target_of (installing air newer) ≡ target_by (back_of air) edition
installed_target air newer edition is =
    ap (λ (b : Option EditionNo). target_by b (newest_in (installing air newer))) (installed_back air newer) ∙ ap (target_by (back_of air)) is

answered_newest : (air : AirState) (answer : Reply) → newest_in (once_answered air answer) ≡ newest_in air
answered_newest air reply.Placed = ordered_edition air
answered_newest air _ = refl

-- an order that is asked to be placed leaves the newest edition
ordered_newest : (net : Net) (air : AirState) (want : Option Order) (entries : List Entry) (text : List ℕ) (after : AirState) → PlaysOrder net air want entries text after
    → newest_in after ≡ newest_in air
ordered_newest net air None [] text after is = ap newest_in is.1
ordered_newest net air None (entry ∷ more) text after is = absurd is
ordered_newest net air (Some one) [] text after is = absurd is
ordered_newest net air (Some one) (entry ∷ []) text after is = ap newest_in is.2 ∙ answered_newest air entry.reply
ordered_newest net air (Some one) (entry ∷ other ∷ more) text after is = absurd is

-- behind its question, a turn leaves the newest edition
turned_newest : (net : Net) (air : AirState) (entries : List Entry) (text : List ℕ) (after : AirState) (is : TakesTurn net air entries text after) → newest_in after ≡ newest_in (installing air is.newer)
turned_newest net air entries text after is =
    let inside = installing air is.newer in
    ordered_newest net (having inside (turning inside)) (wanted_in (having inside (turning inside))) is.others is.turned.rest after is.turned.placed
    ∙ turned_edition inside

-- Where a round came: it has these entries of the book behind a history that is legal, of which these are done, and these calls of the
-- centre's worker among them; the others are still to come.
record IsAt (net : Net) (opening : List Change) (history entries before done rest : List Entry) : Type 0 where
  pub follow : Follows net opening
  pub legal : Legal net opening (history ++ entries)
  pub parts : entries ≡ done ++ rest
  pub own : calls_of done 0 ≡ before

-- the entries that are done, and more of them, are legal
legal_at : (net : Net) (opening : List Change) (history entries before done rest a b : List Entry) → IsAt net opening history entries before done rest → rest ≡ a ++ b
    → Legal net opening ((history ++ (done ++ a)) ++ b)
legal_at net opening history entries before done rest a b at is =
    subst (Legal net opening)
    (ap (λ (l : List Entry). history ++ l) (at.parts ∙ ap (λ (l : List Entry). done ++ l) is ∙ sym (append_assoc done a b)) ∙ sym (append_assoc history (done ++ a) b)) at.legal

-- more entries are done
goes_on : (net : Net) (opening : List Change) (history entries before done rest a b : List Entry) (air : AirState) → IsAt net opening history entries before done rest → rest ≡ a ++ b
    → IsBehind opening (history ++ done) air → IsBehind opening (history ++ (done ++ a)) air
goes_on net opening history entries before done rest a b air at is so =
    let all = append_assoc history done a in
    let legal = steps_first net (running opening) (history ++ (done ++ a)) b (legal_at net opening history entries before done rest a b at is) in
    subst (λ (l : List Entry). IsBehind opening l air) all
    (grows net opening (history ++ done) a air at.follow (subst (Legal net opening) (sym all) legal) so)

-- what a line knows, and how the air stands behind it
record IsLineGone (net : Net) (opening : List Change) (history entries before done : List Entry) (air : AirState) (one : AirLine) (own : List Entry) (text : List ℕ) (after : AirState)
    (played : PlaysAirLine net air one own text after) : Type 0 where
  pub knows : LineKnows (opening ++ changes_of history) entries before net air one own text after played
  pub so : IsBehind opening (history ++ done) after

-- what a turn knows, and how the air stands behind it
record IsTurnGone (net : Net) (opening : List Change) (history entries before done : List Entry) (marked : Bool) (air : AirState) (own : List Entry) (text : List ℕ) (after : AirState)
    (played : PlaysTurnIf marked net air own text after) : Type 0 where
  pub knows : TurnKnows (opening ++ changes_of history) entries before marked net air own text after played
  pub so : IsBehind opening (history ++ done) after

-- a turn
turn_goes : (net : Net) (opening : List Change) (history entries before done rest : List Entry) (marked : Bool) (air : AirState) (own others : List Entry) (text : List ℕ) (after : AirState)
    (played : PlaysTurnIf marked net air own text after) → IsAt net opening history entries before done rest → (cut : IsCut rest own others) → IsBehind opening (history ++ done) air
    → IsTurnGone net opening history entries before (done ++ cut.first) marked air own text after played
turn_goes net opening history entries before done rest false air own others text after played at cut so = record {
  knows = tt;
  so = goes_on net opening history entries before done rest cut.first cut.rest after at cut.parts (stays_behind opening (history ++ done) air after (ap newest_in played.2) so);
}
turn_goes net opening history entries before done rest true air own others text after played at cut so =
    let here = first_at cut.first played.asked played.others (cut.own_is ∙ played.all) in
    let earlier = done ++ here.earlier in
    let tail = played.asked ∷ (here.later ++ cut.rest) in
    let split : rest ≡ here.earlier ++ tail =
    cut.parts ∙ ap (λ (l : List Entry). l ++ cut.rest) here.order ∙ append_assoc here.earlier (played.asked ∷ here.later) cut.rest in
    let legal = legal_at net opening history entries before done rest here.earlier tail at split in
    let now = opening ++ changes_of (history ++ earlier) in
    let le : IsBehind opening (history ++ earlier) air = goes_on net opening history entries before done rest here.earlier tail air at split so in
    let answer = answer_is net opening (history ++ earlier) played.asked (here.later ++ cut.rest) (newest_in air) played.newer legal played.call played.reply in
    let known : IsNewestOf now (installing air played.newer) = installed_newest air (newest now) played.newer answer le in
    let knows : IsNewestOf ((opening ++ changes_of history) ++ changes_of earlier) (installing air played.newer) =
    subst (λ (c : List Change). IsNewestOf c (installing air played.newer)) (behind opening history earlier) known in
    let last : newest_in after ≡ (newest now).edition = turned_newest net air own text after played ∙ known in
    let left : IsBehind opening (history ++ earlier) after = omega (arith, ap (λ (e : EditionNo). e.0) last) in
    let more : cut.first ≡ here.earlier ++ played.asked ∷ here.later = here.order in
    let there : IsAt net opening history entries before earlier tail =
    record {
      follow = at.follow;
      legal = at.legal;
      parts = at.parts ∙ ap (λ (l : List Entry). done ++ l) split ∙ sym (append_assoc done here.earlier tail);
      own = calls-append done here.earlier ∙ ap (λ (l : List Entry). calls_of done 0 ++ l) here.none ∙ append-nil (calls_of done 0) ∙ at.own;
    } in
    let ends : earlier ++ played.asked ∷ here.later ≡ done ++ cut.first =
    append_assoc done here.earlier (played.asked ∷ here.later) ∙ ap (λ (l : List Entry). done ++ l) (sym more) in
    record {
      knows = record {
        earlier = earlier;
        later = here.later ++ cut.rest;
        order = there.parts;
        own = there.own;
        knows = knows;
        target = installed_target air played.newer (newest ((opening ++ changes_of history) ++ changes_of earlier)).edition knows;
      };
      so = subst (λ (l : List Entry). IsBehind opening (history ++ l) after) ends
          (goes_on net opening history entries before earlier tail (played.asked ∷ here.later) cut.rest after there refl left);
    }

-- a line that asks nothing
quiet_goes : (net : Net) (opening : List Change) (history entries before done rest : List Entry) (air : AirState) (own others : List Entry) (after : AirState) → Stays air after
    → IsAt net opening history entries before done rest → (cut : IsCut rest own others) → IsBehind opening (history ++ done) air → IsBehind opening (history ++ (done ++ cut.first)) after
quiet_goes net opening history entries before done rest air own others after stays at cut so =
    goes_on net opening history entries before done rest cut.first cut.rest after at cut.parts (stays_behind opening (history ++ done) air after stays.newest so)

-- a line of the air
line_goes : (net : Net) (opening : List Change) (history entries before done rest : List Entry) (air : AirState) (one : AirLine) (own others : List Entry) (text : List ℕ) (after : AirState)
    (played : PlaysAirLine net air one own text after) → IsAt net opening history entries before done rest → (cut : IsCut rest own others) → IsBehind opening (history ++ done) air
    → IsLineGone net opening history entries before (done ++ cut.first) air one own text after played
line_goes net opening history entries before done rest air line.Turn own others text after is at cut so =
    let gone = turn_goes net opening history entries before done rest (is_marked air) air own others text after is at cut so in
    record { knows = gone.knows; so = gone.so }
line_goes net opening history entries before done rest air line.Tick own others text after is at cut so =
    record { knows = tt; so = quiet_goes net opening history entries before done rest air own others after (stays_tick_line net air text after is.1) at cut so }
line_goes net opening history entries before done rest air (line.Back edition) own others text after is at cut so =
    record { knows = tt; so = quiet_goes net opening history entries before done rest air own others after (stays_back air edition text after is.1) at cut so }
line_goes net opening history entries before done rest air line.Ahead own others text after is at cut so =
    record { knows = tt; so = quiet_goes net opening history entries before done rest air own others after (stays_is air (going air None) after is.1.goes (stays_going air None)) at cut so }
line_goes net opening history entries before done rest air line.Flow own others text after is at cut so =
    record { knows = tt; so = quiet_goes net opening history entries before done rest air own others after (stays_flow net air text after is.1) at cut so }
line_goes net opening history entries before done rest air (line.Lose losing) own others text after is at cut so =
    record { knows = tt; so = quiet_goes net opening history entries before done rest air own others after (stays_loss air losing text after is.1) at cut so }
line_goes net opening history entries before done rest air (line.Deliver number place) own others text after is at cut so =
    record { knows = tt; so = quiet_goes net opening history entries before done rest air own others after (stays_delivery net air number place text after is.1) at cut so }
line_goes net opening history entries before done rest air line.Frame own others text after is at cut so =
    record { knows = tt; so = quiet_goes net opening history entries before done rest air own others after (stays_frame_line net air text after is.1) at cut so }
line_goes net opening history entries before done rest air (line.Reset terminal) own others text after is at cut so =
    record { knows = tt; so = quiet_goes net opening history entries before done rest air own others after (stays_reset_line net air terminal text after is.1) at cut so }
line_goes net opening history entries before done rest air (line.StandbyHears number) own others text after is at cut so =
    record { knows = tt; so = quiet_goes net opening history entries before done rest air own others after (stays_notice air number text after is.1) at cut so }
line_goes net opening history entries before done rest air line.StandbyBurst own others text after is at cut so =
    record { knows = tt; so = quiet_goes net opening history entries before done rest air own others after (stays_burst net air text after is.1) at cut so }

-- what lines know, and how the air stands behind them
pub record AreLinesGone (net : Net) (opening : List Change) (history entries before : List Entry) (air : AirState) (lines : List AirLine) (own : List Entry) (text : List ℕ) (after : AirState)
    (played : PlaysAirLines net air lines own text after) : Type 0 where
  pub know : LinesKnow (opening ++ changes_of history) entries before net air lines own text after played
  pub so : IsBehind opening (history ++ entries) after

lines_go : (net : Net) (opening : List Change) (history entries before done rest : List Entry) (air : AirState) (lines : List AirLine) (own : List Entry) (text : List ℕ) (after : AirState)
    (played : PlaysAirLines net air lines own text after) → IsAt net opening history entries before done rest → calls_of rest 0 ≡ own → IsBehind opening (history ++ done) air
    → AreLinesGone net opening history entries before air lines own text after played
lines_go net opening history entries before done rest air [] own text after (none, nothing, is) at own_is so = record {
  know = tt;
  so = subst (λ (l : List Entry). IsBehind opening (history ++ l) after) (sym at.parts)
      (goes_on net opening history entries before done rest rest [] after at (sym (append-nil rest)) (stays_behind opening (history ++ done) air after (ap newest_in is) so));
}
lines_go net opening history entries before done rest air (first ∷ lines) own text after (between, mine, others, begun, ending, one, more, all, text_is) at own_is so =
    let cuts = cut rest mine others (own_is ∙ all) in
    let gone = line_goes net opening history entries before done rest air first mine others begun between one at cuts so in
    let there : IsAt net opening history entries (before ++ mine) (done ++ cuts.first) cuts.rest =
    record {
      follow = at.follow;
      legal = at.legal;
      parts = at.parts ∙ ap (λ (l : List Entry). done ++ l) cuts.parts ∙ sym (append_assoc done cuts.first cuts.rest);
      own = calls-append done cuts.first ∙ ap (λ (l : List Entry). l ++ calls_of cuts.first 0) at.own ∙ ap (λ (l : List Entry). before ++ l) cuts.own_is;
    } in
    let later = lines_go net opening history entries (before ++ mine) (done ++ cuts.first) cuts.rest between lines others ending after more there cuts.others_are gone.so in
    record { know = (gone.knows, later.know); so = later.so }

-- the lines of a round
pub round_goes : (net : Net) (opening : List Change) (history entries : List Entry) (air : AirState) (lines : List AirLine) (text : List ℕ) (after : AirState)
    (played : PlaysAirLines net air lines (calls_of entries 0) text after) → Follows net opening → Legal net opening (history ++ entries) → IsBehind opening history air
    → AreLinesGone net opening history entries [] air lines (calls_of entries 0) text after played
round_goes net opening history entries air lines text after played follow legal so =
    lines_go net opening history entries [] [] entries air lines (calls_of entries 0) text after played
    (record { follow = follow; legal = legal; parts = refl; own = refl }) refl
    (subst (λ (l : List Entry). IsBehind opening l air) (sym (append-nil history)) so)
