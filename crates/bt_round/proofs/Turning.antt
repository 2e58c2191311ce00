-- The parts of the centre's turn, joined.
use Rattle.std.proofs.Common.{◌≡◌, ℕ, nat_lt, Bool, true, false, if◌then◌else◌, List, [], ◌∷◌, ◌++◌, Option, Some, None, IfSome, refl, sym, ap, ◌∙◌, subst, append_assoc}
use Rattle.std.proofs.lemmas.List.{append-nil}
use Rattle.std.proofs.lemmas.List.Elements.{All-cons, All-nil}
use Rattle.bt_frame.specs.declared.numbers.EditionNo.{EditionNo}
use Rattle.bt_net.specs.Network.{Net}
use Rattle.bt_demand.specs.declared.plan.Plan.{Plan}
use Rattle.bt_air.specs.declared.order.Order.{Order}
use Rattle.bt_history.specs.Changes.{newest}
use Rattle.bt_history.specs.Machine.{Step, newer_than}
use Rattle.bt_journal.specs.declared.call.Call.{Call}
use Rattle.bt_journal.specs.declared.call.Call.TheVariants as call
use Rattle.bt_journal.specs.declared.entry.Entry.{Entry}
use Rattle.bt_journal.specs.declared.reply.Reply.TheVariants as replies
use Rattle.bt_site.specs.Event.{Turn}
use Rattle.bt_round.specs.AirLines.{AirState, PlaysOrder, PlaysTurn, PlaysTurnIf, PlaysTurning, TakesTurn, back_of, having, installing, is_marked, mark_of, newest_in, sends_text, target_of, turn_text_by, turning, wanted_in}
use Rattle.bt_round.specs.Callers.{Calling, IsAnswered}
use Rattle.bt_timeline.specs.Air.{turn_nomark_line}
use Rattle.bt_round.specs.Worker.{Asks}

-- nothing is asked where no order is wanted
pub none-asked : (net : Net) (air : AirState) (want : Option Order) (history : List Entry) (text : List ℕ) → want ≡ None
    → Asks (PlaysOrder net air want) air history history text text
none-asked net air want history text none = record {
  entries = [];
  own = [];
  played = subst (λ (w : Option Order). PlaysOrder net air w [] [] air) (sym none) (refl, refl);
  callers = All-nil (λ (entry : Entry). entry.caller ≡ 0);
  kept = sym (append-nil history);
  added = sym (append-nil text);
}

holds-known : (P : Plan → Type 0) (b : Bool) (plan : Plan) → P plan → IfSome (if b then Some plan else None) P
holds-known P true plan holds = holds
holds-known P false plan holds = tt

-- and what holds of the newest plan holds of it
pub newer-holds : (P : Plan → Type 0) (after : EditionNo) (plan : Plan) (newer : Option Plan) → newer ≡ newer_than after plan → P plan → IfSome newer P
newer-holds P after plan newer is holds = subst (λ (n : Option Plan). IfSome n P) (sym is) (holds-known P (nat_lt after.0 plan.edition.0) plan holds)

same-newer : (a b : Option Plan) → replies.Newest a ≡ replies.Newest b → a ≡ b
same-newer a b e = cc

-- what the book lends after that edition
pub lent-newer : {caller : Calling} (net : Net) (entry : Entry) (after : EditionNo) (newer : Option Plan) (so : IsAnswered net caller entry) → entry.call ≡ call.Newest after
    → entry.reply ≡ replies.Newest newer → newer ≡ newer_than after (newest so.old.changes)
lent-newer net entry after newer so asked is =
    let step : Step net so.old (call.Newest after) entry.reply so.new = subst (λ (c : Call). Step net so.old c entry.reply so.new) asked so.step in
    same-newer newer (newer_than after (newest so.old.changes)) (sym is ∙ step.answered.0)

-- the text of a turn: its line, and what it sends
pub turn-told : (net : Net) (air : AirState) (target : EditionNo) (t0 t1 t2 heading : List ℕ) → target ≡ target_of air → t1 ≡ t0 ++ heading
    → t2 ≡ t1 ++ sends_text net air (Turn target) → t2 ≡ t0 ++ (heading ++ sends_text net air (turning air))
turn-told net air target t0 t1 t2 heading is headed added =
    added ∙ ap (λ (l : List ℕ). l ++ sends_text net air (Turn target)) headed
    ∙ append_assoc t0 heading (sends_text net air (Turn target))
    ∙ ap (λ (e : EditionNo). t0 ++ (heading ++ sends_text net air (Turn e))) is

-- the book was asked, the plan joined, the centre had its turn, and the order was asked to be placed
pub turn-done : (net : Net) (air there now after : AirState) (asked : Entry) (newer : Option Plan) (h0 h1 h2 : List Entry) (t0 t1 t2 : List ℕ)
    → asked.caller ≡ 0 → asked.call ≡ call.Newest (newest_in air) → asked.reply ≡ replies.Newest newer → h1 ≡ h0 ++ asked ∷ []
    → there ≡ installing air newer → now ≡ having there (turning there)
    → t1 ≡ t0 ++ (turn_text_by (mark_of there) (back_of there) (newest_in there) ++ sends_text net there (turning there))
    → Asks (PlaysOrder net now (wanted_in now)) after h1 h2 t1 t2 → Asks (TakesTurn net air) after h0 h2 t0 t2
turn-done net air there now after asked newer h0 h1 h2 t0 t1 t2 caller called replied kept installed turned told placed =
    let first = turn_text_by (mark_of there) (back_of there) (newest_in there) ++ sends_text net there (turning there) in
    let order : PlaysOrder net (having there (turning there)) (wanted_in (having there (turning there))) placed.entries placed.own after =
    subst (λ (a : AirState). PlaysOrder net a (wanted_in a) placed.entries placed.own after) turned placed.played in
    record {
      entries = asked ∷ placed.entries;
      own = first ++ placed.own;
      played = record {
        asked = asked;
        others = placed.entries;
        all = refl;
        newer = newer;
        call = called;
        reply = replied;
        turned = subst (λ (a : AirState). PlaysTurning net a placed.entries (first ++ placed.own) after) installed
            (record { rest = placed.own; placed = order; printed = refl });
      };
      callers = All-cons (λ (e : Entry). e.caller ≡ 0) asked placed.entries caller placed.callers;
      kept = placed.kept ∙ ap (λ (h : List Entry). h ++ placed.entries) kept ∙ append_assoc h0 (asked ∷ []) placed.entries;
      added = placed.added ∙ ap (λ (t : List ℕ). t ++ placed.own) told ∙ append_assoc t0 first placed.own;
    }

-- by whether the centre knows of a superframe
turn-if : (net : Net) (marked : Bool) (air after : AirState) (h0 h1 : List Entry) (t0 t1 : List ℕ) → marked ≡ is_marked air
    → Asks (PlaysTurnIf marked net air) after h0 h1 t0 t1 → Asks (PlaysTurn net air) after h0 h1 t0 t1
turn-if net marked air after h0 h1 t0 t1 is so = subst (λ (m : Bool). Asks (PlaysTurnIf m net air) after h0 h1 t0 t1) is so

-- where it does, it had its turn
pub turn-marked : (net : Net) (marked : Bool) (air after : AirState) (h0 h1 : List Entry) (t0 t1 : List ℕ) → marked ≡ is_marked air → marked ≡ true
    → Asks (TakesTurn net air) after h0 h1 t0 t1 → Asks (PlaysTurn net air) after h0 h1 t0 t1
turn-marked net marked air after h0 h1 t0 t1 is known so = turn-if net true air after h0 h1 t0 t1 (sym known ∙ is) so

-- where it does not, it has none
pub turn-unmarked : (net : Net) (marked : Bool) (air : AirState) (history : List Entry) (t0 t1 : List ℕ) → marked ≡ is_marked air → marked ≡ false
    → t1 ≡ t0 ++ turn_nomark_line → Asks (PlaysTurn net air) air history history t0 t1
turn-unmarked net marked air history t0 t1 is known added =
    turn-if net false air air history history t0 t1 (sym known ∙ is) (record {
      entries = [];
      own = turn_nomark_line;
      played = (refl, refl, refl);
      callers = All-nil (λ (entry : Entry). entry.caller ≡ 0);
      kept = sym (append-nil history);
      added = added;
    })
