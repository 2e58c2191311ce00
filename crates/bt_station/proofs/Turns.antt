-- The turns of a station, one line after the other, and how it ends.
use Rattle.std.proofs.Common.{◌≡◌, inl, inr, ℕ, ◌+◌, ◌≤◌, Result, Err, List, [], ◌∷◌, ◌++◌, length, length-append, Option, Some, None, refl, sym, ap, ◌∙◌, subst, append_assoc, arith}
use Rattle.std.specs.Prelude.{IfSome, IsErrOf}
use Rattle.std.proofs.lemmas.List.{append-nil}
use Rattle.bt_net.specs.Network.{Net}
use Rattle.bt_outside.specs.Told.{GainsPrefix, Rose, gained}
use Rattle.bt_outside.specs.declared.sink.SinkFault.{SinkFault}
use Rattle.bt_outside.specs.declared.sink.SinkFault.TheVariants as sink
use Rattle.bt_outside.specs.declared.source.Incoming.{Incoming}
use Rattle.bt_outside.specs.Input.{Comes, given_by, said_by}
use Rattle.bt_outside.specs.Talk.{Shown, Turn, Heard, Said, heard, said, took}
use Rattle.bt_frame.specs.declared.limits.TheConstants.{MOST_STATION_LINE_BYTES}
use Rattle.bt_station.specs.declared.station.Station.{Station}
use Rattle.bt_station.specs.declared.talk.InputEnd.{InputEnd}
use Rattle.bt_station.specs.declared.talk.InputEnd.TheVariants as ending
use Rattle.bt_station.specs.Going.{GaveSince, HasHeard, IsGoing}
use Rattle.bt_station.specs.Station.{after, answer, opening_of}
use Rattle.bt_station.specs.Talked.{Talked, spoken}
use Rattle.bt_station.specs.Turns.{StationEnds, after_all, turns_from, turns_of}
use Rattle.bt_station.specs.Lines.{input_fault_line}

-- what came of an input
abbrev pub Came : Type 0
Came = Option (List ℕ)

spoken-append : (a b : List Turn) → spoken (a ++ b) ≡ spoken a ++ spoken b
spoken-append [] b = refl
spoken-append (Heard line ∷ a) b = spoken-append a b
spoken-append (Said piece shown ∷ a) b = ap (λ (t : List ℕ). piece ++ t) (spoken-append a b) ∙ sym (append_assoc piece (spoken a) (spoken b))

took-append : (turns : Option (List Turn)) (a b : List Turn) → took (took turns a) b ≡ took turns (a ++ b)
took-append None a b = refl
took-append (Some turns) a b = ap Some (append_assoc turns a b)

pub took-nil : (turns : Option (List Turn)) → turns ≡ took turns []
took-nil None = refl
took-nil (Some turns) = ap Some (sym (append-nil turns))

pub gained-nil : (told : Option (List ℕ)) → told ≡ gained told []
gained-nil None = refl
gained-nil (Some held) = ap Some (sym (append-nil held))

gained-append : (told : Option (List ℕ)) (a b : List ℕ) → gained (gained told a) b ≡ gained told (a ++ b)
gained-append None a b = refl
gained-append (Some held) a b = ap Some (append_assoc held a b)

-- these turns were taken between two moments, of which this was told
pub record Between (turns : List Turn) (before after : Option (List ℕ)) (t0 t1 : Option (List Turn)) : Type 0 where
  pub wrote : after ≡ gained before (spoken turns)
  pub turn : t1 ≡ took t0 turns

-- none yet
pub none_yet : (told : Option (List ℕ)) (turns : Option (List Turn)) → Between [] told told turns turns
none_yet told turns = record { wrote = gained-nil told; turn = took-nil turns }

-- a piece more was said
pub one_said : (turns : List Turn) (piece : List ℕ) (shown : Shown) (before between after : Option (List ℕ)) (t0 t1 t2 : Option (List Turn)) → Between turns before between t0 t1
    → after ≡ gained between piece → t2 ≡ took t1 (said piece shown) → Between (turns ++ Said piece shown ∷ []) before after t0 t2
one_said turns piece shown before between after t0 t1 t2 so wrote turn = record {
  wrote = wrote ∙ ap (λ (t : Option (List ℕ)). gained t piece) so.wrote ∙ gained-append before (spoken turns) piece
      ∙ ap (gained before) (sym (spoken-append turns (Said piece shown ∷ []) ∙ ap (λ (t : List ℕ). spoken turns ++ t) (append-nil piece)));
  turn = turn ∙ ap (λ (t : Option (List Turn)). took t (said piece shown)) so.turn ∙ took-append t0 turns (said piece shown);
}

-- a line more was heard
pub one_heard : (turns : List Turn) (came : Incoming) (before between after : Option (List ℕ)) (t0 t1 t2 : Option (List Turn)) → Between turns before between t0 t1
    → after ≡ between → t2 ≡ took t1 (heard (Some came)) → Between (turns ++ Heard (said_by came) ∷ []) before after t0 t2
one_heard turns came before between after t0 t1 t2 so same turn = record {
  wrote = same ∙ so.wrote ∙ ap (gained before) (sym (spoken-append turns (Heard (said_by came) ∷ []) ∙ append-nil (spoken turns)));
  turn = turn ∙ ap (λ (t : Option (List Turn)). took t (heard (Some came))) so.turn ∙ took-append t0 turns (heard (Some came));
}

-- the end of the input was heard
pub end_heard : (turns : List Turn) (before between after : Option (List ℕ)) (t0 t1 t2 : Option (List Turn)) → Between turns before between t0 t1
    → after ≡ between → t2 ≡ took t1 [] → Between turns before after t0 t2
end_heard turns before between after t0 t1 t2 so same turn = record { wrote = same ∙ so.wrote; turn = turn ∙ sym (took-nil t1) ∙ so.turn }

-- the same turns
pub same_turns : (turns : List Turn) (before between after : Option (List ℕ)) (t0 t1 t2 : Option (List Turn)) → Between turns before between t0 t1
    → after ≡ between → t2 ≡ t1 → Between turns before after t0 t2
same_turns turns before between after t0 t1 t2 so same turn = record { wrote = same ∙ so.wrote; turn = turn ∙ so.turn }

-- the station, and its turns, with one line more
after_more : (net : Net) (s : Station) (lines : List Came) (one : Came) → after_all net s (lines ++ one ∷ []) ≡ after net (after_all net s lines) one
after_more net s [] one = refl
after_more net s (first ∷ lines) one = after_more net (after net s first) lines one

from_more : (net : Net) (shown : Shown) (at n : ℕ) (s : Station) (lines : List Came) (one : Came) → n ≡ at + length lines
    → turns_from net shown at s (lines ++ one ∷ []) ≡ turns_from net shown at s lines ++ Heard one ∷ Said (answer net n (after_all net s lines) one) shown ∷ []
from_more net shown at n s [] one is = ap (λ (m : ℕ). Heard one ∷ Said (answer net m s one) shown ∷ []) (omega (arith, is))
from_more net shown at n s (first ∷ lines) one is =
    ap (λ (l : List Turn). Heard first ∷ Said (answer net at s first) shown ∷ l) (from_more net shown (at + 1) n (after net s first) lines one (omega (arith, is)))

turns_more : (net : Net) (shown : Shown) (n : ℕ) (s : Station) (lines : List Came) (one : Came) → length lines + 1 ≡ n
    → turns_of net shown s (lines ++ one ∷ []) ≡ (turns_of net shown s lines ++ Heard one ∷ []) ++ Said (answer net n (after_all net s lines) one) shown ∷ []
turns_more net shown n s lines one is =
    ap (λ (l : List Turn). Said (opening_of s) shown ∷ l) (from_more net shown 1 n s lines one (omega (arith, is)))
    ∙ sym (append_assoc (turns_of net shown s lines) (Heard one ∷ []) (Said (answer net n (after_all net s lines) one) shown ∷ []))

gave_more : (coming now next : Option (List ℕ)) (lines : List Came) (came : Incoming) → GaveSince coming now lines → Comes MOST_STATION_LINE_BYTES now (Some came) next → GaveSince coming next (lines ++ said_by came ∷ [])
gave_more (Some bytes) (Some rest) (Some left) lines came gave comes =
    gave ∙ ap (λ (l : List Came). lines ++ l) comes ∙ sym (append_assoc lines (said_by came ∷ []) _)
gave_more None None None lines came gave comes = tt
gave_more (Some bytes) (Some rest) None lines came gave comes = absurd comes
gave_more (Some bytes) None next lines came gave comes = absurd gave
gave_more None (Some rest) next lines came gave comes = absurd gave
gave_more None None (Some left) lines came gave comes = absurd comes

gave_none : (coming : Option (List ℕ)) → GaveSince coming coming []
gave_none (Some bytes) = refl
gave_none None = tt

-- lines were given
abbrev pub Given : Option (List ℕ) → List Came → Type 0
Given coming lines = IfSome coming (λ bytes. (more : List Came) × (given_by MOST_STATION_LINE_BYTES bytes ≡ lines ++ more))

pub were_given : (coming now : Option (List ℕ)) (lines : List Came) → GaveSince coming now lines → Given coming lines
were_given (Some bytes) (Some rest) lines gave = (given_by MOST_STATION_LINE_BYTES rest, gave)
were_given None now lines gave = tt
were_given (Some bytes) None lines gave = absurd gave

-- and nothing is left
all_given : (coming now next : Option (List ℕ)) (lines : List Came) → GaveSince coming now lines → Comes MOST_STATION_LINE_BYTES now None next → IfSome coming (λ bytes. given_by MOST_STATION_LINE_BYTES bytes ≡ lines)
all_given (Some bytes) (Some rest) (Some left) lines gave (none, nothing) = gave ∙ ap (λ (l : List Came). lines ++ l) none ∙ append-nil lines
all_given (Some bytes) (Some rest) None lines gave comes = absurd comes
all_given (Some bytes) None next lines gave comes = absurd gave
all_given None now next lines gave comes = tt

-- nothing was given, of which one may say it
pub given_none : (coming : Option (List ℕ)) → Given coming []
given_none coming = were_given coming coming [] (gave_none coming)

-- a station at its start
pub going_first : (net : Net) (shown : Shown) (s : Station) (coming now before after : Option (List ℕ)) (t0 t1 : Option (List Turn)) → now ≡ coming
    → after ≡ gained before (opening_of s) → t1 ≡ took t0 (said (opening_of s) shown) → IsGoing net shown s 1 s coming now before after t0 t1
going_first net shown s coming now before after t0 t1 same wrote turn =
    let so = one_said [] (opening_of s) shown before before after t0 t0 t1 (none_yet before t0) wrote turn in
    record {
      lines = [];
      count = refl;
      state = refl;
      gave = subst (λ (c : Option (List ℕ)). GaveSince coming c []) (sym same) (gave_none coming);
      wrote = so.wrote;
      turn = so.turn;
    }

-- the turns up to there
taken_at : (net : Net) (shown : Shown) (start : Station) (at : ℕ) (s : Station) (coming now before after : Option (List ℕ)) (t0 t1 : Option (List Turn))
    → (so : IsGoing net shown start at s coming now before after t0 t1) → Between (turns_of net shown start so.lines) before after t0 t1
taken_at net shown start at s coming now before after t0 t1 so = record { wrote = so.wrote; turn = so.turn }

-- with one line more, heard and answered
pub going_more : (net : Net) (shown : Shown) (start : Station) (at : ℕ) (old new : Station) (came : Incoming) (piece : List ℕ) (coming now next left before b1 b2 final : Option (List ℕ)) (t0 t1 t2 t3 : Option (List Turn))
    → IsGoing net shown start at old coming now before b1 t0 t1 → Comes MOST_STATION_LINE_BYTES now (Some came) next → b2 ≡ b1 → t2 ≡ took t1 (heard (Some came))
    → new ≡ after net old (said_by came) → piece ≡ answer net at old (said_by came) → final ≡ gained b2 piece → t3 ≡ took t2 (said piece shown) → left ≡ next
    → IsGoing net shown start (at + 1) new coming left before final t0 t3
going_more net shown start at old new came piece coming now next left before b1 b2 final t0 t1 t2 t3 so comes same turn new_is piece_is wrote answered same_left =
    let one = said_by came in
    let heard_so = one_heard (turns_of net shown start so.lines) came before b1 b2 t0 t1 t2 (taken_at net shown start at old coming now before b1 t0 t1 so) same turn in
    let all = one_said (turns_of net shown start so.lines ++ Heard one ∷ []) piece shown before b2 final t0 t2 t3 heard_so wrote answered in
    let piece_as : piece ≡ answer net at (after_all net start so.lines) one = piece_is ∙ ap (λ (s : Station). answer net at s one) so.state in
    let turns : (turns_of net shown start so.lines ++ Heard one ∷ []) ++ Said piece shown ∷ [] ≡ turns_of net shown start (so.lines ++ one ∷ []) =
    ap (λ (p : List ℕ). (turns_of net shown start so.lines ++ Heard one ∷ []) ++ Said p shown ∷ []) piece_as ∙ sym (turns_more net shown at start so.lines one so.count) in
    record {
      lines = so.lines ++ one ∷ [];
      count = omega (arith, so.count, length-append so.lines (one ∷ []));
      state = new_is ∙ ap (λ (s : Station). after net s one) so.state ∙ sym (after_more net start so.lines one);
      gave = subst (λ (c : Option (List ℕ)). GaveSince coming c (so.lines ++ one ∷ [])) (sym same_left) (gave_more coming now next so.lines came so.gave comes);
      wrote = all.wrote ∙ ap (λ (l : List Turn). gained before (spoken l)) turns;
      turn = all.turn ∙ ap (λ (l : List Turn). took t0 l) turns;
    }

-- the input came to its end
pub heard_over : (net : Net) (talk : Talked) (start : Station) (at : ℕ) (s : Station) (now next b1 : Option (List ℕ)) (t1 : Option (List Turn))
    → IsGoing net talk.store start at s talk.coming now talk.output.before b1 talk.turns_before t1 → Comes MOST_STATION_LINE_BYTES now None next
    → talk.output.after ≡ b1 → talk.turns_after ≡ took t1 (heard None) → HasHeard net talk start ending.Over
heard_over net talk start at s now next b1 t1 so comes same turn =
    let all = end_heard (turns_of net talk.store start so.lines) talk.output.before b1 talk.output.after talk.turns_before t1 talk.turns_after
    (taken_at net talk.store start at s talk.coming now talk.output.before b1 talk.turns_before t1 so) same turn in
    record { lines = so.lines; stops = inl (all_given talk.coming now next so.lines so.gave comes); taken = record { wrote = all.wrote; turn = all.turn } }

-- the input failed
pub heard_fault : (net : Net) (talk : Talked) (start : Station) (at : ℕ) (s : Station) (now b1 : Option (List ℕ)) (t1 : Option (List Turn))
    → IsGoing net talk.store start at s talk.coming now talk.output.before b1 talk.turns_before t1 → Rose talk.unheard_before talk.unheard_after
    → talk.output.after ≡ b1 → talk.turns_after ≡ t1 → HasHeard net talk start ending.Failed
heard_fault net talk start at s now b1 t1 so rose same turn =
    let all = same_turns (turns_of net talk.store start so.lines) talk.output.before b1 talk.output.after talk.turns_before t1 talk.turns_after
    (taken_at net talk.store start at s talk.coming now talk.output.before b1 talk.turns_before t1 so) same turn in
    record { lines = so.lines; stops = (rose, were_given talk.coming now so.lines so.gave); taken = record { wrote = all.wrote; turn = all.turn } }

-- as many lines were heard as are counted
pub heard_all : (net : Net) (talk : Talked) (start : Station) (at : ℕ) (s : Station) (now : Option (List ℕ))
    → IsGoing net talk.store start at s talk.coming now talk.output.before talk.output.after talk.turns_before talk.turns_after → at ≡ 9223372036854775808 → HasHeard net talk start ending.Over
heard_all net talk start at s now so last = record {
  lines = so.lines;
  stops = inr (omega (arith, so.count, last), were_given talk.coming now so.lines so.gave);
  taken = record { wrote = so.wrote; turn = so.turn };
}

-- memory ran out over the next line
pub broken_off : (net : Net) (talk : Talked) (start : Station) (at : ℕ) (s : Station) (now b1 : Option (List ℕ)) (t1 : Option (List Turn)) (status : ℕ)
    → IsGoing net talk.store start at s talk.coming now talk.output.before b1 talk.turns_before t1 → talk.output.after ≡ b1 → talk.turns_after ≡ t1 → status ≡ 1 → StationEnds net talk start status
broken_off net talk start at s now b1 t1 status so same turn status_is =
    let all = same_turns (turns_of net talk.store start so.lines) talk.output.before b1 talk.output.after talk.turns_before t1 talk.turns_after
    (taken_at net talk.store start at s talk.coming now talk.output.before b1 talk.turns_before t1 so) same turn in
    inr (inr (record {
      lines = so.lines;
      given = were_given talk.coming now so.lines so.gave;
      turns = turns_of net talk.store start so.lines;
      more = [];
      first = sym (append-nil (turns_of net talk.store start so.lines));
      taken = record { wrote = all.wrote; turn = all.turn };
      status_is = status_is;
    }))

-- it ran out over the answer to a line that was heard
pub unanswered : (net : Net) (talk : Talked) (start : Station) (at : ℕ) (s : Station) (came : Incoming) (now next b1 : Option (List ℕ)) (t1 : Option (List Turn)) (status : ℕ)
    → IsGoing net talk.store start at s talk.coming now talk.output.before b1 talk.turns_before t1 → Comes MOST_STATION_LINE_BYTES now (Some came) next
    → talk.output.after ≡ b1 → talk.turns_after ≡ took t1 (heard (Some came)) → status ≡ 1 → StationEnds net talk start status
unanswered net talk start at s came now next b1 t1 status so comes same turn status_is =
    let one = said_by came in
    let all = one_heard (turns_of net talk.store start so.lines) came talk.output.before b1 talk.output.after talk.turns_before t1 talk.turns_after
    (taken_at net talk.store start at s talk.coming now talk.output.before b1 talk.turns_before t1 so) same turn in
    inr (inr (record {
      lines = so.lines ++ one ∷ [];
      given = were_given talk.coming next (so.lines ++ one ∷ []) (gave_more talk.coming now next so.lines came so.gave comes);
      turns = turns_of net talk.store start so.lines ++ Heard one ∷ [];
      more = Said (answer net at (after_all net start so.lines) one) talk.store ∷ [];
      first = turns_more net talk.store at start so.lines one so.count;
      taken = record { wrote = all.wrote; turn = all.turn };
      status_is = status_is;
    }))

-- the next piece was not said
unsaid : (net : Net) (talk : Talked) (start : Station) (lines : List Came) (turns : List Turn) (piece : List ℕ) (between : Option (List ℕ)) (t1 : Option (List Turn)) (why : SinkFault) (status : ℕ)
    → Given talk.coming lines → turns_of net talk.store start lines ≡ turns ++ Said piece talk.store ∷ [] → Between turns talk.output.before between talk.turns_before t1 → talk.turns_after ≡ t1
    → (why ≡ sink.Failed → Rose talk.output.faults_before talk.output.faults_after) → (why ≡ sink.Failed → GainsPrefix between piece talk.output.after) → (why ≡ sink.OutOfMemory → talk.output.after ≡ between)
    → (why ≡ sink.OutOfMemory → status ≡ 1) → (why ≡ sink.Failed → status ≡ 6) → StationEnds net talk start status
unsaid net talk start lines turns piece between t1 sink.OutOfMemory status given next so same rose gains kept early partly = inr (inr (record {
  lines = lines;
  given = given;
  turns = turns;
  more = Said piece talk.store ∷ [];
  first = next;
  taken = record { wrote = kept refl ∙ so.wrote; turn = same ∙ so.turn };
  status_is = early refl;
}))
unsaid net talk start lines turns piece between t1 sink.Failed status given next so same rose gains kept early partly = inr (inl (record {
  lines = lines;
  given = given;
  turns = turns;
  piece = piece;
  next = inl next;
  taken = record { failed = rose refl; wrote = subst (λ (t : Option (List ℕ)). GainsPrefix t piece talk.output.after) so.wrote (gains refl); turn = same ∙ so.turn };
  status_is = partly refl;
}))

-- the piece in which a station starts was not
pub opening_unsaid : (net : Net) (talk : Talked) (start : Station) (why : SinkFault) (status : ℕ) → talk.turns_after ≡ talk.turns_before
    → (why ≡ sink.Failed → Rose talk.output.faults_before talk.output.faults_after) → (why ≡ sink.Failed → GainsPrefix talk.output.before (opening_of start) talk.output.after)
    → (why ≡ sink.OutOfMemory → talk.output.after ≡ talk.output.before) → (why ≡ sink.OutOfMemory → status ≡ 1) → (why ≡ sink.Failed → status ≡ 6) → StationEnds net talk start status
opening_unsaid net talk start why status same rose gains kept early partly =
    unsaid net talk start [] [] (opening_of start) talk.output.before talk.turns_before why status (given_none talk.coming) refl (none_yet talk.output.before talk.turns_before) same rose gains kept early partly

-- the answer to a line was not
pub answer_unsaid : (net : Net) (talk : Talked) (start : Station) (at : ℕ) (s : Station) (came : Incoming) (piece : List ℕ) (now next b1 b2 : Option (List ℕ)) (t1 t2 : Option (List Turn)) (why : SinkFault) (status : ℕ)
    → IsGoing net talk.store start at s talk.coming now talk.output.before b1 talk.turns_before t1 → Comes MOST_STATION_LINE_BYTES now (Some came) next → b2 ≡ b1 → t2 ≡ took t1 (heard (Some came))
    → piece ≡ answer net at s (said_by came) → talk.turns_after ≡ t2
    → (why ≡ sink.Failed → Rose talk.output.faults_before talk.output.faults_after) → (why ≡ sink.Failed → GainsPrefix b2 piece talk.output.after)
    → (why ≡ sink.OutOfMemory → talk.output.after ≡ b2) → (why ≡ sink.OutOfMemory → status ≡ 1) → (why ≡ sink.Failed → status ≡ 6) → StationEnds net talk start status
answer_unsaid net talk start at s came piece now next b1 b2 t1 t2 why status so comes same turn piece_is last rose gains kept early partly =
    let one = said_by came in
    let heard_so = one_heard (turns_of net talk.store start so.lines) came talk.output.before b1 b2 talk.turns_before t1 t2
    (taken_at net talk.store start at s talk.coming now talk.output.before b1 talk.turns_before t1 so) same turn in
    let piece_as : piece ≡ answer net at (after_all net start so.lines) one = piece_is ∙ ap (λ (p : Station). answer net at p one) so.state in
    unsaid net talk start (so.lines ++ one ∷ []) (turns_of net talk.store start so.lines ++ Heard one ∷ []) piece b2 t2 why status
    (were_given talk.coming next (so.lines ++ one ∷ []) (gave_more talk.coming now next so.lines came so.gave comes))
    (turns_more net talk.store at start so.lines one so.count ∙ ap (λ (p : List ℕ). (turns_of net talk.store start so.lines ++ Heard one ∷ []) ++ Said p talk.store ∷ []) (sym piece_as))
    heard_so last rose gains kept early partly

-- a fault of a call is its result's
pub err_is : (why : SinkFault) → why ≡ sink.Failed → (let failed : Result (Unit {0}) SinkFault = Err why in IsErrOf failed sink.Failed)
err_is sink.Failed is = refl
err_is sink.OutOfMemory is = absurd cc

pub err_is_memory : (why : SinkFault) → why ≡ sink.OutOfMemory → (let failed : Result (Unit {0}) SinkFault = Err why in IsErrOf failed sink.OutOfMemory)
err_is_memory sink.OutOfMemory is = refl
err_is_memory sink.Failed is = absurd cc

pub rose_from : (f0 f1 f2 : ℕ) → f0 ≤ f1 → Rose f1 f2 → Rose f0 f2
rose_from f0 f1 f2 later (inl rose) = inl (omega (arith, later, rose))
rose_from f0 f1 f2 later (inr end) = inr end

-- what a talk told when its input had failed
abbrev pub talk_at : Talked → ℕ → Option (List ℕ) → ℕ → Option (List Turn) → Talked
talk_at talk unheard mid faults turns = record {
  coming = talk.coming;
  unheard_before = talk.unheard_before;
  unheard_after = unheard;
  output = record { before = talk.output.before; after = mid; faults_before = talk.output.faults_before; faults_after = faults };
  turns_before = talk.turns_before;
  turns_after = turns;
  store = talk.store;
}

fault_said_so : (net : Net) (talk : Talked) (s : Station) (u1 f1 : ℕ) (mid : Option (List ℕ)) (t1 : Option (List Turn)) → HasHeard net (talk_at talk u1 mid f1 t1) s ending.Failed
    → talk.unheard_after ≡ u1 → talk.output.after ≡ gained mid input_fault_line → talk.turns_after ≡ took t1 (said input_fault_line talk.store) → StationEnds net talk s 5
fault_said_so net talk s u1 f1 mid t1 so same wrote turn =
    let all = one_said (turns_of net talk.store s so.lines) input_fault_line talk.store talk.output.before mid talk.output.after talk.turns_before t1 talk.turns_after
    (record { wrote = so.taken.wrote; turn = so.taken.turn }) wrote turn in
    inl (record {
      lines = so.lines;
      end = ending.Failed;
      stops = (subst (λ (u : ℕ). Rose talk.unheard_before u) (sym same) so.stops.0, so.stops.1);
      taken = record { wrote = all.wrote; turn = all.turn };
      status_is = refl;
    })

-- the input failed, and that was said
pub fault_said : (net : Net) (talk : Talked) (s : Station) (u1 f1 : ℕ) (mid : Option (List ℕ)) (t1 : Option (List Turn)) (end : InputEnd) → end ≡ ending.Failed → HasHeard net (talk_at talk u1 mid f1 t1) s end
    → talk.unheard_after ≡ u1 → talk.output.after ≡ gained mid input_fault_line → talk.turns_after ≡ took t1 (said input_fault_line talk.store) → StationEnds net talk s 5
fault_said net talk s u1 f1 mid t1 end is so same wrote turn =
    fault_said_so net talk s u1 f1 mid t1 (subst (λ (e : InputEnd). HasHeard net (talk_at talk u1 mid f1 t1) s e) is so) same wrote turn

fault_unsaid_so : (net : Net) (talk : Talked) (s : Station) (u1 f1 : ℕ) (mid : Option (List ℕ)) (t1 : Option (List Turn)) (why : SinkFault) (status : ℕ) → HasHeard net (talk_at talk u1 mid f1 t1) s ending.Failed
    → talk.unheard_after ≡ u1 → talk.turns_after ≡ t1 → talk.output.faults_before ≤ f1 → (why ≡ sink.Failed → Rose f1 talk.output.faults_after) → (why ≡ sink.Failed → GainsPrefix mid input_fault_line talk.output.after)
    → (why ≡ sink.OutOfMemory → talk.output.after ≡ mid) → (why ≡ sink.OutOfMemory → status ≡ 1) → (why ≡ sink.Failed → status ≡ 6) → StationEnds net talk s status
fault_unsaid_so net talk s u1 f1 mid t1 sink.OutOfMemory status so same turn later rose gains kept early partly = inr (inr (record {
  lines = so.lines;
  given = so.stops.1;
  turns = turns_of net talk.store s so.lines;
  more = [];
  first = sym (append-nil (turns_of net talk.store s so.lines));
  taken = record { wrote = kept refl ∙ so.taken.wrote; turn = turn ∙ so.taken.turn };
  status_is = early refl;
}))
fault_unsaid_so net talk s u1 f1 mid t1 sink.Failed status so same turn later rose gains kept early partly = inr (inl (record {
  lines = so.lines;
  given = so.stops.1;
  turns = turns_of net talk.store s so.lines;
  piece = input_fault_line;
  next = inr (refl, refl, subst (λ (u : ℕ). Rose talk.unheard_before u) (sym same) so.stops.0);
  taken = record {
    failed = rose_from talk.output.faults_before f1 talk.output.faults_after later (rose refl);
    wrote = subst (λ (t : Option (List ℕ)). GainsPrefix t input_fault_line talk.output.after) so.taken.wrote (gains refl);
    turn = turn ∙ so.taken.turn;
  };
  status_is = partly refl;
}))

-- it failed, and that was not said
pub fault_unsaid : (net : Net) (talk : Talked) (s : Station) (u1 f1 : ℕ) (mid : Option (List ℕ)) (t1 : Option (List Turn)) (why : SinkFault) (status : ℕ) (end : InputEnd) → end ≡ ending.Failed
    → HasHeard net (talk_at talk u1 mid f1 t1) s end
    → talk.unheard_after ≡ u1 → talk.turns_after ≡ t1 → talk.output.faults_before ≤ f1 → (why ≡ sink.Failed → Rose f1 talk.output.faults_after) → (why ≡ sink.Failed → GainsPrefix mid input_fault_line talk.output.after)
    → (why ≡ sink.OutOfMemory → talk.output.after ≡ mid) → (why ≡ sink.OutOfMemory → status ≡ 1) → (why ≡ sink.Failed → status ≡ 6) → StationEnds net talk s status
fault_unsaid net talk s u1 f1 mid t1 why status end is so same turn later rose gains kept early partly =
    fault_unsaid_so net talk s u1 f1 mid t1 why status (subst (λ (e : InputEnd). HasHeard net (talk_at talk u1 mid f1 t1) s e) is so) same turn later rose gains kept early partly
