-- The lines of a desk, done one after the other.
use Rattle.std.proofs.Common.{◌≡◌, ℕ, suc, ◌+◌, ◌<◌, List, [], ◌∷◌, ◌++◌, length, take, get_or, Some, map, refl, sym, ap, ◌∙◌, subst, append_assoc, length-append, arith}
use Rattle.std.specs.List.{flat_map}
use Rattle.std.proofs.Math.Seq.{take-suc}
use Rattle.std.proofs.lemmas.Grind.{flat_map-append}
use Rattle.std.proofs.lemmas.List.{append-nil, map-append}
use Rattle.std.proofs.lemmas.List.Elements.{All-append, All-nil, All-cons, filter_map-append}
use Rattle.bt_frame.proofs.Pairs.{AllPairs-append}
use Rattle.bt_frame.specs.declared.numbers.TermNo.{TermNo}
use Rattle.bt_net.specs.Network.{Net}
use Rattle.bt_demand.specs.declared.plan.Plan.{Plan}
use Rattle.bt_journal.specs.declared.call.Call.{Call}
use Rattle.bt_journal.specs.declared.call.Call.TheVariants as call
use Rattle.bt_journal.specs.declared.call.Edit.{Edit}
use Rattle.bt_journal.specs.declared.entry.Entry.{Entry}
use Rattle.bt_journal.specs.Journal.{changes_of, change_made}
use Rattle.bt_shared.specs.Plans.{last_of}
use Rattle.bt_script.specs.declared.script.DeskLine.{DeskLine}
use Rattle.bt_script.specs.declared.script.DeskLine.TheVariants as desk_line
use Rattle.bt_timeline.specs.Timeline.{entry_line}
use Rattle.bt_round.specs.Desks.{asked_by_line, shown_by_line, desk_text, plan_shown}
use Rattle.bt_round.specs.Lent.{IsLent, IsNoNewer, Rises}
use Rattle.bt_round.specs.Done.{DeskDone}
use Rattle.bt_round.proofs.Lent.{lent_across, lent_last, lent_later, lent_sooner, rises_on, rises_same}

-- what an entry asks
abbrev pub call_in : Entry → Call
call_in entry = entry.call

-- the entry is this caller's
abbrev pub IsBy : ℕ → Entry → Type 0
IsBy caller entry = entry.caller ≡ caller

one_more : (n : ℕ) → n + 1 ≡ suc n
one_more n = omega arith

-- two pieces one behind the other
pub two_pieces : {A : Type 0} (before first second : List A) (between after : List A) → between ≡ before ++ first → after ≡ between ++ second
    → after ≡ before ++ (first ++ second)
two_pieces before first second between after one two = two ∙ ap (λ x. x ++ second) one ∙ append_assoc before first second

-- the changes of more entries stand behind the others
pub changes_of-append : (a b : List Entry) → changes_of (a ++ b) ≡ changes_of a ++ changes_of b
changes_of-append a b = filter_map-append (λ (entry : Entry). change_made entry.call entry.reply) a b

-- all calls but the first
abbrev others_of : List Call → List Call
others_of [] = []
others_of (first ∷ rest) = rest

-- the lines of one line more stand behind the others, where each line so far has its entry or its plan
desk_text-append : (net : Net) (desk : ℕ) (lines more : List DeskLine) (entries others : List Entry) (shown later : List Plan)
    → map call_in entries ≡ flat_map asked_by_line lines → length shown ≡ length (flat_map shown_by_line lines)
    → desk_text net desk (lines ++ more) (entries ++ others) (shown ++ later) ≡ desk_text net desk lines entries shown ++ desk_text net desk more others later
desk_text-append net desk [] more [] others [] later calls counted = refl
desk_text-append net desk [] more (entry ∷ entries) others shown later calls counted = absurd (omega (arith, ap length calls))
desk_text-append net desk [] more [] others (plan ∷ shown) later calls counted = absurd (omega (arith, counted))
desk_text-append net desk (desk_line.Edit edit ∷ lines) more [] others shown later calls counted = absurd (omega (arith, ap length calls))
desk_text-append net desk (desk_line.Edit edit ∷ lines) more (entry ∷ entries) others shown later calls counted =
    ap (λ (l : List ℕ). entry_line net (Some desk) entry ++ l)
    (desk_text-append net desk lines more entries others shown later (ap others_of calls) counted)
    ∙ sym (append_assoc (entry_line net (Some desk) entry) (desk_text net desk lines entries shown) (desk_text net desk more others later))
desk_text-append net desk (desk_line.Show terminal ∷ lines) more entries others [] later calls counted = absurd (omega (arith, counted))
desk_text-append net desk (desk_line.Show terminal ∷ lines) more entries others (plan ∷ shown) later calls counted =
    ap (λ (l : List ℕ). plan_shown net desk plan terminal ++ l)
    (desk_text-append net desk lines more entries others shown later calls (omega (arith, counted)))
    ∙ sym (append_assoc (plan_shown net desk plan terminal) (desk_text net desk lines entries shown) (desk_text net desk more others later))

-- no lines yet
pub desk_begins : (net : Net) (desk : ℕ) (seen : List Plan) (history : List Entry) (text : List ℕ) → DeskDone net desk [] seen seen history history text text
desk_begins net desk seen history text = record {
  own = [];
  shown = [];
  calls = refl;
  callers = All-nil (IsBy (desk + 1));
  counted = refl;
  lent = All-nil (IsLent seen seen);
  ascend = λ i j d less within. absurd (omega (arith, within));
  begins = rises_same seen;
  kept = sym (append-nil history);
  printed = sym (append-nil text);
}

-- more lines
desk_goes_on : (net : Net) (desk : ℕ) (lines more : List DeskLine) (r0 r1 r2 : List Plan) (h0 h1 h2 : List Entry) (t0 t1 t2 : List ℕ)
    → DeskDone net desk lines r0 r1 h0 h1 t0 t1 → DeskDone net desk more r1 r2 h1 h2 t1 t2 → DeskDone net desk (lines ++ more) r0 r2 h0 h2 t0 t2
desk_goes_on net desk lines more r0 r1 r2 h0 h1 h2 t0 t1 t2 one two = record {
  own = one.own ++ two.own;
  shown = one.shown ++ two.shown;
  calls = map-append call_in one.own two.own
      ∙ ap (λ (x : List Call). x ++ map call_in two.own) one.calls
      ∙ ap (λ (x : List Call). flat_map asked_by_line lines ++ x) two.calls
      ∙ sym (flat_map-append asked_by_line lines more);
  callers = All-append (IsBy (desk + 1)) one.own two.own one.callers two.callers;
  counted = omega (
    arith,
    length-append one.shown two.shown,
    one.counted,
    two.counted,
    ap length (flat_map-append shown_by_line lines more),
    length-append (flat_map shown_by_line lines) (flat_map shown_by_line more),
  );
  lent = All-append (IsLent r0 r2) one.shown two.shown (λ k d within. lent_sooner r0 r1 r2 _ two.begins (one.lent k d within)) (λ k d within. lent_later r0 r1 r2 _ one.begins (two.lent k d within));
  ascend = AllPairs-append IsNoNewer one.shown two.shown one.ascend two.ascend (lent_across r0 r1 r2 one.shown two.shown one.lent two.lent);
  begins = rises_on r0 r1 r2 one.begins two.begins;
  kept = two_pieces h0 one.own two.own h1 h2 one.kept two.kept;
  printed = two_pieces t0 (desk_text net desk lines one.own one.shown) (desk_text net desk more two.own two.shown) t1 t2 one.printed two.printed
      ∙ ap (λ (x : List ℕ). t0 ++ x) (sym (desk_text-append net desk lines more one.own two.own one.shown two.shown one.calls one.counted));
}

-- one line more, as a loop takes them
pub desk_turn : (net : Net) (desk : ℕ) (lines : List DeskLine) (index : ℕ) (line : DeskLine) (r0 r1 r2 : List Plan) (h0 h1 h2 : List Entry) (t0 t1 t2 : List ℕ) → index < length lines
    → line ≡ get_or lines index line → DeskDone net desk (take index lines) r0 r1 h0 h1 t0 t1
    → DeskDone net desk (line ∷ []) r1 r2 h1 h2 t1 t2 → DeskDone net desk (take (index + 1) lines) r0 r2 h0 h2 t0 t2
desk_turn net desk lines index line r0 r1 r2 h0 h1 h2 t0 t1 t2 within is so one =
    let next : take (index + 1) lines ≡ take index lines ++ line ∷ [] =
    ap (λ n. take n lines) (one_more index) ∙ take-suc lines index line within ∙ ap (λ (x : DeskLine). take index lines ++ x ∷ []) (sym is) in
    subst (λ (l : List DeskLine). DeskDone net desk l r0 r2 h0 h2 t0 t2) (sym next) (desk_goes_on net desk (take index lines) (line ∷ []) r0 r1 r2 h0 h1 h2 t0 t1 t2 so one)

-- an edit was asked, and its line printed
pub desk_edited : (net : Net) (desk : ℕ) (edit : Edit) (entry : Entry) (seen : List Plan) (h0 h1 : List Entry) (t0 t1 : List ℕ) → entry.caller ≡ desk + 1 → entry.call ≡ call.Edit edit
    → h1 ≡ h0 ++ entry ∷ [] → t1 ≡ t0 ++ entry_line net (Some desk) entry → DeskDone net desk (desk_line.Edit edit ∷ []) seen seen h0 h1 t0 t1
desk_edited net desk edit entry seen h0 h1 t0 t1 caller asked kept printed = record {
  own = entry ∷ [];
  shown = [];
  calls = ap (λ (c : Call). c ∷ []) asked;
  callers = All-cons (IsBy (desk + 1)) entry [] caller (All-nil (IsBy (desk + 1)));
  counted = refl;
  lent = All-nil (IsLent seen seen);
  ascend = λ i j d less within. absurd (omega (arith, within));
  begins = rises_same seen;
  kept = kept;
  printed = printed ∙ ap (λ (l : List ℕ). t0 ++ l) (sym (append-nil (entry_line net (Some desk) entry)));
}

-- a plan that the reader lent was shown
pub desk_shown : (net : Net) (desk : ℕ) (terminal : TermNo) (plan : Plan) (seen over : List Plan) (history : List Entry) (t0 t1 : List ℕ) → Rises seen over → last_of over ≡ Some plan
    → t1 ≡ t0 ++ plan_shown net desk plan terminal → DeskDone net desk (desk_line.Show terminal ∷ []) seen over history history t0 t1
desk_shown net desk terminal plan seen over history t0 t1 up last printed = record {
  own = [];
  shown = plan ∷ [];
  calls = refl;
  callers = All-nil (IsBy (desk + 1));
  counted = refl;
  lent = All-cons (IsLent seen over) plan [] (lent_last seen over plan last up.rises) (All-nil (IsLent seen over));
  ascend = λ i j d less within. absurd (omega (arith, less, within));
  begins = up;
  kept = sym (append-nil history);
  printed = printed ∙ ap (λ (l : List ℕ). t0 ++ l) (sym (append-nil (plan_shown net desk plan terminal)));
}
