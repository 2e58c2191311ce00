-- The lines of the air, one after the other.
use Rattle.std.proofs.Common.{◌≡◌, ℕ, ◌+◌, ◌<◌, List, [], ◌∷◌, ◌++◌, length, take, get_or, refl, sym, ap, ◌∙◌, subst, append_assoc, Result, OnOk}
use Rattle.std.proofs.lemmas.Result.{on_ok_weaker}
use Rattle.std.proofs.lemmas.List.{append-nil, take_more}
use Rattle.std.proofs.lemmas.List.Elements.{All-append, All-nil}
use Rattle.bt_frame.specs.declared.numbers.EditionNo.{EditionNo}
use Rattle.bt_net.specs.Network.{Net}
use Rattle.bt_journal.specs.declared.entry.Entry.{Entry}
use Rattle.bt_script.specs.declared.script.AirLine.{AirLine}
use Rattle.bt_script.specs.declared.script.AirLine.TheVariants as line
use Rattle.bt_apart.specs.Apart.{ApartAir}
use Rattle.bt_round.specs.AirLines.{AirState, Simulated, Apart, PlaysAirLine, PlaysAirLines, PlaysSimulated}
use Rattle.bt_round.specs.Simulated.{SimulatedAir}
use Rattle.bt_round.specs.Worker.{Asks, IsOfSimulated, Plays, PlaysOwnLine}

-- a line that asks nothing of the book
pub asks-nothing : (line : List ℕ → AirState → Type 0) (air : AirState) (history : List Entry) (before text : List ℕ) → Plays line air before text
    → Asks (λ entries own after. (entries ≡ []) × line own after) air history history before text
asks-nothing line air history before text so = record {
  entries = [];
  own = so.own;
  played = (refl, so.played);
  callers = All-nil (λ (entry : Entry). entry.caller ≡ 0);
  kept = sym (append-nil history);
  added = so.added;
}

-- a line that is neither a turn nor one of going back or ahead is one that only a simulated air has
pub is-own : (one : AirLine) → (one ≡ line.Turn → ⊥) → ((edition : EditionNo) → one ≡ line.Back edition → ⊥) → (one ≡ line.Ahead → ⊥) → IsOfSimulated one
is-own line.Tick turn back ahead = tt
is-own line.Turn turn back ahead = absurd (turn refl)
is-own (line.Back edition) turn back ahead = absurd (back edition refl)
is-own line.Ahead turn back ahead = absurd (ahead refl)
is-own line.Flow turn back ahead = tt
is-own (line.Lose losing) turn back ahead = tt
is-own (line.Deliver number place) turn back ahead = tt
is-own line.Frame turn back ahead = tt
is-own (line.Reset terminal) turn back ahead = tt
is-own (line.StandbyHears number) turn back ahead = tt
is-own line.StandbyBurst turn back ahead = tt

-- such a line asks nothing of the book
own-played : (net : Net) (one : AirLine) (before after : AirState) (text : List ℕ) → IsOfSimulated one → PlaysSimulated (PlaysOwnLine net one) before text after
    → PlaysAirLine net before one [] text after
own-played net line.Tick before after text own so = (refl, so)
own-played net line.Turn before after text own so = absurd own
own-played net (line.Back edition) before after text own so = absurd own
own-played net line.Ahead before after text own so = absurd own
own-played net line.Flow before after text own so = (refl, so)
own-played net (line.Lose losing) before after text own so = (refl, so)
own-played net (line.Deliver number place) before after text own so = (refl, so)
own-played net line.Frame before after text own so = (refl, so)
own-played net (line.Reset terminal) before after text own so = (refl, so)
own-played net (line.StandbyHears number) before after text own so = (refl, so)
own-played net line.StandbyBurst before after text own so = (refl, so)

-- it is played where the air is a simulated one
pub simulated-line : (net : Net) (before : AirState) (air over : SimulatedAir) (one : AirLine) (history : List Entry) (t0 t1 : List ℕ) → before ≡ Simulated air → IsOfSimulated one
    → Plays (PlaysOwnLine net one air) over t0 t1 → Asks (PlaysAirLine net before one) (Simulated over) history history t0 t1
simulated-line net before air over one history t0 t1 is own so =
    subst (λ (b : AirState). Asks (PlaysAirLine net b one) (Simulated over) history history t0 t1) (sym is) (record {
      entries = [];
      own = so.own;
      played = own-played net one (Simulated air) (Simulated over) so.own own (over, so.played, refl);
      callers = All-nil (λ (entry : Entry). entry.caller ≡ 0);
      kept = sym (append-nil history);
      added = so.added;
    })

-- and does nothing where sites are apart
pub apart-line : (net : Net) (before : AirState) (air : ApartAir) (one : AirLine) (history : List Entry) (text : List ℕ) → before ≡ Apart air → IsOfSimulated one
    → Asks (PlaysAirLine net before one) before history history text text
apart-line net before air one history text is own =
    subst (λ (b : AirState). Asks (PlaysAirLine net b one) b history history text text) (sym is) (record {
      entries = [];
      own = [];
      played = own-played net one (Apart air) (Apart air) [] own (refl, refl);
      callers = All-nil (λ (entry : Entry). entry.caller ≡ 0);
      kept = sym (append-nil history);
      added = sym (append-nil text);
    })

-- before the first
pub lines-none : (net : Net) (air : AirState) (history : List Entry) (text : List ℕ) → Asks (PlaysAirLines net air []) air history history text text
lines-none net air history text = record {
  entries = [];
  own = [];
  played = (refl, refl, refl);
  callers = All-nil (λ (entry : Entry). entry.caller ≡ 0);
  kept = sym (append-nil history);
  added = sym (append-nil text);
}

play-last : (net : Net) (a b c : AirState) (xs : List AirLine) (x : AirLine) (es ds : List Entry) (s t : List ℕ) → PlaysAirLines net a xs es s b → PlaysAirLine net b x ds t c
    → PlaysAirLines net a (xs ++ x ∷ []) (es ++ ds) (s ++ t) c
play-last net a b c [] x es ds s t so one = (
  c,
  ds,
  [],
  t,
  [],
  subst (λ (air : AirState). PlaysAirLine net air x ds t c) so.2 one,
  (refl, refl, refl),
  ap (λ (l : List Entry). l ++ ds) so.0 ∙ sym (append-nil ds),
  ap (λ (l : List ℕ). l ++ t) so.1 ∙ sym (append-nil t),
)
play-last net a b c (y ∷ xs) x es ds s t so one = (
  so.0,
  so.1,
  so.2 ++ ds,
  so.3,
  so.4 ++ t,
  so.5,
  play-last net so.0 b c xs x so.2 ds so.4 t so.6 one,
  ap (λ (l : List Entry). l ++ ds) so.7 ∙ append_assoc so.1 so.2 ds,
  ap (λ (l : List ℕ). l ++ t) so.8 ∙ append_assoc so.3 so.4 t,
)

lines-last : (net : Net) (a b c : AirState) (xs : List AirLine) (x : AirLine) (h0 h1 h2 : List Entry) (t0 t1 t2 : List ℕ) → Asks (PlaysAirLines net a xs) b h0 h1 t0 t1
    → Asks (PlaysAirLine net b x) c h1 h2 t1 t2 → Asks (PlaysAirLines net a (xs ++ x ∷ [])) c h0 h2 t0 t2
lines-last net a b c xs x h0 h1 h2 t0 t1 t2 so one = record {
  entries = so.entries ++ one.entries;
  own = so.own ++ one.own;
  played = play-last net a b c xs x so.entries one.entries so.own one.own so.played one.played;
  callers = All-append (λ (entry : Entry). entry.caller ≡ 0) so.entries one.entries so.callers one.callers;
  kept = one.kept ∙ ap (λ (h : List Entry). h ++ one.entries) so.kept ∙ append_assoc h0 so.entries one.entries;
  added = one.added ∙ ap (λ (t : List ℕ). t ++ one.own) so.added ∙ append_assoc t0 so.own one.own;
}

-- and one more
pub lines-more : (net : Net) (a b c : AirState) (lines : List AirLine) (k : ℕ) (d : AirLine) (h0 h1 h2 : List Entry) (t0 t1 t2 : List ℕ) → k < length lines
    → Asks (PlaysAirLines net a (take k lines)) b h0 h1 t0 t1 → Asks (PlaysAirLine net b (get_or lines k d)) c h1 h2 t1 t2
    → Asks (PlaysAirLines net a (take (k + 1) lines)) c h0 h2 t0 t2
lines-more net a b c lines k d h0 h1 h2 t0 t1 t2 within so one =
    subst (λ (l : List AirLine). Asks (PlaysAirLines net a l) c h0 h2 t0 t2) (sym (take_more lines k d within))
    (lines-last net a b c (take k lines) (get_or lines k d) h0 h1 h2 t0 t1 t2 so one)

-- where a line succeeds, it was played
pub on-line : {T E : Type 0} (result : Result T E) (net : Net) (before air : AirState) (line one : AirLine) (P : Type 0) (h0 h1 : List Entry) (t0 t1 : List ℕ) → line ≡ one
    → (P → Asks (PlaysAirLine net before one) air h0 h1 t0 t1) → OnOk result P → OnOk result (Asks (PlaysAirLine net before line) air h0 h1 t0 t1)
on-line result net before air line one P h0 h1 t0 t1 is so holds =
    on_ok_weaker result (λ p. subst (λ (l : AirLine). Asks (PlaysAirLine net before l) air h0 h1 t0 t1) (sym is) (so p)) holds
