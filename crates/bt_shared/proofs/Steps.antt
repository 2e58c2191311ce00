-- Each step keeps the rule of the turn lock.
use Rattle.std.proofs.Common.{◌≡◌, ◌≢◌, ◌⊎◌, ℕ, zero, suc, ◌+◌, ◌-◌, ◌%◌, ◌^◌, ◌<◌, ◌≤◌, List, [], ◌∷◌, ◌++◌, length, set, get_or, sum_by, Option, Some, None, sym, refl, ap, subst, ◌∙◌, inl, inr, ⊎_elim, arith, Result, Ok, Err, IfOk, OnErr, MatchResult, length-set, length-append, append_assoc, append-nil}
use mathlib.Core.Logic.{dite}
use mathlib.Core.Option.{some, none, some-injective, some-ne-none}
use mathlib.Core.Option as maybe
use native.Mathlib.Decide.{ℕ_discrete}
use lib.ListN.{get_elem?}
use Rattle.std.proofs.lemmas.List.Sums.{sum_by_push}
use Rattle.std.proofs.lemmas.List.{append_cancel_left}
use Rattle.std.proofs.lemmas.Option.{none-some, same_Some}
use Rattle.atomic_table.specs.Table.{State, Me, step, keeps, takes, gives, stepped, put_back, rest, Allows, Splits, Joins, opening, Final, Seen}
use Rattle.atomic_table.proofs.Lists.{at_set, set_else, at_longer, one_turn}
use Rattle.bt_shared.specs.declared.object.TurnEntry.{TurnEntry}
use Rattle.bt_shared.specs.declared.turn_view.TurnView.{TurnView}
use Rattle.bt_shared.specs.Legal.{Legal, calls_by, entry_of}
use Rattle.bt_shared.specs.Passes.{HasSeen, Gains}
use Rattle.bt_shared.specs.Turns.{waits, one_of, gone, opening_view, admits, admitted, joined, rested, Knows, IsHome, IsOut, Leads, Kept, IsIdle, drawn, looked, passed, MayGive}
use Rattle.bt_shared.proofs.Histories.{none_or, sum_set, set_at, at_below, there_is, at_push, sum_within, not_longer, calls_more, calls_same, seen_longer, seen_all, legal_more}

one_of_small : (ticket : Option ℕ) → one_of ticket ≤ 1
one_of_small None = omega arith
one_of_small (Some k) = omega arith

module _ {O C R : Type 0} (steps : O → ℕ → C → R → O → Type 0) (history : O → List (TurnEntry C R)) (x : O) where
  abbrev V : Type 0
  V = TurnView O C R

  abbrev St : Type 0
  St = State (Option O) V

  abbrev L : Type 0
  L = List (TurnEntry C R)

  abbrev M : Type 0
  M = Me (Option O) V

  abbrev Homes : Type 0
  Homes = List (maybe.Option (Option O))

  abbrev Rule : St → Type 0
  Rule = Kept steps history x

  -- what is known of a seat that is not gone
  live : (s : St) (r : Rule s) (id : ℕ) (v : V) → get_elem? s.views id ≡ some v → (v ≡ gone → ⊥) → Knows x r.turn r.out r.log id v
  live s r id v at not = ⊎_elim (λ e. absurd (not e)) (λ k. k) (r.each id v at)

  started : (v : V) → v.start ≡ Some x → v ≡ gone → ⊥
  started v start e = none-some x (ap (λ (u : V). u.start) (sym e) ∙ start)

  ticketed : (v : V) (k : ℕ) → v.ticket ≡ Some k → v ≡ gone → ⊥
  ticketed v k ticket e = none-some k (ap (λ (u : V). u.ticket) (sym e) ∙ ticket)

  based : (v : V) (b : L) → v.base ≡ Some b → v ≡ gone → ⊥
  based v b base e = none-some b (ap (λ (u : V). u.base) (sym e) ∙ base)

  counted : (v : V) → 0 < v.count → v ≡ gone → ⊥
  counted v any e = let none_given = ap (λ (u : V). u.count) e in absurd (omega arith)

  numbered : (v : V) → 0 < v.number → v ≡ gone → ⊥
  numbered v any e = let none_given = ap (λ (u : V). u.number) e in absurd (omega arith)

  abbrev Stay : St → ℕ → V → L → ℕ → List L → Type 0
  Stay s id w log n ks = (i : ℕ) (list : L) → get_elem? ks i ≡ some list → (get_elem? (set s.views id w) (n - length ks + i) ≡ some gone) × HasSeen log (n - length ks + i) list

  -- the seat 0 after a step of one seat
  leads_step : (s : St) (r : Rule s) (id : ℕ) (v w : V) (log : L) → get_elem? s.views id ≡ some v → (v ≡ gone → ⊥) → w.count ≡ v.count → w.kept ≡ v.kept
      → ((n : ℕ) (list : L) → n ≢ id → HasSeen r.log n list → HasSeen log n list) → (lead : V) × Leads log (set s.views id w) lead
  leads_step s r id v w log at not count kept grows = dite (ℕ_discrete id 0)
      (λ e. let at0 : get_elem? s.views 0 ≡ some v = subst (λ (n : ℕ). get_elem? s.views n ≡ some v) e at in let is : v ≡ r.lead = some-injective v r.lead (sym at0 ∙ r.leads.at) in
      (w, build w (subst (λ (n : ℕ). get_elem? (set s.views id w) n ≡ some w) e (set_at s.views id v w at)) (count ∙ ap (λ (u : V). u.count) is) (kept ∙ ap (λ (u : V). u.kept) is)))
      (λ other. (r.lead, build r.lead (set_else s.views id 0 w (λ e. other (sym e)) ∙ r.leads.at) refl refl))
    where
      stay : Stay s id w log r.lead.count r.lead.kept
      stay i list e = let was = r.leads.kept i list e in let n : ℕ = r.lead.count - length r.lead.kept + i in
          let apart : n ≢ id = λ same. not (some-injective v gone (sym at ∙ subst (λ (m : ℕ). get_elem? s.views m ≡ some gone) same was.0)) in
          (set_else s.views id n w apart ∙ was.0, grows n list apart was.1)

      build : (u : V) → get_elem? (set s.views id w) 0 ≡ some u → u.count ≡ r.lead.count → u.kept ≡ r.lead.kept → Leads log (set s.views id w) u
      build u here c k = record {
        at = here;
        count_is = c ∙ (r.leads.count_is ∙ sym (length-set s.views id w));
        fewer = subst (λ (z : ℕ × List L). length z.1 < z.0) (λ i. (sym c i, sym k i)) r.leads.fewer;
        kept = subst (λ (z : ℕ × List L). Stay s id w log z.0 z.1) (λ i. (sym c i, sym k i)) stay;
      }

  -- a step of one seat, which is not gone, keeps the rule
  seat_step : (s : St) (r : Rule s) (id : ℕ) (v w : V) (turn out : ℕ) (log : L) (object : O) (words : List ℕ) (homes : Homes)
      → get_elem? s.views id ≡ some v → (v ≡ gone → ⊥)
      → words ≡ (turn + out) % 2 ^ 64 ∷ turn % 2 ^ 64 ∷ []
      → out + waits v ≡ r.out + waits w
      → Knows x turn out log id w
      → ((j : ℕ) (u : V) → j ≢ id → get_elem? s.views j ≡ some u → Knows x r.turn r.out r.log j u → Knows x turn out log j u)
      → ((j : ℕ) (u : V) (k : ℕ) → j ≢ id → get_elem? s.views j ≡ some u → u.ticket ≡ Some k → w.ticket ≡ Some k → ⊥)
      → Legal steps x log object → history object ≡ history x ++ log
      → IsHome object record { words = words; homes = homes; views = set s.views id w } ⊎ IsOut log record { words = words; homes = homes; views = set s.views id w }
      → w.count ≡ v.count → w.kept ≡ v.kept
      → ((n : ℕ) (list : L) → n ≢ id → HasSeen r.log n list → HasSeen log n list)
      → ((n : ℕ) → length s.views ≤ n → calls_by n log ≡ [])
      → Rule record { words = words; homes = homes; views = set s.views id w }
  seat_step s r id v w turn out log object words homes at not words_are sums mine others apart legal stored place count kept grows strangers = let lead = leads_step s r id v w log at not count kept grows in record {
    turn = turn;
    out = out;
    log = log;
    object = object;
    lead = lead.0;
    words_are = words_are;
    out_is = let was = r.out_is in let now = sum_set waits s.views id v w at in
        let a : ℕ = sum_by waits s.views in let b : ℕ = sum_by waits (set s.views id w) in let p : ℕ = waits v in let q : ℕ = waits w in
        let was' : a ≡ r.out = was in let now' : b + p ≡ a + q = now in let sums' : out + p ≡ r.out + q = sums in let is : b ≡ out = omega arith in is;
    few = subst (λ (n : ℕ). n ≤ 64) (sym (length-set s.views id w)) r.few;
    each = λ j u e. ⊎_elim (λ (t : (j ≡ id) × (w ≡ u)). inr (subst (λ (z : ℕ × V). Knows x turn out log z.0 z.1) (λ i. (sym t.0 i, t.1 i)) mine))
        (λ (t : (j ≢ id) × (get_elem? s.views j ≡ some u)). ⊎_elim inl (λ k. inr (others j u t.0 t.1 k)) (r.each j u t.1)) (at_set s.views id j w u e);
    apart = λ i j a b k ea eb ta tb.
        ⊎_elim (λ (p : (i ≡ id) × (w ≡ a)).
        ⊎_elim (λ (q : (j ≡ id) × (w ≡ b)). p.0 ∙ sym q.0) (λ (q : (j ≢ id) × (get_elem? s.views j ≡ some b)). absurd (apart j b k q.0 q.1 tb (ap (λ (u : V). u.ticket) p.1 ∙ ta))) (at_set s.views id j w b eb))
        (λ (p : (i ≢ id) × (get_elem? s.views i ≡ some a)).
        ⊎_elim (λ (q : (j ≡ id) × (w ≡ b)). absurd (apart i a k p.0 p.1 ta (ap (λ (u : V). u.ticket) q.1 ∙ tb))) (λ (q : (j ≢ id) × (get_elem? s.views j ≡ some b)). r.apart i j a b k p.1 q.1 ta tb) (at_set s.views id j w b eb))
        (at_set s.views id i w a ea);
    legal = legal;
    stored = stored;
    place = place;
    leads = lead.1;
    strangers = λ n far. strangers n (subst (λ (m : ℕ). m ≤ n) (length-set s.views id w) far);
  }

  -- a seat whose base stays leaves the object where it is
  place_stays : (s : St) (words : List ℕ) (object : O) (log : L) (id : ℕ) (v w : V) → get_elem? s.views id ≡ some v → w.base ≡ v.base → IsHome object s ⊎ IsOut log s
      → IsHome object record { words = words; homes = s.homes; views = set s.views id w } ⊎ IsOut log record { words = words; homes = s.homes; views = set s.views id w }
  place_stays s words object log id v w at base place = ⊎_elim
      (λ (h : IsHome object s). inl (h.0, λ j u e. ⊎_elim (λ (t : (j ≡ id) × (w ≡ u)). ap (λ (z : V). z.base) (sym t.1) ∙ (base ∙ h.1 id v at)) (λ (t : (j ≢ id) × (get_elem? s.views j ≡ some u)). h.1 j u t.1) (at_set s.views id j w u e)))
      (λ (h : IsOut log s). inr (
        h.0,
        dite (ℕ_discrete h.1.0 id)
            (λ e. let same : h.1.1 ≡ v = some-injective h.1.1 v (sym h.1.2 ∙ subst (λ (n : ℕ). get_elem? s.views n ≡ some v) (sym e) at) in (id, w, set_at s.views id v w at, base ∙ (ap (λ (z : V). z.base) (sym same) ∙ h.1.3)))
            (λ other. (h.1.0, h.1.1, set_else s.views id h.1.0 w other ∙ h.1.2, h.1.3)),
      ))
      place

  -- the bounds of a ticket
  bounds : (s : St) (r : Rule s) (j : ℕ) (u : V) (k : ℕ) → get_elem? s.views j ≡ some u → u.ticket ≡ Some k → (r.turn ≤ k) × (k < r.turn + r.out)
  bounds s r j u k at ticket = (live s r j u at (ticketed u k ticket)).ticket k ticket

  out_small : (s : St) (r : Rule s) → r.out ≤ 64
  out_small s r = let few = r.few in let is = r.out_is in let all = sum_within waits (λ (v : V). one_of_small v.ticket) s.views in
      let a : ℕ = sum_by waits s.views in let n : ℕ = length s.views in let is' : a ≡ r.out = is in let all' : a ≤ n = all in let few' : n ≤ 64 = few in let goal : r.out ≤ 64 = omega arith in goal

  pub draws : (slots id : ℕ) (me : M) → me.0.start ≡ Some x → IsIdle me → Allows Rule slots id me 0 (λ n. (n + 1) % 2 ^ 64) (drawn (step slots 0 1 0 none) me)
  draws slots id me start idle s r _ at bound = let k : ℕ = r.turn + r.out in let v : V = me.0 in let w : V = record v { ticket = Some k } in let know = live s r id v at (started v start) in (
    w,
    keeps,
    tt,
    seat_step s r id v w r.turn (r.out + 1) r.log r.object _ s.homes at (started v start)
        (ap (λ ws. set ws 0 ((get_or ws 0 0 + 1) % 2 ^ 64)) r.words_are ∙ ap (λ (n : ℕ). n ∷ r.turn % 2 ^ 64 ∷ []) (omega arith))
        (ap (λ (t : Option ℕ). r.out + 1 + one_of t) idle.0 ∙ omega arith)
        (record {
          start_is = know.start_is;
          number_is = know.number_is;
          seen = know.seen;
          ticket = λ k' e. let same : k ≡ k' = same_Some k k' e in (omega arith, omega arith);
          base = λ b e. absurd (none-some b (sym idle.1 ∙ e));
        })
        (λ j u other e old. record {
          start_is = old.start_is;
          number_is = old.number_is;
          seen = old.seen;
          ticket = λ k' t. let was = old.ticket k' t in let low = was.0 in let high = was.1 in (low, omega arith);
          base = old.base;
        })
        (λ j u k' other e t t'. let was = bounds s r j u k' e t in let high = was.1 in let same : k ≡ k' = same_Some k k' t' in absurd (omega arith))
        r.legal
        r.stored
        (place_stays s (set s.words 0 ((get_or s.words 0 0 + 1) % 2 ^ 64)) r.object r.log id v w at refl r.place)
        refl
        refl
        (λ n list other seen. seen)
        r.strangers,
    (k, ap (λ ws. get_or ws 0 0) r.words_are, refl),
  )

  pub looks : (slots id : ℕ) (me : M) (k : ℕ) → me.0.ticket ≡ Some k → me.0.base ≡ None → me.1 ≡ [] → Allows Rule slots id me 1 (λ n. n) (looked steps history (step slots 1 0 0 none) me)
  looks slots id me k ticket base empty s r _ at bound = let v : V = me.0 in let know = live s r id v at (ticketed v k ticket) in dite (ℕ_discrete (get_or s.words 1 0) (k % 2 ^ 64))
      (λ e. let range = know.ticket k ticket in let low = range.0 in let high = range.1 in let small = out_small s r in
      let found : get_or s.words 1 0 ≡ r.turn % 2 ^ 64 = ap (λ ws. get_or ws 1 0) r.words_are in
      let served : r.turn ≡ k = one_turn r.turn k (2 ^ 64) low (omega arith) (sym found ∙ e) in
      let mine : v.ticket ≡ Some r.turn = ticket ∙ ap (λ n. Some n) (sym served) in
      let home : IsHome r.object s = ⊎_elim (λ h. h) (λ (h : IsOut r.log s). let other = live s r h.1.0 h.1.1 h.1.2 (based h.1.1 r.log h.1.3) in
      let same : h.1.0 ≡ id = r.apart h.1.0 id h.1.1 v r.turn h.1.2 at (other.base r.log h.1.3).0 mine in
      let is : h.1.1 ≡ v = some-injective h.1.1 v (sym h.1.2 ∙ subst (λ (n : ℕ). get_elem? s.views n ≡ some v) (sym same) at) in
      absurd (none-some r.log (sym base ∙ (ap (λ (z : V). z.base) (sym is) ∙ h.1.3)))) r.place in
      let w : V = record v { base = Some r.log } in (
        w,
        takes 0 (Some r.object),
        ap (λ hs. get_elem? hs 0) home.0,
        seat_step s r id v w r.turn r.out r.log r.object _ _ at (ticketed v k ticket)
            (ap (λ ws. set ws 1 (get_or ws 1 0)) r.words_are)
            refl
            (record { start_is = know.start_is; number_is = know.number_is; seen = know.seen; ticket = know.ticket; base = λ b e. (mine, sym (same_Some r.log b e)) })
            (λ j u other e old. old)
            (λ j u k' other e t t'. other (r.apart j id u v k' e at t t'))
            r.legal
            r.stored
            (inr (ap (λ hs. set hs 0 none) home.0, (id, w, set_at s.views id v w at, refl)))
            refl
            refl
            (λ n list other seen. seen)
            r.strangers,
        λ k' t. let same : Some k ≡ Some k' = sym ticket ∙ t in let is : k ≡ k' = same_Some k k' same in (
          λ _. (
            r.log,
            r.object,
            (λ i. (record v { ticket = t i; base = Some r.log }, (0, Some r.object) ∷ empty i)),
            (λ y start. let as_started : x ≡ y = same_Some x y (sym know.start_is ∙ start) in subst (λ (z : O). Legal steps z r.log r.object × (history r.object ≡ history z ++ r.log)) as_started (r.legal, r.stored)),
            subst (λ (n : ℕ). HasSeen r.log n v.seen) (sym know.number_is) know.seen,
          ),
          λ not. absurd (not (e ∙ ap (λ n. n % 2 ^ 64) is)),
        ),
      ))
      (λ not. (
        v,
        keeps,
        tt,
        seat_step s r id v v r.turn r.out r.log r.object _ s.homes at (ticketed v k ticket)
            (ap (λ ws. set ws 1 (get_or ws 1 0)) r.words_are)
            refl
            know
            (λ j u other e old. old)
            (λ j u k' other e t t'. other (r.apart j id u v k' e at t t'))
            r.legal
            r.stored
            (place_stays s (set s.words 1 (get_or s.words 1 0)) r.object r.log id v v at refl r.place)
            refl
            refl
            (λ n list other seen. seen)
            r.strangers,
        λ k' t. (λ e. absurd (not (e ∙ ap (λ n. n % 2 ^ 64) (same_Some k' k (sym t ∙ ticket)))), λ _. refl),
      ))

  -- the object comes back, with the log that follows
  returns_object : (s : St) (r : Rule s) (id : ℕ) (me : M) (p : O) (k : ℕ) (log seen : L) → get_elem? s.views id ≡ some me.0 → me.0.ticket ≡ Some k → me.0.base ≡ Some r.log → me.1 ≡ (0, Some p) ∷ []
      → Legal steps x log p → history p ≡ history x ++ log → HasSeen log id seen → ((n : ℕ) (list : L) → n ≢ id → HasSeen r.log n list → HasSeen log n list)
      → ((n : ℕ) → length s.views ≤ n → calls_by n log ≡ [])
      → Rule (stepped s 1 ((get_or s.words 1 0 + 1) % 2 ^ 64) id me.1 (rested me.0 seen) gives)
  returns_object s r id me p k log seen at ticket base carried legal stored has_seen grows strangers = let v : V = me.0 in let w : V = rested v seen in let know = live s r id v at (ticketed v k ticket) in
      let mine : v.ticket ≡ Some r.turn = (know.base r.log base).0 in let range = know.ticket r.turn mine in let more = range.1 in
      let alone : (j : ℕ) (u : V) → j ≢ id → get_elem? s.views j ≡ some u → u.ticket ≡ Some r.turn → ⊥ = λ j u other e t. other (r.apart j id u v r.turn e at t mine) in
      let out : s.homes ≡ none ∷ [] = ⊎_elim (λ (h : IsHome r.object s). absurd (none-some r.log (sym (h.1 id v at) ∙ base))) (λ (h : IsOut r.log s). h.0) r.place in
      seat_step s r id v w (r.turn + 1) (r.out - 1) log p _ _ at (ticketed v k ticket)
      (ap (λ ws. set ws 1 ((get_or ws 1 0 + 1) % 2 ^ 64)) r.words_are ∙ (λ i. two (sums r.turn r.out more i) (next r.turn i)))
      (ap (λ (t : Option ℕ). r.out - 1 + one_of t) mine ∙ omega arith)
      (record { start_is = know.start_is; number_is = know.number_is; seen = has_seen; ticket = λ k' e. absurd (none-some k' e); base = λ b e. absurd (none-some b e) })
      (λ j u other e old. record {
        start_is = old.start_is;
        number_is = old.number_is;
        seen = grows j u.seen other old.seen;
        ticket = λ k' t. let was = old.ticket k' t in let low = was.0 in let high = was.1 in let later : r.turn ≢ k' = λ same. alone j u other e (t ∙ ap (λ n. Some n) (sym same)) in (omega arith, omega arith);
        base = λ b eb. absurd (alone j u other e (old.base b eb).0);
      })
      (λ j u k' other e t t'. none-some k' t')
      legal
      stored
      (inl (
        (λ i. put_back (out i) (carried i)),
        λ j u e. ⊎_elim (λ (t : (j ≡ id) × (w ≡ u)). ap (λ (z : V). z.base) (sym t.1))
            (λ (t : (j ≢ id) × (get_elem? s.views j ≡ some u)). ⊎_elim (λ none_now. none_now) (λ (b : (b : L) × (u.base ≡ Some b)). absurd (alone j u t.0 t.1 ((live s r j u t.1 (based u b.0 b.1)).base b.0 b.1).0)) (none_or u.base)) (at_set s.views id j w u e),
      ))
      refl
      refl
      grows
      strangers
    where
      two : ℕ → ℕ → List ℕ
      two a b = a ∷ b ∷ []

      sums : (turn out : ℕ) → turn < turn + out → (turn + out) % 2 ^ 64 ≡ (turn + 1 + (out - 1)) % 2 ^ 64
      sums turn out more = ap (λ n. n % 2 ^ 64) (omega arith)

      next : (turn : ℕ) → (turn % 2 ^ 64 + 1) % 2 ^ 64 ≡ (turn + 1) % 2 ^ 64
      next turn = omega arith

  -- the slot 0, with this object
  abbrev in_hand : O → List (ℕ × Option O)
  in_hand o = (0, Some o) ∷ []

  -- what the seat is told of the object that it gave back
  tells : (me : M) (p : O) (b log seen : L) → me.0.start ≡ Some x → me.0.base ≡ Some b → me.1 ≡ (0, Some p) ∷ [] → history p ≡ history x ++ log
      → (log ≡ b → seen ≡ me.0.seen) → ((e : TurnEntry C R) → log ≡ b ++ e ∷ [] → seen ≡ b ++ e ∷ [])
      → (y q : O) (d : L) → me.0.start ≡ Some y → me.0.base ≡ Some d → me.1 ≡ (0, Some q) ∷ []
      → (history q ≡ history y ++ d → seen ≡ me.0.seen) × ((e : TurnEntry C R) → history q ≡ history y ++ d ++ e ∷ [] → seen ≡ d ++ e ∷ [])
  tells me p b log seen start base carried stored none_made made y q d start' base' carried' =
      let is_x : x ≡ y = same_Some x y (sym start ∙ start') in let is_b : b ≡ d = same_Some b d (sym base ∙ base') in let is_p : p ≡ q = held p q (sym carried ∙ carried') in
      subst (λ (z : O × O × L). (history z.1 ≡ history z.0 ++ z.2 → seen ≡ me.0.seen) × ((e : TurnEntry C R) → history z.1 ≡ history z.0 ++ z.2 ++ e ∷ [] → seen ≡ z.2 ++ e ∷ [])) (λ i. (is_x i, is_p i, is_b i))
      ((λ same. none_made (append_cancel_left (history x) log b (sym stored ∙ same))), (λ e same. made e (append_cancel_left (history x) log (b ++ e ∷ []) (sym stored ∙ (same ∙ append_assoc (history x) b (e ∷ []))))))
    where
      first : O → List (ℕ × Option O) → O
      first d ((k, Some o) ∷ more) = o
      first d _ = d

      held : (p q : O) → in_hand p ≡ in_hand q → p ≡ q
      held p q e = ap (first p) e

  pub passes : (slots id : ℕ) (me : M) (p : O) (k : ℕ) (b : L) → me.0.ticket ≡ Some k → me.0.base ≡ Some b → me.1 ≡ (0, Some p) ∷ [] → MayGive steps history x b me.0.number p
      → Allows Rule slots id me 1 (λ n. (n + 1) % 2 ^ 64) (passed history (step slots 1 1 0 none) me)
  passes slots id me p k b ticket base carried may s r _ at bound = let know = live s r id me.0 at (ticketed me.0 k ticket) in
      let is_log : b ≡ r.log = (know.base b base).1 in let base' : me.0.base ≡ Some r.log = base ∙ ap (λ l. Some l) is_log in
      let may' : MayGive steps history x r.log id p = subst (λ (z : L × ℕ). MayGive steps history x z.0 z.1 p) (λ i. (is_log i, know.number_is i)) may in ⊎_elim
      (λ (t : Legal steps x r.log p × (history p ≡ history x ++ r.log)). (
        rested me.0 me.0.seen,
        gives,
        tt,
        returns_object s r id me p k r.log me.0.seen at ticket base' carried t.0 t.1 know.seen (λ n list other seen. seen) r.strangers,
        (
          (λ i. (rested me.0 me.0.seen, rest (carried i))),
          tells me p r.log r.log me.0.seen know.start_is base' carried t.1 (λ _. refl) (λ e same. absurd (not_longer r.log e same)),
        ),
      ))
      (λ (t : (e : TurnEntry C R) × (e.caller ≡ id) × Legal steps x (r.log ++ e ∷ []) p × (history p ≡ history x ++ r.log ++ e ∷ [])). let e : TurnEntry C R = t.0 in let stored = t.3 ∙ append_assoc (history x) r.log (e ∷ []) in (
        rested me.0 (r.log ++ e ∷ []),
        gives,
        tt,
        returns_object s r id me p k (r.log ++ e ∷ []) (r.log ++ e ∷ []) at ticket base' carried t.2 stored (seen_all (r.log ++ e ∷ []) id)
            (λ n list other seen. seen_longer r.log e n list (λ same. other (sym same ∙ t.1)) seen)
            (λ n far. calls_same n r.log e (λ same. let below = at_below s.views id me.0 at in let is_n : id ≡ n = sym t.1 ∙ same in absurd (omega arith)) ∙ r.strangers n far),
        (
          (λ i. (rested me.0 (r.log ++ e ∷ []), rest (carried i))),
          tells me p r.log (r.log ++ e ∷ []) (r.log ++ e ∷ []) know.start_is base' carried stored (λ same. absurd (not_longer r.log e (sym same))) (λ e' same. same),
        ),
      ))
      may'

  pub starts : Rule (opening (0 ∷ 0 ∷ []) (Some x ∷ []) (opening_view x))
  starts = record {
    turn = 0;
    out = 0;
    log = [];
    object = x;
    lead = opening_view x;
    words_are = refl;
    out_is = refl;
    few = omega arith;
    each = λ j u e. only j u e;
    apart = λ i j v w k ev ew tv tw. ⊎_elim (λ (t : v ≡ opening_view x). absurd (none-some k (ap (λ (z : V). z.ticket) (sym t) ∙ tv))) (λ (n : ⊥). absurd n) (one i v ev);
    legal = refl;
    stored = sym (append-nil (history x));
    place = inl (refl, λ j u e. ⊎_elim (λ (t : u ≡ opening_view x). ap (λ (z : V). z.base) t) (λ (n : ⊥). absurd n) (one j u e));
    leads = record { at = refl; count_is = refl; fewer = omega arith; kept = λ i list e. absurd (some-ne-none list (sym e)) };
    strangers = λ n far. refl;
  }
    where
      one : (j : ℕ) (u : V) → get_elem? (opening_view x ∷ []) j ≡ some u → (u ≡ opening_view x) ⊎ ⊥
      one zero u e = inl (sym (some-injective (opening_view x) u e))
      one (suc j) u e = absurd (some-ne-none u (sym e))

      only : (j : ℕ) (u : V) → get_elem? (opening_view x ∷ []) j ≡ some u → (u ≡ gone) ⊎ Knows x 0 0 [] j u
      only zero u e = inr (subst (Knows x 0 0 [] 0) (some-injective (opening_view x) u e) (record {
        start_is = refl;
        number_is = refl;
        seen = record { begins = ([], refl); own = refl };
        ticket = λ k e. absurd (none-some k e);
        base = λ b e. absurd (none-some b e);
      }))
      only (suc j) u e = absurd (some-ne-none u (sym e))

  pub splits : (id : ℕ) (v : V) → v.number ≡ 0 → v.start ≡ Some x → v.kept ≡ [] → v.count < 64 → Splits Rule id v (admits v) (admitted v)
  splits id v number start kept few s r at = let know = live s r id v at (started v start) in let id0 : id ≡ 0 = sym know.number_is ∙ number in
      let at0 : get_elem? s.views 0 ≡ some v = subst (λ (n : ℕ). get_elem? s.views n ≡ some v) id0 at in let is : v ≡ r.lead = some-injective v r.lead (sym at0 ∙ r.leads.at) in
      let count : v.count ≡ length s.views = ap (λ (u : V). u.count) is ∙ r.leads.count_is in
      let w : V = admits v in let n : V = admitted v in let old : List V = set s.views id w in let new : List V = old ++ n ∷ [] in
      let long : length old ≡ length s.views = length-set s.views id w in let longer : length new ≡ length old + 1 = length-append old (n ∷ []) in record {
        turn = r.turn;
        out = r.out;
        log = r.log;
        object = r.object;
        lead = w;
        words_are = r.words_are;
        out_is = let pushed = sum_by_push waits old n in let put = sum_set waits s.views id v w at in let was = r.out_is in
            let a : ℕ = sum_by waits s.views in let b : ℕ = sum_by waits old in let c : ℕ = sum_by waits new in let t : ℕ = waits v in
            let p : c ≡ b + 0 = pushed in let q : b + t ≡ a + t = put in let o : a ≡ r.out = was in let goal : c ≡ r.out = omega arith in goal;
        few = omega (arith, long, longer, count);
        each = λ j u e. ⊎_elim
            (λ f. ⊎_elim (λ (t : (j ≡ id) × (w ≡ u)). inr (subst (λ (z : ℕ × V). Knows x r.turn r.out r.log z.0 z.1) (λ i. (sym t.0 i, t.1 i))
            (record { start_is = know.start_is; number_is = know.number_is; seen = know.seen; ticket = know.ticket; base = know.base })))
            (λ (t : (j ≢ id) × (get_elem? s.views j ≡ some u)). r.each j u t.1) (at_set s.views id j w u f))
            (λ (t : (j ≡ length old) × (n ≡ u)). inr (subst (Knows x r.turn r.out r.log j) t.1 (record {
              start_is = know.start_is;
              number_is = count ∙ (sym long ∙ sym t.0);
              seen = record { begins = (r.log, refl); own = r.strangers j (omega (arith, long, t.0)) };
              ticket = λ k e. absurd (none-some k e);
              base = λ b e. absurd (none-some b e);
            })))
            (at_push old n u j e);
        apart = λ i j a b k ea eb ta tb. let no : (u : V) → n ≡ u → u.ticket ≡ Some k → ⊥ = λ u is t. none-some k (ap (λ (z : V). z.ticket) is ∙ t) in
            let was : (m : ℕ) (u : V) → get_elem? old m ≡ some u → u.ticket ≡ Some k → (z : V) × (get_elem? s.views m ≡ some z) × (z.ticket ≡ Some k) = λ m u e t. ⊎_elim
            (λ (q : (m ≡ id) × (w ≡ u)). (v, subst (λ (l : ℕ). get_elem? s.views l ≡ some v) (sym q.0) at, ap (λ (z : V). z.ticket) q.1 ∙ t)) (λ (q : (m ≢ id) × (get_elem? s.views m ≡ some u)). (u, q.1, t)) (at_set s.views id m w u e) in
            ⊎_elim (λ fa. ⊎_elim (λ fb. let p = was i a fa ta in let q = was j b fb tb in r.apart i j p.0 q.0 k p.1 q.1 p.2 q.2) (λ (t : (j ≡ length old) × (n ≡ b)). absurd (no b t.1 tb)) (at_push old n b j eb))
            (λ (t : (i ≡ length old) × (n ≡ a)). absurd (no a t.1 ta)) (at_push old n a i ea);
        legal = r.legal;
        stored = r.stored;
        place = ⊎_elim
            (λ (h : IsHome r.object record { words = s.words; homes = s.homes; views = old }). inl (h.0, λ j u e. ⊎_elim (h.1 j u) (λ (t : (j ≡ length old) × (n ≡ u)). ap (λ (z : V). z.base) (sym t.1)) (at_push old n u j e)))
            (λ (h : IsOut r.log record { words = s.words; homes = s.homes; views = old }). inr (h.0, (h.1.0, h.1.1, at_longer old (n ∷ []) h.1.0 h.1.1 h.1.2, h.1.3)))
            (place_stays s s.words r.object r.log id v w at refl r.place);
        leads = record {
          at = at_longer old (n ∷ []) 0 w (subst (λ (m : ℕ). get_elem? old m ≡ some w) id0 (set_at s.views id v w at));
          count_is = omega (arith, long, longer, count);
          fewer = let no_kept = ap length kept in let m : ℕ = length v.kept in let z : m ≡ 0 = no_kept in let goal : m < v.count + 1 = omega arith in goal;
          kept = λ i list e. absurd (some-ne-none list (sym e ∙ ap (λ ks. get_elem? ks i) kept));
        };
        strangers = λ m far. r.strangers m (omega (arith, long, longer, far));
      }

  -- what the seat 0 keeps, with what one more seat has seen before it
  kept_joined : (P : ℕ → L → Type 0) (n count : ℕ) (seen : L) (ks : List L) → n + 1 + length ks ≡ count → P n seen → ((i : ℕ) (list : L) → get_elem? ks i ≡ some list → P (count - length ks + i) list)
      → (i : ℕ) (list : L) → get_elem? (seen ∷ ks) i ≡ some list → P (count - length (seen ∷ ks) + i) list
  kept_joined P n count seen ks sum first more zero list e = let long : ℕ = length ks in let at : n ≡ count - (suc long) + 0 = omega arith in
      subst (λ (z : ℕ × L). P z.0 z.1) (λ i. (at i, some-injective seen list e i)) first
  kept_joined P n count seen ks sum first more (suc i) list e = let long : ℕ = length ks in let at : count - long + i ≡ count - (suc long) + suc i = omega arith in
      subst (λ (m : ℕ). P m list) at (more i list e)

  pub joins : (id : ℕ) (v : V) (other : ℕ) (w : V) → v.number ≡ 0 → w.ticket ≡ None → w.base ≡ None → 0 < w.number → w.number + 1 + length v.kept ≡ v.count → Joins Rule id v other w (joined v w) gone
  joins id v other w number no_ticket no_base later sum s r at apart found = let both : V = joined v w in let old : List V = set s.views id both in let new : List V = set old other gone in
      let at_other : get_elem? s.views other ≡ some w = ⊎_elim (λ (t : (other ≡ id) × (both ≡ w)). absurd (apart t.0)) (λ (t : (other ≢ id) × (get_elem? s.views other ≡ some w)). t.1) (at_set s.views id other both w found) in
      let not_v : v ≡ gone → ⊥ = counted v (omega arith) in let not_w : w ≡ gone → ⊥ = numbered w later in
      let know = live s r id v at not_v in let know_w = live s r other w at_other not_w in let id0 : id ≡ 0 = sym know.number_is ∙ number in
      let at0 : get_elem? s.views 0 ≡ some v = subst (λ (n : ℕ). get_elem? s.views n ≡ some v) id0 at in let is : v ≡ r.lead = some-injective v r.lead (sym at0 ∙ r.leads.at) in
      let leads_v : Leads r.log s.views v = subst (Leads r.log s.views) (sym is) r.leads in
      let seat : w.number ≡ other = know_w.number_is in let not_first : 0 ≢ other = λ e. omega arith in
      let is_v : (m : ℕ) (u : V) → m ≡ id → get_elem? s.views m ≡ some u → v ≡ u = λ m u e f. some-injective v u (sym at ∙ subst (λ (l : ℕ). get_elem? s.views l ≡ some u) e f) in
      let was : (m : ℕ) (u : V) → get_elem? new m ≡ some u → (u ≡ gone) ⊎ ((z : V) × (get_elem? s.views m ≡ some z) × (z.ticket ≡ u.ticket) × (z.base ≡ u.base) × (z ≡ gone → u ≡ gone) × (Knows x r.turn r.out r.log m z → Knows x r.turn r.out r.log m u)) =
      λ m u e. ⊎_elim (λ (t : (m ≡ other) × (gone ≡ u)). inl (sym t.1))
      (λ (t : (m ≢ other) × (get_elem? old m ≡ some u)). inr (⊎_elim
      (λ (q : (m ≡ id) × (both ≡ u)). (
        v,
        subst (λ (l : ℕ). get_elem? s.views l ≡ some v) (sym q.0) at,
        ap (λ (z : V). z.ticket) q.1,
        ap (λ (z : V). z.base) q.1,
        (λ g. absurd (not_v g)),
        λ k. subst (Knows x r.turn r.out r.log m) q.1 (record { start_is = k.start_is; number_is = k.number_is; seen = k.seen; ticket = k.ticket; base = k.base }),
      ))
      (λ (q : (m ≢ id) × (get_elem? s.views m ≡ some u)). (u, q.1, refl, refl, (λ g. g), λ k. k)) (at_set s.views id m both u t.1)))
      (at_set old other m gone u e) in
      let now : (m : ℕ) (u : V) → m ≢ other → get_elem? s.views m ≡ some u → (z : V) × (get_elem? new m ≡ some z) × (z.base ≡ u.base) =
      λ m u not e. dite (ℕ_discrete m id)
      (λ same. (both, set_else old other m gone not ∙ subst (λ (l : ℕ). get_elem? old l ≡ some both) (sym same) (set_at s.views id v both at), ap (λ (z : V). z.base) (is_v m u same e)))
      (λ differ. (u, set_else old other m gone not ∙ (set_else s.views id m both differ ∙ e), refl)) in
      let no_turn : (u : V) (k : ℕ) → u ≡ gone → u.ticket ≡ Some k → ⊥ = λ u k e t. none-some k (sym (ap (λ (z : V). z.ticket) e) ∙ t) in
      let long_old : length old ≡ length s.views = length-set s.views id both in let long_new : length new ≡ length old = length-set old other gone in record {
        turn = r.turn;
        out = r.out;
        log = r.log;
        object = r.object;
        lead = both;
        words_are = r.words_are;
        out_is = let put = sum_set waits s.views id v both at in let cut = sum_set waits old other w gone found in let was = r.out_is in let none_now : waits w ≡ 0 = ap one_of no_ticket in
            let a : ℕ = sum_by waits s.views in let b : ℕ = sum_by waits old in let c : ℕ = sum_by waits new in let t : ℕ = waits v in let u : ℕ = waits w in
            let p : b + t ≡ a + t = put in let q : c + u ≡ b + 0 = cut in let o : a ≡ r.out = was in let z : u ≡ 0 = none_now in let goal : c ≡ r.out = omega arith in goal;
        few = omega (arith, long_new, long_old, r.few);
        each = λ j u e. ⊎_elim inl (λ t. ⊎_elim (λ g. inl (t.4 g)) (λ k. inr (t.5 k)) (r.each j t.0 t.1)) (was j u e);
        apart = λ i j a b k ea eb ta tb. ⊎_elim (λ g. absurd (no_turn a k g ta)) (λ p. ⊎_elim (λ g. absurd (no_turn b k g tb)) (λ q. r.apart i j p.0 q.0 k p.1 q.1 (p.2 ∙ ta) (q.2 ∙ tb)) (was j b eb)) (was i a ea);
        legal = r.legal;
        stored = r.stored;
        place = ⊎_elim
            (λ (h : IsHome r.object s). inl (h.0, λ j u e. ⊎_elim (λ g. ap (λ (z : V). z.base) g) (λ t. sym t.3 ∙ h.1 j t.0 t.1) (was j u e)))
            (λ (h : IsOut r.log s). let not : h.1.0 ≢ other = λ e. none-some r.log (sym no_base ∙ (ap (λ (z : V). z.base) (some-injective w h.1.1 (sym at_other ∙ subst (λ (n : ℕ). get_elem? s.views n ≡ some h.1.1) e h.1.2)) ∙ h.1.3)) in
            let n = now h.1.0 h.1.1 not h.1.2 in inr (h.0, (h.1.0, n.0, n.1, n.2 ∙ h.1.3)))
            r.place;
        leads = record {
          at = set_else old other 0 gone not_first ∙ subst (λ (m : ℕ). get_elem? old m ≡ some both) id0 (set_at s.views id v both at);
          count_is = leads_v.count_is ∙ (sym long_old ∙ sym long_new);
          fewer = let long : ℕ = length v.kept in let goal : suc long < v.count = omega arith in goal;
          kept = kept_joined (λ m list. (get_elem? new m ≡ some gone) × HasSeen r.log m list) other v.count w.seen v.kept (ap (λ (n : ℕ). n + 1 + length v.kept) (sym seat) ∙ sum)
              (set_at old other w gone found, know_w.seen)
              (λ i list e. let t = leads_v.kept i list e in let m : ℕ = v.count - length v.kept + i in (
                dite (ℕ_discrete m other)
                    (λ same. subst (λ (l : ℕ). get_elem? new l ≡ some gone) (sym same) (set_at old other w gone found))
                    (λ differ. let not_id : m ≢ id = λ same. not_v (is_v m gone same t.0) in set_else old other m gone differ ∙ (set_else s.views id m both not_id ∙ t.0)),
                t.1,
              ));
        };
        strangers = λ m far. r.strangers m (omega (arith, long_new, long_old, far));
      }

  -- what is known at the end: the object is at home, its history is the log, and the log begins with what each seat had seen
  abbrev pub Closes : V → List (Option O) → Type 0
  Closes v slots = (log : L) × (object : O) × (get_elem? slots 0 ≡ some (Some object)) × Legal steps x log object × (history object ≡ history x ++ log) × HasSeen log 0 v.seen
      × ((i : ℕ) (list : L) → get_elem? v.kept i ≡ some list → HasSeen log (1 + i) list) × ((n : ℕ) → v.count ≤ n → calls_by n log ≡ [])

  pub closes : (id : ℕ) (v : V) (words : List ℕ) (slots : List (Option O)) → v.number ≡ 0 → v.base ≡ None → length v.kept + 1 ≡ v.count → Final (Seen Rule id v) words slots → Closes v slots
  closes id v words slots number no_base all f = let s = f.0 in let r : Rule s = f.1.0 in let at = f.1.1 in
      let know = live s r id v at (counted v (omega arith)) in let id0 : id ≡ 0 = sym know.number_is ∙ number in
      let at0 : get_elem? s.views 0 ≡ some v = subst (λ (n : ℕ). get_elem? s.views n ≡ some v) id0 at in let is : v ≡ r.lead = some-injective v r.lead (sym at0 ∙ r.leads.at) in
      let leads_v : Leads r.log s.views v = subst (Leads r.log s.views) (sym is) r.leads in let count = leads_v.count_is in
      let long : ℕ = length v.kept in let all' : long + 1 ≡ v.count = all in
      let home : IsHome r.object s = ⊎_elim (λ h. h) (λ (h : IsOut r.log s). let j : ℕ = h.1.0 in dite (ℕ_discrete j 0)
      (λ zero_is. absurd (none-some r.log (sym no_base ∙ (ap (λ (z : V). z.base) (some-injective v h.1.1 (sym at0 ∙ subst (λ (n : ℕ). get_elem? s.views n ≡ some h.1.1) zero_is h.1.2)) ∙ h.1.3))))
      (λ later. let below = at_below s.views j h.1.1 h.1.2 in let total : ℕ = length s.views in let c : v.count ≡ total = count in let b : j < total = below in
      let t = there_is v.kept (j - 1) (omega arith) in let k = leads_v.kept (j - 1) t.0 t.1 in let seat : v.count - long + (j - 1) ≡ j = omega arith in
      absurd (based h.1.1 r.log h.1.3 (some-injective h.1.1 gone (sym h.1.2 ∙ subst (λ (n : ℕ). get_elem? s.views n ≡ some gone) seat k.0))))) r.place in (
        r.log,
        r.object,
        f.4 0 (Some r.object) (ap (λ hs. get_elem? hs 0) home.0),
        r.legal,
        r.stored,
        subst (λ (n : ℕ). HasSeen r.log n v.seen) id0 know.seen,
        (λ i list e. let seat : v.count - long + i ≡ 1 + i = omega arith in subst (λ (n : ℕ). HasSeen r.log n list) seat (leads_v.kept i list e).1),
        λ n far. r.strangers n (subst (λ (m : ℕ). m ≤ n) count far),
      )

  -- what the object's call promises lets it be given back
  pub may_give : {E : Type 0} (answer : Result R E) (b : L) (o p : O) (caller : ℕ) (call : C) → Legal steps x b o → history o ≡ history x ++ b
      → IfOk answer (λ r. steps o caller call r p) → IfOk answer (λ r. history p ≡ history o ++ entry_of caller call r ∷ []) → OnErr answer (p ≡ o) → MayGive steps history x b caller p
  may_give (Ok r) b o p caller call legal stored one entry refused = let e : TurnEntry C R = entry_of caller call r in inr (e, refl, legal_more steps x o p b e legal one, entry ∙ ap (λ l. l ++ e ∷ []) stored)
  may_give (Err f) b o p caller call legal stored one entry refused = inl (subst (Legal steps x b) (sym refused) legal, ap history refused ∙ stored)

  -- what the caller learns
  pub learns : {E : Type 0} (answer : Result R E) (b : L) (o p : O) (caller : ℕ) (call : C) (old mid new : L) → Legal steps x b o → history o ≡ history x ++ b → HasSeen b caller old → mid ≡ old
      → IfOk answer (λ r. steps o caller call r p) → IfOk answer (λ r. history p ≡ history o ++ entry_of caller call r ∷ []) → OnErr answer (p ≡ o)
      → (history p ≡ history x ++ b → new ≡ mid) × ((e : TurnEntry C R) → history p ≡ history x ++ b ++ e ∷ [] → new ≡ b ++ e ∷ [])
      → MatchResult answer (λ reply. Gains steps x old (entry_of caller call reply) new) (λ _. new ≡ old)
  learns (Ok r) b o p caller call old mid new legal stored seen same one entry refused told = let e : TurnEntry C R = entry_of caller call r in let is : new ≡ b ++ e ∷ [] = told.1 e (entry ∙ ap (λ l. l ++ e ∷ []) stored) in record {
    before = b;
    begins = seen.begins;
    ends = is;
    legal = (p, subst (λ (l : L). Legal steps x l p) (sym is) (legal_more steps x o p b e legal one));
    own = ap (calls_by caller) is ∙ (calls_more caller b e refl ∙ ap (λ l. l ++ e ∷ []) seen.own);
  }
  learns (Err f) b o p caller call old mid new legal stored seen same one entry refused told = told.0 (ap history refused ∙ stored) ∙ same
