-- The pieces of a link, as the link gets more of its slots.
use Rattle.std.proofs.Common.{◌≡◌, ◌⊎◌, ℕ, ◌+◌, ◌<◌, ◌≤◌, max, List, [], ◌∷◌, ◌++◌, length, get_or, Contains, sym, ap, ◌∙◌, subst, inl, inr, ⊎_elim, arith}
use Rattle.std.proofs.lemmas.Bool.{cases_eq, cases_lt}
use Rattle.std.proofs.lemmas.List.Elements.{All-push, Contains-append_left, Contains-append_right, All-contains_itself}
use Rattle.std.proofs.lemmas.List.Quantifiers.{all_pairs_push}
use Rattle.bt_frame.specs.declared.numbers.TermNo.{TermNo}
use Rattle.bt_frame.specs.declared.mode.Mode.{Mode}
use Rattle.bt_demand.specs.declared.burst.Burst.{Burst}
use Rattle.bt_demand.specs.Plan.{begin_of}
use Rattle.bt_cut.specs.Serving.{number_at, IsPiece, ArePieces}
use Rattle.bt_demand.proofs.Begins.{begin_of-le}
use Rattle.bt_cut.proofs.Numbers.{numbers_grow, numbers_step}

-- bursts with equal fields are the same
pub same_burst : (a b : Burst) → a.from ≡ b.from → a.to ≡ b.to → a.start ≡ b.start → a.length ≡ b.length → a ≡ b
same_burst a b from to start length =
    ap (λ (x : TermNo). let burst : Burst = record { from = x; to = a.to; start = a.start; length = a.length } in burst) from
    ∙ (ap (λ (x : TermNo). let burst : Burst = record { from = b.from; to = x; start = a.start; length = a.length } in burst) to
    ∙ (ap (λ (x : ℕ). let burst : Burst = record { from = b.from; to = b.to; start = x; length = a.length } in burst) start
    ∙ ap (λ (x : ℕ). let burst : Burst = record { from = b.from; to = b.to; start = b.start; length = x } in burst) length))

-- A burst that goes on where `done` units of a link were served, within what a mode gives, and from its start on
-- unless none were served.
pub record GoesOn (modes : List Mode) (up down : ℕ) (from to : TermNo) (first done place : ℕ) (burst : Burst) : Type 0 where
  pub in_range : place < length modes
  pub sends : burst.from ≡ from
  pub receives : burst.to ≡ to
  pub some : 0 < burst.length
  pub begins : burst.start + number_at modes up down place ≡ begin_of modes place + (first + done)
  pub starts : number_at modes up down place ≤ first + done
  pub within : first + done + burst.length ≤ number_at modes up down (place + 1)
  pub whole : (number_at modes up down place ≡ first + done) ⊎ (done ≡ 0)

-- it is a piece of the units served with it
piece_here : (modes : List Mode) (up down : ℕ) (from to : TermNo) (first done place : ℕ) (burst : Burst) → GoesOn modes up down from to first done place burst
    → IsPiece modes up down from to first (done + burst.length) place burst
piece_here modes up down from to first done place burst goes =
    let at : max first (number_at modes up down place) ≡ first + done = ⊎_elim
    (λ (whole : number_at modes up down place ≡ first + done). omega arith)
    (λ (none : done ≡ 0). omega (arith, goes.starts))
    goes.whole in
    record {
      in_range = goes.in_range;
      sends = goes.sends;
      receives = goes.receives;
      some = goes.some;
      begins = omega (arith, goes.begins, at);
      ends = omega (arith, at, goes.within);
    }

-- there was no piece of these units in this mode before
none_here : (modes : List Mode) (up down : ℕ) (from to : TermNo) (first done place : ℕ) (burst old : Burst) → GoesOn modes up down from to first done place burst
    → IsPiece modes up down from to first done place old → ⊥
none_here modes up down from to first done place burst old goes piece = ⊎_elim
    (λ (whole : number_at modes up down place ≡ first + done). omega (arith, piece.ends, piece.some))
    (λ (none : done ≡ 0). omega (arith, piece.ends, piece.some))
    goes.whole

-- nor in a later one
none_later : (modes : List Mode) (up down : ℕ) (from to : TermNo) (first done extra place later : ℕ) (burst old : Burst)
    → GoesOn modes up down from to first done place burst → place < later → extra ≤ burst.length
    → IsPiece modes up down from to first (done + extra) later old → ⊥
none_later modes up down from to first done extra place later burst old goes less few piece =
    omega (arith, goes.within, piece.ends, piece.some, numbers_grow modes up down (place + 1) later (omega arith))

-- the piece of an earlier mode is the same, however many units there are from those done on
same_piece : (modes : List Mode) (up down : ℕ) (from to : TermNo) (first done before after place earlier : ℕ) (burst old : Burst)
    → GoesOn modes up down from to first done place burst → earlier < place → done ≤ before → done ≤ after
    → IsPiece modes up down from to first before earlier old → IsPiece modes up down from to first after earlier old
same_piece modes up down from to first done before after place earlier burst old goes less lower upper piece = record {
  in_range = piece.in_range;
  sends = piece.sends;
  receives = piece.receives;
  some = piece.some;
  begins = piece.begins;
  ends = omega (arith, piece.ends, goes.starts, numbers_grow modes up down (earlier + 1) place (omega arith));
}

-- so it is the same before and after
piece_kept : (modes : List Mode) (up down : ℕ) (from to : TermNo) (first done place earlier : ℕ) (burst old : Burst)
    → GoesOn modes up down from to first done place burst → earlier < place → IsPiece modes up down from to first done earlier old
    → IsPiece modes up down from to first (done + burst.length) earlier old
piece_kept modes up down from to first done place earlier burst old goes less =
    same_piece modes up down from to first done done (done + burst.length) place earlier burst old goes less (omega arith) (omega arith)

piece_was : (modes : List Mode) (up down : ℕ) (from to : TermNo) (first done place earlier : ℕ) (burst old : Burst)
    → GoesOn modes up down from to first done place burst → earlier < place → IsPiece modes up down from to first (done + burst.length) earlier old
    → IsPiece modes up down from to first done earlier old
piece_was modes up down from to first done place earlier burst old goes less =
    same_piece modes up down from to first done (done + burst.length) done place earlier burst old goes less (omega arith) (omega arith)

-- a piece of the units before is in an earlier mode
piece_before : (modes : List Mode) (up down : ℕ) (from to : TermNo) (first done place at : ℕ) (burst old : Burst)
    → GoesOn modes up down from to first done place burst → IsPiece modes up down from to first done at old → at < place
piece_before modes up down from to first done place at burst old goes piece =
    elim (cases_lt at place) [
      | inl less ↦ less
      | inr more ↦
          elim (cases_eq at place) [
            | inl same ↦ absurd (none_here modes up down from to first done place burst old goes (subst (λ (p : ℕ). IsPiece modes up down from to first done p old) same piece))
            | inr other ↦ absurd (none_later modes up down from to first done 0 place at burst old goes (omega arith) (omega arith)
                (record { in_range = piece.in_range; sends = piece.sends; receives = piece.receives; some = piece.some; begins = piece.begins; ends = omega (arith, piece.ends) }))
          ]
    ]

-- the bursts of the units before with one that goes on are those of all
pub ArePieces-more : (modes : List Mode) (up down : ℕ) (from to : TermNo) (first done place : ℕ) (bursts : List Burst) (burst : Burst)
    → GoesOn modes up down from to first done place burst → ArePieces modes up down from to first done bursts
    → ArePieces modes up down from to first (done + burst.length) (bursts ++ burst ∷ [])
ArePieces-more modes up down from to first done place bursts burst goes pieces =
    let here = piece_here modes up down from to first done place burst goes in
    record {
      each = All-push (λ (b : Burst). (at : ℕ) × IsPiece modes up down from to first (done + burst.length) at b) bursts burst
          (λ k d within. let (at, piece) = pieces.each k d within in
          (at, piece_kept modes up down from to first done place at burst (get_or bursts k d) goes (piece_before modes up down from to first done place at burst (get_or bursts k d) goes piece) piece))
          (place, here);
      all = λ at b piece.
          elim (cases_lt at place) [
            | inl less ↦ Contains-append_left bursts (burst ∷ []) b (pieces.all at b (piece_was modes up down from to first done place at burst b goes less piece))
            | inr more ↦
                elim (cases_eq at place) [
                  | inl same ↦
                      let there = subst (λ (p : ℕ). IsPiece modes up down from to first (done + burst.length) p b) same piece in
                      let equal : burst ≡ b = same_burst burst b (here.sends ∙ sym there.sends) (here.receives ∙ sym there.receives) (omega (arith, here.begins, there.begins)) (omega (arith, here.ends, there.ends)) in
                      subst (λ (x : Burst). Contains (bursts ++ burst ∷ []) x) equal (Contains-append_right bursts (burst ∷ []) burst (All-contains_itself (burst ∷ []) 0 burst (omega arith)))
                  | inr other ↦ absurd (none_later modes up down from to first done burst.length place at burst b goes (omega arith) (omega arith) piece)
                ]
          ];
      distinct = all_pairs_push (λ (a b : Burst). (a ≡ b) → ⊥) bursts burst pieces.distinct
          (λ k d within same.
          let (at, piece) = pieces.each k d within in
          let less = piece_before modes up down from to first done place at burst (get_or bursts k d) goes piece in
          let starts = ap (λ (b : Burst). b.start) same in
          omega (arith, starts, piece.begins, piece.ends, piece.some, goes.begins, goes.starts, numbers_step modes up down at piece.in_range, begin_of-le modes (at + 1) place (omega arith)));
    }
