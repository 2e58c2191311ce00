-- A link that is served burst by burst.
use Rattle.std.proofs.Common.{◌≡◌, ◌⊎◌, ℕ, ◌+◌, ◌<◌, ◌≤◌, List, [], ◌∷◌, ◌++◌, length, ap, ◌∙◌, inl, inr, ⊎_elim, arith, append_assoc}
use Rattle.std.proofs.lemmas.Bool.{cases_lt}
use Rattle.std.proofs.lemmas.List.{take_all, length-append}
use Rattle.bt_frame.specs.declared.numbers.TermNo.{TermNo}
use Rattle.bt_demand.specs.declared.burst.Burst.{Burst}
use Rattle.bt_cut.specs.declared.connection.Connection.{Connection}
use Rattle.bt_cut.specs.declared.connection.Span.{Span}
use Rattle.bt_cut.specs.Serving.{slots_in_all, taken_of, IsReady, IsNext, IsServedBy}
use Rattle.bt_cut.proofs.Pieces.{ArePieces-more}

-- where slots are left there is a next span
pub next_span : (connection : Connection) (left : ℕ) → IsReady connection → 0 < left → taken_of connection + left ≤ slots_in_all connection.spans.items
    → connection.next < length connection.spans.items
next_span connection left ready some enough =
    elim (cases_lt connection.next (length connection.spans.items)) [
      | inl inside ↦ inside
      | inr beyond ↦
          let all = ap slots_in_all (take_all connection.next connection.spans.items beyond) in
          absurd (omega (arith, all, enough, ready.none beyond))
    ]

-- one burst more
pub served_more : (from to : TermNo) (first done left : ℕ) (old now : List Burst) (connection new : Connection) (burst : Burst)
    → IsServedBy connection.spans.items from to first done old now → taken_of connection ≡ first + done → connection.next < length connection.spans.items
    → (connection.used ≡ 0) ⊎ (done ≡ 0) → IsNext connection new from to left burst
    → IsServedBy connection.spans.items from to first (done + burst.length) old (now ++ burst ∷ [])
served_more from to first done left old now connection new burst served at inside whole is =
    let other : Span = record { start = 0; length = 0 } in
    record {
      more = served.more ++ burst ∷ [];
      behind = ap (λ (l : List Burst). l ++ burst ∷ []) served.behind ∙ append_assoc old served.more (burst ∷ []);
      few = omega (arith, length-append served.more (burst ∷ []), served.few, is.some);
      pieces = λ modes up down turns.
          let turn = turns connection.next other inside in
          ArePieces-more modes up down from to first done turn.place served.more burst
          (record {
            in_range = turn.in_range;
            sends = is.sends;
            receives = is.receives;
            some = is.some;
            begins = omega (arith, is.begins other, turn.begins, turn.before, at);
            starts = omega (arith, turn.before, at);
            within = omega (arith, is.within other, turn.before, turn.behind, at);
            whole = ⊎_elim (λ (start : connection.used ≡ 0). inl (omega (arith, turn.before, at))) (λ (none : done ≡ 0). inr none) whole;
          })
          (served.pieces modes up down turns);
    }
