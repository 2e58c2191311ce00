-- The least length.
use Rattle.std.proofs.Common.{◌≡◌, ℕ, ◌+◌, ◌*◌, ◌<◌, ◌≤◌, List, inl, inr, arith}
use Rattle.std.specs.Int.{div_ceil}
use Rattle.std.proofs.lemmas.Bool.{cases_lt, cases_order}
use Rattle.std.proofs.lemmas.Grind.{div_ceil_times}
use Rattle.bt_frame.specs.declared.schedule.Critical.{Critical}
use Rattle.bt_frame.specs.declared.schedule.Critical.TheVariants.{Row, Column}
use Rattle.bt_matrix.specs.Traffic.{line_sum, IsLine, IsTraffic, IsHeaviest}
use Rattle.bt_trans.specs.declared.part.Bound.{Bound}
use Rattle.bt_trans.specs.declared.part.Bound.TheVariants.{Line, Total}
use Rattle.bt_trans.specs.Part.{total_slots, IsReached, IsLeastLength}

-- k times a number less than another is k less at least
by_k : (k a b : ℕ) → b < a → k * b + k ≤ k * a
by_k k a b less = grind arith

-- what a bound reaches is within each length that is enough
pub reached-le : (rows : List (List ℕ)) (k slots enough : ℕ) (bound : Bound) → IsReached rows k slots bound
    → ((line : Critical) → IsLine rows line → line_sum rows line ≤ enough) → total_slots rows ≤ k * enough → slots ≤ enough
reached-le rows k slots enough (Line line) (inside, reached) lines total = omega (arith, reached, lines line inside)
reached-le rows k slots enough Total (room, reached) lines total = elim (cases_lt enough slots) [
  | inl less ↦ absurd (omega (arith, by_k k slots enough less, reached, total))
  | inr most ↦ most
]

-- So there is one least length.
pub one_least : (rows : List (List ℕ)) (k slots other : ℕ) (bound further : Bound) → IsLeastLength rows k slots bound → IsLeastLength rows k other further
    → slots ≡ other
one_least rows k slots other bound further a b =
    let low = reached-le rows k slots other bound a.reached b.lines b.total in
    let high = reached-le rows k other slots further b.reached a.lines a.total in
    omega (arith, low, high)

-- no line passes the limit
pub line-limit : (rows : List (List ℕ)) (line : Critical) → IsTraffic rows → IsLine rows line → line_sum rows line ≤ 1048576
line-limit rows (Row up) is inside = is.row_sums up.0 inside
line-limit rows (Column down) is inside = is.column_sums down.0 inside

-- the total divided by k, rounded up, is what the total asks for
pub share-reached : (rows : List (List ℕ)) (k share : ℕ) → 0 < k → share ≡ div_ceil (total_slots rows) k → IsReached rows k share Total
share-reached rows k share some share_is =
    let times = div_ceil_times (total_slots rows) k some in
    let enough : total_slots rows ≤ share * k = rw share_is times.0 in
    let reached : share * k < total_slots rows + k = rw share_is times.1 in
    let order : k * share ≡ share * k = grind arith in
    (omega (arith, enough, order), omega (arith, reached, order))

-- and nothing else is
pub reached-share : (rows : List (List ℕ)) (k share slots : ℕ) → 0 < k → share ≡ div_ceil (total_slots rows) k → IsReached rows k slots Total → share ≡ slots
reached-share rows k share slots some share_is reached =
    let shared = share-reached rows k share some share_is in
    elim (cases_order share slots) [
      | inl same ↦ same
      | inr order ↦ elim order [
        | inl less ↦ absurd (omega (arith, by_k k slots share less, shared.0, reached.1))
        | inr more ↦ absurd (omega (arith, by_k k share slots more, shared.1, reached.0))
      ]
    ]

-- it is the least length where it is greater than each line
pub least-total : (rows : List (List ℕ)) (k share most : ℕ) (line : Critical) → 0 < k → IsHeaviest rows line most → most < share
    → share ≡ div_ceil (total_slots rows) k → IsLeastLength rows k share Total
least-total rows k share most line some heaviest less share_is =
    let reached = share-reached rows k share some share_is in
    record {
      lines = λ other inside. omega (arith, heaviest.greatest other inside);
      total = reached.0;
      reached = reached;
    }
