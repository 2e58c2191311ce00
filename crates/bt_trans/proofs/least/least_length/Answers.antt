use Rattle.std.proofs.Common.{◌≡◌, ℕ, ap, ◌∙◌, arith}
use Rattle.std.specs.Int.{div_ceil}
use Rattle.bt_trans.specs.Part.{total_slots}
use Rattle.bt_trans.proofs.LeastLengths.{line-limit, least-total}
use Rattle.bt_trans.proofs.least.least_length.Goals as goal

-- no line passes the limit
pub returns-then-share-most-clause-limit : goal.returns-then-share-most-clause-limit
returns-then-share-most-clause-limit c =
    let heaviest = c.heaviest-line.ensures.heaviest in
    λ _. omega (arith, line-limit c.args.matrix.now c.heaviest-line.result.0 c.size-size.ensures.traffic heaviest.on_matrix, heaviest.reached)

-- the total's share passes the heaviest line
pub returns-else-share-most-clause-least : goal.returns-else-share-most-clause-least
returns-else-share-most-clause-least c =
    let rows = c.args.matrix.now in
    let share_is : c.div_ceil-share.result ≡ div_ceil (total_slots rows) c.args.k = c.div_ceil-share.ensures ∙ ap (λ (t : ℕ). div_ceil t c.args.k) c.total_of.ensures.total in
    least-total rows c.args.k c.div_ceil-share.result c.heaviest-line.result.1 c.heaviest-line.result.0 (omega (arith, c.requires.some)) c.heaviest-line.ensures.heaviest c.if-share-most.false share_is
