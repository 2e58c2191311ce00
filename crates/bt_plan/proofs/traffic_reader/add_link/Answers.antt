-- the link joins the demand and its matrix, or a sum would pass the limit
use Rattle.std.proofs.Common.{◌≡◌, ℕ, ◌<◌, List, length, Ok, sym, ap, ◌∙◌, subst, arith}
use Rattle.bt_matrix.specs.Traffic.{row_sum, column_sum, IsTraffic}
use Rattle.bt_demand.specs.declared.demand.Link.{Link}
use Rattle.bt_demand.specs.Traffic.{matrix_of, AreOfNetwork}
use Rattle.bt_demand.proofs.Matrices.{length-matrix_of, added}
use Rattle.bt_plan.proofs.TrafficLines.{next, length-with_link, row_passes, column_passes, both_fit, still_traffic, with_link-All, is_with_link}
use Rattle.bt_plan.proofs.traffic_reader.add_link.Goals as goal

row_is : (matrix rows : List (List ℕ)) (up sum : ℕ) → matrix ≡ rows → sum ≡ row_sum matrix up → sum ≡ row_sum rows up
row_is matrix rows up sum same is = is ∙ ap (λ (m : List (List ℕ)). row_sum m up) same

column_is : (matrix rows : List (List ℕ)) (down sum : ℕ) → matrix ≡ rows → sum ≡ column_sum matrix down → sum ≡ column_sum rows down
column_is matrix rows down sum same is = is ∙ ap (λ (m : List (List ℕ)). column_sum m down) same

-- both beams are on the matrix
pub row_sum-requires : goal.row_sum-requires
row_sum-requires c = record { up = rw c.requires.read.matrix (omega (arith, length-matrix_of c.args.net.now c.args.links.now, c.beam_of-up.ensures.in_range)) }

pub column_sum-requires : goal.column_sum-requires
column_sum-requires c = record { down = rw c.requires.read.matrix (omega (arith, length-matrix_of c.args.net.now c.args.links.now, c.beam_of-down.ensures.in_range)) }

pub add-requires-2-clause-up : goal.add-requires-2-clause-up
add-requires-2-clause-up c = rw c.requires.read.matrix (omega (arith, length-matrix_of c.args.net.now c.args.links.now, c.beam_of-up.ensures.in_range))

pub add-requires-2-clause-down : goal.add-requires-2-clause-down
add-requires-2-clause-down c = rw c.requires.read.matrix (omega (arith, length-matrix_of c.args.net.now c.args.links.now, c.beam_of-down.ensures.in_range))

-- a sum is small before it gains
pub overflow_add-column_sum : goal.overflow_add-column_sum
overflow_add-column_sum c =
    let small = c.requires.read.traffic.column_sums c.beam_of-down.result.0 (omega (arith, length-matrix_of c.args.net.now c.args.links.now, c.beam_of-down.ensures.in_range)) in
    let is = column_is c.args.matrix.now (matrix_of c.args.net.now c.args.links.now) c.beam_of-down.result.0 c.column_sum.result c.requires.read.matrix c.column_sum.ensures.sum in
    omega (arith, small, is, c.requires.link.few)

-- a sum that passes the limit
pub returns-then-row_sum-link-gt-MOST_SUM-clause-reading : goal.returns-then-row_sum-link-gt-MOST_SUM-clause-reading
returns-then-row_sum-link-gt-MOST_SUM-clause-reading c =
    rw c.fault_at-then-row_sum-link-gt-MOST_SUM.ensures.fault (row_passes c.args.net.now c.args.links.now c.args.link c.beam_of-up.result c.beam_of-down.result (omega (arith, c.units.ensures, c.if-units-gt0.false)) c.requires.read.traffic c.beam_of-up.ensures.beam c.beam_of-down.ensures.beam c.beam_of-up.ensures.in_range c.beam_of-down.ensures.in_range c.args.at (omega (arith, row_is c.args.matrix.now (matrix_of c.args.net.now c.args.links.now) c.beam_of-up.result.0 c.row_sum.result c.requires.read.matrix c.row_sum.ensures.sum, c.if-row_sum-link-gt-MOST_SUM.true)))

pub returns-then-column_sum-link-gt-MOST_SUM-clause-reading : goal.returns-then-column_sum-link-gt-MOST_SUM-clause-reading
returns-then-column_sum-link-gt-MOST_SUM-clause-reading c =
    rw c.fault_at-then-column_sum-link-gt-MOST_SUM.ensures.fault (column_passes c.args.net.now c.args.links.now c.args.link c.beam_of-up.result c.beam_of-down.result (omega (arith, c.units.ensures, c.if-units-gt0.false)) c.requires.read.traffic c.beam_of-up.ensures.beam c.beam_of-down.ensures.beam c.beam_of-up.ensures.in_range c.beam_of-down.ensures.in_range c.args.at (omega (arith, row_is c.args.matrix.now (matrix_of c.args.net.now c.args.links.now) c.beam_of-up.result.0 c.row_sum.result c.requires.read.matrix c.row_sum.ensures.sum, c.if-row_sum-link-gt-MOST_SUM.false)) (omega (arith, column_is c.args.matrix.now (matrix_of c.args.net.now c.args.links.now) c.beam_of-down.result.0 c.column_sum.result c.requires.read.matrix c.column_sum.ensures.sum, c.if-column_sum-link-gt-MOST_SUM.true)))

-- both within the limit
pub returns-clause-reading : goal.returns-clause-reading
returns-clause-reading c =
    both_fit c.args.net.now c.args.links.now c.args.link c.beam_of-up.result c.beam_of-down.result (omega (arith, c.units.ensures, c.if-units-gt0.false)) c.requires.read.traffic c.beam_of-up.ensures.beam c.beam_of-down.ensures.beam c.beam_of-up.ensures.in_range c.beam_of-down.ensures.in_range c.args.at (omega (arith, row_is c.args.matrix.now (matrix_of c.args.net.now c.args.links.now) c.beam_of-up.result.0 c.row_sum.result c.requires.read.matrix c.row_sum.ensures.sum, c.if-row_sum-link-gt-MOST_SUM.false)) (omega (arith, column_is c.args.matrix.now (matrix_of c.args.net.now c.args.links.now) c.beam_of-down.result.0 c.column_sum.result c.requires.read.matrix c.column_sum.ensures.sum, c.if-column_sum-link-gt-MOST_SUM.false))
    ∙ ap (λ (links : List Link). Ok links) (sym (is_with_link c.args.link c.args.links.now c.add.new.self c.requires.read.demand c.add.ensures.demand (record { differ = c.requires.link.differ; some = c.requires.link.some; few = omega (arith, c.requires.link.few) }) (omega (arith, c.units.ensures, c.if-units-gt0.false)) c.add.ensures.gains))

pub returns-clause-read : goal.returns-clause-read
returns-clause-read c =
    let is = is_with_link c.args.link c.args.links.now c.add.new.self c.requires.read.demand c.add.ensures.demand (record { differ = c.requires.link.differ; some = c.requires.link.some; few = omega (arith, c.requires.link.few) }) (omega (arith, c.units.ensures, c.if-units-gt0.false)) c.add.ensures.gains in
    record {
      demand = c.add.ensures.demand;
      terminals = subst (AreOfNetwork c.args.net.now) (sym is) (with_link-All (λ (l : Link). (l.from.0 < length c.args.net.now.terminals) × (l.to.0 < length c.args.net.now.terminals)) c.args.link c.args.links.now (c.requires.link.sends, c.requires.link.receives) c.requires.read.terminals);
      traffic = subst (λ (links : List Link). IsTraffic (matrix_of c.args.net.now links)) (sym is) (still_traffic c.args.net.now c.args.links.now c.args.link c.beam_of-up.result c.beam_of-down.result (omega (arith, c.units.ensures, c.if-units-gt0.false)) c.requires.read.traffic c.beam_of-up.ensures.beam c.beam_of-down.ensures.beam c.beam_of-up.ensures.in_range c.beam_of-down.ensures.in_range (omega (arith, row_is c.args.matrix.now (matrix_of c.args.net.now c.args.links.now) c.beam_of-up.result.0 c.row_sum.result c.requires.read.matrix c.row_sum.ensures.sum, c.if-row_sum-link-gt-MOST_SUM.false)) (omega (arith, column_is c.args.matrix.now (matrix_of c.args.net.now c.args.links.now) c.beam_of-down.result.0 c.column_sum.result c.requires.read.matrix c.column_sum.ensures.sum, c.if-column_sum-link-gt-MOST_SUM.false)));
      matrix = added c.args.matrix.now c.add-2.new.self _ (matrix_of c.args.net.now c.add.new.self) _ _ _ c.requires.read.matrix c.add-2.ensures.rows (ap (matrix_of c.args.net.now) is ∙ next c.args.net.now c.args.links.now c.args.link c.beam_of-up.result c.beam_of-down.result (omega (arith, c.units.ensures, c.if-units-gt0.false)) c.requires.read.traffic c.beam_of-up.ensures.beam c.beam_of-down.ensures.beam c.beam_of-up.ensures.in_range c.beam_of-down.ensures.in_range);
    }

pub returns-clause-count : goal.returns-clause-count
returns-clause-count c = ap length (is_with_link c.args.link c.args.links.now c.add.new.self c.requires.read.demand c.add.ensures.demand (record { differ = c.requires.link.differ; some = c.requires.link.some; few = omega (arith, c.requires.link.few) }) (omega (arith, c.units.ensures, c.if-units-gt0.false)) c.add.ensures.gains) ∙ length-with_link c.args.link c.args.links.now
