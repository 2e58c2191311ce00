use Rattle.std.proofs.Common.{◌≡◌, length, sym, ◌∙◌, inl, inr, rules}
use Rattle.bt_demand.specs.Traffic.{matrix_of}
use Rattle.bt_demand.proofs.Matrices.{length-matrix_of}
use Rattle.bt_demand.specs.Rows.{all_links}
use Rattle.bt_demand.proofs.SumsSoFar.{AreLineSums-take, line_of_beams, is_least, not_least}
use Rattle.bt_demand.proofs.length_faults.heavier_in_demand.Goals as goal
use Rattle.bt_demand.proofs.length_faults.heavier_in_demand.Goals.{else-schedule-most-via-then-schedule-most+else-reached-most, else-schedule-most-via-else-schedule-most}

pub returns-then-reached-most : goal.returns-then-reached-most
returns-then-reached-most c =
    let rows = matrix_of c.args.net.now (all_links c.args.rows.now) in
    let count : c.beam_count-beams.result ≡ length (matrix_of c.args.net.now (all_links c.args.rows.now)) = c.beam_count-beams.ensures.count ∙ sym (length-matrix_of c.args.net.now (all_links c.args.rows.now)) in
    let heaviest = c.heaviest_line-line.ensures.heaviest rows (AreLineSums-take rows c.line_sums-sums.result.rows c.line_sums-sums.result.columns c.beam_count-beams.result c.line_sums-sums.ensures (search rules) (search rules) count) in
    let line = line_of_beams rows (length c.args.net.now.beams) c.args.schedule.now.critical (sym (length-matrix_of c.args.net.now (all_links c.args.rows.now))) c.requires.critical in
    is_least rows c.args.schedule.now c.heaviest_line-line.result.0 c.heaviest_line-line.result.1 heaviest line c.if-schedule-most.true
    (sym (c.kept_sum_of-reached.ensures rows c.line_sums-sums.ensures line) ∙ c.if-reached-most.true)

pub returns-else-schedule-most : goal.returns-else-schedule-most
returns-else-schedule-most c =
    let rows = matrix_of c.args.net.now (all_links c.args.rows.now) in
    let count : c.beam_count-beams.result ≡ length (matrix_of c.args.net.now (all_links c.args.rows.now)) = c.beam_count-beams.ensures.count ∙ sym (length-matrix_of c.args.net.now (all_links c.args.rows.now)) in
    let heaviest = c.heaviest_line-line.ensures.heaviest rows (AreLineSums-take rows c.line_sums-sums.result.rows c.line_sums-sums.result.columns c.beam_count-beams.result c.line_sums-sums.ensures (search rules) (search rules) count) in
    let line = line_of_beams rows (length c.args.net.now.beams) c.args.schedule.now.critical (sym (length-matrix_of c.args.net.now (all_links c.args.rows.now))) c.requires.critical in
    let is = c.kept_sum_of-reached.ensures rows c.line_sums-sums.ensures line in (
      not_least rows c.args.schedule.now c.heaviest_line-line.result.0 c.heaviest_line-line.result.1 heaviest (elim c.else-schedule-most.branch [
        | else-schedule-most-via-then-schedule-most+else-reached-most w ↦ inr (λ same. w.if-reached-most.false (is ∙ same))
        | else-schedule-most-via-else-schedule-most w ↦ inl w.if-schedule-most.false
      ]),
      heaviest,
    )
