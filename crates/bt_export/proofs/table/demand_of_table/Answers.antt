-- the fault is that of the traffic text, with the line of the table
use Rattle.std.proofs.Common.{◌≡◌, Bool, List, ℕ, ◌++◌, subst, ap, ◌∙◌}
use Rattle.bt_text.specs.Reading.{IsFaultOf}
use Rattle.bt_plan.specs.TrafficText.{demand_of}
use Rattle.bt_export.specs.Table.{has_header, lowered, rows_of, traffic_lines, traffic_of}
use Rattle.bt_export.proofs.table.demand_of_table.Goals as goal

pub returns-clause-reading : goal.returns-clause-reading
returns-clause-reading c =
    let net = c.args.net.now in
    let table = c.args.table.now in
    let text : c.deref.result.now ≡ traffic_of table =
    c.deref.ensures.value ∙ (c.in_ok-add_rows.ensures.added ∙ (ap (λ (t : List ℕ). t ++ traffic_lines (rows_of c.in_ok-links.links.rows.now)) c.new-text.ensures.items ∙ ap traffic_lines c.in_ok-links.ensures.rows)) in
    subst (λ (t : List ℕ). IsFaultOf (lowered (has_header (rows_of table)) (demand_of net t)) c.lowered.result) text
    (subst (λ (b : Bool). IsFaultOf (lowered b (demand_of net c.deref.result.now)) c.lowered.result) c.in_ok-links.ensures.header
    (c.lowered.ensures.lowered (demand_of net c.deref.result.now) c.in-Err.ensures.reading))
