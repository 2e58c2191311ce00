-- the first row is a header, or not
use Rattle.std.proofs.Common.{sym, ap, ◌∙◌}
use Rattle.bt_export.specs.Table.{has_header}
use Rattle.bt_export.proofs.Rows.{first_row}
use Rattle.bt_export.proofs.table.below_header.Goals as goal

pub returns-in-Some-clause-header : goal.returns-in-Some-clause-header
returns-in-Some-clause-header c =
    c.below_first.ensures.header ∙ (c.in_ok-is_header.ensures ∙ sym (ap has_header (first_row c.args.table.now c.in-Some.first.now c.in-Some.behind.now c.in-Some.ensures.line)))
