use Rattle.std.proofs.Common.{get_or, None, ap, ◌∙◌, ℕ, ◌+◌, List, Option, Vec, Global, map, length, ◌<◌, arith, sym}
use Rattle.std.proofs.lemmas.List.{length-map, get_or_read}
use Rattle.std.specs.Option.{unwrap_or}
use Rattle.bt_matrix.specs.Table.{column_of}
use Rattle.bt_matrix.specs.Links.{last_or, nodes_of}
use Rattle.bt_matrix.proofs.LinkedLines.{last_or-more}
use Rattle.bt_matrix.proofs.Tables.{line_of-lists, get_or-column, column-take}
use Rattle.bt_matrix.proofs.table.before_in_column.Goals as goal

pub loop-line-preserved : goal.loop-line-preserved
loop-line-preserved c =
    let table = c.args.table.now in
    let lists = map (λ (line : Vec (Option ℕ) Global). line.items) table in
    let i = c.loop-line.line-index in
    let down = c.args.down.0 in
    let column = column_of lists down in
    let at = c.index.result.now in
    let line = line_of-lists table i c.line-item.result c.loop-line-test.true c.line-item.is in
    let long : down < length c.line-item.result.items = rw (← ap (λ (v : Vec (Option ℕ) Global). length v.items) c.line-item.is) at (c.requires.long i c.line-item.result c.loop-line-test.true) in
    let here = get_or-column lists i down ∙ (ap (λ (xs : List (Option ℕ)). get_or xs down None) line ∙ sym (get_or_read c.line-item.result.items down at long c.index.ensures None)) in
    let within : i < length column = omega (arith, length-map lists (λ (xs : List (Option ℕ)). get_or xs down None), length-map table (λ (line : Vec (Option ℕ) Global). line.items)) in
    let more = last_or-more c.args.head i column at within here in
    let so_far = ap (λ (last : ℕ). unwrap_or at last) c.loop-line.invariant in
    let past = column-take table (i + 1) down in
    let past_i = column-take table i down in
    rw past (c.unwrap_or-last.ensures ∙ (so_far ∙ (ap (λ (xs : List (Option ℕ)). unwrap_or at (last_or c.args.head (nodes_of xs))) past_i ∙ sym more)))
