use Rattle.std.proofs.Common.{◌≡◌, ◌<◌, ℕ, List, Option, Vec, Global, length, map, take, ap, sym, ◌∙◌, arith}
use Rattle.std.proofs.lemmas.List.{length-map, get_or-take, length-take}
use Rattle.bt_matrix.specs.Links.{node, nodes_of, last_or}
use Rattle.bt_matrix.specs.Table.{line_of, column_of, before_place}
use Rattle.bt_matrix.proofs.Keeps.{gap_holds, gap_after}
use Rattle.bt_matrix.proofs.Tables.{line_of-lists, column-take, length-vec}
use Rattle.bt_matrix.proofs.entries.node_at.Goals as goal

abbrev lists : List (Vec (Option ℕ) Global) → List (List (Option ℕ))
lists table = map (λ (line : Vec (Option ℕ) Global). line.items) table

-- each line is long enough
pub before_in_column-above-requires : goal.before_in_column-above-requires
before_in_column-above-requires c = record {
  long = λ k d below.
      let table = c.args.table.now in
      let earlier : k < c.args.up.0 = omega (arith, below, length-take c.args.up.0 table) in
      let line = get_or-take c.args.up.0 table k d earlier in
      omega (arith, ap (λ (l : Vec (Option ℕ) Global). length l.items) line, length-vec table k d c.requires.links.square (omega (arith, earlier, c.requires.up)), c.requires.down);
}

-- the left neighbour, and the one above
left_is : (c : goal.After-before_in_column-above)
    → c.before_in_row-left.result ≡ before_place (line_of (lists c.args.table.now) c.args.up.0) c.args.down.0 c.args.up.0
left_is c =
    let line = line_of-lists c.args.table.now c.args.up.0 c.index-table-up.result c.requires.up c.index-table-up.is in
    c.before_in_row-left.ensures
    ∙ ap (λ (xs : List (Option ℕ)). last_or c.args.up.0 (nodes_of (take c.args.down.0 xs))) (c.deref.ensures.value ∙ sym line)

above_is : (c : goal.After-before_in_column-above)
    → c.before_in_column-above.result ≡ before_place (column_of (lists c.args.table.now) c.args.down.0) c.args.up.0 c.args.down.0
above_is c =
    c.before_in_column-above.ensures
    ∙ ap (λ (xs : List (Option ℕ)). last_or c.args.down.0 (nodes_of xs)) (column-take c.args.table.now c.args.up.0 c.args.down.0)

pub bounds-nodes-left : goal.bounds-nodes-left
bounds-nodes-left c =
    let size = length-map c.args.table.now (λ (line : Vec (Option ℕ) Global). line.items) in
    let links = c.requires.links in
    let holds = gap_holds (λ j. j < length c.args.nodes.now) c.args.nodes.now (lists c.args.table.now) c.args.up.0 c.args.down.0 links
    (omega (arith, size, c.requires.up)) (omega (arith, size, c.requires.down))
    (λ b below. omega (arith, below, links.heads)) (λ u d j is. (links.named u d j is).within) in
    omega (arith, left_is c, holds.0.0)

pub bounds-nodes-above : goal.bounds-nodes-above
bounds-nodes-above c =
    let size = length-map c.args.table.now (λ (line : Vec (Option ℕ) Global). line.items) in
    let links = c.requires.links in
    let holds = gap_holds (λ j. j < length c.args.nodes.now) c.args.nodes.now (lists c.args.table.now) c.args.up.0 c.args.down.0 links
    (omega (arith, size, c.requires.up)) (omega (arith, size, c.requires.down))
    (λ b below. omega (arith, below, links.heads)) (λ u d j is. (links.named u d j is).within) in
    omega (arith, above_is c, holds.1.0)

pub returns : goal.returns
returns c =
    let size = length-map c.args.table.now (λ (line : Vec (Option ℕ) Global). line.items) in
    let links = c.requires.links in
    let after = gap_after c.args.nodes.now (lists c.args.table.now) c.args.up.0 c.args.down.0 links
    (omega (arith, size, c.requires.up)) (omega (arith, size, c.requires.down)) c.requires.empty in
    let left = left_is c in
    let above = above_is c in
    let right = ap (λ (k : ℕ). (node c.args.nodes.now k).row.after) left ∙ after.0 in
    let below = ap (λ (k : ℕ). (node c.args.nodes.now k).column.after) above ∙ after.1 in
    cc
