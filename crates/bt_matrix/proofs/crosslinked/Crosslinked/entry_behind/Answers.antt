use Rattle.std.proofs.Common.{length, ap, refl, arith}
use Rattle.bt_matrix.specs.Matrix.{Matrix}
use Rattle.bt_matrix.proofs.Cursors.{behind_start, found, start_within, start_place}
use Rattle.bt_matrix.proofs.crosslinked.Crosslinked.entry_behind.Goals as goal

pub start_node-at-requires : goal.start_node-at-requires
start_node-at-requires c =
    let place = start_place c.self.inside.nodes.items c.self.inside.table.items c.as_slice.result.now c.args.self.now.rows c.args.row.0 c.args.last
    c.self.invariant.0.links (ap (λ (m : Matrix). m.rows) c.self.view_is) c.as_slice.ensures.value c.requires.row c.requires.last in
    record { up = place.0; down = place.1 }

pub index-requires : goal.index-requires
index-requires c =
    let within = start_within c.self.inside.nodes.items c.self.inside.table.items c.as_slice.result.now c.args.self.now.rows c.args.row.0 c.args.last
    c.start_node-at.result c.self.invariant.0.links (ap (λ (m : Matrix). m.rows) c.self.view_is) c.as_slice.ensures.value c.requires.row c.requires.last
    c.start_node-at.ensures in
    omega (arith, within, c.self.inside.nodes.ok.0)

pub returns-then-k-len-clause-entry : goal.returns-then-k-len-clause-entry
returns-then-k-len-clause-entry c =
    let is = behind_start c.self.inside.nodes.items c.self.inside.table.items c.as_slice.result.now c.args.self.now.rows c.args.row.0 c.args.last
    c.start_node-at.result c.index.result.now c.self.invariant.0.links (ap (λ (m : Matrix). m.rows) c.self.view_is) c.as_slice.ensures.value c.requires.row
    c.requires.last c.start_node-at.ensures c.index.ensures in
    is.none (omega (arith, c.if-k-len.true, c.len.ensures, c.self.inside.table.ok.0))

pub index-requires-2 : goal.index-requires-2
index-requires-2 c =
    let is = behind_start c.self.inside.nodes.items c.self.inside.table.items c.as_slice.result.now c.args.self.now.rows c.args.row.0 c.args.last
    c.start_node-at.result c.index.result.now c.self.invariant.0.links (ap (λ (m : Matrix). m.rows) c.self.view_is) c.as_slice.ensures.value c.requires.row
    c.requires.last c.start_node-at.ensures c.index.ensures in
    omega (arith, is.within, c.self.inside.nodes.ok.0)

pub returns-clause-entry : goal.returns-clause-entry
returns-clause-entry c =
    let is = behind_start c.self.inside.nodes.items c.self.inside.table.items c.as_slice.result.now c.args.self.now.rows c.args.row.0 c.args.last
    c.start_node-at.result c.index.result.now c.self.invariant.0.links (ap (λ (m : Matrix). m.rows) c.self.view_is) c.as_slice.ensures.value c.requires.row
    c.requires.last c.start_node-at.ensures c.index.ensures in
    (found c.self.inside.nodes.items (length c.self.inside.table.items) c.args.self.now.rows c.args.row.0 c.args.last c.index.result.now.row.after
    c.index-2.result.now (record { 0 = c.index-2.result.now.entry.down }) is (omega (arith, c.if-k-len.false, c.len.ensures, c.self.inside.table.ok.0)) c.index-2.ensures refl).0

pub returns-clause-positive : goal.returns-clause-positive
returns-clause-positive c =
    let is = behind_start c.self.inside.nodes.items c.self.inside.table.items c.as_slice.result.now c.args.self.now.rows c.args.row.0 c.args.last
    c.start_node-at.result c.index.result.now c.self.invariant.0.links (ap (λ (m : Matrix). m.rows) c.self.view_is) c.as_slice.ensures.value c.requires.row
    c.requires.last c.start_node-at.ensures c.index.ensures in
    (found c.self.inside.nodes.items (length c.self.inside.table.items) c.args.self.now.rows c.args.row.0 c.args.last c.index.result.now.row.after
    c.index-2.result.now (record { 0 = c.index-2.result.now.entry.down }) is (omega (arith, c.if-k-len.false, c.len.ensures, c.self.inside.table.ok.0)) c.index-2.ensures refl).1
