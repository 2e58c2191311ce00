use Rattle.std.proofs.Common.{◌≡◌, ◌++◌, ℕ, List, Option, Vec, Global, length, map, take, drop, ap, ◌∙◌, arith, subst}
use Rattle.std.proofs.lemmas.List.{length-map}
use Rattle.bt_matrix.specs.declared.node.Node.{Node}
use Rattle.bt_matrix.specs.Links.{IsPut, IsLinkedIn}
use Rattle.bt_matrix.specs.Table.{new_node}
use Rattle.bt_matrix.proofs.Moves.{linkable, entered, take-all}
use Rattle.bt_matrix.proofs.entries.put_entry.Goals as goal

abbrev lists : List (Vec (Option ℕ) Global) → List (List (Option ℕ))
lists table = map (λ (line : Vec (Option ℕ) Global). line.items) table

put : (c : goal.After-as_mut_slice) → IsPut c.args.nodes.now.items c.put_node-k.new.nodes.items c.put_node-k.result
    (new_node (lists c.args.table.now) c.args.up.0 c.args.down.0 c.args.units)
put c = subst (λ (n : Node). IsPut c.args.nodes.now.items c.put_node-k.new.nodes.items c.put_node-k.result n) c.node_at-node.ensures c.put_node-k.ensures.put

pub link-requires : goal.link-requires
link-requires c =
    let size = length-map c.args.table.now (λ (line : Vec (Option ℕ) Global). line.items) in
    rw c.as_mut_slice.ensures.value
    (linkable c.args.nodes.now.items c.put_node-k.new.nodes.items (lists c.args.table.now) c.args.free.now.items c.put_node-k.new.free.items
    c.args.up.0 c.args.down.0 c.put_node-k.result c.args.units c.requires.links c.requires.listed (omega (arith, size, c.requires.up))
    (omega (arith, size, c.requires.down)) c.put_node-k.ensures.came (put c))

-- the slice is all of the nodes
whole : (c : goal.After-table-1) → take c.put_node-k.new.nodes.len (c.link.new.nodes ++ drop (length c.link.new.nodes) c.put_node-k.new.nodes.items) ≡ c.link.new.nodes
whole c =
    let value = ap (λ (ns : List Node). length ns) c.as_mut_slice.ensures.value in
    take-all c.put_node-k.new.nodes.len c.link.new.nodes c.put_node-k.new.nodes.items (c.link.ensures.count ∙ value) (omega (arith, value, c.as_mut_slice.ensures.len))

pub returns : goal.returns
returns c =
    let size = length-map c.args.table.now (λ (line : Vec (Option ℕ) Global). line.items) in
    let linked : IsLinkedIn c.put_node-k.new.nodes.items c.link.new.nodes c.put_node-k.result =
    subst (λ (ns : List Node). IsLinkedIn ns c.link.new.nodes c.put_node-k.result) c.as_mut_slice.ensures.value c.link.ensures in
    let put = subst (λ (n : Node). IsPut c.args.nodes.now.items c.put_node-k.new.nodes.items c.put_node-k.result n) c.node_at-node.ensures c.put_node-k.ensures.put in
    let done = entered c.args.nodes.now.items c.put_node-k.new.nodes.items c.link.new.nodes (lists c.args.table.now) c.args.free.now.items
    c.put_node-k.new.free.items c.args.up.0 c.args.down.0 c.put_node-k.result c.args.units c.requires.links c.requires.listed
    (omega (arith, size, c.requires.up)) (omega (arith, size, c.requires.down)) c.requires.empty c.requires.positive c.put_node-k.ensures.came
    put linked in
    rw (whole c) (rw c.set_place.ensures (record {
      links = done.links;
      listed = done.listed;
      rows = done.rows;
      came = done.came;
      room = omega (arith, c.put_node-k.ensures.room);
      free = omega (arith, c.put_node-k.ensures.free);
    }))
