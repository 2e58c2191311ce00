use Rattle.std.proofs.Common.{◌≡◌, ◌+◌, ◌++◌, ℕ, List, Option, Vec, Global, length, map, take, drop, ap, sym, ◌∙◌, arith, subst}
use Rattle.bt_matrix.specs.Traffic.{entry, with_entry}
use Rattle.bt_matrix.specs.declared.node.Node.{Node}
use Rattle.bt_matrix.specs.Links.{IsRevalued}
use Rattle.bt_matrix.specs.Table.{rows_of}
use Rattle.bt_matrix.proofs.Moves.{take-all, IsChanged, changed, entry-held}
use Rattle.bt_matrix.proofs.entries.raise_entry.Goals as goal

abbrev lists : List (Vec (Option ℕ) Global) → List (List (Option ℕ))
lists table = map (λ (line : Vec (Option ℕ) Global). line.items) table

-- the slice is all of the nodes
whole : (c : goal.After-nodes-1) → take c.args.nodes.now.len (c.set_units.new.nodes ++ drop (length c.set_units.new.nodes) c.args.nodes.now.items) ≡ c.set_units.new.nodes
whole c =
    let value = ap (λ (ns : List Node). length ns) c.as_mut_slice.ensures.value in
    take-all c.args.nodes.now.len c.set_units.new.nodes c.args.nodes.now.items (c.set_units.ensures.count ∙ value) (omega (arith, value, c.as_mut_slice.ensures.len))

-- the entry is what its node holds
held : (c : goal.After-nodes-1) → entry (rows_of c.args.nodes.now.items (lists c.args.table.now)) c.args.up.0 c.args.down.0 ≡ c.index.result.now.entry.units
held c = entry-held c.args.nodes.now.items (lists c.args.table.now) c.args.up.0 c.args.down.0 c.in-Some.k c.index.result.now c.requires.links
    (sym c.place_at.ensures ∙ c.in-Some.is) c.index.ensures

done : (c : goal.After-nodes-1) → IsChanged c.args.nodes.now.items c.set_units.new.nodes (lists c.args.table.now) c.args.free.now.items
    c.args.up.0 c.args.down.0 (c.index.result.now.entry.units + c.args.units)
done c = changed c.args.nodes.now.items c.set_units.new.nodes (lists c.args.table.now) c.args.free.now.items c.args.up.0 c.args.down.0 c.in-Some.k
    (c.index.result.now.entry.units + c.args.units) c.requires.links c.requires.listed (sym c.place_at.ensures ∙ c.in-Some.is) (omega (arith, c.requires.positive))
    (subst (λ (ns : List Node). IsRevalued ns c.set_units.new.nodes c.in-Some.k (c.index.result.now.entry.units + c.args.units)) c.as_mut_slice.ensures.value c.set_units.ensures)

pub returns-in-Some-clause-links : goal.returns-in-Some-clause-links
returns-in-Some-clause-links c = rw (whole c) (done c).links

pub returns-in-Some-clause-listed : goal.returns-in-Some-clause-listed
returns-in-Some-clause-listed c = rw (whole c) (done c).listed

pub returns-in-Some-clause-rows : goal.returns-in-Some-clause-rows
returns-in-Some-clause-rows c = rw (whole c) ((done c).rows
    ∙ ap (λ (n : ℕ). with_entry (rows_of c.args.nodes.now.items (lists c.args.table.now)) c.args.up.0 c.args.down.0 (n + c.args.units)) (sym (held c)))
