use Rattle.std.proofs.Common.{◌≡◌, ◌++◌, ℕ, List, [], Option, Vec, Global, length, map, take, drop, ap, ◌∙◌, arith, refl, subst, length-append, ◌∷◌}
use Rattle.std.proofs.lemmas.List.{length-map}
use Rattle.bt_matrix.specs.declared.node.Node.{Node}
use Rattle.bt_matrix.specs.Links.{IsLinkedOut}
use Rattle.bt_matrix.proofs.Moves.{unlinkable, left, take-all}
use Rattle.bt_matrix.proofs.entries.take_entry.Goals as goal

abbrev lists : List (Vec (Option ℕ) Global) → List (List (Option ℕ))
lists table = map (λ (line : Vec (Option ℕ) Global). line.items) table

pub unlink-requires : goal.unlink-requires
unlink-requires c =
    let size = length-map c.args.table.now (λ (line : Vec (Option ℕ) Global). line.items) in
    rw c.as_mut_slice.ensures.value
    (unlinkable c.args.nodes.now.items (lists c.args.table.now) c.args.up.0 c.args.down.0 c.args.k c.requires.links
    (omega (arith, size, c.requires.up)) (omega (arith, size, c.requires.down)) c.requires.full)

-- heads are not free, so the free list is shorter than the nodes
pub push_reserved-requires : goal.push_reserved-requires
push_reserved-requires c =
    let size = length-map c.args.table.now (λ (line : Vec (Option ℕ) Global). line.items) in
    omega (arith, size, c.requires.listed.count, c.requires.room, c.requires.up, c.args.nodes.now.ok.0, c.args.free.now.ok.0)

-- the slice is all of the nodes
whole : (c : goal.After-push_reserved) → take c.args.nodes.now.len (c.unlink.new.nodes ++ drop (length c.unlink.new.nodes) c.args.nodes.now.items) ≡ c.unlink.new.nodes
whole c =
    let value = ap (λ (ns : List Node). length ns) c.as_mut_slice.ensures.value in
    take-all c.args.nodes.now.len c.unlink.new.nodes c.args.nodes.now.items (c.unlink.ensures.count ∙ value) (omega (arith, value, c.as_mut_slice.ensures.len))

pub returns : goal.returns
returns c =
    let size = length-map c.args.table.now (λ (line : Vec (Option ℕ) Global). line.items) in
    let linked : IsLinkedOut c.args.nodes.now.items c.unlink.new.nodes c.args.k =
    subst (λ (ns : List Node). IsLinkedOut ns c.unlink.new.nodes c.args.k) c.as_mut_slice.ensures.value c.unlink.ensures in
    let done = left c.args.nodes.now.items c.unlink.new.nodes (lists c.args.table.now) c.args.free.now.items c.args.up.0 c.args.down.0 c.args.k
    c.requires.links c.requires.listed (omega (arith, size, c.requires.up)) (omega (arith, size, c.requires.down)) c.requires.full linked in
    rw (whole c) (rw c.set_place.ensures (rw c.push_reserved.ensures.items (record {
      links = done.links;
      listed = done.listed;
      rows = done.rows;
      count = linked.count;
      listed_one = omega (arith, length-append c.args.free.now.items (c.args.k ∷ []));
      room = refl;
      free = c.push_reserved.ensures.capacity;
    })))
