use Rattle.std.proofs.Common.{rules, refl, ◌≡◌, [], ◌∷◌, ◌++◌, Some, sym, ap, subst, ◌∙◌, slice_index_or}
use Rattle.atomic_table.specs.Table.{opening}
use Rattle.bt_shared.specs.Turns.{Kept, opening_view}
use Rattle.bt_shared.specs.Passes.{IsPass}
use Rattle.bt_shared.proofs.Steps.{starts}
use Rattle.bt_shared.proofs.line.Line.start.Goals as goal

pub new-requires : goal.new-requires
new-requires g c = let items : Some c.of-about.result.value ∷ [] ≡ c.push_reserved.new.self.items = let none_yet : c.in-Ok-with_capacity.slots.items ≡ [] = c.in-Ok-with_capacity.ensures.items in
    ap (λ o. Some o ∷ []) c.of-about.ensures ∙ (ap (λ xs. xs ++ Some c.args.object ∷ []) (sym none_yet) ∙ sym c.push_reserved.ensures.items) in
    subst (λ xs. Kept g.O.Object.steps g.O.Object.history c.of-about.result.value (opening (0 ∷ 0 ∷ []) xs (opening_view c.of-about.result.value))) items (starts g.O.Object.steps g.O.Object.history c.of-about.result.value)

pub passes_of-passes-requires-clause-first : goal.passes_of-passes-requires-clause-first
passes_of-passes-requires-clause-first g c = c.in-Ok-new.ensures.ok.4 ∙ ap (λ k. (opening_view k.value, [])) (sym c.in-Ok-new.ensures.ok.5)

-- where memory runs out, the object comes back
pub returns-in_default : goal.returns-in_default
returns-in_default g c = record { start = tt; count = tt; passes = tt; unseen = tt; err = refl }

pub returns-in_default-with_capacity : goal.returns-in_default-with_capacity
returns-in_default-with_capacity g c = record { start = tt; count = tt; passes = tt; unseen = tt; err = refl }

pub returns-in-Some-Some : goal.returns-in-Some-Some
returns-in-Some-Some g c = record { start = tt; count = tt; passes = tt; unseen = tt; err = search rules }

-- the line starts from the object, and its passes are those that were made
pub returns-in-Ok-new : goal.returns-in-Ok-new
returns-in-Ok-new g c =
    let from_object = ap (λ k. k.value) c.in-Ok-new.ensures.ok.5 ∙ c.of-about.ensures in
    let made = c.passes_of-passes.ensures in record {
      start = from_object;
      count = made.count;
      passes = λ i d below. subst (λ o. IsPass c.in-Ok-new.table.shared.table_id o c.args.seats i (slice_index_or c.passes_of-passes.result.items i d).place) from_object (made.passes i d below);
      unseen = made.unseen;
      err = tt;
    }
