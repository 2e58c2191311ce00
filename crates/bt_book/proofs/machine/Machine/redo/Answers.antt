use Rattle.std.proofs.Common.{◌∙◌, arith, rules}
use Rattle.bt_book.proofs.Past.{can_again, made_again, redoes_first, within_past}
use Rattle.bt_book.proofs.machine.Machine.redo.Goals as goal

-- no edit was made again yet
pub loop-place-init : goal.loop-place-init
loop-place-init c = (c.requires.network, redoes_first c.args.self.now.net c.args.self.now.state.changes c.args.occupancy.now.links c.args.number c.requires.none)

-- there are as many as the edition says
pub index-edit-requires : goal.index-edit-requires
index-edit-requires c =
    let within = within_past _ c.args.self.now c.self.inside.kept.past.items c.args.number c.loop-place.place c.self.view_is c.self.invariant.past c.requires.made c.loop-place-test.true in
    omega (arith, within)

-- the next one can be made again
pub edit-requires-clause-terminals : goal.edit-requires-clause-terminals
edit-requires-clause-terminals c =
    (can_again _ c.args.self.now c.reserve.new.self.net c.self.inside.kept.past.items c.reserve.new.self.links c.args.number c.loop-place.place c.slots-slots.result c.index-edit.result.now
    c.self.view_is (c.reserve.ensures.net ∙ c.loop-place.invariant.0) c.self.invariant.keeps.follows c.self.invariant.past c.slots-slots.ensures.same c.slots-slots.ensures.in_range c.requires.made c.loop-place-test.true
    (search (rules, c.index-edit.ensures)) (rw c.reserve.ensures.links c.loop-place.invariant.1)).terminals

pub edit-requires-clause-ends : goal.edit-requires-clause-ends
edit-requires-clause-ends c =
    (can_again _ c.args.self.now c.reserve.new.self.net c.self.inside.kept.past.items c.reserve.new.self.links c.args.number c.loop-place.place c.slots-slots.result c.index-edit.result.now
    c.self.view_is (c.reserve.ensures.net ∙ c.loop-place.invariant.0) c.self.invariant.keeps.follows c.self.invariant.past c.slots-slots.ensures.same c.slots-slots.ensures.in_range c.requires.made c.loop-place-test.true
    (search (rules, c.index-edit.ensures)) (rw c.reserve.ensures.links c.loop-place.invariant.1)).ends

pub edit-requires-clause-held : goal.edit-requires-clause-held
edit-requires-clause-held c =
    (can_again _ c.args.self.now c.reserve.new.self.net c.self.inside.kept.past.items c.reserve.new.self.links c.args.number c.loop-place.place c.slots-slots.result c.index-edit.result.now
    c.self.view_is (c.reserve.ensures.net ∙ c.loop-place.invariant.0) c.self.invariant.keeps.follows c.self.invariant.past c.slots-slots.ensures.same c.slots-slots.ensures.in_range c.requires.made c.loop-place-test.true
    (search (rules, c.index-edit.ensures)) (rw c.reserve.ensures.links c.loop-place.invariant.1)).held

pub edit-requires-clause-small : goal.edit-requires-clause-small
edit-requires-clause-small c =
    (can_again _ c.args.self.now c.reserve.new.self.net c.self.inside.kept.past.items c.reserve.new.self.links c.args.number c.loop-place.place c.slots-slots.result c.index-edit.result.now
    c.self.view_is (c.reserve.ensures.net ∙ c.loop-place.invariant.0) c.self.invariant.keeps.follows c.self.invariant.past c.slots-slots.ensures.same c.slots-slots.ensures.in_range c.requires.made c.loop-place-test.true
    (search (rules, c.index-edit.ensures)) (rw c.reserve.ensures.links c.loop-place.invariant.1)).small

-- it was made again
pub loop-place-preserved : goal.loop-place-preserved
loop-place-preserved c = (
  c.edit.ensures.net ∙ (c.reserve.ensures.net ∙ c.loop-place.invariant.0),
  made_again _ c.args.self.now c.self.inside.kept.past.items c.reserve.new.self.links c.edit.new.self.links c.args.number c.loop-place.place c.index-edit.result.now
      c.self.view_is c.slots-slots.ensures.sound c.self.invariant.keeps.follows c.self.invariant.past c.requires.made c.loop-place-test.true
      (search (rules, c.index-edit.ensures)) (rw c.reserve.ensures.links c.loop-place.invariant.1) c.edit.ensures.edited,
)
