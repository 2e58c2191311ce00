use Rattle.bt_demand.specs.declared.demand.Link.{Link}
use Rattle.bt_export.proofs.Carrying.{carried_next, first_gone, fits_one_more}
use Rattle.bt_export.proofs.Names.{ends_differ}
use Rattle.bt_export.proofs.carry.add_all.Goals as goal

-- what stands where no link does
abbrev no_link : Link
no_link = record { from = record { 0 = 0 }; to = record { 0 = 0 }; units = 0 }

pub returns-in_default-clause-gone : goal.returns-in_default-clause-gone
returns-in_default-clause-gone c =
    first_gone c.args.net.now c.args.links.now c.args.new.now c.loop-place.place no_link c.loop-place-test.true c.loop-place.invariant.had c.in_default.ensures.none

pub add-requires-clause-differ : goal.add-requires-clause-differ
add-requires-clause-differ c =
    let of = c.requires.terminals c.loop-place.place no_link c.loop-place-test.true in
    ends_differ c.args.net.now c.args.new.now _ c.in-Some.ends c.terminal_count-terminals.ensures.sound c.in-Some.ensures.some of.0 of.1
    (c.requires.demand.each c.loop-place.place no_link c.loop-place-test.true).differ

pub add-requires-clause-fits : goal.add-requires-clause-fits
add-requires-clause-fits c =
    fits_one_more c.args.net.now c.args.links.now c.args.new.now c.loop-place.place no_link c.loop-place.there c.in-Some.ends.0 c.in-Some.ends.1 c.loop-place-test.true c.requires.small
    c.loop-place.invariant

pub loop-place-preserved : goal.loop-place-preserved
loop-place-preserved c =
    carried_next c.args.net.now c.args.links.now c.args.new.now c.loop-place.place no_link c.in-Some.ends c.loop-place.there c.add.new.self c.loop-place-test.true c.loop-place.invariant
    c.in-Some.ensures.some c.in_ok-add.ensures.ok c.in_ok-add.ensures.demand
