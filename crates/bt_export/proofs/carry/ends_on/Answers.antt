use Rattle.bt_net.specs.Terminals.{name_at}
use Rattle.bt_export.proofs.Names.{name_found, not_named}
use Rattle.bt_export.proofs.carry.ends_on.Goals as goal

-- no terminal there has the name of the one that sends
pub returns-in_default-clause-none : goal.returns-in_default-clause-none
returns-in_default-clause-none c = λ has.
    not_named c.args.new.now (name_at c.args.net.now c.args.link.from) c.name_of.result.now (name_found c.args.net.now c.args.link.from c.name_of.result.now c.name_of.ensures.name)
    c.in_default.ensures.none has.sends

-- nor of the one that receives
pub returns-in_default-find-clause-none : goal.returns-in_default-find-clause-none
returns-in_default-find-clause-none c = λ has.
    not_named c.args.new.now (name_at c.args.net.now c.args.link.to) c.name_of-2.result.now (name_found c.args.net.now c.args.link.to c.name_of-2.result.now c.name_of-2.ensures.name)
    c.in_default-find.ensures.none has.receives
