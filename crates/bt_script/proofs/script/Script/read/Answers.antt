-- what holds of the rounds and restarts of a text
use Rattle.std.proofs.Common.{arith}
use Rattle.bt_text.specs.Text.{lines}
use Rattle.bt_script.proofs.Naming.{items_named}
use Rattle.bt_script.proofs.Order.{items_in_order}
use Rattle.bt_script.proofs.Counting.{items_short}
use Rattle.bt_script.proofs.script.Script.read.Goals as goal

pub returns-clause-terminals : goal.returns-clause-terminals
returns-clause-terminals c =
    rw (c.in_ok-items.ensures.items, c.deref.ensures.value) (items_named c.args.net.now (lines c.args.bytes.now) c.in_ok-said.said.items c.in_ok-said.ensures.reading)

pub returns-clause-ascending : goal.returns-clause-ascending
returns-clause-ascending c = rw c.in_ok-items.ensures.items (items_in_order c.deref.result.now)

pub returns-clause-short : goal.returns-clause-short
returns-clause-short c =
    rw c.in_ok-items.ensures.items (items_short c.deref.result.now (omega (arith, c.deref.ensures.len, c.in_ok-said.ensures.few)))
