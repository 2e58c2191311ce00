use Rattle.std.proofs.Common.{rules, arith}
use Rattle.bt_script.proofs.Words.{third_short}
use Rattle.bt_script.proofs.heard.read_bus_line.Goals as goal

-- a word is no longer than its line
pub with_two-requires : goal.with_two-requires
with_two-requires c = omega (arith, third_short c.args.text.now c.in-Some-next-2.second.now (search rules), c.requires.short)
