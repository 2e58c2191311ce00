use Rattle.std.proofs.Common.{◌≡◌, ◌++◌, take}
use Rattle.bt_apart.specs.Apart.{having_said, said_lines}
use Rattle.bt_apart.proofs.centre.ApartCentre.say_all.Given as goal

-- the messages so far are said
abbrev pub invariant-loop-one : goal.invariant-loop-one
invariant-loop-one l = record {
  air : l.self ≡ having_said l.fn.self l.fn.self.centre l.one-index;
  text : l.text.items ≡ l.fn.text.items ++ said_lines l.net l.fn.self.plans l.fn.self.mark l.fn.self.said (take l.one-index l.said);
}
