-- one desk more with no line
use Rattle.std.proofs.Common.{◌≡◌, List, [], ◌∷◌, arith}
use Rattle.std.proofs.lemmas.List.Elements.{All-append, All-nil, All-cons}
use Rattle.bt_script.specs.declared.script.DeskLine.{DeskLine}
use Rattle.bt_script.proofs.items.empty_table.Goals as goal

abbrev HasNone : List DeskLine → Type 0
HasNone lines = lines ≡ []

pub loop-preserved : goal.loop-preserved
loop-preserved c = record {
  count = omega (arith, c.in_ok-push.ensures.len);
  empty = rw c.in_ok-push.ensures.items (All-append HasNone c.loop.table.items (c.none.result ∷ []) c.loop.invariant.empty (All-cons HasNone c.none.result [] c.none.ensures.none (All-nil HasNone)));
}
