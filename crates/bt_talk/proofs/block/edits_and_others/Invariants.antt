use Rattle.std.proofs.Common.{◌≡◌, All, take}
use Rattle.std.specs.Prelude.{map}
use Rattle.bt_script.specs.Named.{IsRoundFor}
use Rattle.bt_script.specs.Said.{IsSaidFor}
use Rattle.bt_talk.specs.Asked.{edits_in, others_in, round_alone}
use Rattle.bt_talk.proofs.block.edits_and_others.Given as goal

-- the rounds of the edits so far, and the other lines
abbrev pub invariant-loop-one : goal.invariant-loop-one
invariant-loop-one l = record {
  rounds : l.rounds.items ≡ map round_alone (edits_in (take l.one-index l.said));
  others : l.others.items ≡ others_in (take l.one-index l.said);
  named : All (IsRoundFor l.net) l.rounds.items;
  names : All (IsSaidFor l.net) l.others.items;
}
