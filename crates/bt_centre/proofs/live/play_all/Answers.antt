-- the rounds of a block, or what is left where memory ran out
use Rattle.std.proofs.Common.{All, sym, subst}
use Rattle.bt_script.specs.Named.{IsRoundFor}
use Rattle.bt_centre.proofs.Going.{left_early}
use Rattle.bt_centre.proofs.live.play_all.Goals as goal

pub returns-in-Err-clause-failed : goal.returns-in-Err-clause-failed
returns-in-Err-clause-failed g c = left_early c.args.net.now c.args.live c.stop.result c.requires.network c.requires.follow c.stop.ensures

pub play_rounds-requires-clause-terminals : goal.play_rounds-requires-clause-terminals
play_rounds-requires-clause-terminals g c κs within =
    subst (All (IsRoundFor c.args.net.now)) (sym c.as_slice-in-Ok-rounds_in_turn.ensures.value) c.in-Ok-rounds_in_turn.ensures.terminals

pub returns-in-Err-rounds_in_turn-clause-failed : goal.returns-in-Err-rounds_in_turn-clause-failed
returns-in-Err-rounds_in_turn-clause-failed g c =
    left_early c.args.net.now c.args.live c.stop-in-Err-rounds_in_turn.result c.requires.network c.requires.follow c.stop-in-Err-rounds_in_turn.ensures
