-- a place without a word, a word that may not stand there, and one word more
use Rattle.bt_words.specs.declared.token.TheConstants.{MOST_VALUES}
use Rattle.bt_run_lines.proofs.Places.{goes_on, stops, lacks_word, room_left}
use Rattle.bt_run_lines.proofs.reader.values_in.Goals as goal

pub returns-in_default : goal.returns-in_default
returns-in_default c = record {
  values = lacks_word c.args.net.now c.args.tokens.now c.loop-token.token-index c.loop-token-test.true c.loop-token.said _ c.loop-token.words c.in_default.ensures.word c.loop-token.invariant.so_far;
}

pub returns-then-not-add_said : goal.returns-then-not-add_said
returns-then-not-add_said c = record {
  values = stops c.args.net.now c.args.tokens.now c.loop-token.token-index c.loop-token-test.true c.loop-token.said _ c.in-Some.word.now c.loop-token.words c.next.new.self c.in-Some.ensures.word c.in-Some.ensures.rest c.if-not-add_said.ensures.said c.loop-token.invariant.so_far;
}

pub loop-token-preserved : goal.loop-token-preserved
loop-token-preserved c = record {
  so_far = goes_on c.args.net.now c.args.tokens.now c.loop-token.token-index c.loop-token-test.true c.loop-token.said _ c.add_said.new.said c.in-Some.word.now c.loop-token.words c.next.new.self c.in-Some.ensures.word c.in-Some.ensures.rest c.if-not-add_said.ensures.said c.loop-token.invariant.so_far;
  room = room_left c.args.net.now c.args.tokens.now c.loop-token.token-index c.loop-token.said c.add_said.new.said c.in-Some.word.now MOST_VALUES c.loop-token-test.true c.if-not-add_said.ensures.said c.loop-token.invariant.room;
}
