use Rattle.bt_words.proofs.Extending.{one_more, all_of}
use Rattle.bt_chart.specs.Pieces.{fact_of}
use Rattle.bt_chart.proofs.state.add_facts.Goals as goal

pub loop-fact-preserved : goal.loop-fact-preserved
loop-fact-preserved c = one_more fact_of c.args.facts.now c.loop-fact.fact-index _ _ _ _ c.loop-fact-test.true c.loop-fact.invariant c.in_ok-add_fact.ensures

pub returns : goal.returns
returns c = all_of fact_of c.args.facts.now c.loop-fact.fact-index _ _ c.loop-fact-test.false c.loop-fact.invariant
