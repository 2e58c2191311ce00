use Rattle.bt_demand.proofs.BurstTriples.{triples_apart, bursts_apart}
use Rattle.bt_demand.proofs.plan_laws.apart_bursts_spell_apart_triples.Goals as goal

pub returns-clause-triples : goal.returns-clause-triples
returns-clause-triples c = triples_apart

pub returns-clause-bursts : goal.returns-clause-bursts
returns-clause-bursts c = bursts_apart
