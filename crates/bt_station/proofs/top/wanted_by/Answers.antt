use Rattle.std.proofs.Common.{rules}
use Rattle.bt_station.proofs.Requests.{of_one}
use Rattle.bt_station.proofs.top.wanted_by.Goals as goal

-- one word asks for nothing
pub returns-in-len1-clause-wanted : goal.returns-in-len1-clause-wanted
returns-in-len1-clause-wanted c = of_one _ c.args.words.now (search rules) (search rules)
