use Rattle.std.proofs.Common.{arith}
use Rattle.bt_apart_laws.proofs.May.{begun-onward, does-onward, hears-onward, others-onward}
use Rattle.bt_apart_laws.proofs.laws.centre_goes_on.Goals as goal

pub returns : goal.returns
returns c = record { start = λ o. omega arith; first = begun-onward; heard = hears-onward; does = does-onward; others = others-onward }
