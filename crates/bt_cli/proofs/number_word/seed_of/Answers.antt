-- a word of a larger number
use Rattle.std.proofs.Common.{refl, rules}
use Rattle.bt_text.specs.Text.{number_of}
use Rattle.bt_cli.proofs.CommandWords.{past_last}
use Rattle.bt_cli.proofs.number_word.seed_of.Goals as goal

pub returns-else-eq : goal.returns-else-eq
returns-else-eq c = record {
  seed = past_last c.args.word.now c.in_ok-seed.seed (number_of c.args.word.now) refl (search rules) (search rules) (search rules);
}
