-- what is tested of each word is tested of its bytes
use Rattle.std.proofs.Common.{◌==◌, ℕ, List, not, length, sym, ◌∙◌, rules, tests}
use Rattle.std.proofs.lemmas.Iterator.{YieldsList-from_slice}
use Rattle.std.proofs.lemmas.Iterator.Search.{all_from_yields_List}
use Rattle.std.proofs.lemmas.List.Folds.{list_all-map}
use Rattle.std.specs.String.{string_bytes}
use Rattle.bt_cli.proofs.command_line.are_words.Goals as goal

pub returns : goal.returns
returns c =
    all_from_yields_List (λ w. not (length (string_bytes w) == 0)) _ _ _ c.all.ensures.ran (YieldsList-from_slice c.args.words.now cc) (λ x b q k. search (rules, tests))
    ∙ sym (list_all-map (λ (word : List ℕ). not (length word == 0)) string_bytes c.args.words.now)
