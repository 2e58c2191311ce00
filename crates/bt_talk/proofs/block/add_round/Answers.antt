-- one round more
use Rattle.std.proofs.Common.{◌∷◌, [], All, sym, subst}
use Rattle.std.proofs.lemmas.List.Elements.{All-append, All-cons, All-nil}
use Rattle.bt_script.specs.Named.{IsRoundFor}
use Rattle.bt_talk.proofs.block.add_round.Goals as goal

pub returns-clause-terminals : goal.returns-clause-terminals
returns-clause-terminals c =
    let net = c.args._net.now in
    subst (All (IsRoundFor net)) (sym c.in_ok-push.ensures.items)
    (All-append (IsRoundFor net) c.args.rounds.now.items (c.args.round ∷ []) c.requires.rounds (All-cons (IsRoundFor net) c.args.round [] c.requires.round (All-nil (IsRoundFor net))))
