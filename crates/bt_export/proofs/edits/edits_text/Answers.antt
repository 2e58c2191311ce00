use Rattle.std.proofs.Common.{List, sym, subst, ◌∙◌}
use Rattle.bt_demand.specs.declared.demand.Link.{Link}
use Rattle.bt_demand.specs.Traffic.{AreOfNetwork}
use Rattle.bt_export.proofs.Beyond.{surplus_of_network}
use Rattle.bt_export.proofs.edits.edits_text.Goals as goal

-- what links have beyond others is between terminals of the network, as they are
pub block_text-requires-clause-less : goal.block_text-requires-clause-less
block_text-requires-clause-less c =
    subst (λ (links : List Link). AreOfNetwork c.args.net.now links) (sym (c.as_slice.ensures.value ∙ c.in_ok-less.ensures.surplus))
    (surplus_of_network c.args.net.now c.args.have.now c.args.want.now c.requires.have)

pub block_text-requires-clause-more : goal.block_text-requires-clause-more
block_text-requires-clause-more c =
    subst (λ (links : List Link). AreOfNetwork c.args.net.now links) (sym (c.as_slice-2.ensures.value ∙ c.in_ok-more.ensures.surplus))
    (surplus_of_network c.args.net.now c.args.want.now c.args.have.now c.requires.want)
