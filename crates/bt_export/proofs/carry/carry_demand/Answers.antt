use Rattle.std.proofs.Common.{ℕ, ◌≤◌, ◌∙◌, Option, IfNone, length, ap, subst, arith}
use Rattle.bt_frame.specs.declared.limits.TheConstants.{MOST_SUM}
use Rattle.bt_demand.proofs.FewLinks.{few_links}
use Rattle.bt_export.specs.Carry.{IsCarried}
use Rattle.bt_export.proofs.Carrying.{carried_small}
use Rattle.bt_export.proofs.Total.{all_units, few_in_all}
use Rattle.bt_export.proofs.carry.carry_demand.Goals as goal

-- the links are those of the demand
pub add_all-requires-clause-few : goal.add_all-requires-clause-few
add_all-requires-clause-few c =
    omega (
      arith,
      ap length (c.as_slice.ensures.value ∙ c.in_ok-links.ensures.links),
      few_links c.args.net.now c.args.demand.now c.in_ok-links.ensures.demand c.requires.terminals (c.terminal_count-terminals.ensures.sound.terminals.count).1,
    )

pub add_all-requires-clause-small : goal.add_all-requires-clause-small
add_all-requires-clause-small c =
    omega (
      arith,
      ap all_units (c.as_slice.ensures.value ∙ c.in_ok-links.ensures.links),
      few_in_all c.args.net.now c.args.demand.now c.terminal_count-terminals.ensures.sound c.requires.terminals c.requires.fits,
    )

-- so few that no line has too many
pub returns-clause-sums : goal.returns-clause-sums
returns-clause-sums c =
    let few : all_units c.as_slice.result.now ≤ MOST_SUM =
    omega (
      arith,
      ap all_units (c.as_slice.ensures.value ∙ c.in_ok-links.ensures.links),
      few_in_all c.args.net.now c.args.demand.now c.terminal_count-terminals.ensures.sound c.requires.terminals c.requires.fits,
    ) in
    carried_small c.args.net.now c.as_slice.result.now c.args.new.now c.add_all.new.there few
    (subst (λ (gone : Option ℕ). IfNone gone (IsCarried c.args.net.now c.as_slice.result.now c.args.new.now c.add_all.new.there)) c.in-None.is c.in_ok-number.ensures.carried)
