use Rattle.std.proofs.Common.{sym, subst, ◌∙◌, arith}
use Rattle.bt_net.specs.Network.{Net}
use Rattle.bt_journal.specs.declared.call.Call.TheVariants as call
use Rattle.bt_history.specs.Causes.{IsPlanOn}
use Rattle.bt_history.specs.Machine.{Step}
use Rattle.bt_round.proofs.OnOk.{on_ok}
use Rattle.bt_round.proofs.PlannerLines.{answers_install, demand_told, plan_is_on}
use Rattle.bt_round.proofs.Trying.{edition_tried, nothing_tried}
use Rattle.bt_round.proofs.trial.try_plan.Goals as goal

-- nothing is new
pub returns-then-edition-newest : goal.returns-then-edition-newest
returns-then-edition-newest c =
    let net = c.args.net.now in
    let old = c.args.trial.now in
    let seen = c.in_ok-seen.seen in
    let so = c.in_ok-seen.ensures in
    let step = subst (λ (n : Net). Step n old.state call.Snapshot seen.reply c.ask.new.trial.state) c.requires.network so.step in
    record {
      tried = on_ok c.entry_text.result c.entry_text.ensures.added (λ added.
          nothing_tried net old.state c.ask.new.trial.state seen c.in-Demand.edition c.in-Demand.newest c.in-Demand.demand c.args.text.now.items c.entry_text.new.out.items
          so.call step so.sure c.in-Demand.is (omega (arith, c.if-edition-newest.true)) added);
    }

-- the demand that was seen is one that a plan can be made of
pub make_plan-requires-clause-terminals : goal.make_plan-requires-clause-terminals
make_plan-requires-clause-terminals c =
    let net = c.args.net.now in
    let old = c.args.trial.now in
    let seen = c.in_ok-seen.seen in
    let step = subst (λ (n : Net). Step n old.state call.Snapshot seen.reply c.ask.new.trial.state) c.requires.network c.in_ok-seen.ensures.step in
    let demand = demand_told net old.state c.ask.new.trial.state seen.reply c.in-Demand.edition c.in-Demand.newest c.in-Demand.demand step c.in-Demand.is in
    c.demands_fit_the_frame.ensures.network net old.state.changes c.in-Demand.demand c.beam_count-beams.ensures.sound c.requires.follows demand

pub make_plan-requires-clause-fits : goal.make_plan-requires-clause-fits
make_plan-requires-clause-fits c =
    let net = c.args.net.now in
    let old = c.args.trial.now in
    let seen = c.in_ok-seen.seen in
    let step = subst (λ (n : Net). Step n old.state call.Snapshot seen.reply c.ask.new.trial.state) c.requires.network c.in_ok-seen.ensures.step in
    let demand = demand_told net old.state c.ask.new.trial.state seen.reply c.in-Demand.edition c.in-Demand.newest c.in-Demand.demand step c.in-Demand.is in
    let fits = c.demands_fit_the_frame.ensures.fits net old.state.changes c.in-Demand.demand c.beam_count-beams.ensures.sound c.requires.follows demand in
    λ line within. omega (arith, fits line within, c.beam_count-beams.ensures.sound.slots)

-- the plan can be asked to be installed
pub ask-requires-2 : goal.ask-requires-2
ask-requires-2 c =
    let net = c.args.net.now in
    let plan = c.in_ok-plan.plan in
    record {
      terminals = subst (λ (n : Net). IsPlanOn n plan) (sym (c.in_ok-seen.ensures.net ∙ c.requires.network))
          (plan_is_on net c.in-Demand.demand plan c.in_ok-plan.ensures.terminals c.in_ok-plan.ensures.heaviest);
    }

-- it was asked
pub returns : goal.returns
returns c =
    let net = c.args.net.now in
    let old = c.args.trial.now in
    let mid = c.ask.new.trial.state in
    let new = c.ask-2.new.trial.state in
    let seen = c.in_ok-seen.seen in
    let so = c.in_ok-seen.ensures in
    let entry = c.in_ok-entry.entry in
    let plan = c.in_ok-plan.plan in
    let saw = subst (λ (n : Net). Step n old.state call.Snapshot seen.reply mid) c.requires.network so.step in
    let step = subst (λ (n : Net). Step n mid (call.Install plan) entry.reply new) (so.net ∙ c.requires.network) c.in_ok-entry.ensures.step in
    let names = c.replies_name_beams_of_the_network.ensures.beams net mid (call.Install plan) entry.reply new c.beam_count-beams.ensures.sound step in
    record {
      tried = on_ok c.entry_text-2.result c.entry_text-2.ensures.added (λ added.
          edition_tried net old.state mid new seen entry c.in-Demand.edition c.in-Demand.newest c.in-Demand.demand plan c.args.text.now.items c.entry_text-2.new.out.items
          so.call saw so.sure c.in-Demand.is c.if-edition-newest.false c.in_ok-plan.ensures.edition c.in_ok-plan.ensures.good c.in_ok-entry.ensures.call step c.in_ok-entry.ensures.sure
          (answers_install net mid new plan entry.reply step.answered names) added);
    }
