-- the network is the numbered one
use Rattle.std.proofs.Common.{◌≡◌, ℕ, length, ap, ◌∙◌, subst, rules}
use Rattle.std.proofs.lemmas.List.FromFn.{length-map-range_with_len}
use Rattle.bt_net.specs.Network.{Net}
use Rattle.bt_net.specs.Numbered.{numbered_beam, numbered_network}
use Rattle.bt_matrix.specs.Traffic.{IsHeaviest}
use Rattle.bt_modes.specs.Few.{HasFewModes}
use Rattle.bt_demand.specs.Plan.{IsGoodPlan}
use Rattle.bt_demand.specs.Traffic.{matrix_of}
use Rattle.bt_cut.specs.Cutting.{IsCutting}
use Rattle.bt_cut.specs.Made.{IsMade}
use Rattle.bt_cli.specs.Make.{summary}
use Rattle.bt_report.specs.Outcome.{text_alone}
use Rattle.bt_cli.proofs.make.draw.Goals as goal

pub returns : goal.returns
returns c =
    let beams = c.args.beams.count in
    let links = c.in_ok-made.made.demand in
    let plan = c.in_ok-plan.plan in
    let same : c.in_ok-net.net ≡ numbered_network beams = c.in_ok-net.ensures.same in
    let counted = ap (λ (net : Net). length net.beams) same ∙ length-map-range_with_len numbered_beam 0 beams in
    let Drawn : Net → Type 0 = λ net. IsMade net c.args.seed links in
    let Good : Net → Type 0 = λ net. IsGoodPlan net links plan in
    let Cut : Net → Type 0 = λ net. IsCutting net links plan.schedule.modes plan.bursts in
    let Heaviest : Net → Type 0 = λ net. IsHeaviest (matrix_of net links) plan.schedule.critical plan.schedule.length in
    let Few : Net → Type 0 = λ net. HasFewModes (matrix_of net links) plan.schedule in
    record {
      links = links;
      drawn = subst Drawn same c.in_ok-made.ensures.made;
      edition = search rules;
      good = subst Good same c.in_ok-plan.ensures.good;
      cut = subst Cut same c.in_ok-plan.ensures.bursts;
      heaviest = subst Heaviest same c.in_ok-plan.ensures.heaviest;
      few = subst Few same c.in_ok-plan.ensures.few;
      printed = ap (λ t. text_alone t 0) (c.in_ok-text.ensures.spelled ∙ ap (λ (count : ℕ). summary count c.args.seed links plan) counted);
    }
