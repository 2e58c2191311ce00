-- A good change can be spelled by a line.
use Rattle.std.proofs.Common.{◌≡◌, ℕ, ◌≤◌, List, sym, subst, arith}
use Rattle.std.proofs.lemmas.List.Sums.{get_or-le-sum_by}
use Rattle.bt_frame.specs.declared.mode.Mode.{Mode}
use Rattle.bt_net.specs.Network.{Net, IsSound}
use Rattle.bt_demand.specs.declared.plan.Plan.{Plan}
use Rattle.bt_demand.specs.Burst.{AreBursts}
use Rattle.bt_demand.specs.Flyable.{IsFlyable}
use Rattle.bt_demand.proofs.BurstTriples.{held_within}
use Rattle.bt_plan.specs.PlanSpelling.{IsPlanInRange}
use Rattle.bt_journal.specs.declared.call.Change.{Change}
use Rattle.bt_journal.specs.declared.call.Change.TheVariants as change
use Rattle.bt_journal.specs.JournalLines.{IsChangeInRange}
use Rattle.bt_history.specs.Causes.{Follows, IsChangeOn, IsGood, IsGoodInstall, IsPlanOn}
use Rattle.bt_history.specs.Records.{Counts, Records}
use Rattle.bt_history.proofs.Flying.{install_flies}

-- the editions are few, since each has a line
few_editions : (net : Net) (changes : List Change) (count edits bytes : ℕ) → Counts net changes count edits bytes → edits ≤ 67108864
few_editions net changes count edits bytes counts = omega (arith, counts.fewer, counts.covered, counts.readable)

-- so a plan that is good for its edition has small numbers
pub plan_in_range : (net : Net) (changes : List Change) (count edits bytes : ℕ) (plan : Plan) → Counts net changes count edits bytes → IsSound net → Follows net changes
    → IsPlanOn net plan → IsGoodInstall net changes plan → AreBursts plan.bursts → IsPlanInRange net plan
plan_in_range net changes count edits bytes plan counts sound follow on good bursts =
    let flies : IsFlyable net plan = install_flies net changes plan sound follow good in
    record {
      edition = omega (arith, good.1, counts.edited, few_editions net changes count edits bytes counts);
      schedule = record {
        slots = omega (arith, flies.short);
        critical = on.critical;
        modes = λ k d within. record {
          duration = omega (arith, get_or-le-sum_by (λ (mode : Mode). mode.duration) plan.schedule.modes k d within, flies.filled, flies.short);
          beams = (flies.permutations k d within).count;
          columns = λ down e below. omega (arith, (flies.permutations k d within).in_range down e below, sound.beams.count.1);
        };
      };
      bursts = λ k d within.
          let held = flies.held k d within in
          let over = held_within net plan.schedule.modes _ held in
          record {
            start = omega (arith, over, held.some, flies.filled, flies.short);
            some = omega (arith, held.some);
            few = omega (arith, over, flies.filled, flies.short);
            sends = (flies.between k d within).0;
            receives = (flies.between k d within).1;
          };
      ordered = bursts.ordered;
    }

-- and is in range, as the machine has it
pub install_in_range : (inside now : Records) (count edits bytes : ℕ) (asked : Change) (plan : Plan) → inside ≡ now → asked ≡ change.Install plan
    → Counts inside.net inside.state.changes count edits bytes → IsSound inside.net → Follows inside.net inside.state.changes → AreBursts plan.bursts → IsChangeOn now.net asked
    → IsGood now.net now.state.changes asked → IsChangeInRange now.net edits asked
install_in_range inside now count edits bytes asked plan same is counts sound follow bursts on good =
    let here = subst (λ (one : Change). IsChangeOn now.net one × IsGood now.net now.state.changes one) is (on, good) in
    let there = subst (λ (r : Records). IsPlanOn r.net plan × IsGoodInstall r.net r.state.changes plan) (sym same) here in
    let range = plan_in_range inside.net inside.state.changes count edits bytes plan counts sound follow there.0 there.1 bursts in
    subst (λ (one : Change). IsChangeInRange now.net edits one) (sym is) (subst (λ (r : Records). IsPlanInRange r.net plan) same range)
