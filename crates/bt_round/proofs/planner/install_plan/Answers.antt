-- the entry of the install is printed, and the plan that it installed may be posted
use Rattle.std.proofs.Common.{◌∙◌}
use Rattle.bt_round.proofs.OnOk.{on_ok}
use Rattle.bt_round.proofs.PlannerLines.{install_answered, install_printed}
use Rattle.bt_round.proofs.Posting.{may_post, posted_more}
use Rattle.bt_round.proofs.planner.install_plan.Goals as goal

pub post_installed-requires : goal.post_installed-requires
post_installed-requires g c =
    record { newer = may_post c.args.net.now c.args.caller.now c.args.publisher.now.plans c.in_ok-entry.entry c.in_ok-entry.ensures.answered c.requires.posted }

pub returns-clause-posted : goal.returns-clause-posted
returns-clause-posted g c =
    let entry = c.in_ok-entry.ensures in
    on_ok c.post_installed.result c.post_installed.ensures.posted (λ posts.
    posted_more c.args.caller.now c.ask.new.self c.args.publisher.now.plans c.post_installed.new.publisher.plans c.in_ok-entry.entry entry.same entry.kept c.requires.posted posts)

pub returns-clause-done : goal.returns-clause-done
returns-clause-done g c =
    let entry = c.in_ok-entry.ensures in
    let net = c.args.net.now in
    let names = c.replies_name_beams_of_the_network.ensures.beams net entry.answered.old c.in_ok-entry.entry.call c.in_ok-entry.entry.reply entry.answered.new c.beam_count-beams.ensures.sound entry.answered.step in
    on_ok c.post_installed.result c.post_installed.ensures.posted (λ posts. record {
      entry = c.in_ok-entry.entry;
      caller = entry.caller ∙ c.requires.number;
      call = entry.call;
      posts = posts;
      kept = entry.kept;
      printed = install_printed net c.in_ok-entry.entry c.args.text.now.items _ (install_answered net c.in_ok-entry.entry c.args.plan entry.answered entry.call names) c.in_ok-entry_text.ensures.added;
    })
