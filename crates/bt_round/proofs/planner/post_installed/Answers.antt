-- the plan that the entry installed is newer than the last that was posted
use Rattle.std.proofs.Common.{◌≡◌, [], ◌≤◌, All, true, sym, ◌∙◌, subst}
use Rattle.std.proofs.lemmas.List.Elements.{All-head}
use Rattle.bt_demand.specs.declared.plan.Plan.{Plan}
use Rattle.bt_shared.specs.Plans.{next_edition}
use Rattle.bt_journal.specs.Journal.{is_made}
use Rattle.bt_round.proofs.Posting.{installed_first}
use Rattle.bt_round.proofs.planner.post_installed.Goals as goal

pub post-requires : goal.post-requires
post-requires g c =
    let plan = c.in-Install.plan in
    let MayFollow : Plan → Type 0 = λ (p : Plan). next_edition c.args.publisher.now.plans ≤ p.edition.0 in
    let made : is_made c.args.entry.reply ≡ true = sym c.is_made.ensures.made ∙ c.if-not-is_made.false in
    record { newer = All-head MayFollow plan [] (subst (All MayFollow) (installed_first c.args.entry plan c.in-Install.is made) c.requires.newer) }
