-- nothing else is shown
use Rattle.std.proofs.Common.{List, ℕ, [], subst}
use Rattle.bt_report.specs.Printing.{CameTo}
use Rattle.bt_chart.specs.Pages.{AreShown, DrawsPage}
use Rattle.bt_chart.proofs.page.plain_report.Goals as goal

pub returns : goal.returns
returns c =
    let net = c.args.net.now in
    let bytes = c.args.bytes.items in
    let came = λ (air ladder : List ℕ). CameTo (DrawsPage (AreShown air ladder) c.args.seconds net bytes) c.page_report.result in
    subst (λ (ladder : List ℕ). came [] ladder) c.nothing_shown-shown.ensures.ladder
    (subst (λ (air : List ℕ). came air c.nothing_shown-shown.result.ladder.items) c.nothing_shown-shown.ensures.air c.page_report.ensures)
