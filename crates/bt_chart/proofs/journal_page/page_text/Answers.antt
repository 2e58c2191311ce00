-- piece by piece
use Rattle.std.proofs.Common.{◌++◌, List, ℕ, [], ap, ◌∙◌}
use Rattle.bt_frame.specs.declared.mode.Mode.{Mode}
use Rattle.bt_words.proofs.Extending.{two_behind}
use Rattle.bt_chart.specs.Pieces.{foot_text, head_text, state_text}
use Rattle.bt_chart.specs.Page.{beams_text, links_text, modes_text, picture_section}
use Rattle.bt_chart.proofs.journal_page.page_text.Goals as goal

pub returns : goal.returns
returns c =
    let net = c.args.net.now in
    let state = c.args.state in
    let plan = c.args.plan.now in
    let air = c.args.shown.now.air.items in
    let ladder = c.args.shown.now.ladder.items in
    let head = head_text state.edition state.plan c.args.seconds in
    let told = head ++ state_text state in
    let aired = told ++ air in
    let beams = aired ++ beams_text net c.args.matrix.now in
    let picture = beams ++ picture_section net plan in
    let modes = picture ++ modes_text net plan.schedule.modes in
    let rungs = modes ++ ladder in
    let links = rungs ++ links_text net c.args.links.now in
    two_behind [] _ _ links foot_text
    (two_behind [] _ _ rungs (links_text net c.args.links.now)
    (two_behind [] _ _ modes ladder
    (two_behind [] _ _ picture (modes_text net plan.schedule.modes)
    (two_behind [] _ _ beams (picture_section net plan)
    (two_behind [] _ _ aired (beams_text net c.args.matrix.now)
    (two_behind [] _ _ told air
    (two_behind [] _ _ head (state_text state) (c.in_ok-add_head.ensures ∙ ap (λ (text : List ℕ). text ++ head) c.new-text.ensures.items) c.in_ok-add_state.ensures)
    (c.in_ok-extend_from_slice.ensures.items ∙ ap (λ (l : List ℕ). c.add_state.new.out.items ++ l) c.as_slice.ensures.value))
    c.in_ok-add_beams.ensures)
    c.in_ok-add_picture.ensures)
    (c.in_ok-add_modes.ensures ∙ ap (λ (l : List Mode). c.add_picture.new.out.items ++ modes_text net l) c.as_slice-2.ensures.same))
    (c.in_ok-extend_from_slice-2.ensures.items ∙ ap (λ (l : List ℕ). c.add_modes.new.out.items ++ l) c.as_slice-3.ensures.value))
    c.in_ok-add_links.ensures)
    c.in_ok-add_words.ensures
