-- of the block at its place, where there is one
use Rattle.std.proofs.Common.{◌≡◌, ◌<◌, length, ap, sym, ◌∙◌, arith}
use Rattle.bt_talk.specs.Opened.{OpenBlock}
use Rattle.bt_talk.proofs.Places.{count_none, count_some, place_in}
use Rattle.bt_talk.proofs.blocks.Blocks.count.Goals as goal

pub returns-then-place-open : goal.returns-then-place-open
returns-then-place-open c =
    let blocks = c.as_slice-open.result.now in
    let same : blocks ≡ c.args.self.now = c.as_slice-open.ensures.value ∙ c.self.view_is in
    let none : place_in c.args.tag.now blocks ≡ length blocks = sym c.place_of-place.ensures.place ∙ c.if-place-open.true in
    count_none c.args.tag.now blocks c.args.self.now same none

pub returns : goal.returns
returns c =
    let blocks = c.as_slice-open.result.now in
    let same : blocks ≡ c.args.self.now = c.as_slice-open.ensures.value ∙ c.self.view_is in
    let place = c.place_of-place.result in
    let within : place < length blocks = omega (arith, c.place_of-place.ensures.within, c.if-place-open.false) in
    let counted : c.len.result ≡ length c.one.inside.said.items = omega (arith, c.len.ensures, c.one.inside.said.ok.0) in
    count_some c.args.tag.now blocks c.args.self.now c.index-open-place.result c.index-open-place.result place same c.place_of-place.ensures.place within c.index-open-place.is c.len.result
    (counted ∙ ap (λ (b : OpenBlock). length b.said) c.one.view_is)
