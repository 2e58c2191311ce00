-- the block at its place is given up, where there is one
use Rattle.std.proofs.Common.{◌≡◌, ◌<◌, length, ap, sym, ◌∙◌, arith}
use Rattle.bt_talk.specs.Opened.{Open}
use Rattle.bt_talk.proofs.Places.{forgets_at, forgets_none, place_in}
use Rattle.bt_talk.proofs.blocks.Blocks.forget.Goals as goal

pub returns-then-place-len-clause-row : goal.returns-then-place-len-clause-row
returns-then-place-len-clause-row c =
    let blocks = c.self.inside.open.items in
    let at_it : c.place_of-place.result ≡ place_in c.args.other.now blocks = c.place_of-place.ensures.place ∙ ap (place_in c.args.other.now) c.as_slice.ensures.value in
    let full : c.len.result ≡ length blocks = omega (arith, c.len.ensures, c.self.inside.open.ok.0) in
    forgets_none c.args.other.now blocks c.args.self c.self.view_is (sym at_it ∙ c.if-place-len.true ∙ full)

pub returns-clause-row : goal.returns-clause-row
returns-clause-row c =
    let blocks = c.self.inside.open.items in
    let at_it : c.place_of-place.result ≡ place_in c.args.other.now blocks = c.place_of-place.ensures.place ∙ ap (place_in c.args.other.now) c.as_slice.ensures.value in
    let within : c.place_of-place.result < length blocks = omega (arith, c.place_of-place.ensures.within, c.if-place-len.false, c.len.ensures, ap (λ (l : Open). length l) c.as_slice.ensures.value) in
    forgets_at c.args.other.now blocks c.args.self c.remove.new.self.items c.remove.result c.place_of-place.result c.self.view_is at_it within c.remove.ensures.items
