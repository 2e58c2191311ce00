-- the block at its place, or one more behind the others
use Rattle.std.proofs.Common.{◌≡◌, ◌<◌, ◌++◌, [], length, get_or, take, drop, ap, sym, ◌∙◌, subst, arith}
use Rattle.std.proofs.lemmas.Result.{IfOk-weaker}
use Rattle.bt_talk.specs.declared.block.Step.{Step}
use Rattle.bt_talk.specs.Block.{IsStepFor, wish_row}
use Rattle.bt_talk.specs.Blocks.{IsOpenFor, kept_row, own_of, with_said}
use Rattle.bt_talk.specs.Opened.{Open, OpenBlock}
use Rattle.bt_talk.proofs.Places.{open_for, own_none, place_in, put_back_row, row_closed, row_open, step_for}
use Rattle.bt_talk.proofs.blocks.Blocks.own.Goals as goal

pub keep-requires : goal.keep-requires
keep-requires c =
    let blocks = c.self.inside.open.items in
    let at_it : c.place_of-place.result ≡ place_in c.args.tag.now blocks = c.place_of-place.ensures.place ∙ ap (place_in c.args.tag.now) c.as_slice.ensures.value in
    let full : c.len.result ≡ length blocks = omega (arith, c.len.ensures, c.self.inside.open.ok.0) in
    record { closed = own_none c.args.tag.now blocks (sym at_it ∙ c.if-place-len.true ∙ full) }

pub returns-then-place-len-clause-row : goal.returns-then-place-len-clause-row
returns-then-place-len-clause-row c =
    let tag = c.args.tag.now in
    let blocks = c.self.inside.open.items in
    let at_it : c.place_of-place.result ≡ place_in tag blocks = c.place_of-place.ensures.place ∙ ap (place_in tag) c.as_slice.ensures.value in
    let full : c.len.result ≡ length blocks = omega (arith, c.len.ensures, c.self.inside.open.ok.0) in
    let none = own_none tag blocks (sym at_it ∙ c.if-place-len.true ∙ full) in
    let all = λ (l : Open). kept_row c.args.at tag l (wish_row c.args.net.now c.args.sites (own_of tag l) c.args.text.now c.args.wished) in
    let row = row_closed c.args.net.now c.args.sites tag c.args.text.now c.args.wished blocks c.in_ok-own.own c.closed.result c.in_ok-own.step c.closed.ensures.closed none c.in_ok-own.ensures.row in
    IfOk-weaker c.keep.result (λ on. (let r : Open × Step = (on.0, on.1) in r) ≡ kept_row c.args.at tag blocks (c.in_ok-own.own, c.in_ok-own.step)) (λ on. (let r : Open × Step = (on.0, on.1) in r) ≡ all c.args.self)
    (λ on is. is ∙ ap (kept_row c.args.at tag blocks) row ∙ ap all c.self.view_is) c.keep.ensures

pub returns-then-place-len-clause-terminals : goal.returns-then-place-len-clause-terminals
returns-then-place-len-clause-terminals c =
    let tag = c.args.tag.now in
    let blocks = c.self.inside.open.items in
    let at_it : c.place_of-place.result ≡ place_in tag blocks = c.place_of-place.ensures.place ∙ ap (place_in tag) c.as_slice.ensures.value in
    let full : c.len.result ≡ length blocks = omega (arith, c.len.ensures, c.self.inside.open.ok.0) in
    let none = own_none tag blocks (sym at_it ∙ c.if-place-len.true ∙ full) in
    let row = row_closed c.args.net.now c.args.sites tag c.args.text.now c.args.wished blocks c.in_ok-own.own c.closed.result c.in_ok-own.step c.closed.ensures.closed none c.in_ok-own.ensures.row in
    let others = subst (IsOpenFor c.args.net.now) (sym c.self.view_is) c.requires.terminals in
    IfOk-weaker c.keep.result (λ on. (let r : Open × Step = (on.0, on.1) in r) ≡ kept_row c.args.at tag blocks (c.in_ok-own.own, c.in_ok-own.step)) (λ on. IsOpenFor c.args.net.now on.0)
    (λ on is. open_for c.args.net.now c.args.sites c.args.at tag c.args.text.now c.args.wished blocks c.in_ok-own.own c.in_ok-own.step (on.0, on.1) row (is ∙ ap (kept_row c.args.at tag blocks) row) others c.in_ok-own.ensures.terminals) c.keep.ensures

pub returns-then-place-len-clause-part : goal.returns-then-place-len-clause-part
returns-then-place-len-clause-part c =
    let tag = c.args.tag.now in
    let blocks = c.self.inside.open.items in
    let at_it : c.place_of-place.result ≡ place_in tag blocks = c.place_of-place.ensures.place ∙ ap (place_in tag) c.as_slice.ensures.value in
    let full : c.len.result ≡ length blocks = omega (arith, c.len.ensures, c.self.inside.open.ok.0) in
    let none = own_none tag blocks (sym at_it ∙ c.if-place-len.true ∙ full) in
    let row = row_closed c.args.net.now c.args.sites tag c.args.text.now c.args.wished blocks c.in_ok-own.own c.closed.result c.in_ok-own.step c.closed.ensures.closed none c.in_ok-own.ensures.row in
    IfOk-weaker c.keep.result (λ on. (let r : Open × Step = (on.0, on.1) in r) ≡ kept_row c.args.at tag blocks (c.in_ok-own.own, c.in_ok-own.step)) (λ on. IsStepFor c.args.net.now on.1)
    (λ on is. step_for c.args.net.now c.args.sites c.args.at tag c.args.text.now c.args.wished blocks c.in_ok-own.own c.in_ok-own.step (on.0, on.1) row (is ∙ ap (kept_row c.args.at tag blocks) row) c.in_ok-own.ensures.part) c.keep.ensures

pub returns-clause-row : goal.returns-clause-row
returns-clause-row c =
    let tag = c.args.tag.now in
    let blocks = c.self.inside.open.items in
    let at_it : c.place_of-place.result ≡ place_in tag blocks = c.place_of-place.ensures.place ∙ ap (place_in tag) c.as_slice.ensures.value in
    let within : c.place_of-place.result < length blocks = omega (arith, c.place_of-place.ensures.within, c.if-place-len.false, c.len.ensures, ap (λ (l : Open). length l) c.as_slice.ensures.value) in
    let seen : OpenBlock = record { tag = c.one.inside.tag.items; since = c.one.inside.since; said = c.one.inside.said.items } in
    let seen_is : seen ≡ get_or blocks c.place_of-place.result c.remove-one.result = c.one.view_is ∙ c.remove-one.ensures.value in
    let all = λ (l : Open). kept_row c.args.at tag l (wish_row c.args.net.now c.args.sites (own_of tag l) c.args.text.now c.args.wished) in
    let row = row_open c.args.net.now c.args.sites tag c.args.text.now c.args.wished blocks seen c.remove-one.result c.in_ok-own-2.own c.open.result c.in_ok-own-2.step c.place_of-place.result at_it within seen_is c.open.ensures.open c.in_ok-own-2.ensures.row in
    let after = c.in_ok-put_back.ensures ∙ ap (λ (l : Open). take c.place_of-place.result l ++ with_said (record { tag = seen.tag; since = seen.since; said = [] }) c.in_ok-own-2.own ++ drop c.place_of-place.result l) c.remove-one.ensures.items in
    put_back_row c.args.net.now c.args.sites c.args.at tag c.args.text.now c.args.wished blocks c.put_back.new.blocks.items seen c.remove-one.result c.in_ok-own-2.own c.in_ok-own-2.step c.place_of-place.result at_it within seen_is row after
    ∙ ap all c.self.view_is

pub returns-clause-terminals : goal.returns-clause-terminals
returns-clause-terminals c =
    let tag = c.args.tag.now in
    let blocks = c.self.inside.open.items in
    let at_it : c.place_of-place.result ≡ place_in tag blocks = c.place_of-place.ensures.place ∙ ap (place_in tag) c.as_slice.ensures.value in
    let within : c.place_of-place.result < length blocks = omega (arith, c.place_of-place.ensures.within, c.if-place-len.false, c.len.ensures, ap (λ (l : Open). length l) c.as_slice.ensures.value) in
    let seen : OpenBlock = record { tag = c.one.inside.tag.items; since = c.one.inside.since; said = c.one.inside.said.items } in
    let seen_is : seen ≡ get_or blocks c.place_of-place.result c.remove-one.result = c.one.view_is ∙ c.remove-one.ensures.value in
    let row = row_open c.args.net.now c.args.sites tag c.args.text.now c.args.wished blocks seen c.remove-one.result c.in_ok-own-2.own c.open.result c.in_ok-own-2.step c.place_of-place.result at_it within seen_is c.open.ensures.open c.in_ok-own-2.ensures.row in
    let after = c.in_ok-put_back.ensures ∙ ap (λ (l : Open). take c.place_of-place.result l ++ with_said (record { tag = seen.tag; since = seen.since; said = [] }) c.in_ok-own-2.own ++ drop c.place_of-place.result l) c.remove-one.ensures.items in
    let others = subst (IsOpenFor c.args.net.now) (sym c.self.view_is) c.requires.terminals in
    open_for c.args.net.now c.args.sites c.args.at tag c.args.text.now c.args.wished blocks c.in_ok-own-2.own c.in_ok-own-2.step (c.put_back.new.blocks.items, c.in_ok-own-2.step) row
    (put_back_row c.args.net.now c.args.sites c.args.at tag c.args.text.now c.args.wished blocks c.put_back.new.blocks.items seen c.remove-one.result c.in_ok-own-2.own c.in_ok-own-2.step c.place_of-place.result at_it within seen_is row after) others c.in_ok-own-2.ensures.terminals
