use Rattle.std.proofs.Common.{◌≡◌, ◌++◌, ℕ, List, length, slice_set, refl, sym, ◌∙◌, ap, arith}
use Rattle.std.specs.Option.{option_to_list}
use Rattle.bt_air.specs.declared.sent.Answer.TheVariants as answers
use Rattle.bt_air.specs.declared.sent.Heard.{Heard}
use Rattle.bt_air.specs.declared.shown.Shown.TheVariants as shows
use Rattle.bt_air.specs.declared.sent.Place.TheVariants.{Terminal}
use Rattle.bt_air.specs.declared.sent.Aired.{Aired}
use Rattle.bt_machines.specs.Says.{confirmed_by}
use Rattle.bt_machines.specs.Terminal.{State, step_of}
use Rattle.bt_site.specs.Event.{Deliver}
use Rattle.bt_world.specs.Life.{Life, past_of}
use Rattle.bt_world.proofs.Kept.{kept-as, logged-more}
use Rattle.bt_world.proofs.Delivers.{one-delivered, terminal-at, terminal-step, terminal-told, terminal-kept}
use Rattle.bt_world.proofs.Framed.{length-terminals}
use Rattle.bt_world.proofs.world.WorldOver.deliver_to_terminal.Goals as goal

pub invariant_of-self-2 : goal.invariant_of-self-2
invariant_of-self-2 g c =
    let inside = c.self.inside in
    let view : Life = c.args.self.now in
    let message = c.in_ok-message.message in
    let is = kept-as _ _ _ c.self.view_is c.self.invariant in
    let one = one-delivered view c.args.number (Terminal c.args.to) message c.requires c.in_ok-message.ensures.same in
    let now = logged-more inside.net inside.orders.items inside.log c.reserve.new.self c.push.new.self view (Deliver c.args.number (Terminal c.args.to)) c.self.view_is
    c.reserve.ensures.opening c.reserve.ensures.events c.push.ensures.opening c.push.ensures.events in
    let s : State = c.index_mut.result.now in
    let to = c.args.to in
    let was = terminal-at view.opening (past_of view) inside.terminals.items c.from.result to s is.terminals c.from.ensures c.requires.meets.1 c.index_mut.ensures.value in
    let step = terminal-step view.opening (past_of view) to one.0 s c.mark-mark.result message was c.mark-mark.ensures.mark one.2 in
    let number : s.number ≡ to = ap (λ (t : State). t.number) was ∙ (c.terminals_are_said.ensures.agrees view.opening (past_of view) to).same in
    let told = c.hear-heard.ensures.said ∙ terminal-told view.opening (past_of view) to one.0 s c.mark-mark.result message number one.2
    ∙ ap (λ (heard : Heard). confirmed_by to one.0 (heard, (step_of s c.mark-mark.result message).1)) (sym c.hear-heard.ensures.answer)
    ∙ ap (λ (after : State). confirmed_by to one.0 (c.hear-heard.result.0, after)) (sym c.hear-heard.ensures.state) in
    let said = c.send.ensures ∙ ap (λ (list : List Aired). list ++ option_to_list c.hear-heard.result.1) c.in_ok-reserve-2.ensures.items ∙ ap (λ (list : List Aired). inside.sent.items ++ list) told in
    terminal-kept c.answers_are_said.ensures.terminal view _ c.args.number to one.0 _ _ c.hear-heard.result.0 c.hear-heard.new.self is c.requires now one.1
    (c.hear-heard.ensures.answer ∙ ap (λ t. t.0) step) (c.hear-heard.ensures.state ∙ ap (λ t. t.1) step) refl refl refl said
    (ap (λ (at : ℕ). slice_set inside.terminals.items at c.hear-heard.new.self) c.from.ensures) refl refl

pub index_mut-requires : goal.index_mut-requires
index_mut-requires g c =
    let is = kept-as _ _ _ c.self.view_is c.self.invariant in
    let view : Life = c.args.self.now in
    omega (arith, c.from.ensures, c.requires.meets.1, ap length is.terminals, length-terminals view.opening (past_of view))

pub returns-clause-shown : goal.returns-clause-shown
returns-clause-shown g c =
    let view : Life = c.args.self.now in
    let message = c.in_ok-message.message in
    let is = kept-as _ _ _ c.self.view_is c.self.invariant in
    let one = one-delivered view c.args.number (Terminal c.args.to) message c.requires c.in_ok-message.ensures.same in
    let was = terminal-at view.opening (past_of view) c.self.inside.terminals.items c.from.result c.args.to c.index_mut.result.now is.terminals c.from.ensures c.requires.meets.1 c.index_mut.ensures.value in
    let step = terminal-step view.opening (past_of view) c.args.to one.0 c.index_mut.result.now c.mark-mark.result message was c.mark-mark.ensures.mark one.2 in
    rw one.1 (ap (λ (heard : Heard). shows.Delivered (answers.Heard heard)) (c.hear-heard.ensures.answer ∙ ap (λ t. t.0) step))
