use Rattle.std.proofs.Common.{◌≡◌, [], ◌∷◌, ◌++◌, Some, ap, sym, ◌∙◌, subst}
use Rattle.std.proofs.lemmas.Option.{same_Some}
use Rattle.bt_shared.specs.Legal.{Legal}
use Rattle.bt_shared.specs.Passes.{HasSeen}
use Rattle.bt_shared.specs.Turns.{MayGive}
use Rattle.bt_shared.proofs.Histories.{same_held, legal_keeps}
use Rattle.bt_shared.proofs.Steps.{may_give, learns}
use Rattle.bt_shared.proofs.turn.call_at.Goals as goal

-- the object that is out takes the call, as the one did with which the line started
pub use_object-answer-requires-clause-out : goal.use_object-answer-requires-clause-out
use_object-answer-requires-clause-out g c = let turn = c.take_turn.ensures.turn.1 in let o = turn.1 in let known = turn.3 c.args.top.now.key.value c.requires.start in (
  o,
  ap (λ m. m.1) turn.2,
  legal_keeps g.O.Object.steps (λ p. g.O.Object.takes p c.args.call) (λ a k d r p step. g.met.O.Object.keeps_test a k d r p step c.args.call) c.args.top.now.key.value o turn.0 known.0 c.requires.test,
)

-- it has stored at most one entry more
pub give_back-requires-clause-may : goal.give_back-requires-clause-may
give_back-requires-clause-may g c = let turn = c.take_turn.ensures.turn.1 in let o = turn.1 in let carried : c.take_turn.new.place.me.1 ≡ (0, Some o) ∷ [] = ap (λ m. m.1) turn.2 in
    let used = c.use_object-answer.ensures.answered in let view = c.use_object-answer.ensures.view in
    let is : o ≡ used.0 = same_Some o used.0 (sym (same_held (Some o) (Some used.0) c.take_turn.new.place.me.1 carried (_, used.1))) in
    let known = turn.3 c.args.top.now.key.value c.requires.start in
    let legal : Legal g.O.Object.steps c.args.top.now.key.value turn.0 used.0 = subst (Legal g.O.Object.steps c.args.top.now.key.value turn.0) is known.0 in
    let stored : g.O.Object.history used.0 ≡ g.O.Object.history c.args.top.now.key.value ++ turn.0 = ap g.O.Object.history (sym is) ∙ known.1 in
    let caller : c.use_object-answer.new.place.me.0.number ≡ c.args.caller = ap (λ v. v.number) view ∙ (ap (λ m. m.0.number) turn.2 ∙ c.requires.number) in (
      c.take_turn.ensures.turn.0,
      turn.0,
      ap (λ v. v.ticket) view ∙ ap (λ m. m.0.ticket) turn.2,
      ap (λ v. v.base) view ∙ ap (λ m. m.0.base) turn.2,
      (
        used.2.0,
        used.2.1,
        subst (λ n. MayGive g.O.Object.steps g.O.Object.history c.args.top.now.key.value turn.0 n used.2.0) (sym caller)
            (may_give g.O.Object.steps g.O.Object.history c.args.top.now.key.value c.use_object-answer.result turn.0 used.0 used.2.0 c.args.caller c.args.call legal stored
            used.2.2.0 used.2.2.1 used.2.2.2),
      ),
    )

-- the caller has then seen the history with its entry
pub returns-clause-call : goal.returns-clause-call
returns-clause-call g c = let turn = c.take_turn.ensures.turn.1 in let o = turn.1 in let carried : c.take_turn.new.place.me.1 ≡ (0, Some o) ∷ [] = ap (λ m. m.1) turn.2 in
    let used = c.use_object-answer.ensures.answered in let view = c.use_object-answer.ensures.view in
    let is : o ≡ used.0 = same_Some o used.0 (sym (same_held (Some o) (Some used.0) c.take_turn.new.place.me.1 carried (_, used.1))) in
    let known = turn.3 c.args.top.now.key.value c.requires.start in
    let legal : Legal g.O.Object.steps c.args.top.now.key.value turn.0 used.0 = subst (Legal g.O.Object.steps c.args.top.now.key.value turn.0) is known.0 in
    let stored : g.O.Object.history used.0 ≡ g.O.Object.history c.args.top.now.key.value ++ turn.0 = ap g.O.Object.history (sym is) ∙ known.1 in
    let seen : HasSeen turn.0 c.args.caller c.args.place.now.me.0.seen = subst (λ n. HasSeen turn.0 n c.args.place.now.me.0.seen) c.requires.number turn.4 in
    let start : c.use_object-answer.new.place.me.0.start ≡ Some c.args.top.now.key.value = ap (λ v. v.start) view ∙ (ap (λ m. m.0.start) turn.2 ∙ c.requires.start) in
    let base : c.use_object-answer.new.place.me.0.base ≡ Some turn.0 = ap (λ v. v.base) view ∙ ap (λ m. m.0.base) turn.2 in
    learns g.O.Object.steps g.O.Object.history c.args.top.now.key.value c.use_object-answer.result turn.0 used.0 used.2.0 c.args.caller c.args.call
    c.args.place.now.me.0.seen c.use_object-answer.new.place.me.0.seen c.give_back.new.place.me.0.seen legal stored seen (ap (λ v. v.seen) view ∙ ap (λ m. m.0.seen) turn.2)
    used.2.2.0 used.2.2.1 used.2.2.2
    (c.give_back.ensures.passed.1 c.args.top.now.key.value used.2.0 turn.0 start base used.2.1)
