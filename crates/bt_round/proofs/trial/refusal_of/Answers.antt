use Rattle.std.proofs.Common.{◌+◌, sym, ◌∙◌, arith}
use Rattle.std.proofs.lemmas.List.{drop_all}
use Rattle.bt_round.proofs.Trying.{all_done, done_next, no_refusal, refused_here, refused_text}
use Rattle.bt_round.specs.Trial.{edit_asked}
use Rattle.bt_round.proofs.trial.refusal_of.Goals as goal

-- the first edit that is not done refuses the block
pub returns-then-is_some : goal.returns-then-is_some
returns-then-is_some g c =
    let here = refused_text (λ text. text.items) c.args.net.now c.loop-place.trial.state (c.loop-place.place + 1) (edit_asked c.index-lines-place.result) c.in_ok-refusal.refusal
    (sym c.is_some.ensures ∙ c.if-is_some.true) c.in_ok-refusal.ensures.refused in
    refused_here c.args.net.now c.args.book.now.state c.args.lines.now c.loop-place.place c.index-lines-place.result c.loop-place.trial.state _ c.loop-place-test.true
    c.index-lines-place.is here c.loop-place.invariant.done

-- it is done, and the next ones are tried behind it
pub loop-place-preserved : goal.loop-place-preserved
loop-place-preserved g c =
    let none = no_refusal c.in_ok-refusal.refusal (sym c.is_some.ensures ∙ c.if-is_some.false) in
    record {
      network = c.refusal_at.ensures.network;
      follows = c.refusal_at.ensures.follows;
      done = done_next c.args.net.now c.args.book.now.state c.args.lines.now c.loop-place.place c.index-lines-place.result c.loop-place.trial.state c.refusal_at.new.trial.state
          c.loop-place-test.true c.index-lines-place.is (c.in_ok-refusal.ensures.done none) c.loop-place.invariant.done;
    }

-- each of them is done
pub returns : goal.returns
returns g c =
    all_done c.args.net.now c.args.book.now.state c.loop-place.trial.state c.args.lines.now c.loop-place.place
    (drop_all c.loop-place.place c.args.lines.now (omega (arith, c.loop-place-test.false))) c.loop-place.invariant.done
