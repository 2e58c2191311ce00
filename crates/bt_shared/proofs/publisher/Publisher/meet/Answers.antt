use Rattle.std.proofs.Common.{rules, [], refl, ap, subst, sym, ◌∙◌}
use Rattle.std.proofs.lemmas.List.{append-nil}
use mathlib.Core.List.{IsPrefix}
use Rattle.bt_shared.specs.Plans.{last_of}
use Rattle.bt_shared.specs.Posted.{Posted}
use Rattle.bt_shared.proofs.publisher.Publisher.meet.Goals as goal

-- the reader has seen that edition before
pub returns-then-edition : goal.returns-then-edition
returns-then-edition g c =
    let plans = c.agree.ensures.plans ∙ ap (λ (p : Posted). p.plans) c.self.view_is in
    let shown = c.agree.ensures.shown ∙ ap (λ (p : Posted). last_of p.plans) c.self.view_is ∙ sym c.edition-edition.ensures.shown in
    record { kept = refl; board = refl; begins = ([], append-nil c.args.reader.now.plans); met = λ i. record { board = c.requires.same i; plans = plans i; shown = shown i } }

-- where memory runs out the reader is as it was
pub returns-in_err-enter : goal.returns-in_err-enter
returns-in_err-enter g c =
    let before = c.loop.invariant.2 in record {
      kept = refl;
      board = c.in_err-enter.ensures.board ∙ ap (λ (p : Posted). p.board) before;
      begins = subst (λ (p : Posted). IsPrefix p.plans c.enter.new.self.plans) before c.in_err-enter.ensures.begins;
      met = search rules;
    }

-- the reader has seen it now
pub returns-then-branch : goal.returns-then-branch
returns-then-branch g c =
    let before = c.loop.invariant.2 in
    let board = c.in_ok-enter.ensures.board ∙ ap (λ (p : Posted). p.board) before in
    let plans = c.agree-then-branch.ensures.plans ∙ ap (λ (p : Posted). p.plans) c.self.view_is in
    let shown = c.agree-then-branch.ensures.shown ∙ ap (λ (p : Posted). last_of p.plans) c.self.view_is ∙ sym c.edition-edition.ensures.shown in record {
      kept = refl;
      board = board;
      begins = subst (λ (p : Posted). IsPrefix p.plans c.enter.new.self.plans) before c.in_ok-enter.ensures.begins;
      met = λ i. record { board = (board ∙ c.requires.same) i; plans = plans i; shown = shown i };
    }
