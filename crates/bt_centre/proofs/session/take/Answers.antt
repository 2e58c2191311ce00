-- the answer to a line
use Rattle.std.proofs.Common.{◌≡◌, ◌∙◌, ℕ, List, Option, Some, ap, sym, option_map}
use Rattle.std.proofs.lemmas.Result.{IfOk-weaker}
use Rattle.bt_outside.specs.Input.{said_by}
use Rattle.bt_talk.specs.Answers.{answer_of}
use Rattle.bt_centre.proofs.session.take.Goals as goal

pub returns-in-Line-clause-answer : goal.returns-in-Line-clause-answer
returns-in-Line-clause-answer g c =
    let line : Some c.as_slice.result.now ≡ said_by c.args.came.now = ap Some c.as_slice.ensures.value ∙ sym (ap said_by c.in-Line.is) in
    IfOk-weaker c.take_text.result _ _ (λ on is. is ∙ ap (λ (o : Option (List ℕ)). answer_of c.args.at o (on.blocks, on.step) (option_map (λ told. told.items) on.told)) line) c.take_text.ensures.answer
