use Rattle.std.proofs.Common.{ℕ, List, length, ap, sym, subst, ◌∙◌}
use Rattle.std.proofs.lemmas.Result.{err_from_is_err_and}
use Rattle.bt_history.specs.Machine.{bytes_of}
use Rattle.bt_history.specs.Recovery.{Recovered, tail_of}
use Rattle.bt_look.specs.State.{lines_with}
use Rattle.bt_look.proofs.state.state_text.Goals as goal

-- the sizes are those of the bytes, and the changes those that they tell
pub returns-clause-text : goal.returns-clause-text
returns-clause-text c =
    let net = c.args.net.now in
    let made = c.in_ok-book.book.state.changes in
    let size = c.in_ok-size.size in
    let told = c.in_ok-book.ensures.told in
    let bytes = c.in_ok-size.ensures.bytes made (subst (λ (b : List ℕ). Recovered net b made) (sym c.as_slice.ensures.value) told) in
    let torn = c.in_ok-size.ensures.torn ∙ ap (λ (b : List ℕ). length (tail_of b)) c.as_slice.ensures.value in
    record {
      changes = made;
      told = told;
      spelled = c.in_ok-text_of.ensures ∙ (ap (λ (n : ℕ). lines_with net made n size.torn) bytes ∙ ap (λ (n : ℕ). lines_with net made (bytes_of net made) n) torn);
    }

-- want of memory is no matter of the bytes
pub returns-in_err-text_of-clause-fault : goal.returns-in_err-text_of-clause-fault
returns-in_err-text_of-clause-fault c =
    let p = err_from_is_err_and c.from_residual-in_err-text_of.result c.from_residual-in_err-text_of.ensures.1 in
    rw (p.1, p.2) tt
