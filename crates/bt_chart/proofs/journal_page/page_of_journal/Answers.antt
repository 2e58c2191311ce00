use Rattle.std.proofs.Common.{◌≡◌, ℕ, List, length, ap, subst, ◌∙◌, Option}
use Rattle.std.proofs.lemmas.Result.{err_from_is_err_and}
use Rattle.bt_net.specs.Network.{Net}
use Rattle.bt_journal.specs.declared.call.Change.{Change}
use Rattle.bt_history.specs.Recovery.{tail_of}
use Rattle.bt_chart.specs.Page.{IsPage}
use Rattle.bt_chart.proofs.journal_page.page_of_journal.Goals as goal

-- a page by another word for the bytes behind the last newline
same_page : (seconds : Option ℕ) (net : Net) (changes : List Change) (torn tail : ℕ) (air ladder text : List ℕ) → torn ≡ tail → IsPage seconds net changes torn air ladder text → IsPage seconds net changes tail air ladder text
same_page seconds net changes torn tail air ladder text same page = subst (λ (n : ℕ). IsPage seconds net changes n air ladder text) same page

-- the changes are those that the bytes tell, and the torn ones are those of their tail
pub returns-clause-text : goal.returns-clause-text
returns-clause-text c = record {
  changes = c.in_ok-book.book.state.changes;
  told = c.in_ok-book.ensures.told;
  page = same_page _ _ _ _ _ _ _ _ (c.in_ok-size.ensures.torn ∙ ap (λ (b : List ℕ). length (tail_of b)) c.as_slice.ensures.value) c.in_ok-page_of_book.ensures;
}

-- want of memory is no matter of the bytes
pub returns-in_err-page_of_book-clause-fault : goal.returns-in_err-page_of_book-clause-fault
returns-in_err-page_of_book-clause-fault c =
    let p = err_from_is_err_and c.from_residual-in_err-page_of_book.result c.from_residual-in_err-page_of_book.ensures.1 in
    rw (p.1, p.2) tt
