use Rattle.std.proofs.Common.{ap, ◌∙◌}
use Rattle.bt_book.specs.Noted.{changes_noted}
use Rattle.bt_book.proofs.Copied.{noted_same}
use Rattle.bt_book.proofs.changes.Changes.copy.Goals as goal

-- the note more does not count
pub returns : goal.returns
returns c = record { same = ap changes_noted c.and.ensures ∙ (noted_same c.self.inside.notes.items _ ∙ c.self.view_is) }
