use Rattle.std.proofs.Common.{◌++◌, ◌∷◌, [], List, ap, ◌∙◌}
use Rattle.bt_journal.specs.declared.call.Change.{Change}
use Rattle.bt_book.specs.Noted.{changes_noted}
use Rattle.bt_book.proofs.Copied.{noted_more}
use Rattle.bt_book.proofs.changes.Changes.push.Goals as goal

-- the note counts
pub returns : goal.returns
returns c = record {
  pushed = ap changes_noted c.and-self-inside.ensures
      ∙ (noted_more c.self.inside.notes.items c.args.change.now ∙ ap (λ (all : List Change). all ++ c.args.change.now ∷ []) c.self.view_is);
}
