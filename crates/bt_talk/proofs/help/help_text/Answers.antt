-- the lines of a session, by where its sites are
use Rattle.std.proofs.Common.{◌≡◌, IfOk, subst, sym}
use Rattle.bt_script.specs.declared.sites.Sites.{Sites}
use Rattle.bt_talk.specs.Help.{help_text}
use Rattle.bt_talk.proofs.help.help_text.Goals as goal

pub returns-in-Together : goal.returns-in-Together
returns-in-Together c = record {
  text = subst (λ (sites : Sites). IfOk c.text_of.result (λ text. text.items ≡ help_text sites)) (sym c.in-Together.is) c.text_of.ensures.text;
}

pub returns-in-Apart : goal.returns-in-Apart
returns-in-Apart c = record {
  text = subst (λ (sites : Sites). IfOk c.text_of-in-Apart.result (λ text. text.items ≡ help_text sites)) (sym c.in-Apart.is) c.text_of-in-Apart.ensures.text;
}
