-- a word that was passed over, or whose value has its name
use Rattle.std.proofs.Common.{◌≡◌, sym, ◌∙◌, ap, None, option_map}
use Rattle.bt_text.specs.WordReader.{first_word}
use Rattle.serde_json.specs.View.{members_view}
use Rattle.bt_export.proofs.Fields.{first_none, past_all, past_line}
use Rattle.bt_export.proofs.object.add_fields.Goals as goal

pub returns : goal.returns
returns c = record {
  added = sym (past_all c.args.tokens.now c.loop-token.token-index c.args.names.now c.loop-token.at c.loop-token.words (members_view c.loop-token.fields.entries) c.loop-token-test.false) ∙ c.loop-token.invariant;
}

pub returns-in_default : goal.returns-in_default
returns-in_default c =
    let none : None ≡ first_word c.loop-token.words = sym (ap (option_map (λ w. w.now)) c.in_default.is) ∙ c.next.ensures.word in
    record {
      added = sym (past_line c.args.tokens.now c.loop-token.token-index c.args.names.now c.loop-token.at c.loop-token.words (members_view c.loop-token.fields.entries) (first_none c.loop-token.words none)) ∙ c.loop-token.invariant;
    }
