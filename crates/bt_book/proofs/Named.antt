-- The edits that are kept of the changes name terminals of the network.
use Rattle.std.proofs.Common.{◌≡◌, ℕ, ◌<◌, List, [], ◌∷◌, ◌++◌, length, get_or, All, sym, subst}
use Rattle.std.proofs.lemmas.List.Elements.{All-nil, All-cons, All-get_or, All-same}
use Rattle.bt_net.specs.Network.{Net}
use Rattle.bt_journal.specs.declared.call.Edit.{Edit}
use Rattle.bt_journal.specs.declared.call.Change.{Change}
use Rattle.bt_journal.specs.declared.call.Change.TheVariants as change
use Rattle.bt_journal.specs.Journal.{NamesTerminals}
use Rattle.bt_history.specs.Causes.{FollowFrom, Follows}
use Rattle.bt_history.specs.Changes.{edits_among}
use Rattle.bt_history.specs.Records.{Records}

-- each edit names terminals of the network
edits_named : (net : Net) (before changes : List Change) → FollowFrom net before changes → All (NamesTerminals net) (edits_among changes)
edits_named net before [] follow = All-nil (NamesTerminals net)
edits_named net before (change.Edit edit ∷ changes) follow =
    All-cons (NamesTerminals net) edit (edits_among changes) follow.0 (edits_named net (before ++ change.Edit edit ∷ []) changes follow.2)
edits_named net before (change.Install plan ∷ changes) follow = edits_named net (before ++ change.Install plan ∷ []) changes follow.2
edits_named net before (change.Order order ∷ changes) follow = edits_named net (before ++ change.Order order ∷ []) changes follow.2

pub kept_edit_named : (inside now : Records) (past : List Edit) (place : ℕ) (edit : Edit) → inside ≡ now → past ≡ edits_among inside.state.changes → Follows inside.net inside.state.changes
    → place < length past → edit ≡ get_or past place edit → NamesTerminals now.net edit
kept_edit_named inside now past place edit view kept follow within is =
    let named = edits_named inside.net [] inside.state.changes follow in
    let here = subst (NamesTerminals inside.net) (sym is)
    (All-get_or (NamesTerminals inside.net) past place edit within (All-same (NamesTerminals inside.net) past (edits_among inside.state.changes) kept named)) in
    subst (λ (r : Records). NamesTerminals r.net edit) view here
