-- The edits that are kept of the changes, and how they are made again up to an earlier edition.
use Rattle.std.proofs.Common.{◌≡◌, ℕ, ◌+◌, ◌-◌, ◌<◌, ◌≤◌, List, [], ◌∷◌, ◌++◌, length, drop, get_or, refl, sym, ap, ◌∙◌, subst, arith}
use Rattle.std.proofs.lemmas.List.{drop_more}
use Rattle.std.proofs.lemmas.List.Elements.{filter_map-append}
use Rattle.std.proofs.lemmas.List.Sums.{sum_by-cons}
use Rattle.bt_frame.specs.declared.limits.TheConstants.{MOST_SLOTS}
use Rattle.bt_net.specs.Network.{Net, IsSound}
use Rattle.bt_demand.specs.declared.demand.Link.{Link}
use Rattle.bt_journal.specs.declared.call.Edit.{Edit}
use Rattle.bt_journal.specs.declared.call.Change.{Change}
use Rattle.bt_journal.specs.declared.call.Change.TheVariants as change
use Rattle.bt_history.specs.Occupancy.{EditsLinks}
use Rattle.bt_history.specs.Causes.{Follows}
use Rattle.bt_history.specs.Changes.{edit_in, edition, edits_among, edits_in}
use Rattle.bt_history.specs.Records.{CanRedo, Records, Redoes}
use Rattle.bt_history.proofs.Redone.{can_redo, Redoes-made, Redoes-start, opening_past}

-- one change more has its edit behind those before it, if it is one
pub more_edits : (changes after : List Change) (one : Change) (past more : List Edit) → past ≡ edits_among changes → after ≡ changes ++ one ∷ []
    → more ≡ past ++ edits_among (one ∷ []) → more ≡ edits_among after
more_edits changes after one past more kept is added =
    added ∙ (ap (λ (edits : List Edit). edits ++ edits_among (one ∷ [])) kept ∙ sym (ap edits_among is ∙ filter_map-append edit_in changes (one ∷ [])))

-- there are as many edits as the edition says
pub edits_edition : (changes : List Change) → length (edits_among changes) ≡ edition changes
edits_edition [] = refl
edits_edition (change.Edit edit ∷ changes) = omega (arith, edits_edition changes, sum_by-cons edits_in (change.Edit edit) changes)
edits_edition (change.Install plan ∷ changes) = omega (arith, edits_edition changes, sum_by-cons edits_in (change.Install plan) changes)
edits_edition (change.Order order ∷ changes) = omega (arith, edits_edition changes, sum_by-cons edits_in (change.Order order) changes)

-- The first edits were made again, up to this place: what lies ahead has the others.
pub record RedoesFrom (net : Net) (changes : List Change) (links : List Link) (number place : ℕ) : Type 0 where
  pub ahead : List Change
  pub redoes : Redoes net changes ahead links number (number - place)
  pub edits : edits_among ahead ≡ drop place (edits_among changes)

-- before the first edit
pub redoes_first : (net : Net) (changes : List Change) (links : List Link) (number : ℕ) → links ≡ [] → RedoesFrom net changes links number 0
redoes_first net changes links number none = record {
  ahead = changes;
  redoes = subst (Redoes net changes changes links number) (omega arith) (Redoes-start net changes links number none);
  edits = refl;
}

-- the next edit is the next change to make again, behind changes that are none
pub record NextEdit (net : Net) (changes : List Change) (links : List Link) (number left : ℕ) (edit : Edit) (others : List Edit) : Type 0 where
  pub behind : List Change
  pub redoes : Redoes net changes (change.Edit edit ∷ behind) links number left
  pub edits : edits_among behind ≡ others

first_edit : (net : Net) (changes ahead : List Change) (links : List Link) (number left : ℕ) (first edit : Edit) (others : List Edit)
    → Redoes net changes (change.Edit first ∷ ahead) links number left → first ∷ edits_among ahead ≡ edit ∷ others → NextEdit net changes links number left edit others
first_edit net changes ahead links number left first edit others redoes is =
    let same : first ≡ edit = cc in
    let rest : edits_among ahead ≡ others = cc in
    record {
      behind = ahead;
      redoes = subst (λ (e : Edit). Redoes net changes (change.Edit e ∷ ahead) links number left) same redoes;
      edits = rest;
    }

next_edit : (net : Net) (changes ahead : List Change) (links : List Link) (number left : ℕ) (edit : Edit) (others : List Edit) → Follows net changes
    → Redoes net changes ahead links number left → edits_among ahead ≡ edit ∷ others → NextEdit net changes links number left edit others
next_edit net changes [] links number left edit others follow redoes is = cc
next_edit net changes (change.Edit first ∷ ahead) links number left edit others follow redoes is =
    first_edit net changes ahead links number left first edit others redoes is
next_edit net changes (change.Install plan ∷ ahead) links number left edit others follow redoes is =
    next_edit net changes ahead links number left edit others follow
    (opening_past net changes (change.Install plan ∷ []) ahead links number left 0 (change.Install plan) (omega arith) refl (λ e same. cc) follow redoes) is
next_edit net changes (change.Order order ∷ ahead) links number left edit others follow redoes is =
    next_edit net changes ahead links number left edit others follow
    (opening_past net changes (change.Order order ∷ []) ahead links number left 0 (change.Order order) (omega arith) refl (λ e same. cc) follow redoes) is

-- the next edit to make again, of those that were kept
edit_ahead : (net : Net) (changes : List Change) (past : List Edit) (links : List Link) (number place : ℕ) (edit : Edit) → Follows net changes → past ≡ edits_among changes
    → place < length past → edit ≡ get_or past place edit → RedoesFrom net changes links number place
    → NextEdit net changes links number (number - place) edit (drop (place + 1) (edits_among changes))
edit_ahead net changes past links number place edit follow kept within is from =
    let there : drop place (edits_among changes) ≡ edit ∷ drop (place + 1) (edits_among changes) =
    subst (λ (edits : List Edit). drop place edits ≡ edit ∷ drop (place + 1) edits) kept
    (drop_more past place edit within ∙ ap (λ (e : Edit). e ∷ drop (place + 1) past) (sym is)) in
    next_edit net changes from.ahead links number (number - place) edit (drop (place + 1) (edits_among changes)) follow from.redoes (from.edits ∙ there)

-- there are as many edits as the edition says
pub within_past : (inside now : Records) (past : List Edit) (number place : ℕ) → inside ≡ now → past ≡ edits_among inside.state.changes → number ≤ edition now.state.changes
    → place < number → place < length past
within_past inside now past number place view kept made some =
    let edits : length past ≡ length (edits_among now.state.changes) = ap length kept ∙ ap (λ (r : Records). length (edits_among r.state.changes)) view in
    omega (arith, some, made, edits, edits_edition now.state.changes)

-- so the next one can be made again
pub can_again : (inside now : Records) (net : Net) (past : List Edit) (links : List Link) (number place slots : ℕ) (edit : Edit) → inside ≡ now → net ≡ now.net
    → Follows inside.net inside.state.changes → past ≡ edits_among inside.state.changes → slots ≡ inside.net.slots → slots ≤ MOST_SLOTS → number ≤ edition now.state.changes
    → place < number → edit ≡ get_or past place edit → RedoesFrom now.net now.state.changes links number place → CanRedo net links edit
can_again inside now net past links number place slots edit view same follow kept slots_are few made some is from =
    let follows = subst (λ (r : Records). Follows r.net r.state.changes) view follow in
    let edits = kept ∙ ap (λ (r : Records). edits_among r.state.changes) view in
    let small : now.net.slots ≤ MOST_SLOTS = omega (arith, few, slots_are ∙ ap (λ (r : Records). r.net.slots) view) in
    let next = edit_ahead now.net now.state.changes past links number place edit follows edits (within_past inside now past number place view kept made some) is from in
    can_redo now.net net now.state.changes next.behind links number (number - place) edit same small follows next.redoes (omega (arith, some))

-- it was made again
pub made_again : (inside now : Records) (past : List Edit) (links new : List Link) (number place : ℕ) (edit : Edit) → inside ≡ now → IsSound inside.net
    → Follows inside.net inside.state.changes → past ≡ edits_among inside.state.changes → number ≤ edition now.state.changes → place < number → edit ≡ get_or past place edit
    → RedoesFrom now.net now.state.changes links number place → EditsLinks links edit new → RedoesFrom now.net now.state.changes new number (place + 1)
made_again inside now past links new number place edit view sound follow kept made some is from edits_links =
    let follows = subst (λ (r : Records). Follows r.net r.state.changes) view follow in
    let sounds = subst (λ (r : Records). IsSound r.net) view sound in
    let edits = kept ∙ ap (λ (r : Records). edits_among r.state.changes) view in
    let next = edit_ahead now.net now.state.changes past links number place edit follows edits (within_past inside now past number place view kept made some) is from in
    let left : number - place - 1 ≡ number - (place + 1) = omega arith in
    record {
      ahead = next.behind;
      redoes = subst (Redoes now.net now.state.changes next.behind new number) left
          (Redoes-made now.net now.state.changes next.behind links new number (number - place) edit sounds follows next.redoes (omega (arith, some)) edits_links);
      edits = next.edits;
    }
