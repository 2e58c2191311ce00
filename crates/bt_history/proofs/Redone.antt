-- Edits made again, up to an earlier edition.
use Rattle.std.proofs.Common.{◌≡◌, ◌≢◌, ℕ, ◌+◌, ◌-◌, ◌<◌, ◌≤◌, ◌++◌, List, [], ◌∷◌, length, drop, get_or, refl, sym, ap, ◌∙◌, subst, arith, append_assoc, ⊎_elim}
use Rattle.std.proofs.lemmas.List.{append-nil, drop_more}
use Rattle.std.proofs.lemmas.Bool.{cases_eq}
use Rattle.bt_frame.specs.declared.limits.TheConstants.{MOST_SLOTS}
use Rattle.bt_net.specs.Network.{Net, IsSound}
use Rattle.bt_demand.specs.declared.demand.Link.{Link}
use Rattle.bt_demand.specs.Traffic.{matrix_of, HasSumsTo}
use Rattle.bt_journal.specs.declared.call.Edit.{Edit}
use Rattle.bt_journal.specs.declared.call.Change.{Change}
use Rattle.bt_journal.specs.declared.call.Change.TheVariants as change
use Rattle.bt_history.specs.Occupancy.{EditsLinks}
use Rattle.bt_history.specs.Changes.{edits_in}
use Rattle.bt_history.specs.EditCauses.{with_edit}
use Rattle.bt_history.specs.Causes.{FollowFrom, Follows, IsChangeOn, IsGood}
use Rattle.bt_history.specs.Records.{CanRedo, Redoes}
use Rattle.bt_history.proofs.After.{AddsUp-other}
use Rattle.bt_history.proofs.Done.{AddsUp-edit, fits_after, holds_taken}
use Rattle.bt_history.proofs.Entries.{edition-more, edition-other}
use Rattle.bt_history.proofs.Histories.{FollowFrom-grows}
use Rattle.bt_history.proofs.Start.{KeepsUp-start}

-- of changes that follow, each is on the network, and good after those before it
pub FollowFrom-at : (net : Net) (from before : List Change) (one : Change) (after : List Change) → FollowFrom net from (before ++ one ∷ after)
    → IsChangeOn net one × IsGood net (from ++ before) one
FollowFrom-at net from [] one after follow = (follow.0, subst (λ (c : List Change). IsGood net c one) (sym (append-nil from)) follow.1)
FollowFrom-at net from (first ∷ rest) one after follow =
    let there = FollowFrom-at net (from ++ first ∷ []) rest one after follow.2 in
    (there.0, subst (λ (c : List Change). IsGood net c one) (append_assoc from (first ∷ []) rest) there.1)

-- before the first change
pub Redoes-start : (net : Net) (changes : List Change) (links : List Link) (number : ℕ) → links ≡ [] → Redoes net changes changes links number number
Redoes-start net changes links number none = record {
  before = [];
  after = changes;
  parts = refl;
  keeps = rw none (KeepsUp-start net);
  counted = omega arith;
  next = λ _. refl;
}

small_lines : (most : ℕ) (rows : List (List ℕ)) → most ≤ MOST_SLOTS → HasSumsTo most rows → HasSumsTo MOST_SLOTS rows
small_lines most rows few sums line within = omega (arith, few, sums line within)

pub can_redo : (net now : Net) (changes ahead : List Change) (links : List Link) (number left : ℕ) (edit : Edit) → now ≡ net → net.slots ≤ MOST_SLOTS → Follows net changes
    → Redoes net changes (change.Edit edit ∷ ahead) links number left → 0 < left → CanRedo now links edit
can_redo net now changes ahead links number left edit same few follow redoes some =
    let parts : changes ≡ redoes.before ++ change.Edit edit ∷ ahead = redoes.parts ∙ ap (λ (c : List Change). redoes.before ++ c) (redoes.next some) in
    let there = FollowFrom-at net [] redoes.before (change.Edit edit) ahead (subst (Follows net) parts follow) in
    let can : CanRedo net links edit = record {
      terminals = there.0;
      ends = there.1.0;
      held = holds_taken redoes.before links edit redoes.keeps.adds_up there.1.1;
      small = small_lines net.slots (matrix_of net links) few redoes.keeps.fits;
    } in
    rw same can

-- an edit was made again
pub Redoes-made : (net : Net) (changes ahead : List Change) (links new : List Link) (number left : ℕ) (edit : Edit) → IsSound net → Follows net changes
    → Redoes net changes (change.Edit edit ∷ ahead) links number left → 0 < left → EditsLinks links edit new → Redoes net changes ahead new number (left - 1)
Redoes-made net changes ahead links new number left edit sound follow redoes some edits =
    let parts : changes ≡ redoes.before ++ change.Edit edit ∷ ahead = redoes.parts ∙ ap (λ (c : List Change). redoes.before ++ c) (redoes.next some) in
    let there = FollowFrom-at net [] redoes.before (change.Edit edit) ahead (subst (Follows net) parts follow) in
    record {
      before = with_edit redoes.before edit;
      after = ahead;
      parts = parts ∙ sym (append_assoc redoes.before (change.Edit edit ∷ []) ahead);
      keeps = record {
        adds_up = AddsUp-edit redoes.before links new edit redoes.keeps.adds_up edits;
        fits = fits_after net redoes.before links new edit sound there.0 redoes.keeps.adds_up redoes.keeps.fits there.1 edits;
        follows = FollowFrom-grows net [] redoes.before (change.Edit edit) redoes.keeps.follows there.0 there.1;
      };
      counted = omega (arith, redoes.counted, some, edition-more redoes.before edit);
      next = λ _. refl;
    }

-- nothing is left to make again, or there is nothing to make
pub Redoes-past : (net : Net) (changes ahead more : List Change) (links : List Link) (number left : ℕ) → Redoes net changes ahead links number left
    → (0 < left → ahead ≡ more) → Redoes net changes more links number left
Redoes-past net changes ahead more links number left redoes same = record {
  before = redoes.before;
  after = redoes.after;
  parts = redoes.parts;
  keeps = redoes.keeps;
  counted = redoes.counted;
  next = λ some. redoes.next some ∙ same some;
}

-- a change that is no edit is passed over
Redoes-other : (net : Net) (changes ahead : List Change) (links : List Link) (number left : ℕ) (one : Change) → edits_in one ≡ 0 → Follows net changes
    → Redoes net changes (one ∷ ahead) links number left → Redoes net changes ahead links number left
Redoes-other net changes ahead links number left one other follow redoes = ⊎_elim
    (λ (none : left ≡ 0). Redoes-past net changes (one ∷ ahead) ahead links number left redoes (λ some. absurd (omega (arith, some, none))))
    (λ (not_none : left ≡ 0 → ⊥).
    let some : 0 < left = omega (arith, not_none) in
    let parts : changes ≡ redoes.before ++ one ∷ ahead = redoes.parts ∙ ap (λ (c : List Change). redoes.before ++ c) (redoes.next some) in
    let there = FollowFrom-at net [] redoes.before one ahead (subst (Follows net) parts follow) in
    record {
      before = redoes.before ++ one ∷ [];
      after = ahead;
      parts = parts ∙ sym (append_assoc redoes.before (one ∷ []) ahead);
      keeps = record {
        adds_up = AddsUp-other redoes.before links one other redoes.keeps.adds_up;
        fits = redoes.keeps.fits;
        follows = FollowFrom-grows net [] redoes.before one redoes.keeps.follows there.0 there.1;
      };
      counted = omega (arith, redoes.counted, edition-other redoes.before one other);
      next = λ _. refl;
    })
    (cases_eq left 0)

-- the changes ahead, one by one
pub opening_ahead : (opening more : List Change) (place : ℕ) (one : Change) → place < length opening → one ≡ get_or opening place one
    → drop place opening ++ more ≡ one ∷ (drop (place + 1) opening ++ more)
opening_ahead opening more place one within is =
    ap (λ (c : List Change). c ++ more) (drop_more opening place one within ∙ ap (λ (o : Change). o ∷ drop (place + 1) opening) (sym is))

no_edit : (one : Change) → ((edit : Edit) → one ≢ change.Edit edit) → edits_in one ≡ 0
no_edit (change.Edit edit) none = absurd (none edit refl)
no_edit (change.Install plan) none = refl
no_edit (change.Order order) none = refl

-- a change of the opening that is no edit is passed over
pub opening_past : (net : Net) (changes opening more : List Change) (links : List Link) (number left place : ℕ) (one : Change) → place < length opening
    → one ≡ get_or opening place one → ((edit : Edit) → one ≢ change.Edit edit) → Follows net changes → Redoes net changes (drop place opening ++ more) links number left
    → Redoes net changes (drop (place + 1) opening ++ more) links number left
opening_past net changes opening more links number left place one within is none follow redoes =
    Redoes-other net changes (drop (place + 1) opening ++ more) links number left one (no_edit one none) follow
    (Redoes-past net changes (drop place opening ++ more) (one ∷ (drop (place + 1) opening ++ more)) links number left redoes (λ _. opening_ahead opening more place one within is))
