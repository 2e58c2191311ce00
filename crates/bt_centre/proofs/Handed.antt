-- The entries that a session's book handed over, and how they are counted.
use Rattle.std.proofs.Common.{◌≡◌, ◌||◌, Bool, List, [], ◌∷◌, ◌++◌, refl, sym, ap, ◌∙◌, append_assoc, subst}
use Rattle.std.proofs.lemmas.List.{append-nil}
use Rattle.std.proofs.lemmas.List.Concat.{flat_map-append}
use Rattle.std.proofs.lemmas.List.Folds.{list_any-append}
use Rattle.bt_journal.specs.declared.entry.Entry.{Entry}
use Rattle.bt_history.specs.Store.{is_lost}
use Rattle.bt_centre.specs.declared.history.History.{History}
use Rattle.bt_centre.specs.declared.tally.Tally.{Tally}
use Rattle.bt_centre.specs.Handed.{IsTally, any_lost, joined}
use Rattle.bt_centre.specs.Run.{entries_of, has_lost}

-- entries more, handed over behind those before them
pub joined_more : (calls after : List (List Entry × Unit {0})) (more : List Entry) → after ≡ calls ++ (more, tt) ∷ [] → joined after ≡ joined calls ++ more
joined_more calls after more is =
    ap joined is ∙ (flat_map-append (λ (one : List Entry × Unit {0}). one.0) calls ((more, tt) ∷ []) ∙ ap (λ (e : List Entry). joined calls ++ e) (append-nil more))

-- the entries of all times, with one more
entries_more : (times : List History) (last : History) → entries_of (times ++ last ∷ []) ≡ entries_of times ++ last.entries
entries_more times last =
    flat_map-append (λ (h : History). h.entries) times (last ∷ []) ∙ ap (λ (e : List Entry). entries_of times ++ e) (append-nil last.entries)

-- entries of the present time were counted
pub tally_more : (times : List History) (front after more counted : List Entry) (tally : Tally) → after ≡ front ++ more → counted ≡ more
    → IsTally ((entries_of times ++ front) ++ counted) tally → IsTally (entries_of times ++ after) tally
tally_more times front after more counted tally is all tallied =
    subst (λ (e : List Entry). IsTally e tally)
    (ap (λ (m : List Entry). (entries_of times ++ front) ++ m) all ∙ append_assoc (entries_of times) front more ∙ ap (λ (f : List Entry). entries_of times ++ f) (sym is)) tallied

-- the present time is over, and none of the next one's was handed over
pub tally_over : (times after : List History) (last : History) (front none : List Entry) (tally : Tally) → after ≡ times ++ last ∷ [] → last.entries ≡ front → none ≡ []
    → IsTally (entries_of times ++ front) tally → IsTally (entries_of after ++ none) tally
tally_over times after last front none tally is same empty tallied =
    subst (λ (e : List Entry). IsTally e tally)
    (sym (ap (λ (n : List Entry). entries_of after ++ n) empty ∙ append-nil (entries_of after) ∙ ap entries_of is ∙ entries_more times last ∙ ap (λ (e : List Entry). entries_of times ++ e) same)) tallied

-- all times are over
pub tally_end : (times : List History) (front : List Entry) (tally : Tally) → front ≡ [] → IsTally (entries_of times ++ front) tally → IsTally (entries_of times) tally
tally_end times front tally none tallied =
    subst (λ (e : List Entry). IsTally e tally) (ap (λ (f : List Entry). entries_of times ++ f) none ∙ append-nil (entries_of times)) tallied

-- a change was lost in these or in those
pub any_lost-append : (before more : List Entry) → any_lost (before ++ more) ≡ (any_lost before || any_lost more)
any_lost-append before more = list_any-append (λ (entry : Entry). is_lost entry.reply) before more

-- a change was lost in one of the histories
pub lost_histories : (histories : List History) → has_lost histories ≡ any_lost (entries_of histories)
lost_histories [] = refl
lost_histories (first ∷ rest) = ap (λ (b : Bool). any_lost first.entries || b) (lost_histories rest) ∙ sym (any_lost-append first.entries (entries_of rest))
