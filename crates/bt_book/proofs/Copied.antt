-- A copy of a book without its store: its changes, its links, and what holds of the store that keeps nothing.
use Rattle.std.proofs.Common.{◌≡◌, ℕ, ◌+◌, Bool, true, false, List, [], ◌∷◌, ◌++◌, Option, None, sym, ap, ◌∙◌, subst, append_assoc, arith}
use Rattle.std.proofs.lemmas.List.{append-nil}
use Rattle.std.proofs.lemmas.List.Elements.{filter_map-append}
use Rattle.std.proofs.lemmas.List.Sums.{sum_by-cons, sum_by-append}
use Rattle.bt_outside.specs.Crash.{Crashes}
use Rattle.bt_net.specs.Network.{Net}
use Rattle.bt_demand.specs.declared.demand.Link.{Link}
use Rattle.bt_journal.specs.declared.call.Change.{Change}
use Rattle.bt_history.specs.Causes.{FollowFrom, Follows}
use Rattle.bt_history.specs.Changes.{edition, edits_in}
use Rattle.bt_history.specs.Records.{AddsUp, Holds, IsRedone, KeepsUp, Records}
use Rattle.bt_history.specs.Recovery.{AreInRange}
use Rattle.bt_history.specs.Store.{IsStored, lost_of}
use Rattle.bt_history.proofs.After.{AddsUp-other}
use Rattle.bt_book.specs.Noted.{change_noted, changes_noted}

-- one note more that counts
pub noted_more : (notes : List (Change × Bool)) (one : Change) → changes_noted (notes ++ (one, true) ∷ []) ≡ changes_noted notes ++ one ∷ []
noted_more notes one = filter_map-append change_noted notes ((one, true) ∷ [])

-- and one that does not
pub noted_same : (notes : List (Change × Bool)) (one : Change) → changes_noted (notes ++ (one, false) ∷ []) ≡ changes_noted notes
noted_same notes one = filter_map-append change_noted notes ((one, false) ∷ []) ∙ append-nil (changes_noted notes)

-- changes that are no edits add nothing up
adds_up_others : (before after : List Change) (links : List Link) → edition after ≡ 0 → AddsUp before links → AddsUp (before ++ after) links
adds_up_others before [] links none adds = subst (λ (c : List Change). AddsUp c links) (sym (append-nil before)) adds
adds_up_others before (one ∷ after) links none adds =
    let parts = sum_by-cons edits_in one after in
    subst (λ (c : List Change). AddsUp c links) (append_assoc before (one ∷ []) after)
    (adds_up_others (before ++ one ∷ []) after links (omega (arith, none, parts)) (AddsUp-other before links one (omega (arith, none, parts)) adds))

-- where all edits were made again, the links are those after all changes
pub all_redone : (net : Net) (changes : List Change) (number : ℕ) (links : List Link) → number ≡ edition changes → Follows net changes → IsRedone net changes number links
    → KeepsUp net changes links
all_redone net changes number links all follow redone =
    let none : edition redone.after ≡ 0 = omega (arith, all, redone.counted, ap edition redone.parts, sum_by-append edits_in redone.before redone.after) in
    record {
      adds_up = subst (λ (c : List Change). AddsUp c links) (sym redone.parts) (adds_up_others redone.before redone.after links none redone.keeps.adds_up);
      fits = redone.keeps.fits;
      follows = follow;
    }

pub all_again : (inside now : Records) (edits : ℕ) (links : List Link) → inside ≡ now → edits ≡ edition inside.state.changes → Follows inside.net inside.state.changes
    → IsRedone now.net now.state.changes edits links → KeepsUp now.net now.state.changes links
all_again inside now edits links view all follow redone =
    all_redone now.net now.state.changes edits links (all ∙ ap (λ (r : Records). edition r.state.changes) view)
    (subst (λ (r : Records). Follows r.net r.state.changes) view follow) redone

follow_first : (net : Net) (before changes more : List Change) → FollowFrom net before (changes ++ more) → FollowFrom net before changes
follow_first net before [] more follow = tt
follow_first net before (one ∷ changes) more follow = (follow.0, follow.1, follow_first net (before ++ one ∷ []) changes more follow.2)

ranges_first : (net : Net) (edits : ℕ) (changes more : List Change) → AreInRange net edits (changes ++ more) → AreInRange net edits changes
ranges_first net edits [] more ranges = tt
ranges_first net edits (one ∷ changes) more ranges = (ranges.0, ranges_first net (edits + edits_in one) changes more ranges.1)

-- a store of which nothing is told, and that lost nothing, fits each machine of which the changes follow
untold_stored : (net : Net) (told : Option (List ℕ)) (changes lost : List Change) → IsStored net told changes lost → IsStored net None changes []
untold_stored net told changes lost stored = record {
  kept = tt;
  one = omega arith;
  follow = subst (Follows net) (sym (append-nil changes)) (follow_first net [] changes lost stored.follow);
  ranges = subst (AreInRange net 0) (sym (append-nil changes)) (ranges_first net 0 changes lost stored.ranges);
  readable = tt;
}

pub holds_untold : (old new : Records) (told : Option (List ℕ)) (crashes : Option Crashes) → new.net ≡ old.net → new.state ≡ old.state → new.history ≡ []
    → Holds old told crashes → Holds new None None
holds_untold old new told crashes net state none holds =
    let stored = untold_stored old.net told old.state.changes (lost_of old.history) holds.stored in
    record {
      stored = rw (net, state, none) stored;
      sure = λ _. ap lost_of none;
      settled = λ _. tt;
      leaves = tt;
    }
