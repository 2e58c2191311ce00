-- What one moment more makes of what a crash may leave.
use Rattle.std.proofs.Common.{◌≡◌, inl, inr, ⊎_elim, ℕ, List, [], ◌∷◌, ◌++◌, length, sym, subst}
use Rattle.std.specs.Prelude.{map}
use Rattle.std.proofs.lemmas.List.{map-append}
use Rattle.bt_outside.specs.Crash.{GoesOn, MayHaveLeft}
use Rattle.bt_outside.proofs.Moments.{goes_nowhere, goes_on, left_on}
use Rattle.bt_base.specs.Medium.{Steps}
use Rattle.bt_base.specs.Moments.{Held, Life, crashes_of, from_left, left_of, medium_of, model}
use Rattle.bt_base.specs.MemoryDisk.{Settled, Turned}

-- nothing happens
pub steps_nowhere : (life : Life) → Steps (medium_of life) (medium_of life)
steps_nowhere life = record {
  time = goes_nowhere (crashes_of life);
  inside = λ left has. inl ((model life left).0 has);
}

-- one moment more
pub steps_on : (past : List Held) (now next : Held) → Steps (medium_of (record { past = past; last = now })) (medium_of (record { past = past ++ now ∷ []; last = next }))
steps_on past now next =
    let pasts = map left_of past in
    let one : map left_of (past ++ now ∷ []) ≡ pasts ++ left_of now ∷ [] = map-append left_of past (now ∷ []) in
    let on = goes_on pasts (left_of now) (left_of next) in
    record {
      time = subst (λ (l : List (List (List ℕ))). GoesOn (record { past = pasts; now = left_of now }) (record { past = l; now = left_of next })) (sym one) on;
      inside = λ left has. ⊎_elim (λ before. inl (from_left now left before)) (λ since. inr (from_left next left since))
          (left_on pasts (left_of now) (left_of next) left (subst (λ (l : List (List (List ℕ))). MayHaveLeft (record { past = l; now = left_of next }) (length pasts) left) one has));
    }

pub same_steps : (old new : Life) → new ≡ old → Steps (medium_of old) (medium_of new)
same_steps old new same = subst (λ (life : Life). Steps (medium_of old) (medium_of life)) (sym same) (steps_nowhere old)

pub turned_steps : (old new : Life) (bytes : List ℕ) → Turned old bytes new → Steps (medium_of old) (medium_of new)
turned_steps old new bytes turned = subst (λ (life : Life). Steps (medium_of old) (medium_of life)) (sym turned) (steps_on old.past old.last (record { synced = old.last.synced; bytes = bytes }))

pub settled_steps : (old new : Life) → Settled old new → Steps (medium_of old) (medium_of new)
settled_steps old new (inl (synced, same)) = same_steps old new same
settled_steps old new (inr (synced, on)) = subst (λ (life : Life). Steps (medium_of old) (medium_of life)) (sym on) (steps_on old.past old.last (record { synced = old.last.bytes; bytes = old.last.bytes }))
