-- What a store over a disk makes of the steps of the disk.
use Rattle.std.proofs.Common.{◌≡◌, ◌⊎◌, inl, inr, ⊎_elim, ℕ, zero, suc, ◌+◌, ◌-◌, List, [], ◌∷◌, ◌++◌, length, take, Option, Some, None, IfSome, refl, sym, ◌∙◌, ap, subst, arith, length-take}
use Rattle.std.proofs.lemmas.List.{append-nil, take_all}
use Rattle.std.proofs.Math.Seq.{take-append-add}
use Rattle.bt_outside.specs.Crash.{clock, Both}
use Rattle.bt_outside.proofs.Moments.{goes_nowhere, goes_further}
use Rattle.bt_base.specs.Medium.{Gains, GainsPart, IsLeft, IsSynced, Loses, Medium, Stays, Steps, Syncs}
use Rattle.bt_base.specs.Lines.{Adds, Cuts, Grows, Pays, Shrinks, Waits}

-- a first part of a first part is one
take_twice : (n kept : ℕ) (l : List ℕ) → (m : ℕ) × (take n (take kept l) ≡ take m l)
take_twice zero kept l = (0, refl)
take_twice (suc n) zero l = (0, refl)
take_twice (suc n) (suc kept) [] = (0, refl)
take_twice (suc n) (suc kept) (x ∷ l) = let rest = take_twice n kept l in (suc rest.0, ap (λ (r : List ℕ). x ∷ r) rest.1)

-- where all bytes are synced a crash leaves them
pub left_synced : (synced bytes left : List ℕ) → synced ≡ bytes → IsLeft synced bytes left → left ≡ bytes
left_synced synced bytes left same (inl is) = is ∙ same
left_synced synced bytes left same (inr (kept, enough, is)) = is ∙ take_all kept bytes (omega (arith, enough, ap length same))

-- the bytes as they read may be left
pub left_whole : (synced bytes left : List ℕ) → left ≡ bytes → IsLeft synced bytes left
left_whole synced bytes left is = inr (length synced + length bytes, omega arith, is ∙ sym (take_all (length synced + length bytes) bytes (omega arith)))

-- behind a write that was not synced a crash leaves the old bytes and a first part of the piece
left_written : (old piece left : List ℕ) (kept : ℕ) → IsLeft old (old ++ take kept piece) left → (part : ℕ) × (left ≡ old ++ take part piece)
left_written old piece left kept (inl is) = (0, is ∙ sym (append-nil old))
left_written old piece left kept (inr (cut, enough, is)) =
    let n = cut - length old in
    let whole : length old + n ≡ cut = omega arith in
    let part = take_twice n kept piece in
    (part.0, is ∙ ap (λ (k : ℕ). take k (old ++ take kept piece)) (sym whole) ∙ take-append-add old (take kept piece) n ∙ ap (λ (l : List ℕ). old ++ l) part.1)

-- behind a cut that was not synced a crash leaves the old bytes or those that are left
left_cut : (old left : List ℕ) (kept : ℕ) → IsLeft old (take kept old) left → (left ≡ old) ⊎ (left ≡ take kept old)
left_cut old left kept (inl is) = inl is
left_cut old left kept (inr (cut, enough, is)) = inr (is ∙ take_all cut (take kept old) (omega (arith, length-take kept old)))

-- a sync leaves what a crash could have left
inside_sync : (old new : Medium) → Steps old new → new.bytes ≡ old.bytes → ((left : List ℕ) → IsLeft new.synced new.bytes left → IsLeft old.synced old.bytes left)
    → Waits old new
inside_sync old new steps same left_less = record {
  bytes = same;
  time = steps.time;
  inside = λ left since. (old.model left).1 (⊎_elim (λ before. before) (left_less left) (steps.inside left since));
}

synced_less : (old new : Medium) → Syncs old new → (left : List ℕ) → IsLeft new.synced new.bytes left → IsLeft old.synced old.bytes left
synced_less old new syncs left is = left_whole old.synced old.bytes left (left_synced new.synced new.bytes left syncs.synced is ∙ syncs.bytes)

stays_less : (old new : Medium) → Stays old new → (left : List ℕ) → IsLeft new.synced new.bytes left → IsLeft old.synced old.bytes left
stays_less old new stays left is = subst (λ (b : List ℕ). IsLeft old.synced b left) stays.bytes (subst (λ (s : List ℕ). IsLeft s new.bytes left) stays.synced is)

-- the sync that was owed is paid
pub pays : (old new : Option Medium) → Both Syncs old new → Both Steps old new → (IfSome old IsSynced → new ≡ old) → Both Pays old new
pays None None syncs steps same = tt
pays None (Some new) syncs steps same = absurd syncs
pays (Some old) None syncs steps same = absurd syncs
pays (Some old) (Some new) syncs steps same = record {
  waits = inside_sync old new steps syncs.bytes (synced_less old new syncs);
  synced = syncs.synced;
  same = λ synced. let is : Some new ≡ Some old = same synced in cc;
}

-- the sync failed
pub waits : (old new : Option Medium) → Both Stays old new → Both Steps old new → Both Waits old new
waits None None stays steps = tt
waits None (Some new) stays steps = absurd stays
waits (Some old) None stays steps = absurd stays
waits (Some old) (Some new) stays steps = inside_sync old new steps stays.bytes (stays_less old new stays)

-- a first part of the piece was written behind synced bytes
grows : (piece : List ℕ) (old new : Medium) (kept : ℕ) → IsSynced old → new.bytes ≡ old.bytes ++ take kept piece → new.synced ≡ old.synced → Steps old new → Grows piece old new
grows piece old new kept all bytes synced steps = record {
  kept = kept;
  bytes = bytes;
  time = steps.time;
  inside = λ left since. ⊎_elim
      (λ before. (0, left_synced old.synced old.bytes left all before ∙ sym (append-nil old.bytes)))
      (λ after. left_written old.bytes piece left kept (subst (λ (b : List ℕ). IsLeft old.bytes b left) bytes (subst (λ (s : List ℕ). IsLeft s new.bytes left) (synced ∙ all) after)))
      (steps.inside left since);
}

-- and then a sync was tried
grows_further : (piece : List ℕ) (old mid new : Medium) → Grows piece old mid → mid.synced ≡ old.bytes → new.bytes ≡ mid.bytes
    → ((left : List ℕ) → IsLeft new.synced new.bytes left → IsLeft mid.synced mid.bytes left) → Steps mid new → Grows piece old new
grows_further piece old mid new grew synced same left_less steps =
    let waited = inside_sync mid new steps same left_less in
    record {
      kept = grew.kept;
      bytes = same ∙ grew.bytes;
      time = goes_further old.crashes mid.crashes new.crashes grew.time steps.time;
      inside = λ left since. ⊎_elim
          (λ first. grew.inside left first)
          (λ then. left_written old.bytes piece left grew.kept (subst (λ (b : List ℕ). IsLeft old.bytes b left) grew.bytes (subst (λ (s : List ℕ). IsLeft s mid.bytes left) synced ((mid.model left).0 (waited.inside left then)))))
          (steps.time.nothing_else (clock old.crashes) left grew.time.later since);
    }

pub grows_none : (piece : List ℕ) (now : Option Medium) → IfSome now IsSynced → Both (Grows piece) now now
grows_none piece None synced = tt
grows_none piece (Some now) synced = record {
  kept = 0;
  bytes = sym (append-nil now.bytes);
  time = goes_nowhere now.crashes;
  inside = λ left was. (0, left_synced now.synced now.bytes left synced ((now.model left).0 was) ∙ sym (append-nil now.bytes));
}

pub grows_part : (piece : List ℕ) (old new : Option Medium) → IfSome old IsSynced → Both (GainsPart piece) old new → Both Steps old new → Both (Grows piece) old new
grows_part piece None None all gains steps = tt
grows_part piece None (Some new) all gains steps = absurd gains
grows_part piece (Some old) None all gains steps = absurd gains
grows_part piece (Some old) (Some new) all gains steps = grows piece old new gains.kept all gains.gains.bytes gains.gains.synced steps

grown : (piece : List ℕ) (old mid : Medium) → IsSynced old → Gains piece old mid → Steps old mid → Grows piece old mid
grown piece old mid all gains steps =
    grows piece old mid (length piece) all (gains.bytes ∙ ap (λ (l : List ℕ). old.bytes ++ l) (sym (take_all (length piece) piece (omega arith)))) gains.synced steps

-- the piece was written, and the sync failed or not
pub grows_synced : (piece : List ℕ) (old mid new : Option Medium) → IfSome old IsSynced → Both (Gains piece) old mid → Both Steps old mid → Both Syncs mid new → Both Steps mid new → Both (Grows piece) old new
grows_synced piece None None None all gains steps syncs then = tt
grows_synced piece None None (Some new) all gains steps syncs then = absurd syncs
grows_synced piece None (Some mid) new all gains steps syncs then = absurd gains
grows_synced piece (Some old) None new all gains steps syncs then = absurd gains
grows_synced piece (Some old) (Some mid) None all gains steps syncs then = absurd syncs
grows_synced piece (Some old) (Some mid) (Some new) all gains steps syncs then =
    grows_further piece old mid new (grown piece old mid all gains steps) (gains.synced ∙ all) syncs.bytes (synced_less mid new syncs) then

pub grows_waiting : (piece : List ℕ) (old mid new : Option Medium) → IfSome old IsSynced → Both (Gains piece) old mid → Both Steps old mid → Both Stays mid new → Both Steps mid new → Both (Grows piece) old new
grows_waiting piece None None None all gains steps stays then = tt
grows_waiting piece None None (Some new) all gains steps stays then = absurd stays
grows_waiting piece None (Some mid) new all gains steps stays then = absurd gains
grows_waiting piece (Some old) None new all gains steps stays then = absurd gains
grows_waiting piece (Some old) (Some mid) None all gains steps stays then = absurd stays
grows_waiting piece (Some old) (Some mid) (Some new) all gains steps stays then =
    grows_further piece old mid new (grown piece old mid all gains steps) (gains.synced ∙ all) stays.bytes (stays_less mid new stays) then

pub adds : (piece : List ℕ) (old mid new : Option Medium) → Both (Gains piece) old mid → Both Syncs mid new → Both (Adds piece) old new
adds piece None None None gains syncs = tt
adds piece None None (Some new) gains syncs = absurd syncs
adds piece None (Some mid) new gains syncs = absurd gains
adds piece (Some old) None new gains syncs = absurd gains
adds piece (Some old) (Some mid) None gains syncs = absurd syncs
adds piece (Some old) (Some mid) (Some new) gains syncs = record { whole = syncs.bytes ∙ gains.bytes; synced = syncs.synced }

-- synced bytes were cut
shrinks : (kept : ℕ) (old new : Medium) → IsSynced old → Loses kept old new → Steps old new → Shrinks kept old new
shrinks kept old new all loses steps = record {
  bytes = inr loses.bytes;
  time = steps.time;
  inside = λ left since. ⊎_elim
      (λ before. inl (left_synced old.synced old.bytes left all before))
      (λ after. left_cut old.bytes left kept (subst (λ (b : List ℕ). IsLeft old.bytes b left) loses.bytes (subst (λ (s : List ℕ). IsLeft s new.bytes left) (loses.synced ∙ all) after)))
      (steps.inside left since);
}

-- and then a sync was tried
shrinks_further : (kept : ℕ) (old mid new : Medium) → IsSynced old → Loses kept old mid → Steps old mid → new.bytes ≡ mid.bytes
    → ((left : List ℕ) → IsLeft new.synced new.bytes left → IsLeft mid.synced mid.bytes left) → Steps mid new → Shrinks kept old new
shrinks_further kept old mid new all loses first same left_less steps =
    let waited = inside_sync mid new steps same left_less in
    let shrunk = shrinks kept old mid all loses first in
    record {
      bytes = inr (same ∙ loses.bytes);
      time = goes_further old.crashes mid.crashes new.crashes first.time steps.time;
      inside = λ left since. ⊎_elim
          (λ earlier. shrunk.inside left earlier)
          (λ then. left_cut old.bytes left kept (subst (λ (b : List ℕ). IsLeft old.bytes b left) loses.bytes (subst (λ (s : List ℕ). IsLeft s mid.bytes left) (loses.synced ∙ all) ((mid.model left).0 (waited.inside left then)))))
          (steps.time.nothing_else (clock old.crashes) left first.time.later since);
    }

pub shrinks_none : (kept : ℕ) (now : Option Medium) → IfSome now IsSynced → Both (Shrinks kept) now now
shrinks_none kept None synced = tt
shrinks_none kept (Some now) synced = record {
  bytes = inl refl;
  time = goes_nowhere now.crashes;
  inside = λ left was. inl (left_synced now.synced now.bytes left synced ((now.model left).0 was));
}

-- the cut failed, and has cut or has not
pub shrinks_maybe : (kept : ℕ) (old new : Option Medium) → IfSome old IsSynced → Both Stays old new ⊎ Both (Loses kept) old new → Both Steps old new → Both (Shrinks kept) old new
shrinks_maybe kept None None all either steps = tt
shrinks_maybe kept None (Some new) all either steps = absurd steps
shrinks_maybe kept (Some old) None all either steps = absurd steps
shrinks_maybe kept (Some old) (Some new) all (inr loses) steps = shrinks kept old new all loses steps
shrinks_maybe kept (Some old) (Some new) all (inl stays) steps = record {
  bytes = inl stays.bytes;
  time = steps.time;
  inside = λ left since. inl (left_synced old.synced old.bytes left all (⊎_elim (λ before. before) (stays_less old new stays left) (steps.inside left since)));
}

pub shrinks_synced : (kept : ℕ) (old mid new : Option Medium) → IfSome old IsSynced → Both (Loses kept) old mid → Both Steps old mid → Both Syncs mid new → Both Steps mid new → Both (Shrinks kept) old new
shrinks_synced kept None None None all loses steps syncs then = tt
shrinks_synced kept None None (Some new) all loses steps syncs then = absurd syncs
shrinks_synced kept None (Some mid) new all loses steps syncs then = absurd loses
shrinks_synced kept (Some old) None new all loses steps syncs then = absurd loses
shrinks_synced kept (Some old) (Some mid) None all loses steps syncs then = absurd syncs
shrinks_synced kept (Some old) (Some mid) (Some new) all loses steps syncs then = shrinks_further kept old mid new all loses steps syncs.bytes (synced_less mid new syncs) then

pub shrinks_waiting : (kept : ℕ) (old mid new : Option Medium) → IfSome old IsSynced → Both (Loses kept) old mid → Both Steps old mid → Both Stays mid new → Both Steps mid new → Both (Shrinks kept) old new
shrinks_waiting kept None None None all loses steps stays then = tt
shrinks_waiting kept None None (Some new) all loses steps stays then = absurd stays
shrinks_waiting kept None (Some mid) new all loses steps stays then = absurd loses
shrinks_waiting kept (Some old) None new all loses steps stays then = absurd loses
shrinks_waiting kept (Some old) (Some mid) None all loses steps stays then = absurd stays
shrinks_waiting kept (Some old) (Some mid) (Some new) all loses steps stays then = shrinks_further kept old mid new all loses steps stays.bytes (stays_less mid new stays) then

pub cuts : (kept : ℕ) (old mid new : Option Medium) → Both (Loses kept) old mid → Both Syncs mid new → Both (Cuts kept) old new
cuts kept None None None loses syncs = tt
cuts kept None None (Some new) loses syncs = absurd syncs
cuts kept None (Some mid) new loses syncs = absurd loses
cuts kept (Some old) None new loses syncs = absurd loses
cuts kept (Some old) (Some mid) None loses syncs = absurd syncs
cuts kept (Some old) (Some mid) (Some new) loses syncs = record { whole = syncs.bytes ∙ loses.bytes; synced = syncs.synced }
