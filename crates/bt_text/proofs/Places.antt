-- Writes at places of one buffer, one behind the other.
use Rattle.std.proofs.Common.{◌≡◌, ℕ, ◌+◌, ◌-◌, ◌≤◌, List, ◌++◌, length, take, drop, ap, ◌∙◌, sym, arith, append_assoc, length-append, length-take-le, length-drop, take-add, take-take, take_at, drop_at, take_all, take-append-drop}
use Rattle.bt_text.specs.Short.{Placed}

-- a second write begins where the first one ended
pub Placed-then : {a b c xs ys : List ℕ} {i j k : ℕ} → Placed a b i xs j → Placed b c j ys k → Placed a c i (xs ++ ys) k
Placed-then {a} {b} {c} {xs} {ys} {i} p q = record {
  bytes = q.bytes ∙ ap (λ l. l ++ ys) p.bytes ∙ append_assoc (take i a) xs ys;
  moved = omega (arith, p.moved, q.moved, length-append xs ys);
  len = q.len ∙ p.len;
}

-- only the first n bytes of a write count
Placed-less : {a b xs : List ℕ} {i j : ℕ} (n : ℕ) → i ≤ length a → n ≤ length xs → Placed a b i xs j → Placed a b i (take n xs) (i + n)
Placed-less {a} {b} {xs} {i} {j} n within few p =
    let front = length-take-le i a within in
    record {
      bytes = sym (take-take (i + n) j b (omega (arith, p.moved))) ∙ ap (take (i + n)) p.bytes ∙ take-add i n (take i a ++ xs)
          ∙ (λ k. take_at (take i a) xs i front k ++ take n (drop_at (take i a) xs i front k));
      moved = omega (arith, length-take-le n xs few);
      len = p.len;
    }

-- the first and the last so many bytes of a piece, written over each other, are the piece
pub Placed-ends : {a b c : List ℕ} {i j k : ℕ} (piece : List ℕ) (half : ℕ) → i ≤ length a → half ≤ length piece → length piece ≤ half + half
    → Placed a b i (take half piece) j → Placed b c (i + (length piece - half)) (take half (drop (length piece - half) piece)) k → Placed a c i piece k
Placed-ends {a} {b} {c} {i} {j} {k} piece half within fits covers p q =
    let last = length piece - half in
    let both = Placed-then (Placed-less last within (omega (arith, length-take-le half piece fits)) p) q in
    let whole : take last (take half piece) ++ take half (drop last piece) ≡ piece =
    (λ x. take-take last half piece (omega arith) x ++ take_all half (drop last piece) (omega (arith, length-drop last piece)) x) ∙ take-append-drop last piece in
    record { bytes = both.bytes ∙ ap (λ l. take i a ++ l) whole; moved = both.moved ∙ ap (λ l. i + length l) whole; len = both.len }

-- what was written so that it ends at a place, behind a front that stayed
pub Placed-ending : (old new piece : List ℕ) (at start end : ℕ) → at ≤ length old → end ≡ at + length piece → start + length piece ≡ end → length new ≡ length old
    → drop start new ≡ piece ++ drop end old → take start new ≡ take start old → Placed old new at piece end
Placed-ending old new piece at start end within moved began len written before =
    let here : start ≡ at = omega arith in
    let front : take start old ≡ take at old = ap (λ k. take k old) here in
    let whole : new ≡ (take at old ++ piece) ++ drop end old =
    sym (take-append-drop start new) ∙ ap (λ l. l ++ drop start new) (before ∙ front) ∙ ap (λ l. take at old ++ l) written ∙ sym (append_assoc (take at old) piece (drop end old)) in
    let long : length (take at old ++ piece) ≡ end = length-append (take at old) piece ∙ ap (λ k. k + length piece) (length-take-le at old within) ∙ sym moved in
    record { bytes = ap (take end) whole ∙ take_at (take at old ++ piece) (drop end old) end long; moved = moved; len = len }
