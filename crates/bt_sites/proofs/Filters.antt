-- Tests that agree on the terminals of a network pass the same.
use Rattle.std.proofs.Common.{◌≡◌, ℕ, zero, suc, ◌+◌, ◌<◌, Bool, List, ◌∷◌, cond, filter, map, refl, ◌∙◌, ap, arith}
use Rattle.std.specs.List.{range_with_len}
use Rattle.bt_frame.proofs.OneNumber.{numbered}
use Rattle.bt_frame.specs.declared.numbers.TermNo.{TermNo}

filter-agrees : (p q : TermNo → Bool) (first n : ℕ) → ((k : ℕ) → k < first + n → p (numbered k) ≡ q (numbered k)) → filter p (map numbered (range_with_len first n)) ≡ filter q (map numbered (range_with_len first n))
filter-agrees p q first zero agree = refl
filter-agrees p q first (suc n) agree =
    let rest = filter-agrees p q (first + 1) n (λ k within. agree k (omega (arith, within))) in
    let others = map numbered (range_with_len (first + 1) n) in
    ap (λ (b : Bool). cond b (numbered first ∷ filter p others) (filter p others)) (agree first (omega arith))
    ∙ ap (λ (list : List TermNo). cond (q (numbered first)) (numbered first ∷ list) list) rest

pub same-filter : (p q : TermNo → Bool) (n : ℕ) → ((terminal : TermNo) → terminal.0 < n → p terminal ≡ q terminal)
    → filter p (map numbered (range_with_len 0 n)) ≡ filter q (map numbered (range_with_len 0 n))
same-filter p q n agree = filter-agrees p q 0 n (λ k within. agree (numbered k) (omega (arith, within)))
