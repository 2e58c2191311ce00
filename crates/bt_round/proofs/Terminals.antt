-- The terminals of a network, and a message for each of them.
use Rattle.std.proofs.Common.{◌≡◌, ℕ, ◌+◌, List, [], ◌∷◌, ◌++◌, map, sym, ap, ◌∙◌, append_assoc, arith}
use Rattle.std.proofs.lemmas.List.{map_push}
use Rattle.std.proofs.lemmas.List.FromFn.{map-range_with_len_more}
use Rattle.bt_frame.specs.declared.numbers.TermNo.{TermNo}
use Rattle.bt_air.specs.declared.sent.Place.{Place}
use Rattle.bt_air.specs.declared.sent.Place.TheVariants.{Terminal}
use Rattle.bt_round.specs.Waiting.{deliveries_of}
use Rattle.bt_round.specs.Worker.{numbered}

-- a message of this number for each of so many terminals
abbrev pub places : ℕ → ℕ → List (ℕ × Place)
places number count = deliveries_of number (map (λ (terminal : TermNo). Terminal terminal) (numbered count))

-- one terminal more
pub numbered-more : (n : ℕ) → numbered (n + 1) ≡ numbered n ++ record { 0 = n } ∷ []
numbered-more n = map-range_with_len_more (λ (k : ℕ). record { 0 = k }) 0 n n (omega arith)

-- a message for one terminal more
pub places-more : (number n : ℕ) (before now after : List (ℕ × Place)) → now ≡ before ++ places number n → after ≡ now ++ (number, Terminal (record { 0 = n })) ∷ []
    → after ≡ before ++ places number (n + 1)
places-more number n before now after so added =
    let one : places number (n + 1) ≡ places number n ++ (number, Terminal (record { 0 = n })) ∷ [] =
    ap (λ (l : List TermNo). deliveries_of number (map (λ (terminal : TermNo). Terminal terminal) l)) (numbered-more n)
    ∙ ap (deliveries_of number) (map_push (λ (terminal : TermNo). Terminal terminal) (numbered n) (record { 0 = n }))
    ∙ map_push (λ (place : Place). (number, place)) (map (λ (terminal : TermNo). Terminal terminal) (numbered n)) (Terminal (record { 0 = n })) in
    added ∙ ap (λ (l : List (ℕ × Place)). l ++ (number, Terminal (record { 0 = n })) ∷ []) so
    ∙ append_assoc before (places number n) ((number, Terminal (record { 0 = n })) ∷ []) ∙ ap (λ (l : List (ℕ × Place)). before ++ l) (sym one)
