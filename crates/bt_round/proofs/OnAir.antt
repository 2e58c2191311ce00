-- The lines of those terminals of a network that pass a test, one terminal after the other.
use Rattle.std.proofs.Common.{refl, ◌≡◌, ℕ, ◌+◌, Bool, true, false, if◌then◌else◌, List, [], ◌∷◌, ◌++◌, filter, flat_map, ap, ◌∙◌, sym, append_assoc}
use Rattle.std.proofs.lemmas.List.{append-nil}
use Rattle.std.proofs.lemmas.List.Concat.{flat_map-append}
use Rattle.std.proofs.lemmas.List.Elements.{filter-append}
use Rattle.bt_frame.specs.declared.numbers.TermNo.{TermNo}
use Rattle.bt_machines.specs.Terminals.{terminals_of}
use Rattle.bt_round.proofs.Terminals.{numbered-more}

-- the line of one terminal, where it passes
one-line : (line : TermNo → List ℕ) (terminal : TermNo) (test : Bool)
    → flat_map line (if test then terminal ∷ [] else []) ≡ (if test then line terminal else [])
one-line line terminal true = append-nil (line terminal)
one-line line terminal false = refl

-- the lines of the terminals so far, with that of one more where it passes
pub lines-more : (passes : TermNo → Bool) (line : TermNo → List ℕ) (n : ℕ) (before now after : List ℕ)
    → now ≡ before ++ flat_map line (filter passes (terminals_of n))
    → after ≡ now ++ (if passes (record { 0 = n }) then line (record { 0 = n }) else [])
    → after ≡ before ++ flat_map line (filter passes (terminals_of (n + 1)))
lines-more passes line n before now after so added =
    let one : TermNo = record { 0 = n } in
    let whole : flat_map line (filter passes (terminals_of (n + 1))) ≡ flat_map line (filter passes (terminals_of n)) ++ (if passes one then line one else []) =
    ap (λ (l : List TermNo). flat_map line (filter passes l)) (numbered-more n)
    ∙ ap (flat_map line) (filter-append passes (terminals_of n) (one ∷ []))
    ∙ flat_map-append line (filter passes (terminals_of n)) (filter passes (one ∷ []))
    ∙ ap (λ (l : List ℕ). flat_map line (filter passes (terminals_of n)) ++ l) (one-line line one (passes one)) in
    added ∙ ap (λ (l : List ℕ). l ++ (if passes one then line one else [])) so
    ∙ append_assoc before (flat_map line (filter passes (terminals_of n))) (if passes one then line one else [])
    ∙ ap (λ (l : List ℕ). before ++ l) (sym whole)
