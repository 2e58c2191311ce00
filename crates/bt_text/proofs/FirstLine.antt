-- The lines of a text are never none, and one that is empty alone is that of an empty text.
use Rattle.std.proofs.Common.{◌≡◌, ℕ, Bool, true, false, cond, List, [], ◌∷◌, refl, ap, ◌⊎◌, inl, inr}
use Rattle.std.specs.List.{onto_first}
use Rattle.bt_text.specs.Text.{lines}

-- a list of lines, or of words, has a first
abbrev pub HasFirst : List (List ℕ) → Type 0
HasFirst ls = (first : List ℕ) × (rest : List (List ℕ)) × (ls ≡ first ∷ rest)

pub onto_first-HasFirst : (b : ℕ) (ls : List (List ℕ)) → HasFirst (onto_first b ls)
onto_first-HasFirst b [] = (b ∷ [], [], refl)
onto_first-HasFirst b (first ∷ rest) = (b ∷ first, rest, refl)

pub cond-HasFirst : (test : Bool) (a b : List (List ℕ)) → HasFirst a → HasFirst b → HasFirst (cond test a b)
cond-HasFirst true a b h k = h
cond-HasFirst false a b h k = k

pub lines-HasFirst : (text : List ℕ) → HasFirst (lines text)
lines-HasFirst [] = ([], [], refl)
lines-HasFirst (b ∷ rest) = cond-HasFirst _ ([] ∷ lines rest) (onto_first b (lines rest)) ([], lines rest, refl) (onto_first-HasFirst b (lines rest))

-- an empty line with another behind it
abbrev pub IsGap : List (List ℕ) → Type 0
IsGap ls = (next : List ℕ) × (more : List (List ℕ)) × (ls ≡ [] ∷ next ∷ more)

-- a first line that begins with this byte
abbrev pub BeginsWith : ℕ → List (List ℕ) → Type 0
BeginsWith b ls = (first : List ℕ) × (more : List (List ℕ)) × (ls ≡ (b ∷ first) ∷ more)

after_end : (newline : Bool) (b : ℕ) (ls : List (List ℕ)) → HasFirst ls → IsGap (cond newline ([] ∷ ls) (onto_first b ls)) ⊎ BeginsWith b (cond newline ([] ∷ ls) (onto_first b ls))
after_end true b ls h = inl (h.0, h.1, ap (λ (t : List (List ℕ)). [] ∷ t) h.2)
after_end false b ls h = inr (h.0, h.1, ap (onto_first b) h.2)

-- what stands where a text should have ended
pub lines_after_end : (b : ℕ) (rest : List ℕ) → IsGap (lines (b ∷ rest)) ⊎ BeginsWith b (lines (b ∷ rest))
lines_after_end b rest = after_end _ b (lines rest) (lines-HasFirst rest)
