-- The mark of a journal: the line that says of which network the journal is, `journal 2 BEAMS TERMINALS`.
use Rattle.std.specs.Prelude.{ℕ, codes, decimal, length, List, [], ◌∷◌, ◌++◌}
use Rattle.bt_text.specs.Text.{spaced}
use Rattle.bt_frame.specs.Range.{IsWithin}
use Rattle.bt_frame.specs.declared.limits.TheConstants.{MOST_BEAMS, MOST_TERMINALS}
use Rattle.bt_net.specs.Network.{Net}

-- the words of a mark; the second one is the version of the journal
abbrev pub mark_words : ℕ → ℕ → List (List ℕ)
mark_words beams terminals = codes "journal" ∷ codes "2" ∷ decimal beams ∷ decimal terminals ∷ []

-- the line of a mark, its newline included
abbrev pub mark_line : ℕ → ℕ → List ℕ
mark_line beams terminals = spaced (mark_words beams terminals) ++ 10 ∷ []

-- a mark may have these numbers: some network has so many beams and terminals
abbrev pub IsMarkOf : ℕ → ℕ → Type 0
IsMarkOf beams terminals = IsWithin 1 MOST_BEAMS beams × IsWithin 1 MOST_TERMINALS terminals

-- the text of the network's mark, its newline left out
abbrev pub text_of_mark : Net → List ℕ
text_of_mark net = spaced (mark_words (length net.beams) (length net.terminals))

-- the mark of the network, its newline included
abbrev pub mark_of : Net → List ℕ
mark_of net = mark_line (length net.beams) (length net.terminals)
