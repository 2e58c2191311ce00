-- Lines that are put into one, and words that are put into lines.
use Rattle.std.proofs.Common.{◌≡◌, ℕ, zero, suc, ◌+◌, ◌<◌, ◌==◌, Bool, true, false, cond, not, List, [], ◌∷◌, ◌++◌, length, map, flat_map, All, refl, ap, sym, ◌∙◌, append_assoc, arith, length-append}
use Rattle.std.specs.List.{list_all}
use Rattle.std.proofs.lemmas.Bool.{and_parts, not-true}
use Rattle.std.proofs.lemmas.List.{map-append, append-nil}
use Rattle.std.proofs.lemmas.List.Elements.{All-head, All-tail}
use Rattle.bt_text.specs.Text.{words, spaced, ended, lacks}
use Rattle.bt_text.proofs.Fronts.{words-HasFirst}
use Rattle.bt_text.proofs.TextLines.{spaced-words}
use Rattle.bt_journal.specs.LineReading.{words_behind, left_behind, separator, in_lines, space_for_newline}

-- bytes without a newline stay as they are
same_byte : (byte : ℕ) (newline : Bool) → newline ≡ false → cond newline 32 byte ≡ byte
same_byte byte true is = absurd cc
same_byte byte false is = refl

pub space-lacks : (bytes : List ℕ) → lacks 10 bytes ≡ true → map space_for_newline bytes ≡ bytes
space-lacks [] none = refl
space-lacks (byte ∷ bytes) none =
    let parts = and_parts (not (byte == 10)) (lacks 10 bytes) none in
    ap (λ b. b ∷ map space_for_newline bytes) (same_byte byte (byte == 10) (not-true (byte == 10) parts.0)) ∙ ap (λ bs. byte ∷ bs) (space-lacks bytes parts.1)

-- the lines of a text with a space for each newline
one_line : (line : List ℕ) → lacks 10 line ≡ true → map space_for_newline (line ++ 10 ∷ []) ≡ line ++ 32 ∷ []
one_line line none = map-append space_for_newline line (10 ∷ []) ∙ ap (λ l. l ++ 32 ∷ []) (space-lacks line none)

space-ended : (first : List ℕ) (rest : List (List ℕ)) → list_all (lacks 10) (first ∷ rest) ≡ true → map space_for_newline (ended (first ∷ rest)) ≡ spaced (first ∷ rest) ++ 32 ∷ []
space-ended first [] none =
    ap (map space_for_newline) (append-nil (first ++ 10 ∷ [])) ∙ one_line first (and_parts (lacks 10 first) true none).0
space-ended first (second ∷ rest) none =
    let parts = and_parts (lacks 10 first) (list_all (lacks 10) (second ∷ rest)) none in
    map-append space_for_newline (first ++ 10 ∷ []) (ended (second ∷ rest))
    ∙ ap (λ l. l ++ map space_for_newline (ended (second ∷ rest))) (one_line first parts.0)
    ∙ ap (λ l. (first ++ 32 ∷ []) ++ l) (space-ended second rest parts.1)
    ∙ append_assoc first (32 ∷ []) (spaced (second ∷ rest) ++ 32 ∷ [])
    ∙ sym (append_assoc first (32 ∷ spaced (second ∷ rest)) (32 ∷ []))

pub space-text : (ls : List (List ℕ)) → 0 < length ls → list_all (lacks 10) ls ≡ true → map space_for_newline (ended ls) ≡ spaced ls ++ 32 ∷ []
space-text [] some none = absurd (omega arith)
space-text (first ∷ rest) some none = space-ended first rest none

-- words in lines have a space or a newline behind each of them
space-separator : (left : ℕ) → space_for_newline (separator left) ≡ 32
space-separator zero = refl
space-separator (suc left) = refl

space_word : (word more : List ℕ) (left : ℕ) → lacks 10 word ≡ true → map space_for_newline (word ++ separator left ∷ more) ≡ word ++ 32 ∷ map space_for_newline more
space_word word more left none =
    map-append space_for_newline word (separator left ∷ more)
    ∙ ap (λ w. w ++ space_for_newline (separator left) ∷ map space_for_newline more) (space-lacks word none)
    ∙ ap (λ b. word ++ b ∷ map space_for_newline more) (space-separator left)

pub space-in_lines : (beams left : ℕ) (first : List ℕ) (rest : List (List ℕ)) → list_all (lacks 10) (first ∷ rest) ≡ true → map space_for_newline (in_lines beams left (first ∷ rest)) ≡ spaced (first ∷ rest) ++ 32 ∷ []
space-in_lines beams left first [] none = space_word first [] (left_behind beams left first) (and_parts (lacks 10 first) true none).0
space-in_lines beams left first (second ∷ rest) none =
    let parts = and_parts (lacks 10 first) (list_all (lacks 10) (second ∷ rest)) none in
    let more = left_behind beams left first in
    space_word first (in_lines beams more (second ∷ rest)) more parts.0
    ∙ ap (λ l. first ++ 32 ∷ l) (space-in_lines beams more second rest parts.1)
    ∙ sym (append_assoc first (32 ∷ spaced (second ∷ rest)) (32 ∷ []))

-- they are one byte longer than with a space between each two
length-in_lines : (beams left : ℕ) (first : List ℕ) (rest : List (List ℕ)) → length (in_lines beams left (first ∷ rest)) ≡ length (spaced (first ∷ rest)) + 1
length-in_lines beams left first [] = length-append first (separator (left_behind beams left first) ∷ [])
length-in_lines beams left first (second ∷ rest) =
    let more = left_behind beams left first in
    omega (arith, length-append first (separator more ∷ in_lines beams more (second ∷ rest)), length-append first (32 ∷ spaced (second ∷ rest)), length-in_lines beams more second rest)

pub length-text_in_lines : (beams : ℕ) (text : List ℕ) → length (in_lines beams 0 (words text)) ≡ length text + 1
length-text_in_lines beams text =
    let (first, rest, are) = words-HasFirst text in
    ap (λ ws. length (in_lines beams 0 ws)) are ∙ length-in_lines beams 0 first rest ∙ ap (λ ws. length (spaced ws) + 1) (sym are) ∙ ap (λ t. length t + 1) (spaced-words text)

-- the rest of a line, of so many words
rest_of_line : (beams : ℕ) (word : List ℕ) (words : List (List ℕ)) (more : List (List ℕ)) → in_lines beams (suc (length words)) (word ∷ words ++ more) ≡ spaced (word ∷ words) ++ 10 ∷ in_lines beams 0 more
rest_of_line beams word [] more = refl
rest_of_line beams word (next ∷ words) more =
    ap (λ l. word ++ 32 ∷ l) (rest_of_line beams next words more) ∙ sym (append_assoc word (32 ∷ spaced (next ∷ words)) (10 ∷ in_lines beams 0 more))

behind_first : (beams left : ℕ) (word : List ℕ) (words more : List (List ℕ)) → left ≡ length words → word ++ separator left ∷ in_lines beams left (words ++ more) ≡ spaced (word ∷ words) ++ 10 ∷ in_lines beams 0 more
behind_first beams left word [] more is = rw is refl
behind_first beams left word (next ∷ words) more is =
    rw is (ap (λ l. word ++ 32 ∷ l) (rest_of_line beams next words more) ∙ sym (append_assoc word (32 ∷ spaced (next ∷ words)) (10 ∷ in_lines beams 0 more)))

-- a line of a plan's text: its first word, and the words behind
abbrev pub Line : Type 0
Line = List ℕ × List (List ℕ)

-- the words of lines
abbrev pub words_of : List Line → List (List ℕ)
words_of ls = flat_map (λ line. line.0 ∷ line.1) ls

-- the lines as bytes
abbrev pub bytes_of : List Line → List (List ℕ)
bytes_of ls = map (λ line. spaced (line.0 ∷ line.1)) ls

-- the words of lines of a plan's text are put into these lines again
pub in_lines-words_of : (beams : ℕ) (ls : List Line) → All (λ line. words_behind beams line.0 ≡ length line.1) ls → in_lines beams 0 (words_of ls) ≡ ended (bytes_of ls)
in_lines-words_of beams [] counted = refl
in_lines-words_of beams (line ∷ ls) counted =
    let here = All-head (λ (l : Line). words_behind beams l.0 ≡ length l.1) line ls counted in
    let behind = in_lines-words_of beams ls (All-tail (λ (l : Line). words_behind beams l.0 ≡ length l.1) line ls counted) in
    behind_first beams (words_behind beams line.0) line.0 line.1 (words_of ls) here
    ∙ ap (λ text. spaced (line.0 ∷ line.1) ++ 10 ∷ text) behind
    ∙ sym (append_assoc (spaced (line.0 ∷ line.1)) (10 ∷ []) (ended (bytes_of ls)))

-- lines with a space between each two are their words so
spaced-append : (word : List ℕ) (words : List (List ℕ)) (next : List ℕ) (more : List (List ℕ)) → spaced (word ∷ words ++ next ∷ more) ≡ spaced (word ∷ words) ++ 32 ∷ spaced (next ∷ more)
spaced-append word [] next more = refl
spaced-append word (second ∷ words) next more =
    ap (λ l. word ++ 32 ∷ l) (spaced-append second words next more) ∙ sym (append_assoc word (32 ∷ spaced (second ∷ words)) (32 ∷ spaced (next ∷ more)))

pub spaced-bytes_of : (first : Line) (rest : List Line) → spaced (bytes_of (first ∷ rest)) ≡ spaced (words_of (first ∷ rest))
spaced-bytes_of first [] = ap (λ ws. spaced (first.0 ∷ ws)) (sym (append-nil first.1))
spaced-bytes_of first (second ∷ rest) =
    ap (λ l. spaced (first.0 ∷ first.1) ++ 32 ∷ l) (spaced-bytes_of second rest) ∙ sym (spaced-append first.0 first.1 second.0 (second.1 ++ words_of rest))
