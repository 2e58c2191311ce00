-- Words and lines: what a text is cut into, and that what is joined is cut apart again.
use Rattle.std.proofs.Common.{◌≡◌, ℕ, ◌+◌, ◌-◌, ◌<◌, ◌==◌, ◌&&◌, Bool, true, false, cond, not, Option, Some, None, MatchOption, List, [], ◌∷◌, ◌++◌, length, get_or, take, drop, slice_range, refl, ap, sym, subst, ◌∙◌, arith, length-take, add-one, append_assoc, eq-eqb}
use Rattle.std.specs.List.{All, slice_split, onto_first, list_all, flat_map, join_with_byte}
use Rattle.std.proofs.Math.Bool.{and-true}
use Rattle.std.proofs.Math.Seq.{drop-cons}
use Rattle.std.proofs.lemmas.Bool.{and_parts, false_from_ne_true, not-true}
use Rattle.std.proofs.lemmas.List.{take-append-drop, get_or-take, drop-drop, append-nil, flat_map_more}
use Rattle.std.proofs.lemmas.List.Elements.{All-from_get_or, All-weaker}
use Rattle.std.proofs.lemmas.List.Folds.{list_all-append}
use Rattle.std.proofs.lemmas.List.Splits.{slice_split_at, length-slice_split, slice_split_none, join_with_byte-slice_split}
use Rattle.std.proofs.lemmas.List.Sums.{AllPass-from_list_all}
use Rattle.std.proofs.lemmas.Slice.{between_to_end}
use Rattle.memchr.specs.Find.{IsFirstByte, is_byte}
use Rattle.bt_text.specs.Text.{words, lines, spaced, ended, lacks}

-- a list is what stands before a place, the element there, and what stands behind it
parts_at : (s : List ℕ) (at : ℕ) (d : ℕ) → at < length s → s ≡ take at s ++ get_or s at d ∷ drop (at + 1) s
parts_at s at d h = sym (take-append-drop at s) ∙ ap (λ r. take at s ++ r) (rw add-one (drop-cons s at d h))

-- the first part ends at the first place that passes
pub slice_split-place : (p : ℕ → Bool) (s : List ℕ) (at d : ℕ) → at < length s → ((k : ℕ) → k < at → p (get_or s k d) ≡ false) → p (get_or s at d) ≡ true → slice_split p s ≡ take at s ∷ slice_split p (drop (at + 1) s)
slice_split-place p s at d h before here =
    let front : All (λ x. p x ≡ false) (take at s) = All-from_get_or (λ x. p x ≡ false) (take at s) d
    (λ k low. let under : k < at = omega (arith, length-take at s) in rw (get_or-take at s k d under) (before k under)) in
    ap (slice_split p) (parts_at s at d h) ∙ slice_split_at p (take at s) (get_or s at d) (drop (at + 1) s) front here

-- where no place passes there is one part
pub slice_split-nowhere : (p : ℕ → Bool) (s : List ℕ) (d : ℕ) → ((k : ℕ) → k < length s → p (get_or s k d) ≡ false) → slice_split p s ≡ s ∷ []
slice_split-nowhere p s d none = slice_split_none p s (All-from_get_or (λ x. p x ≡ false) s d none)

-- what a search for a newline from a place on says of the lines from there
pub lines-from_search : (s : List ℕ) (place : ℕ) (r : Option ℕ) → IsFirstByte (is_byte 10) (slice_range s place (length s)) r → MatchOption r (lines (drop place s) ≡ drop place s ∷ []) (λ n. lines (drop place s) ≡ slice_range s place (place + n) ∷ lines (drop (place + n + 1) s))
lines-from_search s place None found =
    let none = subst (λ rest. IsFirstByte (is_byte 10) rest None) (between_to_end s place (length s) (omega arith)) found in
    slice_split-nowhere (is_byte 10) (drop place s) 0 (λ k low. false_from_ne_true _ (none k (omega arith) low))
lines-from_search s place (Some n) found =
    let first = subst (λ rest. IsFirstByte (is_byte 10) rest (Some n)) (between_to_end s place (length s) (omega arith)) found in
    let cut = slice_split-place (is_byte 10) (drop place s) n 0 first.0.high (λ k low. false_from_ne_true _ (first.0.before k (omega arith) low)) first.1 in
    let behind : drop (n + 1) (drop place s) ≡ drop (place + n + 1) s = drop-drop (n + 1) place s ∙ ap (λ k. drop k s) (omega arith) in
    let span : n ≡ place + n - place = omega arith in
    cut ∙ ap (λ rest. take n (drop place s) ∷ lines rest) behind ∙ ap (λ k. take k (drop place s) ∷ lines (drop (place + n + 1) s)) span

-- a separator that stands nowhere cuts nothing
all_other : (byte : ℕ) (bytes : List ℕ) → lacks byte bytes ≡ true → All (λ b. (b == byte) ≡ false) bytes
all_other byte bytes none =
    All-weaker (λ b. not (b == byte) ≡ true) (λ b. (b == byte) ≡ false) (λ b other. not-true (b == byte) other) bytes (AllPass-from_list_all (λ b. not (b == byte)) bytes none)

pub slice_split-lacks : (byte : ℕ) (bytes : List ℕ) → lacks byte bytes ≡ true → slice_split (λ b. b == byte) bytes ≡ bytes ∷ []
slice_split-lacks byte bytes none = slice_split_none (λ b. b == byte) bytes (all_other byte bytes none)

pub slice_split-next : (byte : ℕ) (part rest : List ℕ) → lacks byte part ≡ true → slice_split (λ b. b == byte) (part ++ byte ∷ rest) ≡ part ∷ slice_split (λ b. b == byte) rest
slice_split-next byte part rest none = slice_split_at (λ b. b == byte) part byte rest (all_other byte part none) (eq-eqb byte byte refl)

-- what a separator joins it cuts apart again
pub slice_split-join : (byte : ℕ) (first : List ℕ) (rest : List (List ℕ)) → list_all (lacks byte) (first ∷ rest) ≡ true → slice_split (λ b. b == byte) (join_with_byte byte (first ∷ rest)) ≡ first ∷ rest
slice_split-join byte first [] none = slice_split-lacks byte first (and_parts (lacks byte first) true none).0
slice_split-join byte first (second ∷ rest) none =
    let parts = and_parts (lacks byte first) (list_all (lacks byte) (second ∷ rest)) none in
    slice_split-next byte first (join_with_byte byte (second ∷ rest)) parts.0 ∙ ap (λ ps. first ∷ ps) (slice_split-join byte second rest parts.1)

pub words-spaced : (ws : List (List ℕ)) → 0 < length ws → list_all (lacks 32) ws ≡ true → words (spaced ws) ≡ ws
words-spaced [] filled none = absurd (omega arith)
words-spaced (first ∷ rest) filled none = slice_split-join 32 first rest none

-- lines in front of a text
pub lines-ended_append : (ls : List (List ℕ)) (text : List ℕ) → list_all (lacks 10) ls ≡ true → lines (ended ls ++ text) ≡ ls ++ lines text
lines-ended_append [] text none = refl
lines-ended_append (line ∷ ls) text none =
    let parts = and_parts (lacks 10 line) (list_all (lacks 10) ls) none in
    let whole : ended (line ∷ ls) ++ text ≡ line ++ 10 ∷ (ended ls ++ text) = simp append_assoc in
    ap lines whole ∙ slice_split-next 10 line (ended ls ++ text) parts.0 ∙ ap (λ rest. line ∷ rest) (lines-ended_append ls text parts.1)

pub lines-ended : (ls : List (List ℕ)) → list_all (lacks 10) ls ≡ true → lines (ended ls) ≡ ls ++ [] ∷ []
lines-ended ls none = ap lines (sym (append-nil (ended ls))) ∙ lines-ended_append ls [] none

-- no part has the separator
onto_first_lacks : (byte b : ℕ) (parts : List (List ℕ)) → (b == byte) ≡ false → list_all (lacks byte) parts ≡ true → list_all (lacks byte) (onto_first b parts) ≡ true
onto_first_lacks byte b [] other none = rw other
onto_first_lacks byte b (part ∷ parts) other none = rw (other, none)

chosen_lacks : (byte b : ℕ) (cut : Bool) (parts : List (List ℕ)) → (b == byte) ≡ cut → list_all (lacks byte) parts ≡ true → list_all (lacks byte) (cond cut ([] ∷ parts) (onto_first b parts)) ≡ true
chosen_lacks byte b true parts is none = none
chosen_lacks byte b false parts other none = onto_first_lacks byte b parts other none

pub parts_lack : (byte : ℕ) (bytes : List ℕ) → list_all (lacks byte) (slice_split (λ b. b == byte) bytes) ≡ true
parts_lack byte [] = refl
parts_lack byte (b ∷ bytes) = chosen_lacks byte b (b == byte) (slice_split (λ x. x == byte) bytes) refl (parts_lack byte bytes)

pub lacks-append : (byte : ℕ) (xs ys : List ℕ) → lacks byte (xs ++ ys) ≡ (lacks byte xs && lacks byte ys)
lacks-append byte xs ys = list_all-append (λ b. not (b == byte)) xs ys

-- a byte other than the space stands in a line where it stands in a word
pub lacks-spaced : (byte : ℕ) (ws : List (List ℕ)) → (32 == byte) ≡ false → lacks byte (spaced ws) ≡ list_all (lacks byte) ws
lacks-spaced byte [] other = refl
lacks-spaced byte (word ∷ []) other = sym (and-true (lacks byte word))
lacks-spaced byte (word ∷ second ∷ rest) other =
    lacks-append byte word (32 ∷ spaced (second ∷ rest)) ∙ rw (other, lacks-spaced byte (second ∷ rest) other)

-- a line is its words, and a text its lines
pub spaced-words : (line : List ℕ) → spaced (words line) ≡ line
spaced-words line = join_with_byte-slice_split 32 line

pub lacks-words : (byte : ℕ) (line : List ℕ) → (32 == byte) ≡ false → list_all (lacks byte) (words line) ≡ lacks byte line
lacks-words byte line other = sym (lacks-spaced byte (words line) other) ∙ ap (lacks byte) (spaced-words line)

join_ended : (ls : List (List ℕ)) → join_with_byte 10 (ls ++ [] ∷ []) ≡ ended ls
join_ended [] = refl
join_ended (line ∷ []) = sym (append-nil (line ++ 10 ∷ []))
join_ended (line ∷ second ∷ rest) = ap (λ text. line ++ 10 ∷ text) (join_ended (second ∷ rest)) ∙ sym (append_assoc line (10 ∷ []) (ended (second ∷ rest)))

pub ended_from_lines : (text : List ℕ) (ls : List (List ℕ)) → lines text ≡ ls ++ [] ∷ [] → text ≡ ended ls
ended_from_lines text ls is = sym (join_with_byte-slice_split 10 text) ∙ ap (join_with_byte 10) is ∙ join_ended ls

-- as a writer makes them: the first word, and then each with a space in front
pub spaced-cons : (first : List ℕ) (rest : List (List ℕ)) → spaced (first ∷ rest) ≡ first ++ flat_map (λ word. 32 ∷ word) rest
spaced-cons first [] = sym (append-nil first)
spaced-cons first (second ∷ rest) = ap (λ line. first ++ 32 ∷ line) (spaced-cons second rest)

pub spaced_more : (first : List ℕ) (rest : List (List ℕ)) (word : List ℕ) → spaced (first ∷ rest ++ word ∷ []) ≡ spaced (first ∷ rest) ++ 32 ∷ word
spaced_more first rest word = rw (spaced-cons first (rest ++ word ∷ []), spaced-cons first rest) (sym (flat_map_more (λ w. 32 ∷ w) first rest word))

-- a text is its first line, the newline, and the rest; the line has no newline inside
joined : (byte : ℕ) (first : List ℕ) (parts : List (List ℕ)) → 0 < length parts → join_with_byte byte (first ∷ parts) ≡ first ++ byte ∷ join_with_byte byte parts
joined byte first [] filled = absurd (omega arith)
joined byte first (second ∷ rest) filled = refl

join_filled : (byte : ℕ) (first : List ℕ) (rest : List ℕ) → join_with_byte byte (first ∷ slice_split (λ b. b == byte) rest) ≡ first ++ byte ∷ rest
join_filled byte first rest = joined byte first (slice_split (λ b. b == byte) rest) (omega (arith, length-slice_split (λ b. b == byte) rest)) ∙ ap (λ text. first ++ byte ∷ text) (join_with_byte-slice_split byte rest)

pub text_from_first_line : (text line rest : List ℕ) → lines text ≡ line ∷ lines rest → text ≡ line ++ 10 ∷ rest
text_from_first_line text line rest is = sym (join_with_byte-slice_split 10 text) ∙ ap (join_with_byte 10) is ∙ join_filled 10 line rest

pub first_line_lacks : (text line : List ℕ) (more : List (List ℕ)) → lines text ≡ line ∷ more → lacks 10 line ≡ true
first_line_lacks text line more is = (and_parts (lacks 10 line) (list_all (lacks 10) more) (subst (λ ls. list_all (lacks 10) ls ≡ true) is (parts_lack 10 text))).0
