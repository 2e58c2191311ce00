-- What a session is told stands behind a line that tells how many lines it has, and is passed over.
use Rattle.std.proofs.Common.{◌≡◌, ℕ, suc, ◌+◌, ◌-◌, ◌<◌, ◌^◌, Bool, true, false, cond, nat_lt, List, [], ◌∷◌, ◌++◌, length, length-append, codes, decimal, Option, unwrap_or, Ok, refl, ap, ◌∙◌, arith}
use Rattle.std.specs.List.{list_all}
use Rattle.std.proofs.lemmas.Bool.{lt-ltb}
use Rattle.bt_text.specs.Reading.{◌>>=◌, LineReading, or_fault}
use Rattle.bt_text.specs.Text.{ended, lacks, lines, words}
use Rattle.bt_text.proofs.FirstLine.{HasFirst, lines-HasFirst}
use Rattle.bt_text.proofs.TextNumbers.{lacks-decimal}
use Rattle.bt_text.proofs.TextLines.{lacks-spaced, lines-ended, lines-ended_append, words-spaced}
use Rattle.bt_net.specs.Network.{Net, IsSound}
use Rattle.bt_talk.specs.Answers as talk
use Rattle.bt_words.specs.declared.form.Form.TheVariants as form
use Rattle.bt_run_lines.specs.declared.output.OutputCode.{OutputCode}
use Rattle.bt_run_lines.specs.declared.output.OutputCode.TheVariants.{O1}
use Rattle.bt_run_lines.specs.declared.printed.Printed.{Printed}
use Rattle.bt_run_lines.specs.Lines.{lines_from, numbered_line, told_behind, told_in}
use Rattle.bt_run_lines.specs.Printers.{line, numbers}
use Rattle.bt_run_lines.specs.Spelled.{spelled}
use Rattle.bt_run_lines.proofs.Outputs.{behind_line, then_lines}
use Rattle.bt_run_lines.proofs.Printing.{by_form}
use Rattle.bt_run_lines.proofs.ReadBack.{spelled_read}
use Rattle.bt_run_lines.proofs.WordsRead.{count_read}

-- lines in front of those of a text: one of all of them is the first
behind-HasFirst : (ls : List (List ℕ)) (more : List ℕ) → HasFirst (ls ++ lines more)
behind-HasFirst [] more = lines-HasFirst more
behind-HasFirst (first ∷ ls) more = (first, ls ++ lines more, refl)

-- a line with such lines behind it
one_line : (net : Net) (at told : ℕ) (first : List ℕ) (ls : List (List ℕ)) → HasFirst ls → lines_from net at told (first ∷ ls) ≡ behind_line net at told first (λ left. lines_from net (at + 1) left ls)
one_line net at told first ls has = rw has.2 refl

read_first : (net : Net) (at : ℕ) (first : List ℕ) (ls : List (List ℕ)) → HasFirst ls → lines_from net at 0 (first ∷ ls) ≡ then_lines (numbered_line net at first) (lines_from net (at + 1) (told_behind first) ls)
read_first net at first ls has = one_line net at 0 first ls has

taken : {A : Type 0} (test : Bool) (one other : A) → test ≡ true → cond test one other ≡ one
taken true one other is = refl
taken false one other is = absurd cc

pass_first : (net : Net) (at left : ℕ) (first : List ℕ) (ls : List (List ℕ)) → HasFirst ls → lines_from net at (suc left) (first ∷ ls) ≡ lines_from net (at + 1) left ls
pass_first net at left first ls has =
    let some : nat_lt 0 (suc left) ≡ true = lt-ltb 0 (suc left) (omega arith) in
    let less : suc left - 1 ≡ left = omega arith in
    one_line net at (suc left) first ls has
    ∙ (taken (nat_lt 0 (suc left)) (lines_from net (at + 1) (suc left - 1) ls) (then_lines (numbered_line net at first) (lines_from net (at + 1) (told_behind first) ls)) some
    ∙ ap (λ (n : ℕ). lines_from net (at + 1) n ls) less)

-- as many as were told of are passed over
pass_all : (net : Net) (at : ℕ) (ls : List (List ℕ)) (more : List ℕ) → lines_from net at (length ls) (ls ++ lines more) ≡ lines_from net (at + length ls) 0 (lines more)
pass_all net at [] more = let same : at ≡ at + 0 = omega arith in ap (λ (n : ℕ). lines_from net n 0 (lines more)) same
pass_all net at (first ∷ ls) more =
    let same : at + 1 + length ls ≡ at + suc (length ls) = omega arith in
    pass_first net at (length ls) first (ls ++ lines more) (behind-HasFirst ls more)
    ∙ (pass_all net (at + 1) ls more ∙ ap (λ (n : ℕ). lines_from net n 0 (lines more)) same)

-- the line that tells how many there are
abbrev heading : ℕ → Printed
heading count = line form.Lines (numbers (count ∷ []))

heading_is : (net : Net) (count : ℕ) → talk.lines_line count ≡ spelled net (heading count) ++ 10 ∷ []
heading_is net count = by_form net (heading count)

-- it has no newline inside
lacks_end : (net : Net) (count : ℕ) → count < 10 ^ 19 → lacks 10 (spelled net (heading count)) ≡ true
lacks_end net count few =
    let small : count < 2 ^ 64 = omega (arith, few) in
    lacks-spaced 10 (codes "lines" ∷ decimal count ∷ []) refl ∙ rw (lacks-decimal 10 count refl small) refl

-- it tells of so many lines
heading_tells : (net : Net) (count : ℕ) → count < 10 ^ 19 → told_behind (spelled net (heading count)) ≡ count
heading_tells net count few =
    let ws = codes "lines" ∷ decimal count ∷ [] in
    let small : count < 2 ^ 64 = omega (arith, few) in
    let cut : words (spelled net (heading count)) ≡ ws = words-spaced ws (omega arith) (rw (lacks-decimal 32 count refl small) refl) in
    ap told_in cut ∙ ap (λ (o : Option ℕ). unwrap_or o 0) (count_read count few)

-- it and what it tells of, as lines
told_lines : (net : Net) (told : List (List ℕ)) (more : List ℕ) → list_all (lacks 10) told ≡ true → lacks 10 (spelled net (heading (length told))) ≡ true
    → lines (talk.counted (ended told) ++ more) ≡ spelled net (heading (length told)) ∷ (told ++ lines more)
told_lines net told more none one =
    let count = length told in
    let own = spelled net (heading count) in
    let counted : length (lines (ended told)) - 1 ≡ count = omega (arith, ap length (lines-ended told none), length-append told ([] ∷ [])) in
    let whole : talk.counted (ended told) ++ more ≡ ended (own ∷ told) ++ more =
    ap (λ (n : ℕ). (talk.lines_line n ++ ended told) ++ more) counted ∙ ap (λ (l : List ℕ). (l ++ ended told) ++ more) (heading_is net count) in
    let all : list_all (lacks 10) (own ∷ told) ≡ true = rw (one, none) refl in
    ap lines whole ∙ lines-ended_append (own ∷ told) more all

-- The line is read, and the others are passed over.
pub told_passed : (net : Net) (at : ℕ) (told : List (List ℕ)) (more : List ℕ) → IsSound net → list_all (lacks 10) told ≡ true → length told < 10 ^ 19
    → lines_from net at 0 (lines (talk.counted (ended told) ++ more)) ≡ (lines_from net (at + 1 + length told) 0 (lines more) >>= λ rest. Ok (heading (length told) ∷ rest))
told_passed net at told more sound none few =
    let one = heading (length told) in
    let own = spelled net one in
    let reads : numbered_line net at own ≡ Ok one = ap (or_fault (O1, at)) (spelled_read net sound one (refl, (few, tt))) in
    ap (lines_from net at 0) (told_lines net told more none (lacks_end net (length told) few))
    ∙ (read_first net at own (told ++ lines more) (behind-HasFirst told more)
    ∙ (ap (λ (r : LineReading OutputCode Printed). then_lines r (lines_from net (at + 1) (told_behind own) (told ++ lines more))) reads
    ∙ (ap (λ (n : ℕ). then_lines (Ok one) (lines_from net (at + 1) n (told ++ lines more))) (heading_tells net (length told) few)
    ∙ ap (λ (r : LineReading OutputCode (List Printed)). r >>= λ rest. Ok (one ∷ rest)) (pass_all net (at + 1) told more))))
