-- The text of a schedule in range is read as that schedule, line by line.
use Rattle.std.proofs.Common.{◌≡◌, ℕ, ◌+◌, ◌^◌, ◌<◌, ◌≤◌, true, cond, leb, ◌&&◌, codes, decimal, List, [], ◌∷◌, ◌++◌, length, map, Some, None, option_and_then, Ok, refl, ap, ◌∙◌, append_assoc, arith, lit<, length-append}
use Rattle.std.specs.List.{All, list_all}
use Rattle.std.proofs.lemmas.Bool.{le-leb, lt-ltb, eq-eqb}
use Rattle.std.proofs.lemmas.List.Elements.{All-cons, All-head, All-tail, All-weaker}
use Rattle.std.proofs.lemmas.List.Sums.{list_all-from_AllPass}
use Rattle.bt_text.specs.Text.{words, lacks, is_word}
use Rattle.bt_frame.specs.declared.mode.Mode.{Mode}
use Rattle.bt_frame.specs.declared.schedule.Critical.{Critical}
use Rattle.bt_frame.specs.declared.schedule.Critical.TheVariants.{Row, Column}
use Rattle.bt_frame.specs.declared.schedule.Schedule.{Schedule}
use Rattle.bt_text.proofs.TextLines.{words-spaced, lines-ended, lacks-spaced}
use Rattle.bt_text.proofs.TextNumbers.{lacks-decimal, lacks-decimals, number_of-decimal, numbers_of-decimals}
use Rattle.bt_plan.specs.declared.text_fault.TextCode.TheVariants.{M1}
use Rattle.bt_frame.specs.Critical.{IsOfBeams}
use Rattle.bt_text.specs.Reading.{◌>>=◌, or_fault}
use Rattle.bt_plan.specs.ScheduleText.{length_in, line_in, critical_in, mode_with, mode_in, end_in, modes_in, critical_and_modes, schedule_in, schedule_of}
use Rattle.bt_text.specs.WordReader.{number_to}
use Rattle.bt_plan.specs.ScheduleSpelling.{IsInRange, IsModeInRange, length_line, critical_line, mode_line, schedule_lines, schedule_spelling}

-- the length
pub number_to-decimal : (most n : ℕ) → n ≤ most → most < 2 ^ 64 → number_to most (decimal n) ≡ Some n
number_to-decimal most n within small =
    ap (option_and_then (λ m. cond (leb m most) (Some m) None)) (number_of-decimal n (omega arith)) ∙ ap (λ b. cond b (Some n) None) (le-leb n most within)

pub length_read : (slots : ℕ) → slots ≤ 131072 → length_in (words (length_line slots)) ≡ Some slots
length_read slots within =
    ap length_in (words-spaced (codes "length" ∷ decimal slots ∷ []) (omega arith) (rw (lacks-decimal 32 slots refl (omega arith)) refl))
    ∙ number_to-decimal 131072 slots within (lit< tt)

-- the critical line
pub critical_read : (size : ℕ) (critical : Critical) → size ≤ 32 → IsOfBeams size critical → critical_in size (words (critical_line critical)) ≡ Some critical
critical_read size (Row up) few within =
    ap (critical_in size) (words-spaced (codes "critical" ∷ codes "row" ∷ decimal up.0 ∷ []) (omega arith) (rw (lacks-decimal 32 up.0 refl (omega arith)) refl))
    ∙ ap (option_and_then (line_in size (codes "row"))) (number_of-decimal up.0 (omega arith))
    ∙ ap (λ b. cond b (Some (Row up)) None) (lt-ltb up.0 size within)
critical_read size (Column down) few within =
    ap (critical_in size) (words-spaced (codes "critical" ∷ codes "column" ∷ decimal down.0 ∷ []) (omega arith) (rw (lacks-decimal 32 down.0 refl (omega arith)) refl))
    ∙ ap (option_and_then (line_in size (codes "column"))) (number_of-decimal down.0 (omega arith))
    ∙ ap (λ b. cond b (Some (Column down)) None) (lt-ltb down.0 size within)

-- a mode
pub mode_numbers-small : (size : ℕ) (mode : Mode) → IsModeInRange size mode → All (λ n. n < 2 ^ 64) (mode.duration ∷ mode.perm)
mode_numbers-small size mode range =
    All-cons (λ n. n < 2 ^ 64) mode.duration mode.perm (let within = range.duration in omega arith)
    (All-weaker (λ down. down ≤ 255) (λ n. n < 2 ^ 64) (λ n within. omega arith) mode.perm range.columns)

columns-small : (perm : List ℕ) → All (λ down. down ≤ 255) perm → list_all (λ down. leb down 255) perm ≡ true
columns-small perm within =
    list_all-from_AllPass (λ down. leb down 255) perm (All-weaker (λ down. down ≤ 255) (λ down. leb down 255 ≡ true) (λ down le. le-leb down 255 le) perm within)

mode_with-is : (size : ℕ) (mode : Mode) → IsModeInRange size mode → mode_with size (mode.duration ∷ mode.perm) ≡ Some mode
mode_with-is size mode range =
    rw (le-leb mode.duration 131072 range.duration, eq-eqb (length mode.perm) size range.beams, columns-small mode.perm range.columns) refl

pub mode_read : (size : ℕ) (mode : Mode) → IsModeInRange size mode → mode_in size (words (mode_line mode)) ≡ Some mode
mode_read size mode range =
    let small = mode_numbers-small size mode range in
    ap (mode_in size) (words-spaced (codes "mode" ∷ map decimal (mode.duration ∷ mode.perm)) (omega arith) (lacks-decimals 32 (mode.duration ∷ mode.perm) refl small))
    ∙ ap (option_and_then (mode_with size)) (numbers_of-decimals (mode.duration ∷ mode.perm) small)
    ∙ mode_with-is size mode range

-- the modes, and the end
pub modes_in-more : (size at : ℕ) (line : List ℕ) (ls : List (List ℕ)) → 0 < length ls → modes_in size at (line ∷ ls) ≡ cond (is_word (codes "end") line) (end_in (at + 1) ls) (or_fault (M1, at) (mode_in size (words line)) >>= λ mode. modes_in size (at + 1) ls >>= λ modes. Ok (mode ∷ modes))
modes_in-more size at line [] some = absurd (omega arith)
modes_in-more size at line (next ∷ rest) some = refl

-- the lines of the modes, of the end, and what stands behind the last newline
abbrev pub lines_from_modes : List Mode → List (List ℕ)
lines_from_modes modes = map mode_line modes ++ codes "end" ∷ [] ∷ []

some_lines : (modes : List Mode) → 0 < length (lines_from_modes modes)
some_lines modes = omega (arith, length-append (map mode_line modes) (codes "end" ∷ [] ∷ []))

modes_read : (size at : ℕ) (modes : List Mode) → All (IsModeInRange size) modes → modes_in size at (lines_from_modes modes) ≡ Ok modes
modes_read size at [] range = refl
modes_read size at (mode ∷ modes) range =
    let here = mode_read size mode (All-head (IsModeInRange size) mode modes range) in
    let behind = modes_read size (at + 1) modes (All-tail (IsModeInRange size) mode modes range) in
    modes_in-more size at (mode_line mode) (lines_from_modes modes) (some_lines modes) ∙ rw (here, behind) refl

-- the critical line, and what follows it
critical_and_modes-more : (size slots : ℕ) (line : List ℕ) (ls : List (List ℕ)) → 0 < length ls → critical_and_modes size slots (line ∷ ls) ≡ (or_fault (M1, 2) (critical_in size (words line)) >>= λ critical. modes_in size 3 ls >>= λ modes. Ok (record { length = slots; critical = critical; modes = modes }))
critical_and_modes-more size slots line [] some = absurd (omega arith)
critical_and_modes-more size slots line (next ∷ rest) some = refl

-- no line has a newline inside
pub mode_line-lacks : (size : ℕ) (mode : Mode) → IsModeInRange size mode → lacks 10 (mode_line mode) ≡ true
mode_line-lacks size mode range =
    lacks-spaced 10 (codes "mode" ∷ map decimal (mode.duration ∷ mode.perm)) refl ∙ lacks-decimals 10 (mode.duration ∷ mode.perm) refl (mode_numbers-small size mode range)

modes_lack : (size : ℕ) (modes : List Mode) → All (IsModeInRange size) modes → list_all (lacks 10) (map mode_line modes ++ codes "end" ∷ []) ≡ true
modes_lack size [] range = refl
modes_lack size (mode ∷ modes) range =
    let here = mode_line-lacks size mode (All-head (IsModeInRange size) mode modes range) in
    let behind = modes_lack size modes (All-tail (IsModeInRange size) mode modes range) in
    ap (λ b. b && list_all (lacks 10) (map mode_line modes ++ codes "end" ∷ [])) here ∙ behind

pub length_line-lacks : (slots : ℕ) → slots ≤ 131072 → lacks 10 (length_line slots) ≡ true
length_line-lacks slots within =
    lacks-spaced 10 (codes "length" ∷ decimal slots ∷ []) refl ∙ rw (lacks-decimal 10 slots refl (omega arith)) refl

pub critical_line-lacks : (size : ℕ) (critical : Critical) → size ≤ 32 → IsOfBeams size critical → lacks 10 (critical_line critical) ≡ true
critical_line-lacks size (Row up) few within =
    lacks-spaced 10 (codes "critical" ∷ codes "row" ∷ decimal up.0 ∷ []) refl ∙ rw (lacks-decimal 10 up.0 refl (omega arith)) refl
critical_line-lacks size (Column down) few within =
    lacks-spaced 10 (codes "critical" ∷ codes "column" ∷ decimal down.0 ∷ []) refl ∙ rw (lacks-decimal 10 down.0 refl (omega arith)) refl

schedule_lines-lack : (size : ℕ) (schedule : Schedule) → size ≤ 32 → IsInRange size schedule → list_all (lacks 10) (schedule_lines schedule) ≡ true
schedule_lines-lack size schedule few range =
    let rest = map mode_line schedule.modes ++ codes "end" ∷ [] in
    ap (λ b. b && (lacks 10 (critical_line schedule.critical) && list_all (lacks 10) rest)) (length_line-lacks schedule.length range.slots)
    ∙ ap (λ b. b && list_all (lacks 10) rest) (critical_line-lacks size schedule.critical few range.critical)
    ∙ modes_lack size schedule.modes range.modes

-- the lines of a schedule in range are read as that schedule
schedule_in-is : (size : ℕ) (schedule : Schedule) → size ≤ 32 → IsInRange size schedule → schedule_in size (length_line schedule.length ∷ critical_line schedule.critical ∷ lines_from_modes schedule.modes) ≡ Ok schedule
schedule_in-is size schedule few range =
    ap (λ o. or_fault (M1, 1) o >>= λ slots. critical_and_modes size slots (critical_line schedule.critical ∷ lines_from_modes schedule.modes)) (length_read schedule.length range.slots)
    ∙ critical_and_modes-more size schedule.length (critical_line schedule.critical) (lines_from_modes schedule.modes) (some_lines schedule.modes)
    ∙ rw (critical_read size schedule.critical few range.critical, modes_read size 3 schedule.modes range.modes) refl

pub schedule_read : (size : ℕ) (schedule : Schedule) → size ≤ 32 → IsInRange size schedule → schedule_of size (schedule_spelling schedule) ≡ Ok schedule
schedule_read size schedule few range =
    ap (schedule_in size) (lines-ended (schedule_lines schedule) (schedule_lines-lack size schedule few range)
    ∙ ap (λ ls. length_line schedule.length ∷ critical_line schedule.critical ∷ ls) (append_assoc (map mode_line schedule.modes) (codes "end" ∷ []) ([] ∷ [])))
    ∙ schedule_in-is size schedule few range
