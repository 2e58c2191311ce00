-- No text but a schedule's own is read as that schedule, and what is read is in range.
use Rattle.std.proofs.Common.{◌≡◌, ℕ, ◌+◌, ◌^◌, ◌<◌, ◌≤◌, ◌⊎◌, inl, inr, Bool, true, false, cond, leb, ltb, eqb, ◌&&◌, codes, decimal, List, [], ◌∷◌, ◌++◌, length, map, Option, Some, None, option_and_then, Ok, refl, sym, ap, subst, ◌∙◌, append_assoc, arith, lit<}
use Rattle.std.specs.List.{All, list_all}
use Rattle.std.proofs.lemmas.Bool.{and_parts, leb-true, ltb-true, eqb-true}
use Rattle.std.proofs.lemmas.List.Elements.{All-cons, All-nil, All-weaker}
use Rattle.std.proofs.lemmas.List.Sums.{AllPass-from_list_all}
use Rattle.std.proofs.lemmas.Option.{cond_some, option_and_then_some, same_Some}
use Rattle.std.proofs.lemmas.Slice.Eq.{bytes_eq-Decides}
use Rattle.bt_text.specs.Text.{words, lines, spaced, numbers_of, number_of, is_word}
use Rattle.bt_frame.specs.declared.mode.Mode.{Mode}
use Rattle.bt_frame.specs.declared.schedule.Critical.{Critical}
use Rattle.bt_frame.specs.declared.schedule.Critical.TheVariants.{Row, Column}
use Rattle.bt_frame.specs.declared.schedule.Schedule.{Schedule}
use Rattle.bt_text.proofs.TextLines.{spaced-words, ended_from_lines}
use Rattle.bt_text.proofs.TextNumbers.{decimal_from_number_of, decimals_from_numbers_of}
use Rattle.bt_plan.specs.declared.text_fault.TextCode.{TextCode}
use Rattle.bt_plan.specs.declared.text_fault.TextCode.TheVariants.{M1}
use Rattle.bt_frame.specs.Critical.{IsOfBeams}
use Rattle.bt_text.specs.Reading.{◌>>=◌, or_fault}
use Rattle.bt_plan.specs.Reading.{Fault}
use Rattle.bt_plan.specs.ScheduleText.{length_in, line_in, critical_in, mode_with, mode_in, end_in, modes_in, critical_and_modes, schedule_in, schedule_of}
use Rattle.bt_text.specs.WordReader.{number_to}
use Rattle.bt_plan.specs.ScheduleSpelling.{IsInRange, IsModeInRange, length_line, critical_line, mode_line, schedule_lines, schedule_spelling}
use Rattle.bt_plan.proofs.ReadBack.{lines_from_modes, mode_numbers-small}
use Rattle.bt_text.proofs.Steps.{bind_ok}
use Rattle.bt_plan.proofs.Spelled.{ok_is}

-- a value that a test let through
pub let_through : {A : Type 0} (b : Bool) (o : Option A) (x : A) → cond b o None ≡ Some x → (b ≡ true) × (o ≡ Some x)
let_through true o x is = (refl, is)
let_through false o x is = absurd cc

pub or_fault_ok : {A : Type 0} (code : TextCode) (line : ℕ) (o : Option A) (x : A) → or_fault {Fault = Fault} (code, line) o ≡ Ok x → o ≡ Some x
or_fault_ok code line None x is = absurd cc
or_fault_ok {A} code line (Some y) x is = ap (λ (z : A). Some z) (ok_is y x is)

pub is_word-same : (name word : List ℕ) → is_word name word ≡ true → word ≡ name
is_word-same name word is = (bytes_eq-Decides word name).0 is

-- the length
pub number_to-spelled : (most : ℕ) (word : List ℕ) (n : ℕ) → most < 2 ^ 64 → number_to most word ≡ Some n → (word ≡ decimal n) × (n ≤ most)
number_to-spelled most word n small is =
    option_and_then_some (λ m. cond (leb m most) (Some m) None) (number_of word) n is (λ m read tested.
    let parts = cond_some (leb m most) m n tested in
    let within : n ≤ most = rw (← parts.1) (leb-true m most parts.0) in
    (decimal_from_number_of word n (omega arith) (read ∙ ap (λ (k : ℕ). Some k) parts.1), within))

pub length_spelled : (ws : List (List ℕ)) (slots : ℕ) → length_in ws ≡ Some slots → (ws ≡ codes "length" ∷ decimal slots ∷ []) × (slots ≤ 131072)
length_spelled [] slots is = absurd cc
length_spelled (name ∷ []) slots is = absurd cc
length_spelled (name ∷ word ∷ []) slots is =
    let named = let_through (is_word (codes "length") name) (number_to 131072 word) slots is in
    let number = number_to-spelled 131072 word slots (lit< tt) named.1 in
    (ap (λ w. w ∷ word ∷ []) (is_word-same (codes "length") name named.0) ∙ ap (λ w. codes "length" ∷ w ∷ []) number.0, number.1)
length_spelled (name ∷ word ∷ more ∷ rest) slots is = absurd cc

-- the critical line
abbrev IsLineAt : ℕ → List ℕ → Critical → Type 0
IsLineAt n kind critical = ((Row (record { 0 = n }) ≡ critical) × (kind ≡ codes "row")) ⊎ ((Column (record { 0 = n }) ≡ critical) × (kind ≡ codes "column"))

row_or_column : (n : ℕ) (kind : List ℕ) (row : Bool) (critical : Critical) → is_word (codes "row") kind ≡ row → cond row (Some (Row (record { 0 = n }))) (cond (is_word (codes "column") kind) (Some (Column (record { 0 = n }))) None) ≡ Some critical → IsLineAt n kind critical
row_or_column n kind true critical named is = inl (same_Some _ _ is, is_word-same (codes "row") kind named)
row_or_column n kind false critical named is =
    let column = cond_some (is_word (codes "column") kind) (Column (record { 0 = n })) critical is in
    inr (column.1, is_word-same (codes "column") kind column.0)

abbrev IsCriticalLine : ℕ → List (List ℕ) → Critical → Type 0
IsCriticalLine size ws critical = (spaced ws ≡ critical_line critical) × IsOfBeams size critical

of_kind : (size n : ℕ) (kind : List ℕ) (critical : Critical) → n < size → IsLineAt n kind critical → IsCriticalLine size (codes "critical" ∷ kind ∷ decimal n ∷ []) critical
of_kind size n kind critical within (inl row) =
    subst (IsCriticalLine size (codes "critical" ∷ kind ∷ decimal n ∷ [])) row.0 (ap (λ k. spaced (codes "critical" ∷ k ∷ decimal n ∷ [])) row.1, within)
of_kind size n kind critical within (inr column) =
    subst (IsCriticalLine size (codes "critical" ∷ kind ∷ decimal n ∷ [])) column.0 (ap (λ k. spaced (codes "critical" ∷ k ∷ decimal n ∷ [])) column.1, within)

pub critical_spelled : (size : ℕ) (ws : List (List ℕ)) (critical : Critical) → size ≤ 32 → critical_in size ws ≡ Some critical → IsCriticalLine size ws critical
critical_spelled size [] critical few is = absurd cc
critical_spelled size (name ∷ []) critical few is = absurd cc
critical_spelled size (name ∷ kind ∷ []) critical few is = absurd cc
critical_spelled size (name ∷ kind ∷ beam ∷ []) critical few is =
    let named = let_through (is_word (codes "critical") name) (option_and_then (line_in size kind) (number_of beam)) critical is in
    option_and_then_some (line_in size kind) (number_of beam) critical named.1 (λ n read line.
    let inside = let_through (ltb n size) (cond (is_word (codes "row") kind) (Some (Row (record { 0 = n }))) (cond (is_word (codes "column") kind) (Some (Column (record { 0 = n }))) None)) critical line in
    let within = ltb-true n size inside.0 in
    let found = of_kind size n kind critical within (row_or_column n kind (is_word (codes "row") kind) critical refl inside.1) in
    let beam_is = decimal_from_number_of beam n (omega arith) read in
    let name_is = is_word-same (codes "critical") name named.0 in
    (ap (λ w. spaced (w ∷ kind ∷ beam ∷ [])) name_is ∙ ap (λ w. spaced (codes "critical" ∷ kind ∷ w ∷ [])) beam_is ∙ found.0, found.1))
critical_spelled size (name ∷ kind ∷ beam ∷ more ∷ rest) critical few is = absurd cc

-- a mode
abbrev AreNumbersOf : ℕ → List ℕ → Mode → Type 0
AreNumbersOf size ns mode = (ns ≡ mode.duration ∷ mode.perm) × IsModeInRange size mode

mode_with-spelled : (size : ℕ) (ns : List ℕ) (mode : Mode) → mode_with size ns ≡ Some mode → AreNumbersOf size ns mode
mode_with-spelled size [] mode is = absurd cc
mode_with-spelled size (duration ∷ perm) mode is =
    let others : Bool = eqb (length perm) size && list_all (λ down. leb down 255) perm in
    let made = cond_some (leb duration 131072 && others) (record { duration = duration; perm = perm }) mode is in
    let tests = and_parts (leb duration 131072) others made.0 in
    let more = and_parts (eqb (length perm) size) (list_all (λ down. leb down 255) perm) tests.1 in
    subst (AreNumbersOf size (duration ∷ perm)) made.1 (
      refl,
      record {
        duration = leb-true duration 131072 tests.0;
        beams = eqb-true (length perm) size more.0;
        columns = All-weaker (λ down. leb down 255 ≡ true) (λ down. down ≤ 255) (λ down small. leb-true down 255 small) perm (AllPass-from_list_all (λ down. leb down 255) perm more.1);
      },
    )

pub mode_spelled : (size : ℕ) (ws : List (List ℕ)) (mode : Mode) → mode_in size ws ≡ Some mode → (ws ≡ codes "mode" ∷ map decimal (mode.duration ∷ mode.perm)) × IsModeInRange size mode
mode_spelled size [] mode is = absurd cc
mode_spelled size (name ∷ numbers) mode is =
    let named = let_through (is_word (codes "mode") name) (option_and_then (mode_with size) (numbers_of numbers)) mode is in
    option_and_then_some (mode_with size) (numbers_of numbers) mode named.1 (λ ns read made.
    let found = mode_with-spelled size ns mode made in
    let numbers_are = decimals_from_numbers_of numbers (mode.duration ∷ mode.perm) (mode_numbers-small size mode found.1) (read ∙ ap (λ (k : List ℕ). Some k) found.0) in
    (ap (λ w. w ∷ numbers) (is_word-same (codes "mode") name named.0) ∙ ap (λ ws. codes "mode" ∷ ws) numbers_are, found.1))

-- the modes, and the end
abbrev AreLinesOf : ℕ → List (List ℕ) → List Mode → Type 0
AreLinesOf size ls modes = (ls ≡ lines_from_modes modes) × All (IsModeInRange size) modes

end_spelled : (at : ℕ) (ls : List (List ℕ)) (modes : List Mode) → end_in at ls ≡ Ok modes → (ls ≡ [] ∷ []) × ([] ≡ modes)
end_spelled at [] modes is = absurd cc
end_spelled at ([] ∷ []) modes is = (refl, ok_is [] modes is)
end_spelled at ([] ∷ next ∷ rest) modes is = absurd cc
end_spelled at ((b ∷ line) ∷ rest) modes is = absurd cc

next_mode : (size at : ℕ) (line : List ℕ) (ls : List (List ℕ)) (modes : List Mode) (at_end : Bool) → is_word (codes "end") line ≡ at_end
    → cond at_end (end_in (at + 1) ls) (or_fault (M1, at) (mode_in size (words line)) >>= λ mode. modes_in size (at + 1) ls >>= λ modes. Ok (mode ∷ modes)) ≡ Ok modes
    → ((others : List Mode) → modes_in size (at + 1) ls ≡ Ok others → AreLinesOf size ls others) → AreLinesOf size (line ∷ ls) modes
next_mode size at line ls modes true named is behind =
    let end = end_spelled (at + 1) ls modes is in
    subst (AreLinesOf size (line ∷ ls)) end.1 (ap (λ l. l ∷ ls) (is_word-same (codes "end") line named) ∙ ap (λ rest. codes "end" ∷ rest) end.0, All-nil (IsModeInRange size))
next_mode size at line ls modes false named is behind =
    let first = bind_ok (or_fault (M1, at) (mode_in size (words line))) (λ mode. modes_in size (at + 1) ls >>= λ others. Ok (mode ∷ others)) modes is in
    let rest = bind_ok (modes_in size (at + 1) ls) (λ others. Ok (first.0 ∷ others)) modes first.2 in
    let here = mode_spelled size (words line) first.0 (or_fault_ok M1 at (mode_in size (words line)) first.0 first.1) in
    let others = behind rest.0 rest.1 in
    let line_is : line ≡ mode_line first.0 = sym (spaced-words line) ∙ ap spaced here.0 in
    subst (AreLinesOf size (line ∷ ls)) (ok_is (first.0 ∷ rest.0) modes rest.2)
    (ap (λ l. l ∷ ls) line_is ∙ ap (λ more. mode_line first.0 ∷ more) others.0, All-cons (IsModeInRange size) first.0 rest.0 here.1 others.1)

modes_spelled : (size at : ℕ) (ls : List (List ℕ)) (modes : List Mode) → modes_in size at ls ≡ Ok modes → AreLinesOf size ls modes
modes_spelled size at [] modes is = absurd cc
modes_spelled size at (line ∷ []) modes is = absurd cc
modes_spelled size at (line ∷ next ∷ rest) modes is =
    next_mode size at line (next ∷ rest) modes (is_word (codes "end") line) refl is (λ others read. modes_spelled size (at + 1) (next ∷ rest) others read)

-- the critical line, and what follows it
record IsBehindLength (size slots : ℕ) (ls : List (List ℕ)) (schedule : Schedule) : Type 0 where
  spelled : ls ≡ critical_line schedule.critical ∷ lines_from_modes schedule.modes
  slots_are : slots ≡ schedule.length
  critical : IsOfBeams size schedule.critical
  modes : All (IsModeInRange size) schedule.modes

critical_and_modes_spelled : (size slots : ℕ) (ls : List (List ℕ)) (schedule : Schedule) → size ≤ 32 → critical_and_modes size slots ls ≡ Ok schedule → IsBehindLength size slots ls schedule
critical_and_modes_spelled size slots [] schedule few is = absurd cc
critical_and_modes_spelled size slots (line ∷ []) schedule few is = absurd cc
critical_and_modes_spelled size slots (line ∷ next ∷ rest) schedule few is =
    let made : Critical → List Mode → Schedule = λ critical modes. record { length = slots; critical = critical; modes = modes } in
    let first = bind_ok (or_fault (M1, 2) (critical_in size (words line))) (λ critical. modes_in size 3 (next ∷ rest) >>= λ modes. Ok (made critical modes)) schedule is in
    let behind = bind_ok (modes_in size 3 (next ∷ rest)) (λ modes. Ok (made first.0 modes)) schedule first.2 in
    let here = critical_spelled size (words line) first.0 few (or_fault_ok M1 2 (critical_in size (words line)) first.0 first.1) in
    let modes = modes_spelled size 3 (next ∷ rest) behind.0 behind.1 in
    let line_is : line ≡ critical_line first.0 = sym (spaced-words line) ∙ here.0 in
    subst (IsBehindLength size slots (line ∷ next ∷ rest)) (ok_is (made first.0 behind.0) schedule behind.2) (record {
      spelled = ap (λ l. l ∷ next ∷ rest) line_is ∙ ap (λ more. critical_line first.0 ∷ more) modes.0;
      slots_are = refl;
      critical = here.1;
      modes = modes.1;
    })

-- the whole text
schedule_in-spelled : (size : ℕ) (ls : List (List ℕ)) (schedule : Schedule) → size ≤ 32 → schedule_in size ls ≡ Ok schedule → (ls ≡ schedule_lines schedule ++ [] ∷ []) × IsInRange size schedule
schedule_in-spelled size [] schedule few is = absurd cc
schedule_in-spelled size (line ∷ []) schedule few is = absurd cc
schedule_in-spelled size (line ∷ next ∷ rest) schedule few is =
    let first = bind_ok (or_fault (M1, 1) (length_in (words line))) (λ slots. critical_and_modes size slots (next ∷ rest)) schedule is in
    let here = length_spelled (words line) first.0 (or_fault_ok M1 1 (length_in (words line)) first.0 first.1) in
    let behind = critical_and_modes_spelled size first.0 (next ∷ rest) schedule few first.2 in
    let line_is : line ≡ length_line schedule.length = sym (spaced-words line) ∙ ap spaced here.0 ∙ ap length_line behind.slots_are in
    let within : schedule.length ≤ 131072 = subst (λ slots. slots ≤ 131072) behind.slots_are here.1 in (
      ap (λ l. l ∷ next ∷ rest) line_is ∙ ap (λ more. length_line schedule.length ∷ more) behind.spelled
          ∙ ap (λ more. length_line schedule.length ∷ critical_line schedule.critical ∷ more) (sym (append_assoc (map mode_line schedule.modes) (codes "end" ∷ []) ([] ∷ []))),
      record { slots = within; critical = behind.critical; modes = behind.modes },
    )

pub schedule_spelled : (size : ℕ) (text : List ℕ) (schedule : Schedule) → size ≤ 32 → schedule_of size text ≡ Ok schedule → (text ≡ schedule_spelling schedule) × IsInRange size schedule
schedule_spelled size text schedule few is =
    let found = schedule_in-spelled size (lines text) schedule few is in
    (ended_from_lines text (schedule_lines schedule) found.0, found.1)
