-- The text of a delay file: the ticks of a slot, those of the guard, the delay of each terminal in any order, and changes of
-- delays, which hold one after the other.
use Rattle.std.specs.Prelude.{ℕ, ◌+◌, ◌-◌, ◌*◌, ◌&&◌, if◌then◌else◌, nat_le, nat_lt, codes, Bool, true, false, is_some, List, [], ◌∷◌, length, replicate, slice_index_or, slice_set, Option, Some, None, option_map, option_and_then, Ok, Err}
use Rattle.std.specs.List.{list_all}
use Rattle.bt_text.specs.Text.{words, lines, number_of, is_word}
use Rattle.bt_text.specs.Reading.{◌>>=◌, or_fault}
use Rattle.bt_net.specs.Name.{is_name}
use Rattle.bt_frame.specs.declared.numbers.TermNo.{TermNo}
use Rattle.bt_net.specs.Network.{Net}
use Rattle.bt_net.specs.Terminals.{terminal_of}
use Rattle.bt_timing.specs.declared.delay_table.DelayChange.{DelayChange}
use Rattle.bt_timing.specs.declared.delay_table.DelayChange.TheVariants.{Late, Early}
use Rattle.bt_timing.specs.declared.fault.TimingCode.TheVariants.{G1, G2, G3, G4, G5}
use Rattle.bt_timing.specs.declared.limits.TheConstants.{LEAST_SLOT_TICKS, MOST_SLOT_TICKS, MOST_HALF, MOST_DELAY, LEAST_CHANGE}
use Rattle.bt_timing.specs.Reading.{Reading}
use Rattle.bt_timing.specs.Times.{Times}

-- the number of line `at`, where it is in range
abbrev pub number_within : ℕ → ℕ → ℕ → ℕ → Reading ℕ
number_within least most at number = if nat_le least number && nat_le number most then Ok number else Err (G3, at)

-- a word of line `at` and a number in range behind it
abbrev pub worded_number : List ℕ → ℕ → ℕ → ℕ → List ℕ → List ℕ → Reading ℕ
worded_number name least most at word digits = if is_word name word then (or_fault (G1, at) (number_of digits) >>= λ number. number_within least most at number) else Err (G1, at)

-- a line of a word and a number in range
abbrev pub number_line : List ℕ → ℕ → ℕ → ℕ → List (List ℕ) → Reading ℕ
number_line name least most at (word ∷ digits ∷ []) = worded_number name least most at word digits
number_line name least most at _ = Err (G1, at)

-- `slot S`
abbrev pub slot_in : List (List ℕ) → Reading ℕ
slot_in words = number_line (codes "slot") LEAST_SLOT_TICKS MOST_SLOT_TICKS 1 words

-- a guard of which two leave something of a slot
abbrev pub half_of : ℕ → ℕ → Reading ℕ
half_of slot half = if nat_lt (2 * half) slot then Ok half else Err (G3, 2)

-- `half H`
abbrev pub half_in : ℕ → List (List ℕ) → Reading ℕ
half_in slot words = number_line (codes "half") 0 MOST_HALF 2 words >>= λ half. half_of slot half

-- the terminal of a name, and ticks in range
abbrev pub terminal_within : Net → ℕ → ℕ → List ℕ → ℕ → Reading (TermNo × ℕ)
terminal_within net at least name number = or_fault (G2, at) (terminal_of net name) >>= λ terminal. number_within least MOST_DELAY at number >>= λ ticks. Ok (terminal, ticks)

-- a name and a number
abbrev pub named_number : Net → ℕ → ℕ → List ℕ → List ℕ → Reading (TermNo × ℕ)
named_number net at least name digits = if is_name name then (or_fault (G1, at) (number_of digits) >>= λ number. terminal_within net at least name number) else Err (G1, at)

-- `NAME NUMBER`, which stands behind the first word of line `at`
abbrev pub named_behind : Net → ℕ → ℕ → List (List ℕ) → Reading (TermNo × ℕ)
named_behind net at least (name ∷ digits ∷ []) = named_number net at least name digits
named_behind net at least _ = Err (G1, at)

-- What the lines so far say: the delay of each terminal that has one, in the order of the terminals, and whether a change
-- of a delay stood among them.
pub record SoFar : Type 0 where
  pub known : List (Option ℕ)
  pub changing : Bool

-- the delay of a terminal so far
abbrev pub known_of : SoFar → TermNo → Option ℕ
known_of so_far terminal = slice_index_or so_far.known terminal.0 None

-- the terminal has this delay from now on
abbrev pub with_known : SoFar → Bool → TermNo → ℕ → SoFar
with_known so_far changing terminal delay = record { known = slice_set so_far.known terminal.0 (Some delay); changing = changing }

-- the delay of a terminal that had none
abbrev pub with_delay : ℕ → SoFar → TermNo → ℕ → Reading SoFar
with_delay at so_far terminal delay = if is_some (known_of so_far terminal) then Err (G4, at) else Ok (with_known so_far so_far.changing terminal delay)

-- a delay after a change, where it is one that a terminal may have
abbrev pub changed : DelayChange → ℕ → ℕ → Option ℕ
changed Late ticks delay = if nat_le (delay + ticks) MOST_DELAY then Some (delay + ticks) else None
changed Early ticks delay = if nat_le ticks delay then Some (delay - ticks) else None

-- the delay of a terminal after a change, where it had one
abbrev pub changed_known : ℕ → DelayChange → ℕ → Option ℕ → Reading ℕ
changed_known at change ticks (Some delay) = or_fault (G3, at) (changed change ticks delay)
changed_known at change ticks None = Err (G5, at)

-- the terminal has this delay from now on, where all have one
abbrev pub where_all_known : ℕ → SoFar → TermNo → ℕ → Reading SoFar
where_all_known at so_far terminal delay = if list_all is_some so_far.known then Ok (with_known so_far true terminal delay) else Err (G5, at)

-- the change of a terminal's delay
abbrev pub with_change : ℕ → SoFar → DelayChange → TermNo → ℕ → Reading SoFar
with_change at so_far change terminal ticks = changed_known at change ticks (known_of so_far terminal) >>= λ delay. where_all_known at so_far terminal delay

-- `NAME D` behind `delay`, which no line has behind a change
abbrev pub delay_behind : Net → ℕ → SoFar → List (List ℕ) → Reading SoFar
delay_behind net at so_far words = if so_far.changing then Err (G1, at) else (named_behind net at 0 words >>= λ named. with_delay at so_far named.0 named.1)

-- `NAME N` behind `late` or `early`
abbrev pub change_behind : Net → ℕ → SoFar → DelayChange → List (List ℕ) → Reading SoFar
change_behind net at so_far change words = named_behind net at LEAST_CHANGE words >>= λ named. with_change at so_far change named.0 named.1

-- `delay NAME D`, `late NAME N` or `early NAME N`
abbrev pub line_by : Net → ℕ → SoFar → List ℕ → List (List ℕ) → Reading SoFar
line_by net at so_far word rest = if is_word (codes "delay") word then delay_behind net at so_far rest else (if is_word (codes "late") word then change_behind net at so_far Late rest else (if is_word (codes "early") word then change_behind net at so_far Early rest else Err (G1, at)))

-- what the lines so far say with the words of line `at`
abbrev pub line_with : Net → ℕ → SoFar → List (List ℕ) → Reading SoFar
line_with net at so_far (word ∷ rest) = line_by net at so_far word rest
line_with net at so_far [] = Err (G1, at)

-- the delays of all terminals, where each has one
abbrev pub all_of : List (Option ℕ) → Option (List ℕ)
all_of [] = Some []
all_of (delay ∷ rest) = option_and_then (λ d. option_map (λ delays. d ∷ delays) (all_of rest)) delay

-- the delays of all terminals at the end, which would be line `at`
abbrev pub delays_at_end : ℕ → SoFar → Reading (List ℕ)
delays_at_end at so_far = or_fault (G5, at) (all_of so_far.known)

-- the delays behind the lines so far and these, the first of which is line `at`; nothing stands behind the last newline
abbrev pub delays_in : Net → ℕ → SoFar → List (List ℕ) → Reading (List ℕ)
delays_in net at so_far (line ∷ next ∷ rest) = line_with net at so_far (words line) >>= λ more. delays_in net (at + 1) more (next ∷ rest)
delays_in net at so_far ([] ∷ []) = delays_at_end at so_far
delays_in net at so_far _ = Err (G1, at)

-- no terminal has a delay
abbrev pub nothing_known : Net → SoFar
nothing_known net = record { known = replicate (length net.terminals) None; changing = false }

-- the numbers of a delay file, from line 3 on
abbrev pub behind_half : Net → ℕ → ℕ → List (List ℕ) → Reading Times
behind_half net slot half ls = delays_in net 3 (nothing_known net) ls >>= λ delays. Ok (record { slot = slot; half = half; delays = delays })

-- those from line 2 on
abbrev pub behind_slot : Net → ℕ → List (List ℕ) → Reading Times
behind_slot net slot (line ∷ next ∷ rest) = half_in slot (words line) >>= λ half. behind_half net slot half (next ∷ rest)
behind_slot net slot _ = Err (G1, 2)

-- the numbers that these lines spell, the last of which has no newline behind it
abbrev pub times_in : Net → List (List ℕ) → Reading Times
times_in net (line ∷ next ∷ rest) = slot_in (words line) >>= λ slot. behind_slot net slot (next ∷ rest)
times_in net _ = Err (G1, 1)

-- the numbers that a text spells for this network
abbrev pub times_of : Net → List ℕ → Reading Times
times_of net text = times_in net (lines text)
