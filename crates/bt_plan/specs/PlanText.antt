-- The text of a burst time plan for a network: its edition, its length, its critical line, its modes, its bursts, and `end`.
use Rattle.std.specs.Prelude.{ℕ, ◌+◌, if◌then◌else◌, nat_le, codes, Bool, false, length, List, [], ◌∷◌, Option, Some, None, Ok, Err, option_map, option_and_then}
use Rattle.bt_frame.specs.declared.limits.TheConstants.{LAST_EDITION, LAST_TEXT_SLOT, MOST_BURST_SLOTS}
use Rattle.bt_text.specs.Text.{words, lines, is_word}
use Rattle.bt_frame.specs.declared.mode.Mode.{Mode}
use Rattle.bt_frame.specs.declared.numbers.EditionNo.{EditionNo}
use Rattle.bt_frame.specs.declared.schedule.Critical.{Critical}
use Rattle.bt_text.specs.Reading.{◌>>=◌, or_fault}
use Rattle.bt_net.specs.Network.{Net}
use Rattle.bt_demand.specs.declared.burst.Burst.{Burst}
use Rattle.bt_demand.specs.declared.plan.Plan.{Plan}
use Rattle.bt_demand.specs.Burst.{is_not_after}
use Rattle.bt_plan.specs.declared.text_fault.TextCode.TheVariants.{P1, P2, P3}
use Rattle.bt_plan.specs.Reading.{Reading}
use Rattle.bt_plan.specs.ScheduleText.{length_in, critical_in, mode_in}
use Rattle.bt_text.specs.WordReader.{number_to}
use Rattle.bt_plan.specs.TerminalNames.{ends_in}
use Rattle.bt_net.specs.Name.{are_names}

-- `plan E`
abbrev pub edition_in : List (List ℕ) → Option EditionNo
edition_in (name ∷ edition ∷ []) = if is_word (codes "plan") name then option_map (λ number. record { 0 = number }) (number_to LAST_EDITION edition) else None
edition_in _ = None

-- a length of at least one slot
abbrev pub span_of : ℕ → ℕ → Option (ℕ × ℕ)
span_of start slots = if nat_le 1 slots then Some (start, slots) else None

-- a start and a length of at least one slot, both such as a text may have
abbrev pub span_in : List ℕ → List ℕ → Option (ℕ × ℕ)
span_in start slots = option_and_then (λ first. option_and_then (span_of first) (number_to MOST_BURST_SLOTS slots)) (number_to LAST_TEXT_SLOT start)

-- the burst of so many slots between two terminals
abbrev pub burst_with : Net → ℕ → ℕ × ℕ → List ℕ → List ℕ → Reading Burst
burst_with net at span from to = ends_in net (P2, at) from to >>= λ ends. Ok (record { from = ends.0; to = ends.1; start = span.0; length = span.1 })

-- what stands behind the numbers of a burst
abbrev pub burst_between : Net → ℕ → ℕ × ℕ → List (List ℕ) → Reading Burst
burst_between net at span (from ∷ to ∷ []) = if are_names from to then burst_with net at span from to else Err (P1, at)
burst_between net at span _ = Err (P1, at)

-- what stands behind `burst`
abbrev pub burst_behind : Net → ℕ → List (List ℕ) → Reading Burst
burst_behind net at (start ∷ slots ∷ ends) = or_fault (P1, at) (span_in start slots) >>= λ span. burst_between net at span ends
burst_behind net at _ = Err (P1, at)

-- `burst START LENGTH FROM TO`
abbrev pub burst_in : Net → ℕ → List (List ℕ) → Reading Burst
burst_in net at (name ∷ rest) = if is_word (codes "burst") name then burst_behind net at rest else Err (P1, at)
burst_in net at [] = Err (P1, at)

-- the burst of line `at`, where it does not belong before the burst of the line above, if that has one
abbrev pub in_order : ℕ → Option Burst → Burst → Reading Burst
in_order at None burst = Ok burst
in_order at (Some above) burst = if is_not_after above burst then Ok burst else Err (P3, at)

-- the burst that the words of line `at` say, behind the burst above
abbrev pub burst_below : Net → ℕ → Option Burst → List (List ℕ) → Reading Burst
burst_below net at above words = burst_in net at words >>= λ burst. in_order at above burst

-- nothing behind the last newline
abbrev pub plan_end : ℕ → List (List ℕ) → Reading (List Burst)
plan_end at ([] ∷ []) = Ok []
plan_end at _ = Err (P1, at)

-- bursts, the first of them in line `at`, then `end`, and nothing behind its newline
abbrev pub bursts_in : Net → ℕ → Option Burst → List (List ℕ) → Reading (List Burst)
bursts_in net at above (line ∷ next ∷ rest) = if is_word (codes "end") line then plan_end (at + 1) (next ∷ rest) else (burst_below net at above (words line) >>= λ burst. bursts_in net (at + 1) (Some burst) (next ∷ rest) >>= λ bursts. Ok (burst ∷ bursts))
bursts_in net at above _ = Err (P1, at)

-- the first word is `mode`
abbrev pub is_mode : List (List ℕ) → Bool
is_mode (name ∷ _) = is_word (codes "mode") name
is_mode [] = false

-- modes, the first of them in line `at`, and the bursts behind them
abbrev pub modes_and_bursts : Net → ℕ → List (List ℕ) → Reading (List Mode × List Burst)
modes_and_bursts net at (line ∷ next ∷ rest) = if is_mode (words line) then (or_fault (P1, at) (mode_in (length net.beams) (words line)) >>= λ mode. modes_and_bursts net (at + 1) (next ∷ rest) >>= λ parts. Ok (mode ∷ parts.0, parts.1)) else (bursts_in net at None (line ∷ next ∷ rest) >>= λ bursts. Ok ([], bursts))
modes_and_bursts net at _ = Err (P1, at)

-- what the words of the first of these lines say, which is line `at`, and what follows it
abbrev pub first_says : {A B : Type 0} → ℕ → (List (List ℕ) → Option A) → (A → List (List ℕ) → Reading B) → List (List ℕ) → Reading B
first_says at say after (line ∷ next ∷ rest) = or_fault (P1, at) (say (words line)) >>= λ value. after value (next ∷ rest)
first_says at say after _ = Err (P1, at)

-- the modes and the bursts, from line 4 on
abbrev pub parts_behind : Net → EditionNo → ℕ → Critical → List (List ℕ) → Reading Plan
parts_behind net edition slots critical ls = modes_and_bursts net 4 ls >>= λ parts. Ok (record { edition = edition; schedule = record { length = slots; critical = critical; modes = parts.0 }; bursts = parts.1 })

-- the critical line, and what follows it
abbrev pub critical_behind : Net → EditionNo → ℕ → List (List ℕ) → Reading Plan
critical_behind net edition slots ls = first_says 3 (critical_in (length net.beams)) (parts_behind net edition slots) ls

-- the length, and what follows it
abbrev pub length_behind : Net → EditionNo → List (List ℕ) → Reading Plan
length_behind net edition ls = first_says 2 length_in (critical_behind net edition) ls

-- the plan that these lines spell, the last of which has no newline behind it
abbrev pub plan_in : Net → List (List ℕ) → Reading Plan
plan_in net ls = first_says 1 edition_in (length_behind net) ls

-- the plan that a text spells for this network
abbrev pub plan_reading : Net → List ℕ → Reading Plan
plan_reading net text = plan_in net (lines text)
