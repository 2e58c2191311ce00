-- The text of a plan in range is read as that plan, line by line.
use Rattle.std.proofs.Common.{◌≡◌, ℕ, suc, ◌+◌, ◌<◌, ◌≤◌, true, false, cond, ◌&&◌, codes, decimal, List, [], ◌∷◌, ◌++◌, length, map, All, AllPairs, Option, Some, None, option_map, option_and_then, Ok, refl, ap, ◌∙◌, arith, lit<, length-append}
use Rattle.std.specs.List.{list_all}
use Rattle.std.specs.Char.{is_ascii_digit}
use Rattle.std.proofs.lemmas.Bool.{le-leb}
use Rattle.std.proofs.lemmas.List.Elements.{All-head, All-tail}
use Rattle.bt_text.specs.Reading.{◌>>=◌, or_fault}
use Rattle.bt_text.specs.Text.{words, lacks, is_word}
use Rattle.bt_frame.specs.declared.mode.Mode.{Mode}
use Rattle.bt_frame.specs.declared.numbers.EditionNo.{EditionNo}
use Rattle.bt_text.proofs.TextLines.{words-spaced, lines-ended, lacks-spaced}
use Rattle.bt_text.proofs.TextNumbers.{lacks-decimal}
use Rattle.bt_net.specs.Name.{is_name_byte}
use Rattle.bt_net.specs.Network.{Net, IsSound}
use Rattle.bt_demand.specs.declared.burst.Burst.{Burst}
use Rattle.bt_demand.specs.declared.plan.Plan.{Plan}
use Rattle.bt_plan.specs.declared.text_fault.TextCode.TheVariants.{P1, P2}
use Rattle.bt_demand.specs.Burst.{IsNotAfter}
use Rattle.bt_demand.proofs.BurstOrder.{tested-IsNotAfter}
use Rattle.bt_demand.specs.Demand.{LinkEnds}
use Rattle.bt_plan.specs.PlanSpelling.{edition_line, burst_line, plan_lines, plan_spelling, IsBurstInRange, IsPlanInRange}
use Rattle.bt_plan.specs.PlanText.{edition_in, span_of, span_in, burst_between, burst_in, burst_below, plan_end, bursts_in, is_mode, modes_and_bursts, first_says, parts_behind, critical_behind, length_behind, plan_in, plan_reading}
use Rattle.bt_plan.specs.Reading.{Fault, Reading}
use Rattle.bt_plan.specs.ScheduleSpelling.{length_line, critical_line, mode_line, IsModeInRange}
use Rattle.bt_plan.specs.ScheduleText.{critical_in, mode_in}
use Rattle.bt_text.specs.WordReader.{number_to}
use Rattle.bt_plan.specs.TerminalNames.{ends_in}
use Rattle.bt_net.specs.Terminals.{name_at}
use Rattle.bt_plan.proofs.NamedTerminals.{terminal_found, is_name-name_at, name_lacks}
use Rattle.bt_plan.proofs.OneBurst.{lines_from_bursts, AllFollow}
use Rattle.bt_plan.proofs.OnePlan.{lines_from_plan, lines_from_plan-is}
use Rattle.bt_plan.proofs.PlanLines.{Follows}
use Rattle.bt_plan.proofs.ReadBack.{number_to-decimal, length_read, critical_read, mode_read, mode_line-lacks, length_line-lacks, critical_line-lacks}

-- the edition
edition_words : (edition : EditionNo) → edition.0 ≤ 4294967295 → words (edition_line edition) ≡ codes "plan" ∷ decimal edition.0 ∷ []
edition_words edition within = words-spaced (codes "plan" ∷ decimal edition.0 ∷ []) (omega arith) (rw (lacks-decimal 32 edition.0 refl (omega arith)) refl)

edition_read : (edition : EditionNo) → edition.0 ≤ 4294967295 → edition_in (words (edition_line edition)) ≡ Some edition
edition_read edition within =
    ap edition_in (edition_words edition within)
    ∙ ap (option_map (λ (n : ℕ). let e : EditionNo = record { 0 = n } in e)) (number_to-decimal 4294967295 edition.0 within (lit< tt))

edition_line-lacks : (edition : EditionNo) → edition.0 ≤ 4294967295 → lacks 10 (edition_line edition) ≡ true
edition_line-lacks edition within = lacks-spaced 10 (codes "plan" ∷ decimal edition.0 ∷ []) refl ∙ rw (lacks-decimal 10 edition.0 refl (omega arith)) refl

-- a burst, on a network that is sound
module _ (net : Net) (sound : IsSound net) where
  abbrev burst_words : Burst → List (List ℕ)
  burst_words burst = codes "burst" ∷ decimal burst.start ∷ decimal burst.length ∷ name_at net burst.from ∷ name_at net burst.to ∷ []

  words_lack : (byte : ℕ) (burst : Burst) → lacks byte (codes "burst") ≡ true → is_ascii_digit byte ≡ false → is_name_byte byte ≡ false → IsBurstInRange net burst → list_all (lacks byte) (burst_words burst) ≡ true
  words_lack byte burst word digit name range =
      let start = lacks-decimal byte burst.start digit (let within = range.start in omega arith) in
      let slots = lacks-decimal byte burst.length digit (let within = range.few in omega arith) in
      let from = name_lacks byte (name_at net burst.from) name (is_name-name_at net burst.from sound range.sends) in
      let to = name_lacks byte (name_at net burst.to) name (is_name-name_at net burst.to sound range.receives) in
      rw (word, start, slots, from, to) refl

  burst_line-lacks : (burst : Burst) → IsBurstInRange net burst → lacks 10 (burst_line net burst) ≡ true
  burst_line-lacks burst range = lacks-spaced 10 (burst_words burst) refl ∙ words_lack 10 burst refl refl refl range

  words_are : (burst : Burst) → IsBurstInRange net burst → words (burst_line net burst) ≡ burst_words burst
  words_are burst range = words-spaced (burst_words burst) (omega arith) (words_lack 32 burst refl refl refl range)

  span_read : (burst : Burst) → IsBurstInRange net burst → span_in (decimal burst.start) (decimal burst.length) ≡ Some (burst.start, burst.length)
  span_read burst range =
      ap (option_and_then (λ first. option_and_then (span_of first) (number_to 65536 (decimal burst.length)))) (number_to-decimal 65535 burst.start range.start (lit< tt))
      ∙ (ap (option_and_then (span_of burst.start)) (number_to-decimal 65536 burst.length range.few (lit< tt))
      ∙ ap (λ b. cond b (Some (burst.start, burst.length)) None) (le-leb 1 burst.length range.some))

  ends_read : (fault : Fault) (burst : Burst) → IsBurstInRange net burst → ends_in net fault (name_at net burst.from) (name_at net burst.to) ≡ Ok (burst.from, burst.to)
  ends_read fault burst range = rw (terminal_found net burst.from sound range.sends, terminal_found net burst.to sound range.receives) refl

  between_read : (at : ℕ) (burst : Burst) → IsBurstInRange net burst → burst_between net at (burst.start, burst.length) (name_at net burst.from ∷ name_at net burst.to ∷ []) ≡ Ok burst
  between_read at burst range =
      let made : LinkEnds → Burst = λ e. record { from = e.0; to = e.1; start = burst.start; length = burst.length } in
      rw (is_name-name_at net burst.from sound range.sends, is_name-name_at net burst.to sound range.receives)
      (ap (λ (ends : Reading LinkEnds). ends >>= λ e. Ok (made e)) (ends_read (P2, at) burst range))

  burst_read : (at : ℕ) (burst : Burst) → IsBurstInRange net burst → burst_in net at (words (burst_line net burst)) ≡ Ok burst
  burst_read at burst range =
      ap (burst_in net at) (words_are burst range)
      ∙ (ap (λ (o : Option (ℕ × ℕ)). or_fault {Fault = Fault} (P1, at) o >>= λ span. burst_between net at span (name_at net burst.from ∷ name_at net burst.to ∷ [])) (span_read burst range)
      ∙ between_read at burst range)

  below_read : (at : ℕ) (above : Option Burst) (burst : Burst) → IsBurstInRange net burst → Follows above burst → burst_below net at above (words (burst_line net burst)) ≡ Ok burst
  below_read at None burst range follows = rw (burst_read at burst range) refl
  below_read at (Some above) burst range follows = rw (burst_read at burst range, tested-IsNotAfter above burst follows) refl

  some_lines : (bursts : List Burst) → 0 < length (lines_from_bursts net bursts)
  some_lines bursts = omega (arith, length-append (map (burst_line net) bursts) (codes "end" ∷ [] ∷ []))

  bursts_in-more : (at : ℕ) (above : Option Burst) (line : List ℕ) (ls : List (List ℕ)) → 0 < length ls → bursts_in net at above (line ∷ ls) ≡ cond (is_word (codes "end") line) (plan_end (at + 1) ls) (burst_below net at above (words line) >>= λ burst. bursts_in net (at + 1) (Some burst) ls >>= λ bursts. Ok (burst ∷ bursts))
  bursts_in-more at above line [] some = absurd (omega arith)
  bursts_in-more at above line (next ∷ rest) some = refl

  follow_head : (above : Option Burst) (burst : Burst) (bursts : List Burst) → AllFollow above (burst ∷ bursts) → Follows above burst
  follow_head None burst bursts follow = tt
  follow_head (Some above) burst bursts follow = All-head (IsNotAfter above) burst bursts follow

  bursts_read : (at : ℕ) (above : Option Burst) (bursts : List Burst) → All (IsBurstInRange net) bursts → AllPairs IsNotAfter bursts → AllFollow above bursts → bursts_in net at above (lines_from_bursts net bursts) ≡ Ok bursts
  bursts_read at above [] range ordered follow = refl
  bursts_read at above (burst ∷ bursts) range ordered follow =
      let here = below_read at above burst (All-head (IsBurstInRange net) burst bursts range) (follow_head above burst bursts follow) in
      let behind = bursts_read (at + 1) (Some burst) bursts (All-tail (IsBurstInRange net) burst bursts range) (λ i j d lt within. ordered (suc i) (suc j) d (omega arith) (omega arith)) (λ k d within. ordered 0 (suc k) d (omega arith) (omega arith)) in
      bursts_in-more at above (burst_line net burst) (lines_from_bursts net bursts) (some_lines bursts) ∙ rw (here, behind) refl

  -- modes, and the bursts behind them
  parts_in-more : (at : ℕ) (line : List ℕ) (ls : List (List ℕ)) → 0 < length ls → modes_and_bursts net at (line ∷ ls) ≡ cond (is_mode (words line)) (or_fault (P1, at) (mode_in (length net.beams) (words line)) >>= λ mode. modes_and_bursts net (at + 1) ls >>= λ parts. Ok (mode ∷ parts.0, parts.1)) (bursts_in net at None (line ∷ ls) >>= λ bursts. Ok ([], bursts))
  parts_in-more at line [] some = absurd (omega arith)
  parts_in-more at line (next ∷ rest) some = refl

  is_mode-burst : (burst : Burst) → IsBurstInRange net burst → is_mode (words (burst_line net burst)) ≡ false
  is_mode-burst burst range = ap is_mode (words_are burst range)

  only_bursts_read : (at : ℕ) (bursts : List Burst) → All (IsBurstInRange net) bursts → AllPairs IsNotAfter bursts → modes_and_bursts net at (lines_from_bursts net bursts) ≡ Ok ([], bursts)
  only_bursts_read at [] range ordered = refl
  only_bursts_read at (burst ∷ bursts) range ordered =
      let no_mode = is_mode-burst burst (All-head (IsBurstInRange net) burst bursts range) in
      parts_in-more at (burst_line net burst) (lines_from_bursts net bursts) (some_lines bursts) ∙ rw (no_mode, bursts_read at None (burst ∷ bursts) range ordered tt) refl

  more_lines : (modes : List Mode) (bursts : List Burst) → 0 < length (map mode_line modes ++ lines_from_bursts net bursts)
  more_lines modes bursts = omega (arith, length-append (map mode_line modes) (lines_from_bursts net bursts), some_lines bursts)

  parts_read : (at : ℕ) (modes : List Mode) (bursts : List Burst) → All (IsModeInRange (length net.beams)) modes → All (IsBurstInRange net) bursts → AllPairs IsNotAfter bursts
      → modes_and_bursts net at (map mode_line modes ++ lines_from_bursts net bursts) ≡ Ok (modes, bursts)
  parts_read at [] bursts modes_range range ordered = only_bursts_read at bursts range ordered
  parts_read at (mode ∷ modes) bursts modes_range range ordered =
      let in_range = All-head (IsModeInRange (length net.beams)) mode modes modes_range in
      let here = mode_read (length net.beams) mode in_range in
      let behind = parts_read (at + 1) modes bursts (All-tail (IsModeInRange (length net.beams)) mode modes modes_range) range ordered in
      parts_in-more at (mode_line mode) (map mode_line modes ++ lines_from_bursts net bursts) (more_lines modes bursts) ∙ rw (here, behind) refl

  -- no line has a newline inside
  bursts_lack : (bursts : List Burst) → All (IsBurstInRange net) bursts → list_all (lacks 10) (map (burst_line net) bursts ++ codes "end" ∷ []) ≡ true
  bursts_lack [] range = refl
  bursts_lack (burst ∷ bursts) range =
      ap (λ b. b && list_all (lacks 10) (map (burst_line net) bursts ++ codes "end" ∷ [])) (burst_line-lacks burst (All-head (IsBurstInRange net) burst bursts range))
      ∙ bursts_lack bursts (All-tail (IsBurstInRange net) burst bursts range)

  parts_lack : (modes : List Mode) (rest : List (List ℕ)) → All (IsModeInRange (length net.beams)) modes → list_all (lacks 10) rest ≡ true → list_all (lacks 10) (map mode_line modes ++ rest) ≡ true
  parts_lack [] rest range behind = behind
  parts_lack (mode ∷ modes) rest range behind =
      ap (λ b. b && list_all (lacks 10) (map mode_line modes ++ rest)) (mode_line-lacks (length net.beams) mode (All-head (IsModeInRange (length net.beams)) mode modes range))
      ∙ parts_lack modes rest (All-tail (IsModeInRange (length net.beams)) mode modes range) behind

  pub plan_lines-lack : (plan : Plan) → IsPlanInRange net plan → list_all (lacks 10) (plan_lines net plan) ≡ true
  plan_lines-lack plan range =
      let rest = map mode_line plan.schedule.modes ++ (map (burst_line net) plan.bursts ++ codes "end" ∷ []) in
      ap (λ b. b && (lacks 10 (length_line plan.schedule.length) && (lacks 10 (critical_line plan.schedule.critical) && list_all (lacks 10) rest))) (edition_line-lacks plan.edition range.edition)
      ∙ (ap (λ b. b && (lacks 10 (critical_line plan.schedule.critical) && list_all (lacks 10) rest)) (length_line-lacks plan.schedule.length range.schedule.slots)
      ∙ (ap (λ b. b && list_all (lacks 10) rest) (critical_line-lacks (length net.beams) plan.schedule.critical sound.beams.count.1 range.schedule.critical)
      ∙ parts_lack plan.schedule.modes (map (burst_line net) plan.bursts ++ codes "end" ∷ []) range.schedule.modes (bursts_lack plan.bursts range.bursts)))

  -- the whole text
  first_says-more : {A B : Type 0} (at : ℕ) (say : List (List ℕ) → Option A) (after : A → List (List ℕ) → Reading B) (line : List ℕ) (ls : List (List ℕ)) → 0 < length ls
      → first_says at say after (line ∷ ls) ≡ (or_fault (P1, at) (say (words line)) >>= λ value. after value ls)
  first_says-more at say after line [] some = absurd (omega arith)
  first_says-more at say after line (next ∷ rest) some = refl

  plan_in-is : (plan : Plan) → IsPlanInRange net plan → plan_in net (lines_from_plan net plan) ≡ Ok plan
  plan_in-is plan range =
      let behind = map mode_line plan.schedule.modes ++ lines_from_bursts net plan.bursts in
      let critical = critical_line plan.schedule.critical in
      let slots = length_line plan.schedule.length in
      let third : critical_behind net plan.edition plan.schedule.length (critical ∷ behind) ≡ Ok plan =
      first_says-more 3 (critical_in (length net.beams)) (parts_behind net plan.edition plan.schedule.length) critical behind (more_lines plan.schedule.modes plan.bursts)
      ∙ rw (critical_read (length net.beams) plan.schedule.critical sound.beams.count.1 range.schedule.critical, parts_read 4 plan.schedule.modes plan.bursts range.schedule.modes range.bursts range.ordered) refl in
      let second : length_behind net plan.edition (slots ∷ critical ∷ behind) ≡ Ok plan = rw (length_read plan.schedule.length range.schedule.slots) third in
      rw (edition_read plan.edition range.edition) second

  pub plan_read : (plan : Plan) → IsPlanInRange net plan → plan_reading net (plan_spelling net plan) ≡ Ok plan
  plan_read plan range =
      ap (plan_in net) (lines-ended (plan_lines net plan) (plan_lines-lack plan range) ∙ lines_from_plan-is net plan) ∙ plan_in-is plan range
