-- The lines of a plan's text by their words, and its one line.
use Rattle.std.proofs.Common.{◌≡◌, ℕ, ◌-◌, true, false, codes, decimal, List, [], ◌∷◌, ◌++◌, length, length-append, take, map, All, Some, Ok, Err, refl, ap, sym, ◌∙◌, arith}
use Rattle.std.specs.List.{list_all}
use Rattle.std.specs.Char.{is_ascii_digit}
use Rattle.std.proofs.lemmas.List.{map-append, length-map}
use Rattle.std.proofs.lemmas.Simd.{map-map}
use Rattle.std.proofs.lemmas.List.{append_cancel_right, take-append-le, take_all}
use Rattle.std.proofs.lemmas.List.Elements.{All-head, All-tail, All-cons, All-nil, All-append, All-map, All-weaker}
use Rattle.std.proofs.lemmas.List.Folds.{list_all-append}
use Rattle.std.proofs.lemmas.Option.{same_Some}
use Rattle.bt_text.specs.Text.{words, spaced, ended, lacks}
use Rattle.bt_text.proofs.TextLines.{words-spaced, spaced-words, lacks-words}
use Rattle.bt_text.proofs.TextNumbers.{lacks-decimal, lacks-decimals}
use Rattle.bt_text.proofs.Fronts.{words-HasFirst}
use Rattle.bt_frame.specs.declared.mode.Mode.{Mode}
use Rattle.bt_frame.specs.declared.schedule.Critical.{Critical}
use Rattle.bt_frame.specs.declared.schedule.Critical.TheVariants.{Row, Column}
use Rattle.bt_frame.specs.Critical.{IsOfBeams}
use Rattle.bt_net.specs.Name.{is_name_byte}
use Rattle.bt_net.specs.Network.{Net, IsSound}
use Rattle.bt_net.specs.Terminals.{name_at}
use Rattle.bt_demand.specs.declared.burst.Burst.{Burst}
use Rattle.bt_demand.specs.declared.plan.Plan.{Plan}
use Rattle.bt_plan.specs.PlanSpelling.{burst_line, plan_lines, plan_spelling, IsBurstInRange, IsPlanInRange}
use Rattle.bt_plan.specs.PlanText.{plan_reading}
use Rattle.bt_plan.specs.Reading.{Reading}
use Rattle.bt_plan.specs.ScheduleSpelling.{critical_line, mode_line, IsModeInRange}
use Rattle.bt_plan.proofs.NamedTerminals.{is_name-name_at, name_lacks}
use Rattle.bt_plan.proofs.OnePlan.{plan_spelled}
use Rattle.bt_plan.proofs.PlanReadBack.{plan_read, plan_lines-lack}
use Rattle.bt_plan.proofs.ReadBack.{mode_numbers-small}
use Rattle.bt_journal.specs.declared.call.Change.TheVariants as change
use Rattle.bt_journal.specs.LineReading.{words_behind, in_lines, install_of, said_plan, Said, space_for_newline}
use Rattle.bt_journal.proofs.Spaces.{Line, words_of, bytes_of, space-text, space-in_lines, in_lines-words_of, spaced-bytes_of}

-- each line by its words
abbrev critical_words : Critical → Line
critical_words (Row up) = (codes "critical", codes "row" ∷ decimal up.0 ∷ [])
critical_words (Column down) = (codes "critical", codes "column" ∷ decimal down.0 ∷ [])

abbrev mode_words : Mode → Line
mode_words mode = (codes "mode", map decimal (mode.duration ∷ mode.perm))

abbrev burst_words : Net → Burst → Line
burst_words net burst = (codes "burst", decimal burst.start ∷ decimal burst.length ∷ name_at net burst.from ∷ name_at net burst.to ∷ [])

abbrev end_words : Line
end_words = (codes "end", [])

abbrev rest_words : Net → Plan → List Line
rest_words net plan = map mode_words plan.schedule.modes ++ (map (burst_words net) plan.bursts ++ end_words ∷ [])

abbrev edition_words : Plan → Line
edition_words plan = (codes "plan", decimal plan.edition.0 ∷ [])

abbrev length_words : Plan → Line
length_words plan = (codes "length", decimal plan.schedule.length ∷ [])

abbrev pub plan_words : Net → Plan → List Line
plan_words net plan = edition_words plan ∷ length_words plan ∷ critical_words plan.schedule.critical ∷ rest_words net plan

-- what holds of each of them
each-plan : (P : Line → Type 0) (net : Net) (plan : Plan) → P (edition_words plan) → P (length_words plan) → P (critical_words plan.schedule.critical) → All (λ mode. P (mode_words mode)) plan.schedule.modes → All (λ burst. P (burst_words net burst)) plan.bursts → P end_words
    → All P (plan_words net plan)
each-plan P net plan edition slots critical modes bursts last =
    let behind = map (burst_words net) plan.bursts ++ end_words ∷ [] in
    let rest = map mode_words plan.schedule.modes ++ behind in
    let behind_are = All-append P (map (burst_words net) plan.bursts) (end_words ∷ []) (All-map P (burst_words net) plan.bursts bursts) (All-cons P end_words [] last (All-nil P)) in
    let rest_are = All-append P (map mode_words plan.schedule.modes) behind (All-map P mode_words plan.schedule.modes modes) behind_are in
    All-cons P (edition_words plan) (length_words plan ∷ critical_words plan.schedule.critical ∷ rest) edition
    (All-cons P (length_words plan) (critical_words plan.schedule.critical ∷ rest) slots (All-cons P (critical_words plan.schedule.critical) rest critical rest_are))

-- as bytes they are the lines of its text
critical-bytes : (critical : Critical) → spaced ((critical_words critical).0 ∷ (critical_words critical).1) ≡ critical_line critical
critical-bytes (Row up) = refl
critical-bytes (Column down) = refl

rest-bytes : (net : Net) (plan : Plan) → bytes_of (rest_words net plan) ≡ map mode_line plan.schedule.modes ++ (map (burst_line net) plan.bursts ++ codes "end" ∷ [])
rest-bytes net plan =
    let bytes : Line → List ℕ = λ line. spaced (line.0 ∷ line.1) in
    let behind = map (burst_words net) plan.bursts ++ end_words ∷ [] in
    map-append bytes (map mode_words plan.schedule.modes) behind
    ∙ ap (λ ls. ls ++ map bytes behind) (map-map bytes mode_words plan.schedule.modes)
    ∙ ap (λ ls. map mode_line plan.schedule.modes ++ ls) (map-append bytes (map (burst_words net) plan.bursts) (end_words ∷ []) ∙ ap (λ ls. ls ++ codes "end" ∷ []) (map-map bytes (burst_words net) plan.bursts))

pub plan-bytes : (net : Net) (plan : Plan) → bytes_of (plan_words net plan) ≡ plan_lines net plan
plan-bytes net plan =
    let first = spaced (codes "plan" ∷ decimal plan.edition.0 ∷ []) in
    let second = spaced (codes "length" ∷ decimal plan.schedule.length ∷ []) in
    ap (λ l. first ∷ second ∷ l ∷ bytes_of (rest_words net plan)) (critical-bytes plan.schedule.critical)
    ∙ ap (λ ls. first ∷ second ∷ critical_line plan.schedule.critical ∷ ls) (rest-bytes net plan)

-- each line has as many words as its first says
abbrev IsCounted : Net → Line → Type 0
IsCounted net line = words_behind (length net.beams) line.0 ≡ length line.1

critical-counted : (net : Net) (critical : Critical) → IsCounted net (critical_words critical)
critical-counted net (Row up) = refl
critical-counted net (Column down) = refl

mode-counted : (net : Net) (mode : Mode) → IsModeInRange (length net.beams) mode → IsCounted net (mode_words mode)
mode-counted net mode range = omega (arith, length-map mode.perm decimal, range.beams)

plan-counted : (net : Net) (plan : Plan) → IsPlanInRange net plan → All (IsCounted net) (plan_words net plan)
plan-counted net plan range =
    each-plan (IsCounted net) net plan refl refl (critical-counted net plan.schedule.critical)
    (All-weaker (IsModeInRange (length net.beams)) (λ mode. IsCounted net (mode_words mode)) (λ mode h. mode-counted net mode h) plan.schedule.modes range.schedule.modes) (λ k d within. refl) refl

-- a byte that is no digit and stands in no name stands in none of the words
module _ (net : Net) (sound : IsSound net) (byte : ℕ) (digit : is_ascii_digit byte ≡ false) (other : is_name_byte byte ≡ false) where
  abbrev Lacks : Line → Type 0
  Lacks line = list_all (lacks byte) (line.0 ∷ line.1) ≡ true

  critical-lacks : (critical : Critical) → IsOfBeams (length net.beams) critical → Lacks (critical_words critical)
  critical-lacks (Row up) within =
      rw (name_lacks byte (codes "critical") other refl, name_lacks byte (codes "row") other refl, lacks-decimal byte up.0 digit (let few = sound.beams.count.1 in omega arith)) refl
  critical-lacks (Column down) within =
      rw (name_lacks byte (codes "critical") other refl, name_lacks byte (codes "column") other refl, lacks-decimal byte down.0 digit (let few = sound.beams.count.1 in omega arith)) refl

  mode-lacks : (mode : Mode) → IsModeInRange (length net.beams) mode → Lacks (mode_words mode)
  mode-lacks mode range =
      rw (name_lacks byte (codes "mode") other refl) (lacks-decimals byte (mode.duration ∷ mode.perm) digit (mode_numbers-small (length net.beams) mode range))

  burst-lacks : (burst : Burst) → IsBurstInRange net burst → Lacks (burst_words net burst)
  burst-lacks burst range =
      let start = lacks-decimal byte burst.start digit (let within = range.start in omega arith) in
      let slots = lacks-decimal byte burst.length digit (let within = range.few in omega arith) in
      let from = name_lacks byte (name_at net burst.from) other (is_name-name_at net burst.from sound range.sends) in
      let to = name_lacks byte (name_at net burst.to) other (is_name-name_at net burst.to sound range.receives) in
      rw (name_lacks byte (codes "burst") other refl, start, slots, from, to) refl

  plan-lacks : (plan : Plan) → IsPlanInRange net plan → All Lacks (plan_words net plan)
  plan-lacks plan range =
      let edition : Lacks (edition_words plan) = rw (name_lacks byte (codes "plan") other refl, lacks-decimal byte plan.edition.0 digit (let within = range.edition in omega arith)) refl in
      let slots : Lacks (length_words plan) = rw (name_lacks byte (codes "length") other refl, lacks-decimal byte plan.schedule.length digit (let within = range.schedule.slots in omega arith)) refl in
      let last : Lacks end_words = rw (name_lacks byte (codes "end") other refl) refl in
      each-plan Lacks net plan edition slots (critical-lacks plan.schedule.critical range.schedule.critical)
      (All-weaker (IsModeInRange (length net.beams)) (λ mode. Lacks (mode_words mode)) mode-lacks plan.schedule.modes range.schedule.modes)
      (All-weaker (IsBurstInRange net) (λ burst. Lacks (burst_words net burst)) burst-lacks plan.bursts range.bursts) last

  words-lack : (ls : List Line) → All Lacks ls → list_all (lacks byte) (words_of ls) ≡ true
  words-lack [] each = refl
  words-lack (line ∷ ls) each =
      list_all-append (lacks byte) (line.0 ∷ line.1) (words_of ls) ∙ rw (All-head Lacks line ls each, words-lack ls (All-tail Lacks line ls each)) refl

-- the line of a plan is the lines of its text with a space between each two, and the words of these
module _ (net : Net) (sound : IsSound net) where
  pub plan-words : (plan : Plan) → IsPlanInRange net plan → words (spaced (plan_lines net plan)) ≡ words_of (plan_words net plan)
  plan-words plan range =
      ap (λ ls. words (spaced ls)) (sym (plan-bytes net plan))
      ∙ ap words (spaced-bytes_of (edition_words plan) (length_words plan ∷ critical_words plan.schedule.critical ∷ rest_words net plan))
      ∙ words-spaced (words_of (plan_words net plan)) (omega arith) (words-lack net sound 32 refl refl (plan_words net plan) (plan-lacks net sound 32 refl refl plan range))

  -- it is read as that plan
  pub install_change_read : (plan : Plan) → IsPlanInRange net plan → said_plan net (words_of (plan_words net plan)) ≡ Some (plan.edition, change.Install plan)
  install_change_read plan range =
      ap (λ text. install_of (plan_reading net text)) (in_lines-words_of (length net.beams) (plan_words net plan) (plan-counted net plan range) ∙ ap ended (plan-bytes net plan))
      ∙ ap install_of (plan_read net sound plan range)

  pub space-plan : (plan : Plan) → IsPlanInRange net plan → map space_for_newline (plan_spelling net plan) ≡ spaced (plan_lines net plan) ++ 32 ∷ []
  space-plan plan range = space-text (plan_lines net plan) (omega arith) (plan_lines-lack net sound plan range)

  -- no other line is
  pub record IsInstall (text : List ℕ) (said : Said) : Type 0 where
    pub plan : Plan
    pub change_is : said ≡ (plan.edition, change.Install plan)
    pub range : IsPlanInRange net plan
    pub spelled : text ≡ spaced (plan_lines net plan)

  install_read : (reading : Reading Plan) (said : Said) → install_of reading ≡ Some said → (plan : Plan) × (reading ≡ Ok plan) × (said ≡ (plan.edition, change.Install plan))
  install_read (Ok plan) said is = (plan, refl, sym (same_Some _ said is))
  install_read (Err fault) said is = absurd cc

  space-words : (text : List ℕ) → lacks 10 text ≡ true → map space_for_newline (in_lines (length net.beams) 0 (words text)) ≡ text ++ 32 ∷ []
  space-words text none =
      let (first, rest, are) = words-HasFirst text in
      let lack = ap (list_all (lacks 10)) (sym are) ∙ (lacks-words 10 text refl ∙ none) in
      ap (λ ws. map space_for_newline (in_lines (length net.beams) 0 ws)) are
      ∙ space-in_lines (length net.beams) 0 first rest lack
      ∙ ap (λ ws. spaced ws ++ 32 ∷ []) (sym are)
      ∙ ap (λ t. t ++ 32 ∷ []) (spaced-words text)

  pub install_spelled : (text : List ℕ) (said : Said) → lacks 10 text ≡ true → said_plan net (words text) ≡ Some said → IsInstall text said
  install_spelled text said none is =
      let in_its_lines = in_lines (length net.beams) 0 (words text) in
      let (plan, read, said_is) = install_read (plan_reading net in_its_lines) said is in
      let (spelled, range) = plan_spelled net in_its_lines plan sound.beams.count.1 read in
      let same : text ++ 32 ∷ [] ≡ spaced (plan_lines net plan) ++ 32 ∷ [] = sym (space-words text none) ∙ ap (map space_for_newline) spelled ∙ space-plan plan range in
      record { plan = plan; change_is = said_is; range = range; spelled = append_cancel_right text (spaced (plan_lines net plan)) (32 ∷ []) same }

-- what is left of bytes whose last was taken
pub without_last : (bytes left front : List ℕ) (byte count : ℕ) → bytes ≡ front ++ byte ∷ [] → left ≡ take (count - 1) bytes → count ≡ length bytes → left ≡ front
without_last bytes left front byte count is rest counted =
    let long : count - 1 ≡ length front = omega (arith, ap length is, length-append front (byte ∷ [])) in
    rest ∙ ap (λ n. take n bytes) long ∙ ap (take (length front)) is ∙ take-append-le (length front) front (byte ∷ []) (omega arith) ∙ take_all (length front) front (omega arith)
