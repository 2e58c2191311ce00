-- The lines of those bursts that a terminal sends.
use Rattle.std.proofs.Common.{refl, ◌≡◌, ◌==◌, ◌++◌, ℕ, Bool, true, false, if◌then◌else◌, List, [], ◌∷◌, filter, flat_map, ap}
use Rattle.bt_frame.specs.declared.numbers.TermNo.{TermNo}
use Rattle.bt_net.specs.Network.{Net}
use Rattle.bt_demand.specs.Apart.{bursts_from}
use Rattle.bt_demand.specs.declared.burst.Burst.{Burst}
use Rattle.bt_words.specs.declared.form.Form.TheVariants as form
use Rattle.bt_timeline.specs.Timeline.{burst_line, burst_lines}

-- the line of a burst where the terminal sends it
abbrev pub line_where_sent : Net → TermNo → Burst → List ℕ
line_where_sent net terminal burst = if burst.from.0 == terminal.0 then burst_line net form.Burst burst else []

-- one item more, where it passes the test
first_passed : {A : Type 0} (f : A → List ℕ) (test : Bool) (x : A) (passed : List A) (pieces : List ℕ) → pieces ≡ flat_map f passed
    → (if test then f x else []) ++ pieces ≡ flat_map f (if test then x ∷ passed else passed)
first_passed f true x passed pieces is = ap (λ l. f x ++ l) is
first_passed f false x passed pieces is = is

-- the pieces of those items that pass a test
pieces_of_passed : {A : Type 0} (p : A → Bool) (f : A → List ℕ) (xs : List A) → flat_map (λ x. if p x then f x else []) xs ≡ flat_map f (filter p xs)
pieces_of_passed p f [] = refl
pieces_of_passed p f (x ∷ xs) = first_passed f (p x) x (filter p xs) (flat_map (λ y. if p y then f y else []) xs) (pieces_of_passed p f xs)

-- the lines of all bursts that the terminal sends
pub lines_of_sent : (net : Net) (terminal : TermNo) (bursts : List Burst)
    → flat_map (line_where_sent net terminal) bursts ≡ burst_lines net form.Burst (bursts_from terminal bursts)
lines_of_sent net terminal bursts = pieces_of_passed (λ (burst : Burst). burst.from.0 == terminal.0) (burst_line net form.Burst) bursts
