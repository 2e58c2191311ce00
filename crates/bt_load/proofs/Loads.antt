-- Loads that follow one another: what a later load says of its own start holds from the first one's start on.
use Rattle.std.proofs.Common.{◌≡◌, ℕ, ◌≤◌, inl, inr, List, Option, Some, Result, subst, arith}
use Rattle.bt_outside.specs.Told.{Rose}
use Rattle.bt_report.specs.declared.report.Report.{Report}
use Rattle.bt_report.specs.declared.report.Stop.{Stop}
use Rattle.bt_report.specs.declared.report.Stop.TheVariants.{Early, OutOfMemory}
use Rattle.bt_report.specs.Outcome.{Outcome, text_alone}
use Rattle.bt_report.specs.Printing.{CameTo}
use Rattle.bt_report.specs.Report.{StopIs}
use Rattle.bt_report.proofs.Reports.{CameTo-among}
use Rattle.bt_load.specs.Files.{Kind, CannotRead}
use Rattle.bt_load.specs.Loaders.{Loader, Loads, and_then, file, only_where, tested}

-- a count that rose since a later moment rose since an earlier one
pub Rose-sooner : (before between now : ℕ) → before ≤ between → Rose between now → Rose before now
Rose-sooner before between now sooner (inl rose) = inl (omega arith)
Rose-sooner before between now sooner (inr last) = inr last

-- the same outcomes where fewer failures count
pub CannotRead-sooner : (most : ℕ) (told : List ℕ → Option (List ℕ)) (later sooner : Type 0) → (later → sooner) → (name : List ℕ) (outcome : Outcome) → CannotRead most told later name outcome → CannotRead most told sooner name outcome
CannotRead-sooner most told later sooner rise name outcome (inl fault) = inl (rise fault.0, fault.1)
CannotRead-sooner most told later sooner rise name outcome (inr long) = inr long

-- a load stops alike where fewer failures count
abbrev pub StopsSooner : {Value : Type 0} → Loader Value → Type 1
StopsSooner load = (told : List ℕ → Option (List ℕ)) (later sooner : Type 0) → (later → sooner) → (outcome : Outcome) → load.stops told later outcome → load.stops told sooner outcome

pub file_sooner : {Value Fault : Type 0} (kind : Kind Value Fault) (name : List ℕ) → StopsSooner (file kind name)
file_sooner kind name told later sooner rise outcome (inl unread) = inl (CannotRead-sooner kind.most told later sooner rise name outcome unread)
file_sooner kind name told later sooner rise outcome (inr misspelt) = inr misspelt

pub then_sooner : {A B : Type 0} (first : Loader A) (next : A → Loader B) → StopsSooner first → ((value : A) → StopsSooner (next value)) → StopsSooner (and_then first next)
then_sooner first next one others told later sooner rise outcome (inl stopped) = inl (one told later sooner rise outcome stopped)
then_sooner first next one others told later sooner rise outcome (inr (value, given, stopped)) = inr (value, given, others value told later sooner rise outcome stopped)

pub tested_sooner : {Value : Type 0} (good : Value → Type 0) (bad : Value → Outcome → Type 0) (load : Loader Value) → StopsSooner load → StopsSooner (tested good bad load)
tested_sooner good bad load one told later sooner rise outcome (inl stopped) = inl (one told later sooner rise outcome stopped)
tested_sooner good bad load one told later sooner rise outcome (inr found) = inr found

pub where_sooner : {Value : Type 0} (holds : Type 0) (load : Loader Value) → StopsSooner load → StopsSooner (only_where holds load)
where_sooner holds load one told later sooner rise outcome (so, stopped) = (so, one told later sooner rise outcome stopped)

-- the same between two moments
pub stops_moved : {Value : Type 0} (load : Loader Value) → StopsSooner load → (told now : List ℕ → Option (List ℕ)) (before between end : ℕ) → now ≡ told → before ≤ between → (outcome : Outcome)
    → load.stops now (Rose between end) outcome → load.stops told (Rose before end) outcome
stops_moved load moves told now before between end same sooner outcome so =
    let P : (List ℕ → Option (List ℕ)) → Type 0 = λ held. load.stops held (Rose between end) outcome in
    moves told (Rose between end) (Rose before end) (Rose-sooner before between end sooner) outcome (subst P same so)

-- a load after another: its own start is the later one, with the same files
pub then_stops : {A B : Type 0} (first : Loader A) (next : A → Loader B) (told now : List ℕ → Option (List ℕ)) (before between end : ℕ) (value : A) → StopsSooner (next value) → now ≡ told → before ≤ between → first.gives told value
    → (stop : Stop) → StopIs ((next value).stops now (Rose between end)) stop → StopIs ((and_then first next).stops told (Rose before end)) stop
then_stops first next told now before between end value moves same sooner given OutOfMemory stops = tt
then_stops first next told now before between end value moves same sooner given (Early report) stops =
    inr (value, given, stops_moved (next value) moves told now before between end same sooner (text_alone report.text.items report.status) stops)

-- and the work behind it
pub then_goes_on : {A B : Type 0} (first : Loader A) (next : A → Loader B) (after : A × B → Outcome → Type 0) (told now : List ℕ → Option (List ℕ)) (before between end : ℕ) (value : A) → StopsSooner (next value) → now ≡ told → before ≤ between
    → first.gives told value → (outcome : Outcome) → Loads (next value) (λ other. after (value, other)) now (Rose between end) outcome → Loads (and_then first next) after told (Rose before end) outcome
then_goes_on first next after told now before between end value moves same sooner given outcome (inl stopped) =
    inl (inr (value, given, stops_moved (next value) moves told now before between end same sooner outcome stopped))
then_goes_on first next after told now before between end value moves same sooner given outcome (inr (other, also, so)) =
    let P : (List ℕ → Option (List ℕ)) → Type 0 = λ held. (next value).gives held other in
    inr ((value, other), (given, subst P same also), so)

pub came_then : {A B : Type 0} (first : Loader A) (next : A → Loader B) (after : A × B → Outcome → Type 0) (told now : List ℕ → Option (List ℕ)) (before between end : ℕ) (value : A) → StopsSooner (next value) → now ≡ told → before ≤ between
    → first.gives told value → (result : Result Report Stop) → CameTo (Loads (next value) (λ other. after (value, other)) now (Rose between end)) result → CameTo (Loads (and_then first next) after told (Rose before end)) result
came_then first next after told now before between end value moves same sooner given result came =
    CameTo-among (Loads (next value) (λ other. after (value, other)) now (Rose between end)) (Loads (and_then first next) after told (Rose before end))
    (then_goes_on first next after told now before between end value moves same sooner given) result came

-- a load went well, and what comes after it came to one of its outcomes
pub came_on : {Value : Type 0} (load : Loader Value) (after : Value → Outcome → Type 0) (told : List ℕ → Option (List ℕ)) (failed : Type 0) (value : Value) → load.gives told value → (result : Result Report Stop) → CameTo (after value) result
    → CameTo (Loads load after told failed) result
came_on load after told failed value given result came = CameTo-among (after value) (Loads load after told failed) (λ outcome so. inr (value, given, so)) result came

-- a load that is made only where this holds, which it does
goes_on_where : {Value : Type 0} (holds : Type 0) (load : Loader Value) (after : Option Value → Outcome → Type 0) (told : List ℕ → Option (List ℕ)) (failed : Type 0) → holds → (outcome : Outcome)
    → Loads load (λ value. after (Some value)) told failed outcome → Loads (only_where holds load) after told failed outcome
goes_on_where holds load after told failed so outcome (inl stopped) = inl (so, stopped)
goes_on_where holds load after told failed so outcome (inr (value, given, done)) = inr (Some value, (so, given), done)

pub came_where : {Value : Type 0} (holds : Type 0) (load : Loader Value) (after : Option Value → Outcome → Type 0) (told : List ℕ → Option (List ℕ)) (failed : Type 0) → holds → (result : Result Report Stop)
    → CameTo (Loads load (λ value. after (Some value)) told failed) result → CameTo (Loads (only_where holds load) after told failed) result
came_where holds load after told failed so result came =
    CameTo-among (Loads load (λ value. after (Some value)) told failed) (Loads (only_where holds load) after told failed) (goes_on_where holds load after told failed so) result came
