-- Lines that were said, and who has said that it is lost.
use Rattle.std.proofs.Common.{◌≡◌, ◌⊎◌, inl, inr, ℕ, zero, suc, ◌==◌, ◌||◌, Bool, true, false, List, [], ◌∷◌, ◌++◌, map, refl, sym, ◌∙◌, ap, subst, arith}
use Rattle.std.proofs.lemmas.Bool.{eqb-true, or_left, or_parts}
use Rattle.bt_frame.specs.declared.numbers.Mark.{Mark}
use Rattle.bt_frame.specs.declared.numbers.TermNo.{TermNo}
use Rattle.bt_air.specs.declared.sent.Aired.TheVariants as sends
use Rattle.bt_sites.specs.Step.{Satellite, Centre, Terminal, Standby, Step}
use Rattle.bt_site.specs.Event.{Opening}
use Rattle.bt_site.specs.World.{greatest_due}
use Rattle.bt_sites.specs.Fits.{WasSaid}
use Rattle.bt_sites.specs.Late.{WasSaidBy, now_of}
use Rattle.bt_sites.specs.Sites.{bytes_of}
use Rattle.bt_sites.specs.Stamps.{Act, Begins, Hears, HasLine, Installs, Line, MayAct, Places, Radio, Restarts, Seconds, StandbyStarts, Starts, Turns, has_started, known, late_of, made_in, reached, said_if, step_by, steps_by, where_known}
use Rattle.bt_sites.proofs.Knows.{is-itself, known-other, known-own, max-first, said-joined}
use Rattle.bt_sites.proofs.Same.{same-number}

-- a line of two lists
pub line-either : (a b : List Line) (line : Line) → HasLine (a ++ b) line → HasLine a line ⊎ HasLine b line
line-either [] b line has = inr has
line-either (x ∷ xs) b line (inl same) = inl (inl same)
line-either (x ∷ xs) b line (inr has) = elim (line-either xs b line has) [
  | inl left ↦ inl (inr left)
  | inr right ↦ inr right
]

-- what holds of all bytes with a stamp
pub stamped-each : (P : Line → Type 0) (stamp : ℕ) (said : List (List ℕ)) → ((bytes : List ℕ) → WasSaid said bytes → P (Radio stamp bytes)) → (line : Line)
    → HasLine (map (λ (bytes : List ℕ). Radio stamp bytes) said) line → P line
stamped-each P stamp [] each line has = absurd has
stamped-each P stamp (x ∷ xs) each line (inl same) = subst P (sym same) (each x (inl refl))
stamped-each P stamp (x ∷ xs) each line (inr has) = stamped-each P stamp xs (λ bytes was. each bytes (inr was)) line has

-- who says something knows a superframe
pub known-said : (o : Opening) (before : List Step) (n : ℕ) (make : Mark → Step) (bytes : List ℕ) → WasSaid (said_if o before (where_known n make)) bytes → n ≡ 0 → ⊥
known-said o before zero make bytes was none = was
known-said o before (suc n) make bytes was none = absurd (omega (arith, none))

-- a terminal that has not started knows nothing
pub record IsFresh (o : Opening) (number : TermNo) (acts : List Act) : Type 0 where
  pub knows : known (Terminal number) acts ≡ 0
  pub reached : reached o (Terminal number) acts ≡ greatest_due o.orders

fresh-same : (o : Opening) (number : TermNo) (before : List Act) (act : Act) → known (Terminal number) (act ∷ before) ≡ known (Terminal number) before → IsFresh o number before → IsFresh o number (act ∷ before)
fresh-same o number before act same fresh =
    let none = same ∙ fresh.knows in
    record { knows = none; reached = max-first (reached o (Terminal number) before) (known (Terminal number) (act ∷ before)) none ∙ fresh.reached }

not-both : (test : Bool) → test ≡ true → test ≡ false → ⊥
not-both true e f = cc
not-both false e f = cc

-- only one that has started hears a line
fresh-hears : (o : Opening) (number to : TermNo) (before : List Act) (line : Line) (test : Bool) → (to.0 == number.0) ≡ test → has_started to before ≡ true → has_started number before ≡ false → IsFresh o number before
    → IsFresh o number (Hears (Terminal to) line ∷ before)
fresh-hears o number to before line true same started e fresh =
    absurd (not-both (has_started number before) (subst (λ (n : TermNo). has_started n before ≡ true) (same-number to number (eqb-true _ _ same)) started) e)
fresh-hears o number to before line false other started e fresh =
    fresh-same o number before (Hears (Terminal to) line) (known-other (Terminal number) before (Hears (Terminal to) line) other) fresh

pub fresh-more : (o : Opening) (number : TermNo) (before : List Act) (act : Act) → MayAct o before act → (has_started number before ≡ false → IsFresh o number before) → has_started number (act ∷ before) ≡ false
    → IsFresh o number (act ∷ before)
fresh-more o number before (Hears Satellite line) may fresh e = fresh-same o number before (Hears Satellite line) refl (fresh e)
fresh-more o number before (Hears Centre line) may fresh e = fresh-same o number before (Hears Centre line) refl (fresh e)
fresh-more o number before (Hears Standby line) may fresh e = fresh-same o number before (Hears Standby line) refl (fresh e)
fresh-more o number before (Hears (Terminal to) line) may fresh e = fresh-hears o number to before line (to.0 == number.0) refl may.1.1 e (fresh e)
fresh-more o number before Begins may fresh e = fresh-same o number before Begins refl (fresh e)
fresh-more o number before (Starts other) may fresh e =
    let both = or_parts (other.0 == number.0) (has_started number before) e in
    fresh-same o number before (Starts other) (known-other (Terminal number) before (Starts other) both.0) (fresh both.1)
fresh-more o number before (Turns target) may fresh e = fresh-same o number before (Turns target) refl (fresh e)
fresh-more o number before Places may fresh e = fresh-same o number before Places refl (fresh e)
fresh-more o number before (Installs plan) may fresh e = fresh-same o number before (Installs plan) refl (fresh e)
fresh-more o number before (Restarts kept) may fresh e = fresh-same o number before (Restarts kept) refl (fresh e)
fresh-more o number before Seconds may fresh e = fresh-same o number before Seconds refl (fresh e)
fresh-more o number before StandbyStarts may fresh e = fresh-same o number before StandbyStarts refl (fresh e)

-- a terminal that has started said so in the superframe in which the satellite opened
abbrev pub SaidLost : Opening → TermNo → List Act → Type 0
SaidLost o number acts = WasSaidBy o (greatest_due o.orders) (late_of o acts) (bytes_of [] (sends.Lost number))

or-first : (a b : Bool) → (a || b) ≡ true → b ≡ false → a ≡ true
or-first true b e f = refl
or-first false b e f = absurd (not-both b e f)

first-start : (o : Opening) (number other : TermNo) (before : List Act) → other ≡ number → IsFresh o number before → SaidLost o number (Starts other ∷ before)
first-start o number other before same fresh =
    let none : known (Terminal other) (Starts other ∷ before) ≡ 0 = known-own before (Starts other) in
    let is : reached o (Terminal other) (Starts other ∷ before) ≡ greatest_due o.orders =
    max-first (reached o (Terminal other) before) (known (Terminal other) (Starts other ∷ before)) none
    ∙ ap (λ (n : TermNo). reached o (Terminal n) before) same ∙ fresh.reached in
    inr (omega (arith, is), inl (ap (λ (n : TermNo). bytes_of [] (sends.Lost n)) (sym same)))

lost-starts : (o : Opening) (number other : TermNo) (before : List Act) (test : Bool) → has_started number before ≡ test → (other.0 == number.0 || has_started number before) ≡ true
    → (has_started number before ≡ false → IsFresh o number before) → (has_started number before ≡ true → SaidLost o number before) → SaidLost o number (Starts other ∷ before)
lost-starts o number other before true started e fresh lost = inl (lost started)
lost-starts o number other before false started e fresh lost =
    first-start o number other before (same-number other number (eqb-true _ _ (or-first (other.0 == number.0) (has_started number before) e started))) (fresh started)

lost-same : (o : Opening) (number : TermNo) (before : List Act) (act : Act) → SaidLost o number before → SaidLost o number (act ∷ before)
lost-same o number before act lost =
    said-joined o (greatest_due o.orders) (made_in o (now_of o (steps_by o before)) before act) (step_by before act) (late_of o before) (bytes_of [] (sends.Lost number)) lost

pub lost-more : (o : Opening) (number : TermNo) (before : List Act) (act : Act) → (has_started number before ≡ false → IsFresh o number before) → (has_started number before ≡ true → SaidLost o number before)
    → has_started number (act ∷ before) ≡ true → SaidLost o number (act ∷ before)
lost-more o number before (Hears site line) fresh lost e = lost-same o number before (Hears site line) (lost e)
lost-more o number before Begins fresh lost e = lost-same o number before Begins (lost e)
lost-more o number before (Starts other) fresh lost e = lost-starts o number other before (has_started number before) refl e fresh lost
lost-more o number before (Turns target) fresh lost e = lost-same o number before (Turns target) (lost e)
lost-more o number before Places fresh lost e = lost-same o number before Places (lost e)
lost-more o number before (Installs plan) fresh lost e = lost-same o number before (Installs plan) (lost e)
lost-more o number before (Restarts kept) fresh lost e = lost-same o number before (Restarts kept) (lost e)
lost-more o number before Seconds fresh lost e = lost-same o number before Seconds (lost e)
lost-more o number before StandbyStarts fresh lost e = lost-same o number before StandbyStarts (lost e)

-- a terminal that starts has started
pub start-started : (number : TermNo) (before : List Act) → has_started number (Starts number ∷ before) ≡ true
start-started number before = or_left (number.0 == number.0) (has_started number before) (is-itself number.0)
