-- A told store that fails in no call comes to one thing: changes, a first faulty line, or too many bytes.
use Rattle.std.proofs.Common.{◌≡◌, ℕ, ◌<◌, ◌≤◌, ◌⊎◌, inl, inr, List, [], ◌∷◌, length, codes, decimal, Option, Some, IfSome, sym, ap, ◌∙◌, subst, arith}
use Rattle.bt_frame.specs.declared.limits.TheConstants.{MOST_JOURNAL_BYTES}
use Rattle.bt_frame.specs.declared.numbers.TermNo.{TermNo}
use Rattle.bt_net.specs.Network.{Net, IsSound}
use Rattle.bt_demand.specs.declared.demand.Link.{Link}
use Rattle.bt_demand.specs.Demand.{units_of, IsDemand}
use Rattle.bt_journal.specs.declared.call.Change.{Change}
use Rattle.bt_history.specs.declared.fault.RecoverFault.{RecoverFault}
use Rattle.bt_history.specs.declared.fault.RecoverFault.TheVariants.{J1, J2, StoreFault, TooLong, OutOfMemory}
use Rattle.bt_history.specs.Recovery.{IsFirstNoLine, IsFirstStray, IsRecoverFault, Recovered}
use Rattle.bt_words.specs.Lines.{line_of}
use Rattle.bt_report.specs.Stored.{IsSteady, Stored}
use Rattle.bt_report.specs.Outcome.{Outcome, Says, text_alone}
use Rattle.bt_cli.specs.Replay.{NamesRecoverFault}

-- the laws of demands and of journals
pub record Laws : Type 0 where
  pub demand : (a b : List Link) → IsDemand a → IsDemand b → ((from to : TermNo) → units_of a from to ≡ units_of b from to) → a ≡ b
  pub changes : (net : Net) (bytes : List ℕ) (one other : List Change) → IsSound net → Recovered net bytes one → Recovered net bytes other → one ≡ other
  pub no_line : (net : Net) (bytes : List ℕ) (changes : List Change) (number : ℕ) → IsSound net → Recovered net bytes changes → IsFirstNoLine net bytes number → ⊥
  pub stray : (net : Net) (bytes : List ℕ) (changes : List Change) (number : ℕ) → IsSound net → Recovered net bytes changes → IsFirstStray net bytes number → ⊥
  pub either : (net : Net) (bytes : List ℕ) (number other : ℕ) → IsSound net → IsFirstNoLine net bytes number → IsFirstStray net bytes other → ⊥
  pub no_lines : (net : Net) (bytes : List ℕ) (number other : ℕ) → IsSound net → IsFirstNoLine net bytes number → IsFirstNoLine net bytes other → number ≡ other
  pub strays : (net : Net) (bytes : List ℕ) (number other : ℕ) → IsSound net → IsFirstStray net bytes number → IsFirstStray net bytes other → number ≡ other

-- the bytes tell changes, and something came of these
pub record HasChanges (Done : List Change → Outcome → Type 0) (net : Net) (bytes : List ℕ) (outcome : Outcome) : Type 0 where
  pub changes : List Change
  pub told : Recovered net bytes changes
  pub short : length bytes ≤ MOST_JOURNAL_BYTES
  pub done : Done changes outcome

-- or they have a first line that is of no change
pub record HasNoLine (net : Net) (bytes : List ℕ) (outcome : Outcome) : Type 0 where
  pub number : ℕ
  pub first : IsFirstNoLine net bytes number
  pub short : length bytes ≤ MOST_JOURNAL_BYTES
  pub says : NamesRecoverFault (J1 number) outcome

-- or one of a change that does not follow
pub record HasStray (net : Net) (bytes : List ℕ) (outcome : Outcome) : Type 0 where
  pub number : ℕ
  pub first : IsFirstStray net bytes number
  pub short : length bytes ≤ MOST_JOURNAL_BYTES
  pub says : NamesRecoverFault (J2 number) outcome

-- or they are too many
pub record IsTooLong (bytes : List ℕ) (outcome : Outcome) : Type 0 where
  pub longer : MOST_JOURNAL_BYTES < length bytes
  pub says : NamesRecoverFault TooLong outcome

abbrev pub Comes : (List Change → Outcome → Type 0) → Net → List ℕ → Outcome → Type 0
Comes Done net bytes outcome = HasChanges Done net bytes outcome ⊎ HasNoLine net bytes outcome ⊎ HasStray net bytes outcome ⊎ IsTooLong bytes outcome

-- what is said of the bytes where they are told
pub told : (o : Option (List ℕ)) (held : List ℕ) (P : List ℕ → Type 0) → o ≡ Some held → IfSome o P → P held
told o held P is so = subst (λ (t : Option (List ℕ)). IfSome t P) is so

-- a recovery that failed came to one of them
pub fault_comes : (Done : List Change → Outcome → Type 0) (net : Net) (held : List ℕ) (stored : Stored) (fault : RecoverFault) (outcome : Outcome) → stored.before ≡ Some held → IsSteady stored
    → IsRecoverFault net stored.before stored.after stored.faults_before stored.faults_after fault → NamesRecoverFault fault outcome → Comes Done net held outcome
fault_comes Done net held stored (J1 number) outcome is steady failed says =
    inr (inl (record { number = number; first = told stored.before held (λ bytes. IsFirstNoLine net bytes number) is failed.2; short = told stored.before held (λ bytes. length bytes ≤ MOST_JOURNAL_BYTES) is failed.1; says = says }))
fault_comes Done net held stored (J2 number) outcome is steady failed says =
    inr (inr (inl (record { number = number; first = told stored.before held (λ bytes. IsFirstStray net bytes number) is failed.2; short = told stored.before held (λ bytes. length bytes ≤ MOST_JOURNAL_BYTES) is failed.1; says = says })))
fault_comes Done net held stored StoreFault outcome is steady failed says = absurd (steady failed.1)
fault_comes Done net held stored TooLong outcome is steady failed says =
    inr (inr (inr (record { longer = told stored.before held (λ bytes. MOST_JOURNAL_BYTES < length bytes) is failed.1; says = says })))
fault_comes Done net held stored OutOfMemory outcome is steady failed says = absurd says

fault_same : (code : List ℕ) (a b : Outcome) (number other : ℕ) → number ≡ other → Says (codes "fault" ∷ code ∷ decimal number ∷ []) 8 a → Says (codes "fault" ∷ code ∷ decimal other ∷ []) 8 b → a ≡ b
fault_same code a b number other same says also =
    says ∙ (ap (λ (n : ℕ). text_alone (line_of (codes "fault" ∷ code ∷ decimal n ∷ [])) 8) same ∙ sym also)

-- So the bytes come to one thing, where what comes of their changes is one thing. What counts as one may be less than being the same.
pub one_coming : Laws → (One : Outcome → Outcome → Type 0) → ((a b : Outcome) → a ≡ b → One a b) → (Done : List Change → Outcome → Type 0)
    → ((changes : List Change) (a b : Outcome) → Done changes a → Done changes b → One a b)
    → (net : Net) → IsSound net → (bytes : List ℕ) (a b : Outcome) → Comes Done net bytes a → Comes Done net bytes b → One a b
one_coming laws One one Done done net sound bytes a b (inl first) (inl second) =
    let same : second.changes ≡ first.changes = laws.changes net bytes second.changes first.changes sound second.told first.told in
    done first.changes a b first.done (subst (λ (c : List Change). Done c b) same second.done)
one_coming laws One one Done done net sound bytes a b (inl first) (inr (inl second)) = absurd (laws.no_line net bytes first.changes second.number sound first.told second.first)
one_coming laws One one Done done net sound bytes a b (inl first) (inr (inr (inl second))) = absurd (laws.stray net bytes first.changes second.number sound first.told second.first)
one_coming laws One one Done done net sound bytes a b (inl first) (inr (inr (inr second))) = absurd (omega (arith, first.short, second.longer))
one_coming laws One one Done done net sound bytes a b (inr (inl first)) (inl second) = absurd (laws.no_line net bytes second.changes first.number sound second.told first.first)
one_coming laws One one Done done net sound bytes a b (inr (inl first)) (inr (inl second)) =
    one a b (fault_same (codes "J1") a b first.number second.number (laws.no_lines net bytes first.number second.number sound first.first second.first) first.says second.says)
one_coming laws One one Done done net sound bytes a b (inr (inl first)) (inr (inr (inl second))) = absurd (laws.either net bytes first.number second.number sound first.first second.first)
one_coming laws One one Done done net sound bytes a b (inr (inl first)) (inr (inr (inr second))) = absurd (omega (arith, first.short, second.longer))
one_coming laws One one Done done net sound bytes a b (inr (inr (inl first))) (inl second) = absurd (laws.stray net bytes second.changes first.number sound second.told first.first)
one_coming laws One one Done done net sound bytes a b (inr (inr (inl first))) (inr (inl second)) = absurd (laws.either net bytes second.number first.number sound second.first first.first)
one_coming laws One one Done done net sound bytes a b (inr (inr (inl first))) (inr (inr (inl second))) =
    one a b (fault_same (codes "J2") a b first.number second.number (laws.strays net bytes first.number second.number sound first.first second.first) first.says second.says)
one_coming laws One one Done done net sound bytes a b (inr (inr (inl first))) (inr (inr (inr second))) = absurd (omega (arith, first.short, second.longer))
one_coming laws One one Done done net sound bytes a b (inr (inr (inr first))) (inl second) = absurd (omega (arith, second.short, first.longer))
one_coming laws One one Done done net sound bytes a b (inr (inr (inr first))) (inr (inl second)) = absurd (omega (arith, second.short, first.longer))
one_coming laws One one Done done net sound bytes a b (inr (inr (inr first))) (inr (inr (inl second))) = absurd (omega (arith, second.short, first.longer))
one_coming laws One one Done done net sound bytes a b (inr (inr (inr first))) (inr (inr (inr second))) = one a b (first.says ∙ sym second.says)
