-- Work that goes on with what a load gives.
use Rattle.std.proofs.Common.{◌≡◌, ◌⊎◌, inl, inr, subst, sym, ap, ◌∙◌}
use Rattle.bt_report.specs.Outcome.{Outcome}

-- A load stops in one way, or gives one value, and not both.
pub record IsOneLoad {Value : Type 0} (stops : Outcome → Type 0) (gives : Value → Type 0) : Type 0 where
  pub stop : (a b : Outcome) → stops a → stops b → a ≡ b
  pub value : (v w : Value) → gives v → gives w → v ≡ w
  pub never : (a : Outcome) (v : Value) → stops a → gives v → ⊥

-- a load, and then the work with its value
abbrev pub Does : {Value : Type 0} → (Outcome → Type 0) → (Value → Type 0) → (Value → Outcome → Type 0) → Outcome → Type 0
Does {Value} stops gives after outcome = stops outcome ⊎ ((value : Value) × gives value × after value outcome)

-- the work goes on with the value that the load gives
pub goes_on : {Value : Type 0} (stops : Outcome → Type 0) (gives : Value → Type 0) → IsOneLoad stops gives → (after : Value → Outcome → Type 0) (value : Value) → gives value → (outcome : Outcome) → Does stops gives after outcome → after value outcome
goes_on stops gives one after value given outcome (inl stopped) = absurd (one.never outcome value stopped given)
goes_on {Value} stops gives one after value given outcome (inr (other, also, so)) =
    let P : Value → Type 0 = λ v. after v outcome in
    subst P (one.value other value also given) so

-- It has one outcome, where what comes after it has one. What counts as one outcome may be less than being the same.
pub Does-same : {Value : Type 0} (One : Outcome → Outcome → Type 0) → ((a b : Outcome) → a ≡ b → One a b) → (stops : Outcome → Type 0) (gives : Value → Type 0) → IsOneLoad stops gives
    → (after : Value → Outcome → Type 0) → ((v : Value) (a b : Outcome) → after v a → after v b → One a b) → (a b : Outcome) → Does stops gives after a → Does stops gives after b → One a b
Does-same One one stops gives load after same a b (inl stopped) (inl also) = one a b (load.stop a b stopped also)
Does-same One one stops gives load after same a b (inl stopped) (inr (v, given, so)) = absurd (load.never a v stopped given)
Does-same One one stops gives load after same a b (inr (v, given, so)) second = same v a b so (goes_on stops gives load after v given b second)

-- ---- a load, and a test of its value

-- what the load gives is tested
abbrev pub TestStops : {Value : Type 0} → (Outcome → Type 0) → (Value → Type 0) → (Value → Outcome → Type 0) → Outcome → Type 0
TestStops {Value} stops gives bad outcome = stops outcome ⊎ ((value : Value) × gives value × bad value outcome)

tested_stop : {Value : Type 0} (stops : Outcome → Type 0) (gives : Value → Type 0) (bad : Value → Outcome → Type 0) → IsOneLoad stops gives → ((v : Value) (a b : Outcome) → bad v a → bad v b → a ≡ b)
    → (a b : Outcome) → TestStops stops gives bad a → TestStops stops gives bad b → a ≡ b
tested_stop stops gives bad load same a b (inl stopped) (inl also) = load.stop a b stopped also
tested_stop stops gives bad load same a b (inl stopped) (inr (v, given, fault)) = absurd (load.never a v stopped given)
tested_stop stops gives bad load same a b (inr (v, given, fault)) second = same v a b fault (goes_on stops gives load bad v given b second)

tested_never : {Value : Type 0} (stops : Outcome → Type 0) (gives good : Value → Type 0) (bad : Value → Outcome → Type 0) → IsOneLoad stops gives → ((v : Value) (a : Outcome) → bad v a → good v → ⊥)
    → (a : Outcome) (v : Value) → TestStops stops gives bad a → gives v → good v → ⊥
tested_never stops gives good bad load never a v stopped given is = never v a (goes_on stops gives load bad v given a stopped) is

-- it is one load again, where the test has one answer
pub one_tested : {Value : Type 0} (stops : Outcome → Type 0) (gives good : Value → Type 0) (bad : Value → Outcome → Type 0) → IsOneLoad stops gives
    → ((v : Value) (a b : Outcome) → bad v a → bad v b → a ≡ b) → ((v : Value) (a : Outcome) → bad v a → good v → ⊥)
    → IsOneLoad (TestStops stops gives bad) (λ (v : Value). gives v × good v)
one_tested stops gives good bad load same never = record {
  stop = tested_stop stops gives bad load same;
  value = λ v w one other. load.value v w one.0 other.0;
  never = λ a v stopped given. tested_never stops gives good bad load never a v stopped given.0 given.1;
}

-- ---- a load, and then another

then_stop : {A B : Type 0} (stops : Outcome → Type 0) (gives : A → Type 0) (next : A → Outcome → Type 0) (more : A → B → Type 0) → IsOneLoad stops gives → ((a : A) → IsOneLoad (next a) (more a))
    → (a b : Outcome) → Does stops gives next a → Does stops gives next b → a ≡ b
then_stop stops gives next more load others = Does-same (λ a b. a ≡ b) (λ a b same. same) stops gives load next (λ v. (others v).stop)

then_value : {A B : Type 0} (stops : Outcome → Type 0) (gives : A → Type 0) (next : A → Outcome → Type 0) (more : A → B → Type 0) → IsOneLoad stops gives → ((a : A) → IsOneLoad (next a) (more a))
    → (v w : A) (x y : B) → gives v → more v x → gives w → more w y → ◌≡◌ {A = A × B} (v, x) (w, y)
then_value {A} {B} stops gives next more load others v w x y one with_x other with_y =
    let same : w ≡ v = load.value w v other one in
    let P : A → Type 0 = λ z. more z y in
    let second : x ≡ y = (others v).value x y with_x (subst P same with_y) in
    let with_first : B → A × B = λ z. (v, z) in
    let with_second : A → A × B = λ z. (z, y) in
    ap with_first second ∙ ap with_second (sym same)

-- both are one load, which gives both values
pub one_then : {A B : Type 0} (stops : Outcome → Type 0) (gives : A → Type 0) (next : A → Outcome → Type 0) (more : A → B → Type 0) → IsOneLoad stops gives → ((a : A) → IsOneLoad (next a) (more a))
    → IsOneLoad (Does stops gives next) (λ (both : A × B). gives both.0 × more both.0 both.1)
one_then {A} {B} stops gives next more load others = record {
  stop = then_stop stops gives next more load others;
  value = λ v w one other. then_value stops gives next more load others v.0 w.0 v.1 w.1 one.0 one.1 other.0 other.1;
  never = λ a v stopped given. (others v.0).never a v.1 (goes_on stops gives load next v.0 given.0 a stopped) given.1;
}
