-- Where the files are told and no read failed, a load has one outcome; and where nothing is at fault in them, it gives a value.
use Rattle.std.proofs.Common.{◌≡◌, ℕ, ◌<◌, ◌≤◌, inl, inr, List, length, Option, Some, None, Result, Ok, Err, refl, sym, ap, ◌∙◌, subst, arith}
use Rattle.bt_outside.specs.Told.{Gives, IsLonger}
use Rattle.bt_words.specs.Lines.{line_of}
use Rattle.bt_report.specs.declared.status.TheConstants.{DONE}
use Rattle.bt_report.specs.Outcome.{Outcome, text_alone}
use Rattle.bt_report.proofs.Works.{IsOneLoad, one_tested, one_then}
use Rattle.bt_load.specs.Choice.{Choice, AreAlike, Exactly, AnyGood}
use Rattle.bt_load.specs.Files.{IsContent, IsLoaded, IsSpelled, IsTold, Kind, Misspells, StopsAtLoad}
use Rattle.bt_load.specs.Loaders.{GivesWhere, Loader, Loads, and_then, file, nothing, only_where, tested}

-- a told file has one content
pub one_content : (most : ℕ) (told : List ℕ → Option (List ℕ)) (name held bytes : List ℕ) → told name ≡ Some held → IsContent most told name bytes → bytes ≡ held
one_content most told name held bytes is content = let P : Option (List ℕ) → Type 0 = λ o. Gives o bytes in subst P is content.0

-- a told file is longer than the limit
pub held_longer : (most : ℕ) (told : List ℕ → Option (List ℕ)) (name held : List ℕ) → told name ≡ Some held → IsLonger (told name) most → most < length held
held_longer most told name held is longer = let P : Option (List ℕ) → Type 0 = λ o. IsLonger o most in subst P is longer

-- or it is within the limit
pub held_within : (most : ℕ) (told : List ℕ → Option (List ℕ)) (name held bytes : List ℕ) → told name ≡ Some held → IsContent most told name bytes → length held ≤ most
held_within most told name held bytes is content = let P : List ℕ → Type 0 = λ b. length b ≤ most in subst P (one_content most told name held bytes is content) content.1

-- what a reading gives for two contents of one told file
pub one_reading : {Value Fault : Type 0} (reading : List ℕ → Result Value Fault) (most : ℕ) (told : List ℕ → Option (List ℕ)) (name held a b : List ℕ) → told name ≡ Some held → IsContent most told name a → IsContent most told name b → reading a ≡ reading b
one_reading reading most told name held a b is first second = ap reading (one_content most told name held a is first ∙ sym (one_content most told name held b is second))

-- equal readings have equal faults
faults_same : {Value Fault : Type 0} (x y : Result Value Fault) (p q : Fault) → x ≡ Err p → y ≡ Err q → x ≡ y → p ≡ q
faults_same x y p q first second both = cc

-- and equal values
values_same : {Value Fault : Type 0} (x y : Result Value Fault) (v w : Value) → x ≡ Ok v → y ≡ Ok w → x ≡ y → v ≡ w
values_same x y v w first second both = cc

-- a fault is no value
fault_no_value : {Value Fault : Type 0} (x y : Result Value Fault) (p : Fault) (v : Value) → x ≡ Err p → y ≡ Ok v → x ≡ y → ⊥
fault_no_value x y p v first second both = cc

-- two first faults of one text are one
pub Misspells-same : {Value Fault : Type 0} (kind : Kind Value Fault) (told : List ℕ → Option (List ℕ)) (name held : List ℕ) → told name ≡ Some held → (a b : Outcome) → Misspells kind told name a → Misspells kind told name b → a ≡ b
Misspells-same {Value} {Fault} kind told name held is a b (bytes, fault, content, wrong, says) (others, fault', content', wrong', says') =
    let same : fault ≡ fault' = faults_same (kind.reading bytes) (kind.reading others) fault fault' wrong wrong' (one_reading kind.reading kind.most told name held bytes others is content content') in
    says ∙ ap (λ (f : Fault). text_alone (line_of (kind.fault_words f)) kind.fault_status) same ∙ sym says'

-- a file that spells a value has no first fault
pub Misspells-not_loaded : {Value Fault : Type 0} (kind : Kind Value Fault) (told : List ℕ → Option (List ℕ)) (name held : List ℕ) → told name ≡ Some held → (a : Outcome) (value : Value) → Misspells kind told name a → IsLoaded kind told name value → ⊥
Misspells-not_loaded kind told name held is a value (bytes, fault, content, wrong, says) (others, content', right) =
    fault_no_value (kind.reading bytes) (kind.reading others) fault value wrong right (one_reading kind.reading kind.most told name held bytes others is content content')

-- two values that one file spells are one
pub IsLoaded-same : {Value Fault : Type 0} (kind : Kind Value Fault) (told : List ℕ → Option (List ℕ)) (name held : List ℕ) → told name ≡ Some held → (v w : Value) → IsLoaded kind told name v → IsLoaded kind told name w → v ≡ w
IsLoaded-same kind told name held is v w (bytes, content, right) (others, content', right') =
    values_same (kind.reading bytes) (kind.reading others) v w right right' (one_reading kind.reading kind.most told name held bytes others is content content')

-- a file that is too long has no content within the limit
pub not_longer : (most : ℕ) (told : List ℕ → Option (List ℕ)) (name held bytes : List ℕ) → told name ≡ Some held → IsLonger (told name) most → IsContent most told name bytes → ⊥
not_longer most told name held bytes is longer content =
    let over = held_longer most told name held is longer in
    let within = held_within most told name held bytes is content in
    absurd (omega (arith, over, within))

-- the load of a told file is one where no read failed
stops_same : {Value Fault : Type 0} (kind : Kind Value Fault) (told : List ℕ → Option (List ℕ)) (failed : Type 0) (name held : List ℕ) → ¬ failed → told name ≡ Some held → (a b : Outcome)
    → StopsAtLoad kind told failed name a → StopsAtLoad kind told failed name b → a ≡ b
stops_same kind told failed name held steady is a b (inl (inl fault)) second = absurd (steady fault.0)
stops_same kind told failed name held steady is a b (inl (inr long)) (inl (inl fault)) = absurd (steady fault.0)
stops_same kind told failed name held steady is a b (inl (inr long)) (inl (inr long')) = long.1 ∙ sym long'.1
stops_same kind told failed name held steady is a b (inl (inr long)) (inr wrong) = absurd (not_longer kind.most told name held wrong.0 is long.0 wrong.2)
stops_same kind told failed name held steady is a b (inr wrong) (inl (inl fault)) = absurd (steady fault.0)
stops_same kind told failed name held steady is a b (inr wrong) (inl (inr long)) = absurd (not_longer kind.most told name held wrong.0 is long.0 wrong.2)
stops_same kind told failed name held steady is a b (inr wrong) (inr wrong') = Misspells-same kind told name held is a b wrong wrong'

never_stops : {Value Fault : Type 0} (kind : Kind Value Fault) (told : List ℕ → Option (List ℕ)) (failed : Type 0) (name held : List ℕ) → ¬ failed → told name ≡ Some held → (a : Outcome) (value : Value)
    → StopsAtLoad kind told failed name a → IsLoaded kind told name value → ⊥
never_stops kind told failed name held steady is a value (inl (inl fault)) loaded = steady fault.0
never_stops kind told failed name held steady is a value (inl (inr long)) loaded = not_longer kind.most told name held loaded.0 is long.0 loaded.1
never_stops kind told failed name held steady is a value (inr wrong) loaded = Misspells-not_loaded kind told name held is a value wrong loaded

pub one_file : {Value Fault : Type 0} (kind : Kind Value Fault) (told : List ℕ → Option (List ℕ)) (failed : Type 0) (name : List ℕ) → ¬ failed → IsTold told name → IsOneLoad (StopsAtLoad kind told failed name) (IsLoaded kind told name)
one_file kind told failed name steady (held, is) = record {
  stop = stops_same kind told failed name held steady is;
  value = IsLoaded-same kind told name held is;
  never = never_stops kind told failed name held steady is;
}

-- a file that spells a value is told, and loaded as that value
spelled_told : {Value Fault : Type 0} (kind : Kind Value Fault) (told : List ℕ → Option (List ℕ)) (name : List ℕ) → IsSpelled kind told name → IsTold told name
spelled_told kind told name (value, (held, is, short, reads)) = (held, is)

spelled_loaded : {Value Fault : Type 0} (kind : Kind Value Fault) (told : List ℕ → Option (List ℕ)) (name : List ℕ) → IsSpelled kind told name → (value : Value) × IsLoaded kind told name value
spelled_loaded kind told name (value, (held, is, short, reads)) = let P : Option (List ℕ) → Type 0 = λ o. Gives o held in (value, (held, (subst P (sym is) refl, short), reads))

-- ---- what holds of each load

-- where its files are told and no read failed, it stops in one way or gives one value, and not both; and where nothing is at fault in them, it does not stop
pub record IsLawful {Value : Type 0} (load : Loader Value) : Type 1 where
  pub one : (told : List ℕ → Option (List ℕ)) (failed : Type 0) → ¬ failed → load.needs told → IsOneLoad (load.stops told failed) (load.gives told)
  pub never : (told : List ℕ → Option (List ℕ)) (failed : Type 0) → ¬ failed → load.sound told → (outcome : Outcome) → load.stops told failed outcome → ⊥

pub nothing_lawful : IsLawful nothing
nothing_lawful = record {
  one = λ told failed steady is. record { stop = λ a b stopped also. absurd stopped; value = λ v w one other. refl; never = λ a v stopped given. stopped };
  never = λ told failed steady sound outcome stopped. stopped;
}

pub file_lawful : {Value Fault : Type 0} (kind : Kind Value Fault) (name : List ℕ) → IsLawful (file kind name)
file_lawful kind name = record {
  one = λ told failed steady is. one_file kind told failed name steady is;
  never = λ told failed steady sound outcome stopped.
      let found = spelled_loaded kind told name sound in
      (one_file kind told failed name steady (spelled_told kind told name sound)).never outcome found.0 stopped found.1;
}

then_never : {A B : Type 0} (first : Loader A) (next : A → Loader B) → IsLawful first → ((value : A) → IsLawful (next value)) → (told : List ℕ → Option (List ℕ)) (failed : Type 0) → ¬ failed
    → (and_then first next).sound told → (outcome : Outcome) → (and_then first next).stops told failed outcome → ⊥
then_never first next one others told failed steady sound outcome (inl stopped) = one.never told failed steady sound.0 outcome stopped
then_never first next one others told failed steady sound outcome (inr (value, given, stopped)) = (others value).never told failed steady (sound.1 value given) outcome stopped

pub then_lawful : {A B : Type 0} (first : Loader A) (next : A → Loader B) → IsLawful first → ((value : A) → IsLawful (next value)) → IsLawful (and_then first next)
then_lawful first next one others = record {
  one = λ told failed steady needs.
      one_then (first.stops told failed) (first.gives told) (λ value. (next value).stops told failed) (λ value. (next value).gives told)
      (one.one told failed steady needs.0) (λ value. (others value).one told failed steady (needs.1 value));
  never = then_never first next one others;
}

tested_never : {Value : Type 0} (good : Value → Type 0) (bad : Value → Outcome → Type 0) (load : Loader Value) → IsLawful load → ((v : Value) (a : Outcome) → bad v a → good v → ⊥) → (told : List ℕ → Option (List ℕ)) (failed : Type 0) → ¬ failed
    → (tested good bad load).sound told → (outcome : Outcome) → (tested good bad load).stops told failed outcome → ⊥
tested_never good bad load one apart told failed steady sound outcome (inl stopped) = one.never told failed steady sound.0 outcome stopped
tested_never good bad load one apart told failed steady sound outcome (inr (value, given, fault)) = apart value outcome fault (sound.1 value given)

-- where a bad value is named in one way, and no value is good and bad
pub tested_lawful : {Value : Type 0} (good : Value → Type 0) (bad : Value → Outcome → Type 0) (load : Loader Value) → IsLawful load → ((v : Value) (a b : Outcome) → bad v a → bad v b → a ≡ b)
    → ((v : Value) (a : Outcome) → bad v a → good v → ⊥) → IsLawful (tested good bad load)
tested_lawful good bad load one same apart = record {
  one = λ told failed steady needs. one_tested (load.stops told failed) (load.gives told) good bad (one.one told failed steady needs) same apart;
  never = tested_never good bad load one apart;
}

where_value : {Value : Type 0} (holds : Type 0) (stops : Outcome → Type 0) (gives : Value → Type 0) → (holds → IsOneLoad stops gives) → (v w : Option Value) → GivesWhere holds gives v → GivesWhere holds gives w → v ≡ w
where_value holds stops gives one None None first second = refl
where_value holds stops gives one None (Some w) first second = absurd (first second.0)
where_value holds stops gives one (Some v) None first second = absurd (second first.0)
where_value holds stops gives one (Some v) (Some w) first second = ap Some ((one first.0).value v w first.1 second.1)

where_never : {Value : Type 0} (holds : Type 0) (stops : Outcome → Type 0) (gives : Value → Type 0) → (holds → IsOneLoad stops gives) → (a : Outcome) (v : Option Value) → holds × stops a → GivesWhere holds gives v → ⊥
where_never holds stops gives one a None stopped given = given stopped.0
where_never holds stops gives one a (Some v) stopped given = (one given.0).never a v stopped.1 given.1

pub where_lawful : {Value : Type 0} (holds : Type 0) (load : Loader Value) → IsLawful load → IsLawful (only_where holds load)
where_lawful holds load one = record {
  one = λ told failed steady needs.
      let loads = λ (so : holds). one.one told failed steady (needs so) in
      record {
        stop = λ a b first second. (loads first.0).stop a b first.1 second.1;
        value = where_value holds (load.stops told failed) (load.gives told) loads;
        never = where_never holds (load.stops told failed) (load.gives told) loads;
      };
  never = λ told failed steady sound outcome stopped. one.never told failed steady (sound stopped.0) outcome stopped.1;
}

-- ---- reports

-- outcomes that are the same are one
pub same_alike : (choice : Choice) (a b : Outcome) → a ≡ b → AreAlike choice a b
same_alike Exactly a b same = same
same_alike AnyGood a b same = (ap (λ (o : Outcome). o.status) same, inr same)

-- and so are those of work that was done, where any may stand for another
pub done_alike : (a b : Outcome) → a.status ≡ DONE → b.status ≡ DONE → AreAlike AnyGood a b
done_alike a b first second = (first ∙ sym second, inl first)

-- So a load has one report, where what comes after it has one. What comes after may be told otherwise of the two.
pub Loads-same : {Value : Type 0} (choice : Choice) (load : Loader Value) → IsLawful load → (told : List ℕ → Option (List ℕ)) → load.needs told → (after also : Value → Outcome → Type 0)
    → ((v : Value) (a b : Outcome) → after v a → also v b → AreAlike choice a b) → (a b : Outcome) → Loads load after told ⊥ a → Loads load also told ⊥ b → AreAlike choice a b
Loads-same choice load one told needs after also same a b (inl stopped) (inl other) = same_alike choice a b ((one.one told ⊥ (λ never. never) needs).stop a b stopped other)
Loads-same choice load one told needs after also same a b (inl stopped) (inr (v, given, so)) = absurd ((one.one told ⊥ (λ never. never) needs).never a v stopped given)
Loads-same choice load one told needs after also same a b (inr (v, given, so)) (inl stopped) = absurd ((one.one told ⊥ (λ never. never) needs).never b v stopped given)
Loads-same {Value} choice load one told needs after also same a b (inr (v, given, so)) (inr (w, other, too)) =
    let P : Value → Type 0 = λ x. also x b in
    same v a b so (subst P ((one.one told ⊥ (λ never. never) needs).value w v other given) too)
