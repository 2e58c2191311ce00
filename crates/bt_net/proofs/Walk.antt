-- A walk that ends well gives good names, and a loop over entries is a walk over them.
use Rattle.std.proofs.Common.{◌≡◌, ◌≢◌, ℕ, ◌+◌, ◌<◌, ◌≤◌, Bool, true, false, List, [], ◌∷◌, ◌++◌, length, get_or, map, drop, position, All, Contains, IsTrue, Option, Some, None, Result, Ok, refl, sym, ap, subst, ◌∙◌, codes, true≢false, arith}
use Rattle.std.specs.List.{list_any}
use Rattle.std.specs.Option.{ok_or}
use Rattle.std.specs.Str.{bytes_eq}
use Rattle.std.proofs.lemmas.Cmp.{nat_list_eq_equiv}
use Rattle.std.proofs.lemmas.List.{drop_more, at_drop_all, map_push}
use Rattle.std.proofs.lemmas.List.Elements.{All-push, Contains-get_or}
use Rattle.std.proofs.lemmas.List.Quantifiers.{all_pairs_push, position-Some}
use Rattle.std.proofs.lemmas.Map.Views.{list_any-from_Contains}
use Rattle.serde_json.specs.Data.{Data}
use Rattle.serde_json.specs.Find.{as_str, as_object}
use Rattle.serde_json.specs.View.{view}
use Rattle.serde_json.specs.declared.value.Value.{Value}
use Rattle.bt_frame.specs.declared.numbers.BeamNo.{BeamNo}
use Rattle.bt_net.specs.declared.fault.NetFault.{NetFault}
use Rattle.bt_net.specs.declared.fault.NetFault.TheVariants.{N1, N2, N3, N4, N5, N6, OutOfMemory}
use Rattle.bt_net.specs.declared.fault.Path.{Path}
use Rattle.bt_net.specs.declared.fault.Path.TheVariants as path
use Rattle.bt_net.specs.Name.{is_name, is_terminal_name}
use Rattle.bt_net.specs.Network.{names_of, AreNames, AreBeams, AreTerminals}
use Rattle.bt_frame.specs.Range.{IsWithin}
use Rattle.bt_text.specs.Reading.{◌>>=◌}
use Rattle.bt_text.proofs.Steps.{bind_ok}
use Rattle.bt_net.specs.Walk.{checked, Fails}
use Rattle.bt_net.specs.Reading.{text_at, numbered, beam_at, with_beam, with_terminal, through}

abbrev done : {A : Type 0} → A → Result A NetFault
done x = Ok x

ok_is : {A : Type 0} (x y : A) → done x ≡ done y → x ≡ y
ok_is x y is = cc

checked_is : (place : Path) (is_good is_taken : Bool) → (x : Unit {0}) → checked place is_good is_taken ≡ Ok x → (is_good ≡ true) × (is_taken ≡ false)
unfolding checked
checked_is place true true x is = absurd cc
checked_is place true false x is = (refl, refl)
checked_is place false is_taken x is = absurd cc

no_names : (is_good : List ℕ → Bool) → AreNames is_good []
no_names is_good = record { good = λ k d lt. absurd (omega arith); differ = λ i j d lt within. absurd (omega arith) }

-- one more name, which is a good one and a new one
pub AreNames-push : (is_good : List ℕ → Bool) (names : List (List ℕ)) (name : List ℕ) → AreNames is_good names → is_good name ≡ true → list_any (bytes_eq name) names ≡ false
    → AreNames is_good (names ++ name ∷ [])
AreNames-push is_good names name are good new = record {
  good = All-push (λ n. IsTrue (is_good n)) names name are.good good;
  differ = all_pairs_push (λ a b. a ≢ b) names name are.differ (λ k d within same. true≢false (sym (list_any-from_Contains nat_list_eq_equiv name names (subst (Contains names) same (Contains-get_or names k d within))) ∙ new));
}

-- ---- a loop over entries

Fails-bind : {A B : Type 0} (fault : NetFault) (r : Result A NetFault) (f : A → Result B NetFault) → Fails fault r → Fails fault (r >>= f)
Fails-bind OutOfMemory r f fails = tt
Fails-bind N1 r f fails = ap (λ x. x >>= f) fails
Fails-bind (N2 place) r f fails = ap (λ x. x >>= f) fails
Fails-bind (N3 place) r f fails = ap (λ x. x >>= f) fails
Fails-bind (N4 place) r f fails = ap (λ x. x >>= f) fails
Fails-bind (N5 place) r f fails = ap (λ x. x >>= f) fails
Fails-bind (N6 place) r f fails = ap (λ x. x >>= f) fails

module _ {A : Type 0} (step : A → Data → Result A NetFault) (values : List Value) (i : ℕ) (total : Result A NetFault) where
  -- what is still to walk, one entry further on
  here : (earlier : A) (value : Value) → i < length values → value ≡ get_or values i value
      → through step earlier (map view (drop i values)) ≡ step earlier (view value) >>= λ more. through step more (map view (drop (i + 1) values))
  unfolding through
  here earlier value within is =
      ap (λ rest. through step earlier (map view rest)) (drop_more values i value within)
      ∙ ap (λ v. step earlier (view v) >>= λ more. through step more (map view (drop (i + 1) values))) (sym is)

  pub goes_on : (earlier more : A) (value : Value) → i < length values → value ≡ get_or values i value → step earlier (view value) ≡ Ok more
      → through step earlier (map view (drop i values)) ≡ total → through step more (map view (drop (i + 1) values)) ≡ total
  goes_on earlier more value within is went so_far =
      sym (here earlier value within is ∙ ap (λ r. r >>= λ x. through step x (map view (drop (i + 1) values))) went) ∙ so_far

  pub stops : (fault : NetFault) (earlier : A) (value : Value) → i < length values → value ≡ get_or values i value → Fails fault (step earlier (view value))
      → through step earlier (map view (drop i values)) ≡ total → Fails fault total
  stops fault earlier value within is fails so_far =
      subst (Fails fault) (sym (here earlier value within is) ∙ so_far) (Fails-bind fault (step earlier (view value)) _ fails)

  pub ends : (earlier : A) → length values ≤ i → through step earlier (map view (drop i values)) ≡ total → total ≡ Ok earlier
  unfolding through
  ends earlier past so_far = sym so_far ∙ at_drop_all (λ rest. through step earlier (map view rest)) values i past

-- what each step keeps holds in the end
pub through-keeps : {A : Type 0} (step : A → Data → Result A NetFault) (P : A → Type 0) → ((earlier : A) (entry : Data) (more : A) → P earlier → step earlier entry ≡ Ok more → P more)
    → (entries : List Data) (earlier last : A) → P earlier → through step earlier entries ≡ Ok last → P last
unfolding through
through-keeps step P keeps [] earlier last holds is = subst P (ok_is earlier last is) holds
through-keeps step P keeps (entry ∷ entries) earlier last holds is =
    let first = bind_ok (step earlier entry) (λ more. through step more entries) last is in
    through-keeps step P keeps entries first.0 last (keeps earlier entry first.0 holds first.1) first.2

-- ---- the names

with_beam-names : (earlier : List (List ℕ)) (entry : Data) (beams : List (List ℕ)) → AreNames is_name earlier → with_beam earlier entry ≡ Ok beams → AreNames is_name beams
unfolding with_beam
with_beam-names earlier entry beams are is =
    let place = path.Beam (length earlier) in
    let text = bind_ok (ok_or (as_str entry) (N2 place)) (λ name. checked place (is_name name) (list_any (bytes_eq name) earlier) >>= λ new. Ok (earlier ++ name ∷ [])) beams is in
    let new = bind_ok (checked place (is_name text.0) (list_any (bytes_eq text.0) earlier)) (λ new. Ok (earlier ++ text.0 ∷ [])) beams text.2 in
    let both = checked_is place (is_name text.0) (list_any (bytes_eq text.0) earlier) new.0 new.1 in
    subst (AreNames is_name) (ok_is (earlier ++ text.0 ∷ []) beams new.2) (AreNames-push is_name earlier text.0 are both.0 both.1)

pub through-beams : (entries : List Data) (beams : List (List ℕ)) → IsWithin 1 32 (length beams) → through with_beam [] entries ≡ Ok beams → AreBeams beams
through-beams entries beams count is = record { count = count; names = through-keeps with_beam (AreNames is_name) with_beam-names entries [] beams (no_names is_name) is }

-- ---- the terminals

numbered-within : (place : Path) (beams : List (List ℕ)) (name : List ℕ) (beam : BeamNo) → numbered place (position (bytes_eq name) beams) ≡ Ok beam → beam.0 < length beams
numbered-within place beams name beam is = by (position (bytes_eq name) beams) refl is
  where
    by : (found : Option ℕ) → position (bytes_eq name) beams ≡ found → numbered place found ≡ Ok beam → beam.0 < length beams
    by None at is = absurd cc
    by (Some number) at is = subst (λ (b : BeamNo). b.0 < length beams) (ok_is (record { 0 = number }) beam is) (position-Some (bytes_eq name) beams number name at).0

beam_at-within : (place : Path) (entry : Data) (beams : List (List ℕ)) (beam : BeamNo) → beam_at place entry beams ≡ Ok beam → beam.0 < length beams
unfolding beam_at
beam_at-within place entry beams beam is =
    let name = bind_ok (text_at place (codes "beam") entry) (λ name. numbered place (position (bytes_eq name) beams)) beam is in
    numbered-within place beams name.0 beam name.2

-- the names are good ones, and each terminal is in a beam
record Are (beams : List (List ℕ)) (terminals : List (List ℕ × BeamNo)) : Type 0 where
  names : AreNames is_terminal_name (names_of terminals)
  in_beam : All (λ terminal. terminal.1.0 < length beams) terminals

Are-push : (beams : List (List ℕ)) (terminals : List (List ℕ × BeamNo)) (name : List ℕ) (beam : BeamNo) → Are beams terminals → is_terminal_name name ≡ true → list_any (bytes_eq name) (names_of terminals) ≡ false → beam.0 < length beams
    → Are beams (terminals ++ (name, beam) ∷ [])
Are-push beams terminals name beam are good new within = record {
  names = subst (AreNames is_terminal_name) (sym (map_push (λ terminal. terminal.0) terminals (name, beam))) (AreNames-push is_terminal_name (names_of terminals) name are.names good new);
  in_beam = All-push (λ terminal. terminal.1.0 < length beams) terminals (name, beam) are.in_beam within;
}

with_terminal-are : (beams : List (List ℕ)) (earlier : List (List ℕ × BeamNo)) (entry : Data) (terminals : List (List ℕ × BeamNo)) → Are beams earlier → with_terminal beams earlier entry ≡ Ok terminals → Are beams terminals
unfolding with_terminal
with_terminal-are beams earlier entry terminals are is =
    let name_place = path.TerminalName (length earlier) in
    let beam_place = path.TerminalBeam (length earlier) in
    let fields = bind_ok (ok_or (as_object entry) (N2 (path.Terminal (length earlier)))) (λ fields. text_at name_place (codes "name") entry >>= λ name. checked name_place (is_terminal_name name) (list_any (bytes_eq name) (names_of earlier)) >>= λ new. beam_at beam_place entry beams >>= λ beam. Ok (earlier ++ (name, beam) ∷ [])) terminals is in
    let name = bind_ok (text_at name_place (codes "name") entry) (λ name. checked name_place (is_terminal_name name) (list_any (bytes_eq name) (names_of earlier)) >>= λ new. beam_at beam_place entry beams >>= λ beam. Ok (earlier ++ (name, beam) ∷ [])) terminals fields.2 in
    let new = bind_ok (checked name_place (is_terminal_name name.0) (list_any (bytes_eq name.0) (names_of earlier))) (λ new. beam_at beam_place entry beams >>= λ beam. Ok (earlier ++ (name.0, beam) ∷ [])) terminals name.2 in
    let beam = bind_ok (beam_at beam_place entry beams) (λ beam. Ok (earlier ++ (name.0, beam) ∷ [])) terminals new.2 in
    let both = checked_is name_place (is_terminal_name name.0) (list_any (bytes_eq name.0) (names_of earlier)) new.0 new.1 in
    subst (Are beams) {x = earlier ++ (name.0, beam.0) ∷ []} (ok_is (earlier ++ (name.0, beam.0) ∷ []) terminals beam.2) (Are-push beams earlier name.0 beam.0 are both.0 both.1 (beam_at-within beam_place entry beams beam.0 beam.1))

through-are : (beams : List (List ℕ)) (entries : List Data) (terminals : List (List ℕ × BeamNo)) → through (with_terminal beams) [] entries ≡ Ok terminals → Are beams terminals
through-are beams entries terminals is =
    through-keeps (with_terminal beams) (Are beams) (with_terminal-are beams) entries [] terminals (record { names = no_names is_terminal_name; in_beam = λ k d lt. absurd (omega arith) }) is

pub through-terminals : (beams : List (List ℕ)) (entries : List Data) (terminals : List (List ℕ × BeamNo)) → IsWithin 1 64 (length terminals) → through (with_terminal beams) [] entries ≡ Ok terminals → AreTerminals beams terminals
through-terminals beams entries terminals count is =
    let are = through-are beams entries terminals is in
    record { count = count; names = are.names; in_beam = are.in_beam }
