-- The terminal of a name, and the name of a terminal.
use Rattle.std.proofs.Common.{◌≡◌, ℕ, ◌<◌, true, false, nat_lt, ◌&&◌, not, ◌==◌, List, [], ◌∷◌, length, get_or, position, Option, Some, None, option_map, unwrap_or, refl, sym, ap, subst, ◌∙◌, true≢false, arith}
use Rattle.std.specs.List.{list_all}
use Rattle.std.specs.Char.{is_ascii_alphabetic}
use Rattle.std.specs.Str.{bytes_eq}
use Rattle.std.proofs.lemmas.Bool.{and_parts}
use Rattle.std.proofs.lemmas.Bool.Decides.{nat_tests}
use Rattle.std.proofs.lemmas.Cmp.{nat_list_eq_equiv}
use Rattle.std.proofs.lemmas.List.{length-map}
use Rattle.std.proofs.lemmas.List.Quantifiers.{position-Some}
use Rattle.std.proofs.lemmas.Option.{slice_get-map, slice_get-get_or}
use Rattle.std.proofs.lemmas.Slice.Eq.{bytes_eq-Decides}
use Rattle.bt_frame.proofs.OneNumber.{numbered}
use Rattle.bt_text.specs.Text.{lacks}
use Rattle.bt_frame.specs.declared.limits.TheConstants.{MOST_NAME_BYTES}
use Rattle.bt_frame.specs.declared.numbers.BeamNo.{BeamNo}
use Rattle.bt_frame.specs.declared.numbers.TermNo.{TermNo}
use Rattle.bt_net.specs.Name.{is_name, is_name_byte, is_reserved}
use Rattle.bt_net.specs.Network.{Net, names_of, IsSound}
use Rattle.bt_net.proofs.Names.{found_name, not_found}
use Rattle.bt_net.specs.Terminals.{name_at, terminal_of}

-- the terminal has the name, and is one of the network's
abbrev pub IsNamed : Net → List ℕ → TermNo → Type 0
IsNamed net name t = (name ≡ name_at net t) × (t.0 < length net.terminals)

some_is : (x y : TermNo) → Some x ≡ Some y → x ≡ y
some_is x y e = cc

found_at : (net : Net) (name : List ℕ) (o : Option ℕ) (t : TermNo) → position (bytes_eq name) (names_of net.terminals) ≡ o → option_map numbered o ≡ Some t → IsNamed net name t
found_at net name None t at is = absurd cc
found_at net name (Some i) t at is =
    let place = position-Some (bytes_eq name) (names_of net.terminals) i name at in
    let named : name ≡ name_at net (numbered i) = sym (ap (λ (o : Option (List ℕ)). unwrap_or o []) (found_name net.terminals name i at)) in
    let within : i < length net.terminals = omega (arith, place.0, length-map net.terminals (λ (u : List ℕ × BeamNo). u.0)) in
    let both : IsNamed net name (numbered i) = (named, within) in
    subst (IsNamed net name) (some_is (numbered i) t is) both

pub terminal_named : (net : Net) (name : List ℕ) (t : TermNo) → terminal_of net name ≡ Some t → IsNamed net name t
terminal_named net name t is = found_at net name (position (bytes_eq name) (names_of net.terminals)) t refl is

-- the name stands in the list of names
name_is : (net : Net) (t : TermNo) (d : List ℕ) → t.0 < length net.terminals → name_at net t ≡ get_or (names_of net.terminals) t.0 d
name_is net t d within =
    ap (λ (o : Option (List ℕ)). unwrap_or o []) (sym (slice_get-map (λ (u : List ℕ × BeamNo). u.0) net.terminals t.0)
    ∙ slice_get-get_or (names_of net.terminals) t.0 d (omega (arith, length-map net.terminals (λ (u : List ℕ × BeamNo). u.0))))

-- the place that is found is the terminal's, since names differ
found_place : (net : Net) (t : TermNo) (o : Option ℕ) → IsSound net → t.0 < length net.terminals → position (bytes_eq (name_at net t)) (names_of net.terminals) ≡ o → option_map numbered o ≡ Some t
found_place net t None sound within at =
    let long : t.0 < length (names_of net.terminals) = omega (arith, length-map net.terminals (λ (u : List ℕ × BeamNo). u.0)) in
    absurd (not_found net.terminals (name_at net t) at (t.0, long, sym (name_is net t (name_at net t) within)))
found_place net t (Some i) sound within at =
    let names = names_of net.terminals in
    let long : t.0 < length names = omega (arith, length-map net.terminals (λ (u : List ℕ × BeamNo). u.0)) in
    let place = position-Some (bytes_eq (name_at net t)) names i [] at in
    let here : name_at net t ≡ get_or names i [] = (bytes_eq-Decides (name_at net t) (get_or names i [])).0 place.1 in
    let same : get_or names i [] ≡ get_or names t.0 [] = sym here ∙ name_is net t [] within in
    let not_before : i < t.0 → ⊥ = λ before. sound.terminals.names.differ i t.0 [] before long same in
    let not_behind : t.0 < i → ⊥ = λ behind. true≢false (sym (nat_list_eq_equiv.refl (name_at net t)) ∙ (ap (bytes_eq (name_at net t)) (name_is net t [] within) ∙ place.2 t.0 behind)) in
    let number : i ≡ t.0 = omega (arith, not_before, not_behind) in
    ap (λ (n : ℕ). Some (numbered n)) number

pub terminal_found : (net : Net) (t : TermNo) → IsSound net → t.0 < length net.terminals → terminal_of net (name_at net t) ≡ Some t
terminal_found net t sound within = found_place net t (position (bytes_eq (name_at net t)) (names_of net.terminals)) sound within refl

-- the name has the shape of one
pub is_name-name_at : (net : Net) (t : TermNo) → IsSound net → t.0 < length net.terminals → is_name (name_at net t) ≡ true
is_name-name_at net t sound within =
    let long : t.0 < length (names_of net.terminals) = omega (arith, length-map net.terminals (λ (u : List ℕ × BeamNo). u.0)) in
    let good = sound.terminals.names.good t.0 [] long in
    let name = get_or (names_of net.terminals) t.0 [] in
    ap is_name (name_is net t [] within) ∙ (and_parts (is_name name) (not (is_reserved name)) good).0

-- a byte that stands in no name
bytes_lack : (byte : ℕ) (bs : List ℕ) → is_name_byte byte ≡ false → list_all is_name_byte bs ≡ true → lacks byte bs ≡ true
bytes_lack byte [] other are = refl
bytes_lack byte (b ∷ bs) other are =
    let parts = and_parts (is_name_byte b) (list_all is_name_byte bs) are in
    let here : not (b == byte) ≡ true = grind (arith, nat_tests, parts.0, other) in
    rw (here, bytes_lack byte bs other parts.1)

pub name_lacks : (byte : ℕ) (word : List ℕ) → is_name_byte byte ≡ false → is_name word ≡ true → lacks byte word ≡ true
name_lacks byte [] other is = refl
name_lacks byte (first ∷ rest) other is =
    let parts = and_parts (is_ascii_alphabetic first && nat_lt (length rest) MOST_NAME_BYTES) (list_all is_name_byte rest) is in
    let letter = (and_parts (is_ascii_alphabetic first) (nat_lt (length rest) MOST_NAME_BYTES) parts.0).0 in
    let here : not (first == byte) ≡ true = grind (arith, nat_tests, letter, other) in
    rw (here, bytes_lack byte rest other parts.1)
