-- Terminals of two networks, by their names.
use Rattle.std.proofs.Common.{◌≡◌, ◌≢◌, ℕ, ◌<◌, List, [], Option, Some, length, slice_get, option_map, position, unwrap_or, Contains, sym, subst, ap, ◌∙◌, arith}
use Rattle.std.proofs.lemmas.List.{length-map}
use Rattle.std.proofs.lemmas.Option.{slice_get-map, slice_get-get_or, get_or_from_slice_get}
use Rattle.std.specs.Str.{bytes_eq}
use Rattle.bt_frame.specs.declared.numbers.BeamNo.{BeamNo}
use Rattle.bt_frame.specs.declared.numbers.TermNo.{TermNo}
use Rattle.bt_net.specs.Network.{Net, IsSound, names_of}
use Rattle.bt_net.specs.Terminals.{IsTerminal, name_at}
use Rattle.bt_net.proofs.Names.{place_of_name}
use Rattle.bt_demand.specs.declared.demand.Link.{Link}
use Rattle.bt_demand.specs.Demand.{LinkEnds}
use Rattle.bt_export.specs.Carry.{HasEnds, HasNamed}
use Rattle.bt_export.specs.Named.{AreNamed}

-- a terminal's name stands at its place
abbrev name_in : List (List ℕ × BeamNo) → ℕ → Option (List ℕ)
name_in terminals place = option_map (λ t. t.0) (slice_get terminals place)

named_here : (net : Net) (terminal : TermNo) → IsTerminal net terminal → name_in net.terminals terminal.0 ≡ Some (name_at net terminal)
named_here net terminal is =
    let d : List ℕ × BeamNo = ([], record { 0 = 0 }) in
    let at = ap (option_map (λ (t : List ℕ × BeamNo). t.0)) (slice_get-get_or net.terminals terminal.0 d is) in
    at ∙ ap Some (sym (ap (λ (o : Option (List ℕ)). unwrap_or o []) at))

-- the name that is found there is its name
pub name_found : (net : Net) (terminal : TermNo) (name : List ℕ) → option_map (λ t. t.0) (slice_get net.terminals terminal.0) ≡ Some name → name_at net terminal ≡ name
name_found net terminal name is = ap (λ (o : Option (List ℕ)). unwrap_or o []) is

-- terminals of one network with one name are one
pub one_name : (net : Net) (a b : TermNo) → IsSound net → IsTerminal net a → IsTerminal net b → name_at net a ≡ name_at net b → a.0 ≡ b.0
one_name net a b sound is also same =
    let differ = sound.terminals.names.differ in
    let first = place_of_name net.terminals a.0 (name_at net a) differ (named_here net a is) in
    let second = place_of_name net.terminals b.0 (name_at net b) differ (named_here net b also) in
    let one : Some a.0 ≡ Some b.0 = sym first ∙ (ap (λ (name : List ℕ). position (bytes_eq name) (names_of net.terminals)) same ∙ second) in
    ap (λ (o : Option ℕ). unwrap_or o 0) one

-- a network that has a terminal of some name has that name
named_among : (net : Net) (name : List ℕ) → HasNamed net name → Contains (names_of net.terminals) name
named_among net name (terminal, is, named) =
    let within : terminal.0 < length (names_of net.terminals) = omega (arith, is, length-map net.terminals (λ (t : List ℕ × BeamNo). t.0)) in
    let at = slice_get-map (λ (t : List ℕ × BeamNo). t.0) net.terminals terminal.0 ∙ (named_here net terminal is ∙ ap Some named) in
    (terminal.0, within, get_or_from_slice_get (names_of net.terminals) terminal.0 name name at)

-- so it has no name that is none of its names
pub not_named : (net : Net) (name found : List ℕ) → name ≡ found → (Contains (names_of net.terminals) found → ⊥) → HasNamed net name → ⊥
not_named net name found is none has = none (subst (Contains (names_of net.terminals)) is (named_among net name has))

-- ends that have the names of a link's ends are ends there
pub has_ends : (net new : Net) (link : Link) (ends : LinkEnds) → AreNamed net link new ends → HasEnds net new link
has_ends net new link ends named = record { sends = (ends.0, named.sends, named.from); receives = (ends.1, named.receives, named.to) }

-- and they differ as those do
pub ends_differ : (net new : Net) (link : Link) (ends : LinkEnds) → IsSound net → AreNamed net link new ends → IsTerminal net link.from → IsTerminal net link.to
    → link.from.0 ≢ link.to.0 → ends.0.0 ≢ ends.1.0
ends_differ net new link ends sound named sends receives differ same =
    let one : ends.0 ≡ ends.1 = ap (λ (n : ℕ). let t : TermNo = record { 0 = n } in t) same in
    differ (one_name net link.from link.to sound sends receives (sym named.from ∙ (ap (name_at new) one ∙ named.to)))
