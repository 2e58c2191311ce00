-- What is read as an edition or as bursts is spelled as they are, and is in range.
use Rattle.std.proofs.Common.{◌≡◌, ℕ, ◌+◌, ◌≤◌, Bool, true, false, cond, leb, codes, decimal, List, [], ◌∷◌, ◌++◌, map, All, AllPairs, Option, Some, None, option_map, option_and_then, Ok, refl, sym, ap, subst, ◌∙◌, arith, lit<}
use Rattle.std.proofs.lemmas.Bool.{leb-true}
use Rattle.std.proofs.lemmas.List.Elements.{All-cons, All-nil}
use Rattle.std.proofs.lemmas.List.Kept.{AllPairs-cons}
use Rattle.std.proofs.lemmas.Option.{cond_some, option_and_then_some}
use Rattle.bt_text.specs.Reading.{◌>>=◌, or_fault}
use Rattle.bt_text.specs.Text.{words, spaced, is_word}
use Rattle.bt_frame.specs.declared.numbers.EditionNo.{EditionNo}
use Rattle.bt_frame.specs.declared.numbers.TermNo.{TermNo}
use Rattle.bt_text.proofs.TextLines.{spaced-words}
use Rattle.bt_net.specs.Network.{Net}
use Rattle.bt_demand.specs.declared.burst.Burst.{Burst}
use Rattle.bt_plan.specs.declared.text_fault.TextCode.TheVariants.{P1, P2}
use Rattle.bt_demand.specs.Burst.{IsNotAfter}
use Rattle.bt_demand.proofs.BurstOrder.{IsNotAfter-then}
use Rattle.bt_demand.specs.Demand.{LinkEnds}
use Rattle.bt_plan.specs.PlanSpelling.{edition_line, burst_line, IsBurstInRange}
use Rattle.bt_plan.specs.PlanText.{edition_in, span_of, span_in, burst_with, burst_between, burst_behind, burst_in, burst_below, plan_end, bursts_in}
use Rattle.bt_plan.specs.Reading.{Fault}
use Rattle.bt_text.specs.WordReader.{number_to}
use Rattle.bt_plan.specs.TerminalNames.{ends_in}
use Rattle.bt_net.specs.Terminals.{name_at, terminal_of}
use Rattle.bt_net.specs.Name.{are_names}
use Rattle.bt_plan.proofs.NamedTerminals.{IsNamed, terminal_named}
use Rattle.bt_plan.proofs.OneText.{let_through, or_fault_ok, is_word-same, number_to-spelled}
use Rattle.bt_plan.proofs.PlanLines.{Follows, burst_below-ok}
use Rattle.bt_text.proofs.Steps.{bind_ok, passed}
use Rattle.bt_plan.proofs.Spelled.{ok_is}

-- the edition
numbered : (o : Option ℕ) (edition : EditionNo) → option_map (λ (n : ℕ). let e : EditionNo = record { 0 = n } in e) o ≡ Some edition → o ≡ Some edition.0
numbered None edition is = absurd cc
numbered (Some n) edition is = let same : n ≡ edition.0 = cc in ap (λ (m : ℕ). Some m) same

pub edition_spelled : (ws : List (List ℕ)) (edition : EditionNo) → edition_in ws ≡ Some edition → (spaced ws ≡ edition_line edition) × (edition.0 ≤ 4294967295)
edition_spelled [] edition is = absurd cc
edition_spelled (name ∷ []) edition is = absurd cc
edition_spelled (name ∷ word ∷ []) edition is =
    let named = let_through (is_word (codes "plan") name) (option_map (λ (n : ℕ). let e : EditionNo = record { 0 = n } in e) (number_to 4294967295 word)) edition is in
    let number = number_to-spelled 4294967295 word edition.0 (lit< tt) (numbered (number_to 4294967295 word) edition named.1) in
    (ap (λ w. spaced (w ∷ word ∷ [])) (is_word-same (codes "plan") name named.0) ∙ ap (λ w. spaced (codes "plan" ∷ w ∷ [])) number.0, number.1)
edition_spelled (name ∷ word ∷ more ∷ rest) edition is = absurd cc

-- the numbers of a burst
record IsSpan (start slots : List ℕ) (span : ℕ × ℕ) : Type 0 where
  start_is : start ≡ decimal span.0
  slots_is : slots ≡ decimal span.1
  begins : span.0 ≤ 65535
  some : 1 ≤ span.1
  few : span.1 ≤ 65536

span_spelled : (start slots : List ℕ) (span : ℕ × ℕ) → span_in start slots ≡ Some span → IsSpan start slots span
span_spelled start slots span is =
    option_and_then_some (λ first. option_and_then (span_of first) (number_to 65536 slots)) (number_to 65535 start) span is (λ first first_read more.
    option_and_then_some (span_of first) (number_to 65536 slots) span more (λ count count_read made.
    let begins = number_to-spelled 65535 start first (lit< tt) first_read in
    let long = number_to-spelled 65536 slots count (lit< tt) count_read in
    let tested = cond_some (leb 1 count) (first, count) span made in
    let here : IsSpan start slots (first, count) = record { start_is = begins.0; slots_is = long.0; begins = begins.1; some = leb-true 1 count tested.0; few = long.1 } in
    subst (IsSpan start slots) tested.1 here))

-- the terminals of a burst
ends_named : (net : Net) (fault : Fault) (from to : List ℕ) (ends : LinkEnds) → ends_in net fault from to ≡ Ok ends → IsNamed net from ends.0 × IsNamed net to ends.1
ends_named net fault from to ends is =
    let second = λ (f : TermNo). or_fault fault (terminal_of net to) >>= λ t. Ok (f, t) in
    let first = bind_ok (or_fault fault (terminal_of net from)) second ends is in
    let rest = bind_ok (or_fault fault (terminal_of net to)) (λ t. Ok (first.0, t)) ends first.2 in
    let f = terminal_named net from first.0 (or_fault_ok fault.0 fault.1 (terminal_of net from) first.0 first.1) in
    let t = terminal_named net to rest.0 (or_fault_ok fault.0 fault.1 (terminal_of net to) rest.0 rest.1) in
    subst (λ (e : LinkEnds). IsNamed net from e.0 × IsNamed net to e.1) (ok_is (first.0, rest.0) ends rest.2) (f, t)

-- a burst
abbrev IsBurstLine : Net → List (List ℕ) → Burst → Type 0
IsBurstLine net ws burst = (spaced ws ≡ burst_line net burst) × IsBurstInRange net burst

burst_of : (net : Net) (start slots from to : List ℕ) (span : ℕ × ℕ) (ends : LinkEnds) → IsSpan start slots span → IsNamed net from ends.0 → IsNamed net to ends.1
    → IsBurstLine net (codes "burst" ∷ start ∷ slots ∷ from ∷ to ∷ []) (record { from = ends.0; to = ends.1; start = span.0; length = span.1 })
burst_of net start slots from to span ends numbers f t = (
  ap (λ w. spaced (codes "burst" ∷ w ∷ slots ∷ from ∷ to ∷ [])) numbers.start_is
      ∙ (ap (λ w. spaced (codes "burst" ∷ decimal span.0 ∷ w ∷ from ∷ to ∷ [])) numbers.slots_is
      ∙ (ap (λ w. spaced (codes "burst" ∷ decimal span.0 ∷ decimal span.1 ∷ w ∷ to ∷ [])) f.0
      ∙ ap (λ w. spaced (codes "burst" ∷ decimal span.0 ∷ decimal span.1 ∷ name_at net ends.0 ∷ w ∷ [])) t.0)),
  record { start = numbers.begins; some = numbers.some; few = numbers.few; sends = f.1; receives = t.1 },
)

between_spelled : (net : Net) (at : ℕ) (start slots : List ℕ) (span : ℕ × ℕ) (ws : List (List ℕ)) (burst : Burst) → IsSpan start slots span → burst_between net at span ws ≡ Ok burst
    → IsBurstLine net (codes "burst" ∷ start ∷ slots ∷ ws) burst
between_spelled net at start slots span [] burst numbers is = absurd cc
between_spelled net at start slots span (from ∷ []) burst numbers is = absurd cc
between_spelled net at start slots span (from ∷ to ∷ []) burst numbers is =
    let made : LinkEnds → Burst = λ e. record { from = e.0; to = e.1; start = span.0; length = span.1 } in
    let shaped = passed (are_names from to) (P1, at) (burst_with net at span from to) burst is in
    let ends = bind_ok (ends_in net (P2, at) from to) (λ e. Ok (made e)) burst shaped.1 in
    let named = ends_named net (P2, at) from to ends.0 ends.1 in
    subst (IsBurstLine net (codes "burst" ∷ start ∷ slots ∷ from ∷ to ∷ [])) (ok_is (made ends.0) burst ends.2) (burst_of net start slots from to span ends.0 numbers named.0 named.1)
between_spelled net at start slots span (from ∷ to ∷ more ∷ rest) burst numbers is = absurd cc

behind_spelled : (net : Net) (at : ℕ) (ws : List (List ℕ)) (burst : Burst) → burst_behind net at ws ≡ Ok burst → IsBurstLine net (codes "burst" ∷ ws) burst
behind_spelled net at [] burst is = absurd cc
behind_spelled net at (start ∷ []) burst is = absurd cc
behind_spelled net at (start ∷ slots ∷ ends) burst is =
    let span = bind_ok (or_fault (P1, at) (span_in start slots)) (λ s. burst_between net at s ends) burst is in
    between_spelled net at start slots span.0 ends burst (span_spelled start slots span.0 (or_fault_ok P1 at (span_in start slots) span.0 span.1)) span.2

burst_spelled : (net : Net) (at : ℕ) (ws : List (List ℕ)) (burst : Burst) → burst_in net at ws ≡ Ok burst → IsBurstLine net ws burst
burst_spelled net at [] burst is = absurd cc
burst_spelled net at (name ∷ rest) burst is =
    let named = passed (is_word (codes "burst") name) (P1, at) (burst_behind net at rest) burst is in
    let behind = behind_spelled net at rest burst named.1 in
    (ap (λ w. spaced (w ∷ rest)) (is_word-same (codes "burst") name named.0) ∙ behind.0, behind.1)

-- the lines of bursts and of the end, with what stands behind the last newline
abbrev pub lines_from_bursts : Net → List Burst → List (List ℕ)
lines_from_bursts net bursts = map (burst_line net) bursts ++ codes "end" ∷ [] ∷ []

-- these bursts follow the one above, if there is one
abbrev pub AllFollow : Option Burst → List Burst → Type 0
AllFollow None bursts = Unit {0}
AllFollow (Some above) bursts = All (IsNotAfter above) bursts

pub record AreBursts (net : Net) (above : Option Burst) (ls : List (List ℕ)) (bursts : List Burst) : Type 0 where
  pub spelled : ls ≡ lines_from_bursts net bursts
  pub range : All (IsBurstInRange net) bursts
  pub ordered : AllPairs IsNotAfter bursts
  pub follow : AllFollow above bursts

end_spelled : (net : Net) (at : ℕ) (above : Option Burst) (ls : List (List ℕ)) (bursts : List Burst) → plan_end at ls ≡ Ok bursts → AreBursts net above (codes "end" ∷ ls) bursts
end_spelled net at above [] bursts is = absurd cc
end_spelled net at above ([] ∷ []) bursts is = subst (AreBursts net above (codes "end" ∷ [] ∷ [])) (ok_is [] bursts is) (record {
  spelled = refl;
  range = All-nil (IsBurstInRange net);
  ordered = λ i j d lt within. absurd (omega arith);
  follow = none_follow above;
})
  where
    none_follow : (o : Option Burst) → AllFollow o []
    none_follow None = tt
    none_follow (Some a) = All-nil (IsNotAfter a)
end_spelled net at above ([] ∷ next ∷ rest) bursts is = absurd cc
end_spelled net at above ((b ∷ line) ∷ rest) bursts is = absurd cc

follow_more : (above : Option Burst) (first : Burst) (rest : List Burst) → Follows above first → All (IsNotAfter first) rest → AllFollow above (first ∷ rest)
follow_more None first rest here behind = tt
follow_more (Some above) first rest here behind = All-cons (IsNotAfter above) first rest here (λ k d within. IsNotAfter-then above first _ here (behind k d within))

next_burst : (net : Net) (at : ℕ) (above : Option Burst) (line : List ℕ) (ls : List (List ℕ)) (bursts : List Burst) (at_end : Bool) → is_word (codes "end") line ≡ at_end
    → cond at_end (plan_end (at + 1) ls) (burst_below net at above (words line) >>= λ burst. bursts_in net (at + 1) (Some burst) ls >>= λ others. Ok (burst ∷ others)) ≡ Ok bursts
    → ((burst : Burst) (others : List Burst) → bursts_in net (at + 1) (Some burst) ls ≡ Ok others → AreBursts net (Some burst) ls others) → AreBursts net above (line ∷ ls) bursts
next_burst net at above line ls bursts true named is behind =
    subst (λ (l : List ℕ). AreBursts net above (l ∷ ls) bursts) (sym (is_word-same (codes "end") line named)) (end_spelled net (at + 1) above ls bursts is)
next_burst net at above line ls bursts false named is behind =
    let first = bind_ok (burst_below net at above (words line)) (λ burst. bursts_in net (at + 1) (Some burst) ls >>= λ others. Ok (burst ∷ others)) bursts is in
    let rest = bind_ok (bursts_in net (at + 1) (Some first.0) ls) (λ others. Ok (first.0 ∷ others)) bursts first.2 in
    let taken = burst_below-ok net at above (words line) first.0 first.1 in
    let here = burst_spelled net at (words line) first.0 taken.0 in
    let others = behind first.0 rest.0 rest.1 in
    let line_is : line ≡ burst_line net first.0 = sym (spaced-words line) ∙ here.0 in
    subst (AreBursts net above (line ∷ ls)) (ok_is (first.0 ∷ rest.0) bursts rest.2) (record {
      spelled = ap (λ (l : List ℕ). l ∷ ls) line_is ∙ ap (λ (more : List (List ℕ)). burst_line net first.0 ∷ more) others.spelled;
      range = All-cons (IsBurstInRange net) first.0 rest.0 here.1 others.range;
      ordered = AllPairs-cons IsNotAfter first.0 rest.0 others.follow others.ordered;
      follow = follow_more above first.0 rest.0 taken.1 others.follow;
    })

pub bursts_spelled : (net : Net) (at : ℕ) (above : Option Burst) (ls : List (List ℕ)) (bursts : List Burst) → bursts_in net at above ls ≡ Ok bursts → AreBursts net above ls bursts
bursts_spelled net at above [] bursts is = absurd cc
bursts_spelled net at above (line ∷ []) bursts is = absurd cc
bursts_spelled net at above (line ∷ next ∷ rest) bursts is =
    next_burst net at above line (next ∷ rest) bursts (is_word (codes "end") line) refl is (λ burst others read. bursts_spelled net (at + 1) (Some burst) (next ∷ rest) others read)
