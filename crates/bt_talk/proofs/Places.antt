-- The place of the block of a tag among those that are open, and what a line leaves there.
use Rattle.std.proofs.Common.{◌≡◌, ℕ, suc, ◌+◌, ◌<◌, Bool, true, false, cond, List, [], ◌∷◌, ◌++◌, length, get_or, take, drop, Option, Some, None, refl, sym, ap, ◌∙◌, subst, arith}
use Rattle.std.specs.Prelude.{nat_lt, not, option_map, remove}
use Rattle.std.specs.List.{position_or_len}
use Rattle.std.specs.Option.{is_some}
use Rattle.std.proofs.lemmas.List.{append-nil, take-append-drop}
use Rattle.std.proofs.lemmas.List.Elements.{All-cons, All-head, All-nil, All-tail}
use Rattle.bt_text.specs.Text.{is_word}
use Rattle.bt_net.specs.Network.{Net}
use Rattle.bt_script.specs.declared.fault.ScriptCode.TheVariants.{S4, S5}
use Rattle.bt_script.specs.declared.line.ScriptLine.{ScriptLine}
use Rattle.bt_talk.specs.declared.block.Step.{Step}
use Rattle.bt_talk.specs.declared.block.Step.TheVariants as step
use Rattle.bt_talk.specs.declared.blocks.TheConstants.{MOST_OPEN_BLOCKS}
use Rattle.bt_script.specs.declared.sites.Sites.{Sites}
use Rattle.bt_talk.specs.Answers.{count_in}
use Rattle.bt_talk.specs.Block.{IsOwnFor, IsStepFor, Own, wish_row}
use Rattle.bt_talk.specs.Blocks.{IsBlockFor, IsOpenFor, has_room, kept_row, other_row, own_of, with_own, with_said}
use Rattle.bt_talk.specs.Opened.{Open, OpenBlock}
use Rattle.bt_talk.specs.Wishes.{Wished}

-- the place of the block of a tag, or how many are open where that is closed
abbrev pub place_in : List ℕ → Open → ℕ
place_in tag blocks = position_or_len (λ (one : OpenBlock). is_word tag one.tag) blocks

-- where it is closed there is none
none_first : (first : OpenBlock) (rest : Own) (place count : ℕ) (test : Bool) → (place ≡ count → rest ≡ None) → cond (not test) (1 + place) 0 ≡ suc count → cond test (Some first.said) rest ≡ None
none_first first rest place count true none is = absurd cc
none_first first rest place count false none is = none (omega (arith, is))

pub own_none : (tag : List ℕ) (blocks : Open) → place_in tag blocks ≡ length blocks → own_of tag blocks ≡ None
own_none tag [] is = refl
own_none tag (first ∷ blocks) is = none_first first (own_of tag blocks) (place_in tag blocks) (length blocks) (is_word tag first.tag) (own_none tag blocks) is

-- and where it stays closed nothing changes
closed_first : (first : OpenBlock) (said : Own) (rest : Open) (more : Open) (test : Bool) → cond test (Some first.said) said ≡ None → (said ≡ None → more ≡ rest) → cond test (with_said first None ++ rest) (first ∷ more) ≡ first ∷ rest
closed_first first said rest more true none same = absurd cc
closed_first first said rest more false none same = ap (λ (l : Open). first ∷ l) (same none)

pub closed_same : (at : ℕ) (tag : List ℕ) (blocks : Open) → own_of tag blocks ≡ None → with_own at tag blocks None ≡ blocks
closed_same at tag [] none = refl
closed_same at tag (first ∷ blocks) none = closed_first first (own_of tag blocks) blocks (with_own at tag blocks None) (is_word tag first.tag) none (closed_same at tag blocks)

-- where it opens it stands behind the others
new_first : (first new : OpenBlock) (said : Own) (rest more : Open) (own : List ScriptLine) (test : Bool) → cond test (Some first.said) said ≡ None → (said ≡ None → more ≡ rest ++ new ∷ []) → cond test (with_said first (Some own) ++ rest) (first ∷ more) ≡ first ∷ rest ++ new ∷ []
new_first first new said rest more own true none behind = absurd cc
new_first first new said rest more own false none behind = ap (λ (l : Open). first ∷ l) (behind none)

pub new_behind : (at : ℕ) (tag : List ℕ) (blocks : Open) (said : List ScriptLine) → own_of tag blocks ≡ None → with_own at tag blocks (Some said) ≡ blocks ++ record { tag = tag; since = at; said = said } ∷ []
new_behind at tag [] said none = refl
new_behind at tag (first ∷ blocks) said none =
    new_first first (record { tag = tag; since = at; said = said }) (own_of tag blocks) blocks (with_own at tag blocks (Some said)) said (is_word tag first.tag) none (new_behind at tag blocks said)

-- where it is open it stands at its place
some_first : (first d : OpenBlock) (rest : Open) (said : Own) (place next : ℕ) (test : Bool) → next ≡ suc place → (place < length rest → said ≡ Some (get_or rest place d).said) → cond (not test) next 0 < suc (length rest)
    → cond test (Some first.said) said ≡ Some (get_or (first ∷ rest) (cond (not test) next 0) d).said
some_first first d rest said place next true is some within = refl
some_first first d rest said place next false is some within =
    some (omega (arith, within, is)) ∙ ap (λ (n : ℕ). (let found : Own = Some (get_or (first ∷ rest) n d).said in found)) (sym is)

pub own_some : (tag : List ℕ) (blocks : Open) (d : OpenBlock) → place_in tag blocks < length blocks → own_of tag blocks ≡ Some (get_or blocks (place_in tag blocks) d).said
own_some tag [] d within = absurd (omega (arith, within))
own_some tag (first ∷ blocks) d within =
    some_first first d blocks (own_of tag blocks) (place_in tag blocks) (1 + place_in tag blocks) (is_word tag first.tag) (omega arith) (own_some tag blocks d) within

-- the blocks where the one at a place is so
abbrev pub put_at : ℕ → OpenBlock → Open → Own → Open
put_at place d blocks own = take place (remove blocks place) ++ with_said (get_or blocks place d) own ++ drop place (remove blocks place)

put_first : (first d : OpenBlock) (rest more : Open) (own : Own) (place next : ℕ) (test : Bool) → next ≡ suc place → (place < length rest → more ≡ put_at place d rest own) → cond (not test) next 0 < suc (length rest)
    → cond test (with_said first own ++ rest) (first ∷ more) ≡ put_at (cond (not test) next 0) d (first ∷ rest) own
put_first first d rest more own place next true is put within = refl
put_first first d rest more own place next false is put within =
    ap (λ (l : Open). first ∷ l) (put (omega (arith, within, is))) ∙ ap (λ (n : ℕ). put_at n d (first ∷ rest) own) (sym is)

pub with_at : (at : ℕ) (tag : List ℕ) (blocks : Open) (d : OpenBlock) (own : Own) → place_in tag blocks < length blocks → with_own at tag blocks own ≡ put_at (place_in tag blocks) d blocks own
with_at at tag [] d own within = absurd (omega (arith, within))
with_at at tag (first ∷ blocks) d own within =
    put_first first d blocks (with_own at tag blocks own) own (place_in tag blocks) (1 + place_in tag blocks) (is_word tag first.tag) (omega arith) (with_at at tag blocks d own) within

-- the lines that a block had do not matter to those that it has
pub said_alone : (tag : List ℕ) (since : ℕ) (before other : List ScriptLine) (own : Own) → with_said (record { tag = tag; since = since; said = before }) own ≡ with_said (record { tag = tag; since = since; said = other }) own
said_alone tag since before other None = refl
said_alone tag since before other (Some said) = refl

-- what a line leaves of an open block stands at its place
pub kept_at : (at : ℕ) (tag : List ℕ) (blocks : Open) (d : OpenBlock) (own : Own) (stp : Step) → place_in tag blocks < length blocks
    → kept_row at tag blocks (own, stp) ≡ (put_at (place_in tag blocks) d blocks own, stp)
kept_at at tag blocks d own stp within =
    ap (λ (o : Own). cond (has_room blocks o own) (with_own at tag blocks own, stp) (blocks, step.Fault S5)) (own_some tag blocks d within)
    ∙ ap (λ (l : Open). (let row : Open × Step = (l, stp) in row)) (with_at at tag blocks d own within)

-- what it leaves of one that was closed and is
pub kept_closed : (at : ℕ) (tag : List ℕ) (blocks : Open) (stp : Step) → own_of tag blocks ≡ None → kept_row at tag blocks (None, stp) ≡ (blocks, stp)
kept_closed at tag blocks stp none =
    ap (λ (o : Own). cond (has_room blocks o None) (with_own at tag blocks None, stp) (blocks, step.Fault S5)) none
    ∙ ap (λ (l : Open). (let row : Open × Step = (l, stp) in row)) (closed_same at tag blocks none)

-- and of one that it opens, where it finds room, and where it finds none
pub kept_new : (at : ℕ) (tag : List ℕ) (blocks : Open) (said : List ScriptLine) (stp : Step) → own_of tag blocks ≡ None → nat_lt (length blocks) MOST_OPEN_BLOCKS ≡ true
    → kept_row at tag blocks (Some said, stp) ≡ (blocks ++ record { tag = tag; since = at; said = said } ∷ [], stp)
kept_new at tag blocks said stp none room =
    ap (λ (o : Own). cond (has_room blocks o (Some said)) (with_own at tag blocks (Some said), stp) (blocks, step.Fault S5)) none
    ∙ ap (λ (b : Bool). cond b (with_own at tag blocks (Some said), stp) (blocks, step.Fault S5)) room
    ∙ ap (λ (l : Open). (let row : Open × Step = (l, stp) in row)) (new_behind at tag blocks said none)

pub kept_full : (at : ℕ) (tag : List ℕ) (blocks : Open) (said : List ScriptLine) (stp : Step) → own_of tag blocks ≡ None → nat_lt (length blocks) MOST_OPEN_BLOCKS ≡ false
    → kept_row at tag blocks (Some said, stp) ≡ (blocks, step.Fault S5)
kept_full at tag blocks said stp none full =
    ap (λ (o : Own). cond (has_room blocks o (Some said)) (with_own at tag blocks (Some said), stp) (blocks, step.Fault S5)) none
    ∙ ap (λ (b : Bool). cond b (with_own at tag blocks (Some said), stp) (blocks, step.Fault S5)) full

-- nothing is put back of one that is closed
put_none : (place : ℕ) (d : OpenBlock) (blocks : Open) → put_at place d blocks None ≡ remove blocks place
put_none place d blocks = ap (λ (l : Open). l ++ drop place (remove blocks place)) (append-nil (take place (remove blocks place))) ∙ take-append-drop place (remove blocks place)

-- another's block is given up, where it is open, and where it is not
pub other_at : (other : List ℕ) (blocks : Open) (d : OpenBlock) → place_in other blocks < length blocks → other_row blocks other ≡ (remove blocks (place_in other blocks), step.Nothing)
other_at other blocks d within =
    let place = place_in other blocks in
    ap (λ (o : Own). cond (is_some o) (with_own 0 other blocks None, step.Nothing) (blocks, step.Fault S4)) (own_some other blocks d within)
    ∙ ap (λ (l : Open). (let row : Open × Step = (l, step.Nothing) in row)) (with_at 0 other blocks d None within ∙ put_none place d blocks)

pub other_none : (other : List ℕ) (blocks : Open) → place_in other blocks ≡ length blocks → other_row blocks other ≡ (blocks, step.Fault S4)
other_none other blocks none =
    ap (λ (o : Own). cond (is_some o) (with_own 0 other blocks None, step.Nothing) (blocks, step.Fault S4)) (own_none other blocks none)

-- the blocks name terminals of the network alone; so does each of them
own_for_first : (net : Net) (first : OpenBlock) (said : Own) (test : Bool) → IsBlockFor net first → IsOwnFor net said → IsOwnFor net (cond test (Some first.said) said)
own_for_first net first said true named rest = named
own_for_first net first said false named rest = rest

pub own_for : (net : Net) (tag : List ℕ) (blocks : Open) → IsOpenFor net blocks → IsOwnFor net (own_of tag blocks)
own_for net tag [] named = tt
own_for net tag (first ∷ blocks) named =
    own_for_first net first (own_of tag blocks) (is_word tag first.tag) (All-head (IsBlockFor net) first blocks named) (own_for net tag blocks (All-tail (IsBlockFor net) first blocks named))

-- so do those behind a line
said_for : (net : Net) (first : OpenBlock) (own : Own) (blocks : Open) → IsOwnFor net own → IsOpenFor net blocks → IsOpenFor net (with_said first own ++ blocks)
said_for net first None blocks named rest = rest
said_for net first (Some said) blocks named rest = All-cons (IsBlockFor net) (record { tag = first.tag; since = first.since; said = said }) blocks named rest

with_for_first : (net : Net) (first : OpenBlock) (own : Own) (rest more : Open) (test : Bool) → IsOwnFor net own → IsBlockFor net first → IsOpenFor net rest → IsOpenFor net more
    → IsOpenFor net (cond test (with_said first own ++ rest) (first ∷ more))
with_for_first net first own rest more true named is others behind = said_for net first own rest named others
with_for_first net first own rest more false named is others behind = All-cons (IsBlockFor net) first more is behind

pub with_for : (net : Net) (at : ℕ) (tag : List ℕ) (blocks : Open) (own : Own) → IsOpenFor net blocks → IsOwnFor net own → IsOpenFor net (with_own at tag blocks own)
with_for net at tag [] None others named = All-nil (IsBlockFor net)
with_for net at tag [] (Some said) others named = All-cons (IsBlockFor net) (record { tag = tag; since = at; said = said }) [] named (All-nil (IsBlockFor net))
with_for net at tag (first ∷ blocks) own others named =
    let rest = All-tail (IsBlockFor net) first blocks others in
    with_for_first net first own blocks (with_own at tag blocks own) (is_word tag first.tag) named (All-head (IsBlockFor net) first blocks others) rest (with_for net at tag blocks own rest named)

kept_for_test : (net : Net) (behind blocks : Open) (stp : Step) (test : Bool) → IsOpenFor net behind → IsOpenFor net blocks → IsOpenFor net (cond {A = Open × Step} test (behind, stp) (blocks, step.Fault S5)).0
kept_for_test net behind blocks stp true then others = then
kept_for_test net behind blocks stp false then others = others

pub kept_for : (net : Net) (at : ℕ) (tag : List ℕ) (blocks : Open) (row : Own × Step) → IsOpenFor net blocks → IsOwnFor net row.0 → IsOpenFor net (kept_row at tag blocks row).0
kept_for net at tag blocks row others named =
    kept_for_test net (with_own at tag blocks row.0) blocks row.1 (has_room blocks (own_of tag blocks) row.0) (with_for net at tag blocks row.0 others named) others

other_for_test : (net : Net) (behind blocks : Open) (test : Bool) → IsOpenFor net behind → IsOpenFor net blocks → IsOpenFor net (cond {A = Open × Step} test (behind, step.Nothing) (blocks, step.Fault S4)).0
other_for_test net behind blocks true then others = then
other_for_test net behind blocks false then others = others

pub other_for : (net : Net) (other : List ℕ) (blocks : Open) → IsOpenFor net blocks → IsOpenFor net (other_row blocks other).0
other_for net other blocks others = other_for_test net (with_own 0 other blocks None) blocks (is_some (own_of other blocks)) (with_for net 0 other blocks None others tt) others

-- the step that a line in its own block comes to, or a fault
step_for_test : (net : Net) (behind blocks : Open) (stp : Step) (test : Bool) → IsStepFor net stp → IsStepFor net (cond {A = Open × Step} test (behind, stp) (blocks, step.Fault S5)).1
step_for_test net behind blocks stp true named = named
step_for_test net behind blocks stp false named = tt

-- what a line comes to in the block of its tag names terminals of the network alone
pub open_for : (net : Net) (sites : Sites) (at : ℕ) (tag text : List ℕ) (wished : Option Wished) (blocks : Open) (own : Own) (stp : Step) (on : Open × Step) → (let row : Own × Step = (own, stp) in row ≡ wish_row net sites (own_of tag blocks) text wished)
    → on ≡ kept_row at tag blocks (wish_row net sites (own_of tag blocks) text wished) → IsOpenFor net blocks → IsOwnFor net own → IsOpenFor net on.0
open_for net sites at tag text wished blocks own stp on row is others named =
    subst (λ (r : Open × Step). IsOpenFor net r.0) (sym (is ∙ ap (kept_row at tag blocks) (sym row))) (kept_for net at tag blocks (own, stp) others named)

pub step_for : (net : Net) (sites : Sites) (at : ℕ) (tag text : List ℕ) (wished : Option Wished) (blocks : Open) (own : Own) (stp : Step) (on : Open × Step) → (let row : Own × Step = (own, stp) in row ≡ wish_row net sites (own_of tag blocks) text wished)
    → on ≡ kept_row at tag blocks (wish_row net sites (own_of tag blocks) text wished) → IsStepFor net stp → IsStepFor net on.1
step_for net sites at tag text wished blocks own stp on row is named =
    subst (λ (r : Open × Step). IsStepFor net r.1) (sym (is ∙ ap (kept_row at tag blocks) (sym row))) (step_for_test net (with_own at tag blocks own) blocks stp (has_room blocks (own_of tag blocks) own) named)

-- where the block was closed
pub row_closed : (net : Net) (sites : Sites) (tag text : List ℕ) (wished : Option Wished) (blocks : Open) (own closed : Own) (stp : Step) → closed ≡ None → own_of tag blocks ≡ None → (let row : Own × Step = (own, stp) in row ≡ wish_row net sites closed text wished)
    → (let row : Own × Step = (own, stp) in row ≡ wish_row net sites (own_of tag blocks) text wished)
row_closed net sites tag text wished blocks own closed stp is none row = row ∙ ap (λ (o : Own). wish_row net sites o text wished) (is ∙ sym none)

-- where it was open
pub row_open : (net : Net) (sites : Sites) (tag text : List ℕ) (wished : Option Wished) (blocks : Open) (seen d : OpenBlock) (own before : Own) (stp : Step) (place : ℕ) → place ≡ place_in tag blocks → place < length blocks → seen ≡ get_or blocks place d
    → before ≡ Some seen.said → (let row : Own × Step = (own, stp) in row ≡ wish_row net sites before text wished) → (let row : Own × Step = (own, stp) in row ≡ wish_row net sites (own_of tag blocks) text wished)
row_open net sites tag text wished blocks seen d own before stp place at_it within seen_is said row =
    let there : own_of tag blocks ≡ Some seen.said =
    own_some tag blocks d (subst (λ (n : ℕ). n < length blocks) at_it within)
    ∙ ap (λ (n : ℕ). (let found : Own = Some (get_or blocks n d).said in found)) (sym at_it)
    ∙ ap (λ (one : OpenBlock). (let found : Own = Some one.said in found)) (sym seen_is) in
    row ∙ ap (λ (o : Own). wish_row net sites o text wished) (said ∙ sym there)

-- what was put back then is the row
pub put_back_row : (net : Net) (sites : Sites) (at : ℕ) (tag text : List ℕ) (wished : Option Wished) (blocks after : Open) (seen d : OpenBlock) (own : Own) (stp : Step) (place : ℕ) → place ≡ place_in tag blocks → place < length blocks → seen ≡ get_or blocks place d
    → (let row : Own × Step = (own, stp) in row ≡ wish_row net sites (own_of tag blocks) text wished)
    → after ≡ take place (remove blocks place) ++ with_said (record { tag = seen.tag; since = seen.since; said = [] }) own ++ drop place (remove blocks place)
    → (let row : Open × Step = (after, stp) in row ≡ kept_row at tag blocks (wish_row net sites (own_of tag blocks) text wished))
put_back_row net sites at tag text wished blocks after seen d own stp place at_it within seen_is row after_is =
    let rest = remove blocks place in
    let put : after ≡ put_at (place_in tag blocks) d blocks own =
    after_is
    ∙ ap (λ (w : Open). take place rest ++ w ++ drop place rest) (said_alone seen.tag seen.since [] seen.said own ∙ ap (λ (one : OpenBlock). with_said one own) seen_is)
    ∙ ap (λ (n : ℕ). put_at n d blocks own) at_it in
    ap (λ (l : Open). (let on : Open × Step = (l, stp) in on)) put
    ∙ sym (kept_at at tag blocks d own stp (subst (λ (n : ℕ). n < length blocks) at_it within))
    ∙ ap (kept_row at tag blocks) row

-- how many lines wait in a block
pub count_none : (tag : List ℕ) (blocks self : Open) → blocks ≡ self → place_in tag blocks ≡ length blocks → None ≡ count_in tag self
count_none tag blocks self same none = sym (ap (option_map (λ (said : List ScriptLine). length said)) (ap (own_of tag) (sym same) ∙ own_none tag blocks none))

pub count_some : (tag : List ℕ) (blocks self : Open) (one d : OpenBlock) (place : ℕ) → blocks ≡ self → place ≡ place_in tag blocks → place < length blocks → one ≡ get_or blocks place d → (count : ℕ) → count ≡ length one.said
    → Some count ≡ count_in tag self
count_some tag blocks self one d place same at_it within one_is count is =
    let there : own_of tag self ≡ Some one.said =
    ap (own_of tag) (sym same)
    ∙ own_some tag blocks d (subst (λ (n : ℕ). n < length blocks) at_it within)
    ∙ ap (λ (n : ℕ). (let found : Own = Some (get_or blocks n d).said in found)) (sym at_it)
    ∙ ap (λ (b : OpenBlock). (let found : Own = Some b.said in found)) (sym one_is) in
    ap Some is ∙ sym (ap (option_map (λ (said : List ScriptLine). length said)) there)

-- a block is given up
pub forgets_none : (other : List ℕ) (blocks self : Open) → blocks ≡ self → place_in other blocks ≡ length blocks → (let on : Open × Step = (blocks, step.Fault S4) in on) ≡ other_row self other
forgets_none other blocks self same none = sym (ap (λ (l : Open). other_row l other) (sym same) ∙ other_none other blocks none)

pub forgets_at : (other : List ℕ) (blocks self after : Open) (d : OpenBlock) (place : ℕ) → blocks ≡ self → place ≡ place_in other blocks → place < length blocks → after ≡ remove blocks place
    → (let on : Open × Step = (after, step.Nothing) in on) ≡ other_row self other
forgets_at other blocks self after d place same at_it within is =
    ap (λ (l : Open). (let on : Open × Step = (l, step.Nothing) in on)) (is ∙ ap (remove blocks) at_it)
    ∙ sym (ap (λ (l : Open). other_row l other) (sym same) ∙ other_at other blocks d (subst (λ (n : ℕ). n < length blocks) at_it within))
