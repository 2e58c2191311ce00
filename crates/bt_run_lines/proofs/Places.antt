-- Words and places, one after the other, as a loop goes over them.
use Rattle.std.proofs.Common.{◌≡◌, ℕ, ◌+◌, ◌<◌, ◌≤◌, Bool, true, false, cond, Option, Some, None, List, [], ◌∷◌, ◌++◌, length, get_or, drop, option_map, refl, sym, ap, ◌∙◌, append_assoc, append-nil, length-append, subst, not, arith}
use Rattle.std.proofs.lemmas.List.Sums.{sum_by-cons}
use Rattle.bt_text.specs.Text.{is_word}
use Rattle.bt_text.specs.WordReader.{first_word}
use Rattle.bt_text.proofs.Fronts.{front_word}
use Rattle.bt_net.specs.Network.{Net}
use Rattle.bt_run_lines.specs.declared.printed.Value.{Value}
use Rattle.bt_words.specs.declared.token.Token.{Token}
use Rattle.bt_words.specs.declared.token.Token.TheVariants as token
use Rattle.bt_words.proofs.Places.{places_at, places_at-cons}
use Rattle.bt_words.specs.Forms as part
use Rattle.bt_words.specs.Forms.{Part, part_of, is_fixed, open_places}
use Rattle.bt_run_lines.specs.Words.{said_by, value_of}
use Rattle.bt_run_lines.specs.Lines.{followed, values_in}

regroup : (front here : List Value) (more : Option (List Value)) → followed (Some front) (followed (Some here) more) ≡ followed (Some (front ++ here)) more
regroup front here None = refl
regroup front here (Some more) = ap (λ (values : List Value). Some values) (sym (append_assoc front here more))

-- what a word says, behind what was said before
abbrev pub behind : List Value → Option (List Value) → Option (List Value)
behind front here = option_map (λ more. front ++ more) here

-- a word that may stand there, and one that may not
taken : (front said : List Value) (here more : Option (List Value)) → Some said ≡ behind front here → followed (Some front) (followed here more) ≡ followed (Some said) more
taken front said None more says = absurd cc
taken front said (Some here) more says =
    let same : front ++ here ≡ said = cc in
    regroup front here more ∙ ap (λ (values : List Value). followed (Some values) more) same

refused : (front : List Value) (here more : Option (List Value)) → None ≡ behind front here → followed (Some front) (followed here more) ≡ None
refused front None more says = refl
refused front (Some here) more says = absurd cc

module _ (net : Net) (tokens : List Token) (at : ℕ) (within : at < length tokens) (front : List Value) (total : Option (List Value)) where
  -- what the word in front says
  abbrev pub said_here : List ℕ → Option (List Value)
  said_here word = said_by net (part_of (get_or tokens at token.Number)) word

  here : (word : List ℕ) (ws rest : List (List ℕ)) → Some word ≡ first_word ws → rest ≡ drop 1 ws
      → values_in net (places_at tokens at) ws ≡ followed (said_here word) (values_in net (places_at tokens (at + 1)) rest)
  here word ws rest is rests =
      let whole = front_word word ws rest is rests in
      rw (places_at-cons tokens at within, whole) refl

  pub goes_on : (said : List Value) (word : List ℕ) (ws rest : List (List ℕ)) → Some word ≡ first_word ws → rest ≡ drop 1 ws → Some said ≡ behind front (said_here word)
      → followed (Some front) (values_in net (places_at tokens at) ws) ≡ total → followed (Some said) (values_in net (places_at tokens (at + 1)) rest) ≡ total
  goes_on said word ws rest is rests says so_far =
      sym (ap (followed (Some front)) (here word ws rest is rests) ∙ taken front said (said_here word) (values_in net (places_at tokens (at + 1)) rest) says) ∙ so_far

  pub stops : (word : List ℕ) (ws rest : List (List ℕ)) → Some word ≡ first_word ws → rest ≡ drop 1 ws → None ≡ behind front (said_here word)
      → followed (Some front) (values_in net (places_at tokens at) ws) ≡ total → None ≡ total
  stops word ws rest is rests says so_far =
      sym (ap (followed (Some front)) (here word ws rest is rests) ∙ refused front (said_here word) (values_in net (places_at tokens (at + 1)) rest) says) ∙ so_far

  -- a place without a word
  pub lacks_word : (ws : List (List ℕ)) → None ≡ first_word ws → followed (Some front) (values_in net (places_at tokens at) ws) ≡ total → None ≡ total
  lacks_word [] is so_far = sym (ap (λ (places : List Part). followed (Some front) (values_in net places [])) (places_at-cons tokens at within)) ∙ so_far
  lacks_word (word ∷ ws) is so_far = absurd cc

-- a fixed word says nothing, and another one thing
no_more : (front said : List Value) (test : Bool) → Some said ≡ behind front (cond test (Some []) None) → length said ≡ length front
no_more front said true says = let same : front ++ [] ≡ said = cc in sym (ap length same) ∙ ap length (append-nil front)
no_more front said false says = absurd cc

one_more : (front said : List Value) (here : Option Value) → Some said ≡ behind front (option_map (λ one. one ∷ []) here) → length said ≡ length front + 1
one_more front said (Some one) says = let same : front ++ one ∷ [] ≡ said = cc in sym (ap length same) ∙ length-append front (one ∷ [])
one_more front said None says = absurd cc

room_behind : (net : Net) (front said : List Value) (place : Part) (word : List ℕ) (rest : List Part) (most : ℕ) → Some said ≡ behind front (said_by net place word)
    → length front + open_places (place ∷ rest) ≤ most → length said + open_places rest ≤ most
room_behind net front said (part.Text text) word rest most says room = omega (arith, no_more front said (is_word text word) says, sum_by-cons (λ (p : Part). cond (not (is_fixed p)) 1 0) (part.Text text) rest)
room_behind net front said place word rest most says room = omega (arith, one_more front said (value_of net place word) says, sum_by-cons (λ (p : Part). cond (not (is_fixed p)) 1 0) place rest)

pub room_left : (net : Net) (tokens : List Token) (at : ℕ) (front said : List Value) (word : List ℕ) (most : ℕ) → at < length tokens
    → Some said ≡ behind front (said_by net (part_of (get_or tokens at token.Number)) word)
    → length front + open_places (places_at tokens at) ≤ most → length said + open_places (places_at tokens (at + 1)) ≤ most
room_left net tokens at front said word most within says room =
    room_behind net front said (part_of (get_or tokens at token.Number)) word (places_at tokens (at + 1)) most says
    (subst (λ places. length front + open_places places ≤ most) (places_at-cons tokens at within) room)
