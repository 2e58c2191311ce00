-- Words that are read as an edit or as an order are its own, and it is in range.
use Rattle.std.proofs.Common.{◌≡◌, ℕ, ◌<◌, ◌≤◌, ◌^◌, ◌==◌, Bool, true, false, cond, leb, codes, decimal, List, [], ◌∷◌, length, drop, Option, Some, None, option_map, option_and_then, refl, sym, ap, subst, ◌∙◌, lit<}
use Rattle.std.proofs.lemmas.Bool.{leb-true}
use Rattle.std.proofs.lemmas.Option.{cond_some, same_Some}
use Rattle.bt_text.specs.Text.{is_word}
use Rattle.bt_text.specs.WordReader.{number_to}
use Rattle.bt_text.proofs.Fronts.{no_word}
use Rattle.bt_frame.specs.declared.numbers.TermNo.{TermNo}
use Rattle.bt_net.specs.Network.{Net}
use Rattle.bt_net.specs.Terminals.{name_at, IsTerminal, IsBetweenTerminals}
use Rattle.bt_plan.proofs.NamedTerminals.{terminal_named}
use Rattle.bt_plan.proofs.OneText.{number_to-spelled, is_word-same}
use Rattle.bt_air.specs.declared.order.Order.TheVariants.{Load, Arm}
use Rattle.bt_journal.specs.declared.call.Change.TheVariants as change
use Rattle.bt_journal.specs.declared.call.Edit.{Edit}
use Rattle.bt_journal.specs.declared.call.Edit.TheVariants.{Add, Drop, Move}
use Rattle.bt_journal.specs.Journal.{NamesTerminals}
use Rattle.bt_journal.specs.JournalLines.{edit_words, change_parts, edition_said, units_in as units_of, IsChangeInRange}
use Rattle.bt_journal.specs.LineReading.{at_end, number_from, terminal_in, ends_in, units_in, link_in, links_in, edit_in, Said, said_edit, said_load, said_arm, said_small}

-- what a step that found something found before
pub mapped : {A B : Type 0} (f : A → B) (o : Option A) (y : B) → option_map f o ≡ Some y → (x : A) × (o ≡ Some x) × (f x ≡ y)
mapped f None y is = absurd cc
mapped f (Some x) y is = (x, refl, same_Some (f x) y is)

pub then : {A B : Type 0} (f : A → Option B) (o : Option A) (y : B) → option_and_then f o ≡ Some y → (x : A) × (o ≡ Some x) × (f x ≡ Some y)
then f None y is = absurd cc
then f (Some x) y is = (x, refl, is)

pub ended : {A : Type 0} (ws : List (List ℕ)) (x y : A) → at_end ws x ≡ Some y → (ws ≡ []) × (x ≡ y)
ended ws x y is = let tested = cond_some (length ws == 0) x y is in (no_word ws (sym tested.0), tested.1)

drop_two : (ws : List (List ℕ)) → drop 1 (drop 1 ws) ≡ drop 2 ws
drop_two [] = refl
drop_two (word ∷ rest) = refl

-- a word in front of a list of words, by what is behind it
pub front : (ws : List (List ℕ)) (word : List ℕ) (rest : List (List ℕ)) → ws ≡ word ∷ drop 1 ws → drop 1 ws ≡ rest → ws ≡ word ∷ rest
front ws word rest here behind = here ∙ ap (λ r. word ∷ r) behind

-- a number in front
pub record IsNumber (least most n : ℕ) (ws : List (List ℕ)) : Type 0 where
  pub spelled : ws ≡ decimal n ∷ drop 1 ws
  pub above : least ≤ n
  pub below : n ≤ most

pub number_spelled : (least most n : ℕ) (ws : List (List ℕ)) → most < 2 ^ 64 → number_from least most ws ≡ Some n → IsNumber least most n ws
number_spelled least most n [] small is = absurd cc
number_spelled least most n (word ∷ rest) small is =
    let (m, read, tested) = then (λ (k : ℕ). cond (leb least k) (Some k) None) (number_to most word) n is in
    let parts = cond_some (leb least m) m n tested in
    let word_is = number_to-spelled most word n small (read ∙ ap (λ (k : ℕ). Some k) parts.1) in
    record { spelled = ap (λ w. w ∷ rest) word_is.0; above = rw (← parts.1) (leb-true least m parts.0); below = word_is.1 }

-- an edit of this edition by its words
abbrev pub IsEdit : Net → List (List ℕ) → Edit → Type 0
IsEdit net ws edit = (ws ≡ edit_words net edit) × NamesTerminals net edit × (1 ≤ units_of edit) × (units_of edit ≤ 4096)

module _ (net : Net) where
  terminal_spelled : (terminal : TermNo) (ws : List (List ℕ)) → terminal_in net ws ≡ Some terminal → (ws ≡ name_at net terminal ∷ drop 1 ws) × IsTerminal net terminal
  terminal_spelled terminal [] is = absurd cc
  terminal_spelled terminal (word ∷ rest) is = let named = terminal_named net word terminal is in (ap (λ w. w ∷ rest) named.0, named.1)

  -- the ends of a link in front
  record IsEnds (link : TermNo × TermNo) (ws : List (List ℕ)) : Type 0 where
    spelled : ws ≡ name_at net link.0 ∷ name_at net link.1 ∷ drop 2 ws
    within : IsBetweenTerminals net link.0 link.1

  ends_spelled : (link : TermNo × TermNo) (ws : List (List ℕ)) → ends_in net ws ≡ Some link → IsEnds link ws
  ends_spelled link ws is =
      let (from, from_read, more) = then (λ f. option_map (λ t. (f, t)) (terminal_in net (drop 1 ws))) (terminal_in net ws) link is in
      let (to, to_read, both) = mapped (λ t. (from, t)) (terminal_in net (drop 1 ws)) link more in
      let first = terminal_spelled from ws from_read in
      let second = terminal_spelled to (drop 1 ws) to_read in
      let here : IsEnds (from, to) ws = record {
        spelled = first.0 ∙ ap (λ r. name_at net from ∷ r) (second.0 ∙ ap (λ r. name_at net to ∷ r) (drop_two ws));
        within = (first.1, second.1);
      } in
      subst (λ l. IsEnds l ws) {x = (from, to)} both here

  units_spelled : (units : ℕ) (ws : List (List ℕ)) → units_in ws ≡ Some units → (ws ≡ decimal units ∷ []) × (1 ≤ units) × (units ≤ 4096)
  units_spelled units ws is =
      let (n, read, done) = then (at_end (drop 1 ws)) (number_from 1 4096 ws) units is in
      let last = ended (drop 1 ws) n units done in
      let number = number_spelled 1 4096 units ws (lit< tt) (read ∙ ap (λ (k : ℕ). Some k) last.1) in
      (number.spelled ∙ ap (λ r. decimal units ∷ r) last.0, number.above, number.below)

  -- a link and units
  record IsLink (link : (TermNo × TermNo) × ℕ) (ws : List (List ℕ)) : Type 0 where
    spelled : ws ≡ name_at net link.0.0 ∷ name_at net link.0.1 ∷ decimal link.1 ∷ []
    within : IsBetweenTerminals net link.0.0 link.0.1
    some : 1 ≤ link.1
    few : link.1 ≤ 4096

  link_spelled : (link : (TermNo × TermNo) × ℕ) (ws : List (List ℕ)) → link_in net ws ≡ Some link → IsLink link ws
  link_spelled link ws is =
      let (ends, ends_read, more) = then (λ l. option_map (λ u. (l, u)) (units_in (drop 2 ws))) (ends_in net ws) link is in
      let (units, units_read, both) = mapped (λ u. (ends, u)) (units_in (drop 2 ws)) link more in
      let first = ends_spelled ends ws ends_read in
      let behind = units_spelled units (drop 2 ws) units_read in
      let here : IsLink (ends, units) ws = record {
        spelled = first.spelled ∙ ap (λ r. name_at net ends.0 ∷ name_at net ends.1 ∷ r) behind.0;
        within = first.within;
        some = behind.1;
        few = behind.2;
      } in
      subst (λ l. IsLink l ws) {x = (ends, units)} both here

  abbrev Links : Type 0
  Links = (TermNo × TermNo) × ((TermNo × TermNo) × ℕ)

  -- two links and units
  record AreLinks (links : Links) (ws : List (List ℕ)) : Type 0 where
    spelled : ws ≡ name_at net links.0.0 ∷ name_at net links.0.1 ∷ name_at net links.1.0.0 ∷ name_at net links.1.0.1 ∷ decimal links.1.1 ∷ []
    within : IsBetweenTerminals net links.0.0 links.0.1
    new : IsBetweenTerminals net links.1.0.0 links.1.0.1
    some : 1 ≤ links.1.1
    few : links.1.1 ≤ 4096

  links_spelled : (links : Links) (ws : List (List ℕ)) → links_in net ws ≡ Some links → AreLinks links ws
  links_spelled links ws is =
      let (ends, ends_read, more) = then (λ l. option_map (λ n. (l, n)) (link_in net (drop 2 ws))) (ends_in net ws) links is in
      let (link, link_read, both) = mapped (λ n. (ends, n)) (link_in net (drop 2 ws)) links more in
      let first = ends_spelled ends ws ends_read in
      let behind = link_spelled link (drop 2 ws) link_read in
      let here : AreLinks (ends, link) ws = record {
        spelled = first.spelled ∙ ap (λ r. name_at net ends.0 ∷ name_at net ends.1 ∷ r) behind.spelled;
        within = first.within;
        new = behind.within;
        some = behind.some;
        few = behind.few;
      } in
      subst (λ l. AreLinks l ws) {x = (ends, link)} both here

  -- an edit, by its first word
  edit_chosen : (kind : List ℕ) (rest : List (List ℕ)) (edit : Edit) (add drop_it move : Bool) → is_word (codes "add") kind ≡ add → is_word (codes "drop") kind ≡ drop_it → is_word (codes "move") kind ≡ move
      → cond add (option_map (λ link. Add link.0.0 link.0.1 link.1) (link_in net rest))
      (cond drop_it (option_map (λ link. Drop link.0.0 link.0.1 link.1) (link_in net rest))
      (cond move (option_map (λ both. Move both.0.0 both.0.1 both.1.0.0 both.1.0.1 both.1.1) (links_in net rest)) None)) ≡ Some edit
      → IsEdit net (kind ∷ rest) edit
  edit_chosen kind rest edit true d m named e f is =
      let (link, read, same) = mapped (λ (l : (TermNo × TermNo) × ℕ). Add l.0.0 l.0.1 l.1) (link_in net rest) edit is in
      let here = link_spelled link rest read in
      subst (IsEdit net (kind ∷ rest)) same (ap (λ w. w ∷ rest) (is_word-same (codes "add") kind named) ∙ ap (λ r. codes "add" ∷ r) here.spelled, here.within, here.some, here.few)
  edit_chosen kind rest edit false true m e named f is =
      let (link, read, same) = mapped (λ (l : (TermNo × TermNo) × ℕ). Drop l.0.0 l.0.1 l.1) (link_in net rest) edit is in
      let here = link_spelled link rest read in
      subst (IsEdit net (kind ∷ rest)) same (ap (λ w. w ∷ rest) (is_word-same (codes "drop") kind named) ∙ ap (λ r. codes "drop" ∷ r) here.spelled, here.within, here.some, here.few)
  edit_chosen kind rest edit false false true e f named is =
      let (links, read, same) = mapped (λ (l : Links). Move l.0.0 l.0.1 l.1.0.0 l.1.0.1 l.1.1) (links_in net rest) edit is in
      let here = links_spelled links rest read in
      subst (IsEdit net (kind ∷ rest)) same (ap (λ w. w ∷ rest) (is_word-same (codes "move") kind named) ∙ ap (λ r. codes "move" ∷ r) here.spelled, (here.within, here.new), here.some, here.few)
  edit_chosen kind rest edit false false false e f g is = absurd cc

  edit_spelled : (edit : Edit) (ws : List (List ℕ)) → edit_in net ws ≡ Some edit → IsEdit net ws edit
  edit_spelled edit [] is = absurd cc
  edit_spelled edit (kind ∷ rest) is = edit_chosen kind rest edit _ _ _ refl refl refl is

  -- a change in range, by the words of its line, and the edition that these say
  pub record IsSpelled (ws : List (List ℕ)) (said : Said) : Type 0 where
    pub spelled : ws ≡ change_parts net said.0.0 said.1
    pub range : IsChangeInRange net said.0.0 said.1
    pub edition : said.0 ≡ edition_said said.0.0 said.1

  -- the words of an edit
  edit_line : (ws : List (List ℕ)) (number : ℕ) (edit : Edit) → IsNumber 1 4294967295 number ws → IsEdit net (drop 1 ws) edit → IsSpelled (codes "edit" ∷ ws) (record { 0 = number }, change.Edit edit)
  edit_line ws number edit first behind = record {
    spelled = ap (λ r. codes "edit" ∷ r) (front ws (decimal number) (edit_words net edit) first.spelled behind.0);
    range = record { some = first.above; number = first.below; terminals = behind.1; units = behind.2; few = behind.3 };
    edition = refl;
  }

  said_edit_spelled : (said : Said) (ws : List (List ℕ)) → said_edit net ws ≡ Some said → IsSpelled (codes "edit" ∷ ws) said
  said_edit_spelled said ws is =
      let made : ℕ → Edit → Said = λ n e. (record { 0 = n }, change.Edit e) in
      let (number, number_read, more) = then (λ n. option_map (made n) (edit_in net (drop 1 ws))) (number_from 1 4294967295 ws) said is in
      let (edit, edit_read, both) = mapped (made number) (edit_in net (drop 1 ws)) said more in
      let here = edit_line ws number edit (number_spelled 1 4294967295 number ws (lit< tt) number_read) (edit_spelled edit (drop 1 ws) edit_read) in
      subst (IsSpelled (codes "edit" ∷ ws)) {x = made number edit} both here

  -- the words of an order
  abbrev said_load_of : ℕ → ℕ → Said
  said_load_of c e = (record { 0 = e }, change.Order (Load (record { 0 = c }) (record { 0 = e })))

  load_line : (ws : List (List ℕ)) (c e : ℕ) → IsNumber 1 4294967295 c ws → IsNumber 0 4294967295 e (drop 1 ws) → drop 1 (drop 1 ws) ≡ [] → IsSpelled (codes "load" ∷ ws) (said_load_of c e)
  load_line ws c e first second last = record {
    spelled = ap (λ r. codes "load" ∷ r) (front ws (decimal c) (decimal e ∷ []) first.spelled (front (drop 1 ws) (decimal e) [] second.spelled last));
    range = (first.above, first.below, second.below);
    edition = refl;
  }

  said_load_spelled : (said : Said) (ws : List (List ℕ)) → said_load ws ≡ Some said → IsSpelled (codes "load" ∷ ws) said
  said_load_spelled said ws is =
      let rest = drop 1 (drop 1 ws) in
      let (command, command_read, more) = then (λ c. option_and_then (λ e. at_end rest (said_load_of c e)) (number_from 0 4294967295 (drop 1 ws))) (number_from 1 4294967295 ws) said is in
      let (edition, edition_read, done) = then (λ e. at_end rest (said_load_of command e)) (number_from 0 4294967295 (drop 1 ws)) said more in
      let last = ended rest (said_load_of command edition) said done in
      let first = number_spelled 1 4294967295 command ws (lit< tt) command_read in
      let second = number_spelled 0 4294967295 edition (drop 1 ws) (lit< tt) edition_read in
      subst (IsSpelled (codes "load" ∷ ws)) {x = said_load_of command edition} last.1 (load_line ws command edition first second last.0)

  abbrev said_arm_of : ℕ → ℕ → ℕ → Said
  said_arm_of c e d = (record { 0 = e }, change.Order (Arm (record { 0 = c }) (record { 0 = e }) (record { 0 = d })))

  arm_line : (ws : List (List ℕ)) (c e d : ℕ) → IsNumber 1 4294967295 c ws → IsNumber 0 4294967295 e (drop 1 ws) → IsNumber 1 4000000000 d (drop 1 (drop 1 ws)) → drop 1 (drop 1 (drop 1 ws)) ≡ []
      → IsSpelled (codes "arm" ∷ ws) (said_arm_of c e d)
  arm_line ws c e d first second third last = record {
    spelled = ap (λ r. codes "arm" ∷ r) (front ws (decimal c) (decimal e ∷ decimal d ∷ []) first.spelled (front (drop 1 ws) (decimal e) (decimal d ∷ []) second.spelled (front (drop 1 (drop 1 ws)) (decimal d) [] third.spelled last)));
    range = (first.above, first.below, second.below, (third.above, third.below));
    edition = refl;
  }

  said_arm_spelled : (said : Said) (ws : List (List ℕ)) → said_arm ws ≡ Some said → IsSpelled (codes "arm" ∷ ws) said
  said_arm_spelled said ws is =
      let due_in = number_from 1 4000000000 (drop 1 (drop 1 ws)) in
      let rest = drop 1 (drop 1 (drop 1 ws)) in
      let (command, command_read, more) = then (λ c. option_and_then (λ e. option_and_then (λ d. at_end rest (said_arm_of c e d)) due_in) (number_from 0 4294967295 (drop 1 ws))) (number_from 1 4294967295 ws) said is in
      let (edition, edition_read, even_more) = then (λ e. option_and_then (λ d. at_end rest (said_arm_of command e d)) due_in) (number_from 0 4294967295 (drop 1 ws)) said more in
      let (due, due_read, done) = then (λ d. at_end rest (said_arm_of command edition d)) due_in said even_more in
      let last = ended rest (said_arm_of command edition due) said done in
      let first = number_spelled 1 4294967295 command ws (lit< tt) command_read in
      let second = number_spelled 0 4294967295 edition (drop 1 ws) (lit< tt) edition_read in
      let third = number_spelled 1 4000000000 due (drop 1 (drop 1 ws)) (lit< tt) due_read in
      subst (IsSpelled (codes "arm" ∷ ws)) {x = said_arm_of command edition due} last.1 (arm_line ws command edition due first second third last.0)

  -- one of the three kinds, by its first word
  small_chosen : (kind : List ℕ) (rest : List (List ℕ)) (said : Said) (edit load arm : Bool) → is_word (codes "edit") kind ≡ edit → is_word (codes "load") kind ≡ load → is_word (codes "arm") kind ≡ arm
      → cond edit (said_edit net rest) (cond load (said_load rest) (cond arm (said_arm rest) None)) ≡ Some said → IsSpelled (kind ∷ rest) said
  small_chosen kind rest said true l a named f g is = subst (λ w. IsSpelled (w ∷ rest) said) (sym (is_word-same (codes "edit") kind named)) (said_edit_spelled said rest is)
  small_chosen kind rest said false true a e named g is = subst (λ w. IsSpelled (w ∷ rest) said) (sym (is_word-same (codes "load") kind named)) (said_load_spelled said rest is)
  small_chosen kind rest said false false true e f named is = subst (λ w. IsSpelled (w ∷ rest) said) (sym (is_word-same (codes "arm") kind named)) (said_arm_spelled said rest is)
  small_chosen kind rest said false false false e f g is = absurd cc

  pub small_spelled : (kind : List ℕ) (rest : List (List ℕ)) (said : Said) → said_small net kind rest ≡ Some said → IsSpelled (kind ∷ rest) said
  small_spelled kind rest said is = small_chosen kind rest said _ _ _ refl refl refl is
