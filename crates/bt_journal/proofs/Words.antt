-- The words of an edit and of an order: what stands in none of them, and that they are read as what they are.
use Rattle.std.proofs.Common.{◌≡◌, ℕ, ◌<◌, ◌≤◌, ◌^◌, true, false, cond, codes, decimal, leb, List, [], ◌∷◌, Some, None, option_and_then, refl, ap, ◌∙◌, arith, lit<}
use Rattle.std.specs.List.{list_all}
use Rattle.std.specs.Char.{is_ascii_digit}
use Rattle.std.proofs.lemmas.Bool.{le-leb}
use Rattle.bt_text.specs.Text.{lacks}
use Rattle.bt_text.proofs.TextNumbers.{lacks-decimal}
use Rattle.bt_frame.specs.declared.numbers.TermNo.{TermNo}
use Rattle.bt_net.specs.Name.{is_name_byte}
use Rattle.bt_net.specs.Network.{Net, IsSound}
use Rattle.bt_net.specs.Terminals.{name_at, IsTerminal, IsBetweenTerminals}
use Rattle.bt_plan.proofs.NamedTerminals.{is_name-name_at, name_lacks, terminal_found}
use Rattle.bt_plan.proofs.ReadBack.{number_to-decimal}
use Rattle.bt_air.specs.declared.order.Order.{Order}
use Rattle.bt_air.specs.declared.order.Order.TheVariants.{Load, Arm}
use Rattle.bt_journal.specs.declared.call.Change.TheVariants as change
use Rattle.bt_journal.specs.declared.call.Edit.{Edit}
use Rattle.bt_journal.specs.declared.call.Edit.TheVariants.{Add, Drop, Move}
use Rattle.bt_journal.specs.JournalLines.{edit_words, order_words, change_parts, edition_said, IsEditInRange, IsOrderInRange}
use Rattle.bt_journal.specs.LineReading.{number_from, ends_in, link_in, links_in, edit_in, said_in}

-- a number in front is read
pub number_read : (least most n : ℕ) (rest : List (List ℕ)) → least ≤ n → n ≤ most → most < 2 ^ 64 → number_from least most (decimal n ∷ rest) ≡ Some n
number_read least most n rest above within small =
    ap (option_and_then (λ m. cond (leb least m) (Some m) None)) (number_to-decimal most n within small) ∙ ap (λ b. cond b (Some n) None) (le-leb least n above)

module _ (net : Net) (sound : IsSound net) where
  -- a byte that is no digit and stands in no name stands in none of the words
  module _ (byte : ℕ) (digit : is_ascii_digit byte ≡ false) (other : is_name_byte byte ≡ false) where
    named : (terminal : TermNo) → IsTerminal net terminal → lacks byte (name_at net terminal) ≡ true
    named terminal within = name_lacks byte (name_at net terminal) other (is_name-name_at net terminal sound within)

    pub edit-lacks : (number : ℕ) (edit : Edit) → IsEditInRange net number edit → list_all (lacks byte) (change_parts net number (change.Edit edit)) ≡ true
    edit-lacks number (Add from to units) range =
        rw (name_lacks byte (codes "edit") other refl, lacks-decimal byte number digit (let within = range.number in omega arith), name_lacks byte (codes "add") other refl, named from range.terminals.0, named to range.terminals.1, lacks-decimal byte units digit (let within = range.few in omega arith)) refl
    edit-lacks number (Drop from to units) range =
        rw (name_lacks byte (codes "edit") other refl, lacks-decimal byte number digit (let within = range.number in omega arith), name_lacks byte (codes "drop") other refl, named from range.terminals.0, named to range.terminals.1, lacks-decimal byte units digit (let within = range.few in omega arith)) refl
    edit-lacks number (Move from to new_from new_to units) range =
        rw (name_lacks byte (codes "edit") other refl, lacks-decimal byte number digit (let within = range.number in omega arith), name_lacks byte (codes "move") other refl, named from range.terminals.0.0, named to range.terminals.0.1, named new_from range.terminals.1.0, named new_to range.terminals.1.1, lacks-decimal byte units digit (let within = range.few in omega arith)) refl

    pub order-lacks : (order : Order) → IsOrderInRange order → list_all (lacks byte) (order_words order) ≡ true
    order-lacks (Load command edition) range =
        rw (name_lacks byte (codes "load") other refl, lacks-decimal byte command.0 digit (omega arith), lacks-decimal byte edition.0 digit (omega arith)) refl
    order-lacks (Arm command edition due) range =
        rw (name_lacks byte (codes "arm") other refl, lacks-decimal byte command.0 digit (omega arith), lacks-decimal byte edition.0 digit (omega arith), lacks-decimal byte due.0 digit (omega arith)) refl

  -- terminals and links are read
  ends_read : (from to : TermNo) (rest : List (List ℕ)) → IsBetweenTerminals net from to → ends_in net (name_at net from ∷ name_at net to ∷ rest) ≡ Some (from, to)
  ends_read from to rest within = rw (terminal_found net from sound within.0, terminal_found net to sound within.1) refl

  link_read : (from to : TermNo) (units : ℕ) → IsBetweenTerminals net from to → 1 ≤ units → units ≤ 4096 → link_in net (name_at net from ∷ name_at net to ∷ decimal units ∷ []) ≡ Some ((from, to), units)
  link_read from to units within some few = rw (ends_read from to (decimal units ∷ []) within, number_read 1 4096 units [] some few (lit< tt)) refl

  links_read : (from to new_from new_to : TermNo) (units : ℕ) → IsBetweenTerminals net from to → IsBetweenTerminals net new_from new_to → 1 ≤ units → units ≤ 4096
      → links_in net (name_at net from ∷ name_at net to ∷ name_at net new_from ∷ name_at net new_to ∷ decimal units ∷ []) ≡ Some ((from, to), ((new_from, new_to), units))
  links_read from to new_from new_to units within new some few =
      rw (ends_read from to (name_at net new_from ∷ name_at net new_to ∷ decimal units ∷ []) within, link_read new_from new_to units new some few) refl

  edit_read : (number : ℕ) (edit : Edit) → IsEditInRange net number edit → edit_in net (edit_words net edit) ≡ Some edit
  edit_read number (Add from to units) range = rw (link_read from to units range.terminals range.units range.few) refl
  edit_read number (Drop from to units) range = rw (link_read from to units range.terminals range.units range.few) refl
  edit_read number (Move from to new_from new_to units) range = rw (links_read from to new_from new_to units range.terminals.0 range.terminals.1 range.units range.few) refl

  pub edit_change_read : (number : ℕ) (edit : Edit) → IsEditInRange net number edit → said_in net (change_parts net number (change.Edit edit)) ≡ Some (edition_said number (change.Edit edit), change.Edit edit)
  edit_change_read number edit range =
      rw (number_read 1 4294967295 number (edit_words net edit) range.some range.number (lit< tt), edit_read number edit range) refl

  pub order_change_read : (number : ℕ) (order : Order) → IsOrderInRange order → said_in net (order_words order) ≡ Some (edition_said number (change.Order order), change.Order order)
  order_change_read number (Load command edition) range =
      rw (number_read 1 4294967295 command.0 (decimal edition.0 ∷ []) range.0 range.1 (lit< tt), number_read 0 4294967295 edition.0 [] (omega arith) range.2 (lit< tt)) refl
  order_change_read number (Arm command edition due) range =
      rw (number_read 1 4294967295 command.0 (decimal edition.0 ∷ decimal due.0 ∷ []) range.0 range.1 (lit< tt), number_read 0 4294967295 edition.0 (decimal due.0 ∷ []) (omega arith) range.2 (lit< tt), number_read 1 4000000000 due.0 [] range.3.0 range.3.1 (lit< tt)) refl
