-- The shape of a link by the words that a reader gives.
use Rattle.std.proofs.Common.{◌≡◌, ℕ, ◌==◌, true, false, List, [], ◌∷◌, length, drop, Some, None, option_map, option_and_then, ap, refl, ◌∙◌}
use Rattle.bt_text.specs.Text.{number_of_digits}
use Rattle.bt_text.specs.WordReader.{first_word}
use Rattle.bt_text.proofs.Fronts.{front_word, no_word}
use Rattle.bt_net.specs.Name.{are_names}
use Rattle.bt_script.specs.declared.shape.AirShape.TheVariants.{Deliver}
use Rattle.bt_script.specs.declared.shape.LineShape.TheVariants.{Desk}
use Rattle.bt_script.specs.LineShape.{link_in, links_in, desk_shape, desk_in, receiver_of, deliver_in, several_shape, words_shape}

-- three words, and none behind them
pub three_words : (from to units : List ℕ) (ws w1 w2 w3 : List (List ℕ)) → Some from ≡ first_word ws → w1 ≡ drop 1 ws → Some to ≡ first_word w1 → w2 ≡ drop 1 w1
    → Some units ≡ first_word w2 → w3 ≡ drop 1 w2 → true ≡ (length w3 == 0) → ws ≡ from ∷ to ∷ units ∷ []
three_words from to units ws w1 w2 w3 a b c d e f none =
    front_word from ws w1 a b ∙ ap (λ x. from ∷ x) (front_word to w1 w2 c d) ∙ ap (λ x. from ∷ to ∷ x) (front_word units w2 w3 e f) ∙ ap (λ x. from ∷ to ∷ units ∷ x) (no_word w3 none)

-- a link whose units are no number
pub no_units : (from to units : List ℕ) (ws : List (List ℕ)) → ws ≡ from ∷ to ∷ units ∷ [] → true ≡ are_names from to → None ≡ number_of_digits 10 units → link_in ws ≡ None
no_units from to units ws whole names none = ap link_in whole ∙ rw (← names, ← none) refl

-- two words, and those behind them
pub two_words : (a b : List ℕ) (ws w1 w2 : List (List ℕ)) → Some a ≡ first_word ws → w1 ≡ drop 1 ws → Some b ≡ first_word w1 → w2 ≡ drop 1 w1 → ws ≡ a ∷ b ∷ w2
two_words a b ws w1 w2 first is second last = front_word a ws w1 first is ∙ ap (λ x. a ∷ x) (front_word b w1 w2 second last)

-- what the words of two links say, behind the ends of the first
pub links_read : (from to : List ℕ) (ws w1 w2 : List (List ℕ)) → Some from ≡ first_word ws → w1 ≡ drop 1 ws → Some to ≡ first_word w1 → w2 ≡ drop 1 w1
    → true ≡ are_names from to → links_in ws ≡ option_map (λ new. ((from, to), new)) (link_in w2)
links_read from to ws w1 w2 first is second last names = ap links_in (two_words from to ws w1 w2 first is second last) ∙ rw (← names) refl

-- what the words behind `desk` say, once its number is read
pub desk_read : (desk kind : List ℕ) (number : ℕ) (ws w1 w2 : List (List ℕ)) → Some desk ≡ first_word ws → w1 ≡ drop 1 ws → Some kind ≡ first_word w1 → w2 ≡ drop 1 w1
    → Some number ≡ number_of_digits 10 desk → desk_in ws ≡ option_map (λ line. Desk number line) (desk_shape kind w2)
desk_read desk kind number ws w1 w2 first is second last read = ap desk_in (two_words desk kind ws w1 w2 first is second last) ∙ rw (← read) refl

-- what two words behind `deliver` say
pub deliver_read : (number word : List ℕ) (ws w1 w2 : List (List ℕ)) → Some number ≡ first_word ws → w1 ≡ drop 1 ws → Some word ≡ first_word w1 → w2 ≡ drop 1 w1 → true ≡ (length w2 == 0)
    → deliver_in ws ≡ option_and_then (λ message. option_map (λ receiver. Deliver message receiver) (receiver_of word)) (number_of_digits 10 number)
deliver_read number word ws w1 w2 first is second last none =
    ap deliver_in (two_words number word ws w1 w2 first is second last ∙ ap (λ x. number ∷ word ∷ x) (no_word w2 none))

-- a line of several words, by the first of them
pub several_read : (head : List ℕ) (ws w1 : List (List ℕ)) → Some head ≡ first_word ws → w1 ≡ drop 1 ws → false ≡ (length w1 == 0) → words_shape ws ≡ several_shape head w1
several_read head ws w1 first is some = ap words_shape (front_word head ws w1 first is) ∙ rw (← some) refl
