-- A line cut at its first space.
use Rattle.std.proofs.Common.{◌≡◌, ℕ, ◌+◌, ◌≤◌, Bool, true, false, cond, List, [], ◌∷◌, length, length-append, drop, Some, sym, ap, ◌∙◌, arith}
use Rattle.std.specs.Prelude.{◌==◌}
use Rattle.std.proofs.Math.Seq.{drop-append-add}
use Rattle.bt_text.specs.Text.{spaced, words}
use Rattle.bt_text.specs.WordReader.{first_word}
use Rattle.bt_text.proofs.TextLines.{spaced-words}
use Rattle.bt_words.specs.Tags.{is_tag}
use Rattle.bt_talk.specs.Tags.{behind_tag, tag_in, tag_of, untagged}

-- behind the first of several words and a space stand the others
cut_first : (first second : List ℕ) (rest : List (List ℕ)) → drop (length first + 1) (spaced (first ∷ second ∷ rest)) ≡ spaced (second ∷ rest)
cut_first first second rest = drop-append-add first (32 ∷ spaced (second ∷ rest)) 1

long_enough : (first second : List ℕ) (rest : List (List ℕ)) → length first + 1 ≤ length (spaced (first ∷ second ∷ rest))
long_enough first second rest = omega (arith, length-append first (32 ∷ spaced (second ∷ rest)))

-- what a tag in front of other words is, and what stands behind it
pub record Cut (text tag : List ℕ) : Type 0 where
  pub tag_is : tag ≡ tag_in text
  pub line_is : drop (length tag + 1) text ≡ untagged text
  pub within : length tag + 1 ≤ length text

cut_words : (text tag : List ℕ) (ws : List (List ℕ)) → text ≡ spaced ws → first_word ws ≡ Some tag → is_tag tag ≡ true → (length (drop 1 ws) == 0) ≡ false
    → (tag ≡ tag_of ws) × (drop (length tag + 1) text ≡ behind_tag ws text) × (length tag + 1 ≤ length text)
cut_words text tag [] parts first is more = absurd cc
cut_words text tag (word ∷ []) parts first is more = absurd cc
cut_words text tag (word ∷ second ∷ rest) parts first is more =
    let same : word ≡ tag = cc in
    let test : is_tag word ≡ true = ap is_tag same ∙ is in (
      sym same ∙ sym (ap (λ (b : Bool). cond b word []) test),
      ap (λ (w : List ℕ). drop (length w + 1) text) (sym same) ∙ ap (drop (length word + 1)) parts ∙ cut_first word second rest ∙ sym (ap (λ (b : Bool). cond b (spaced (second ∷ rest)) text) test),
      omega (arith, ap (λ (l : List ℕ). length l) parts, ap (λ (l : List ℕ). length l) same, long_enough word second rest),
    )

pub cut : (text tag : List ℕ) → first_word (words text) ≡ Some tag → is_tag tag ≡ true → (length (drop 1 (words text)) == 0) ≡ false → Cut text tag
cut text tag first is more =
    let so = cut_words text tag (words text) (sym (spaced-words text)) first is more in
    record { tag_is = so.0; line_is = so.1; within = so.2 }
