-- The lines of messages that are said one after the other.
use Rattle.std.proofs.Common.{◌≡◌, ℕ, ◌+◌, ◌<◌, List, [], ◌∷◌, ◌++◌, append_assoc, get_or, length, take, sym, ◌∙◌, ap, arith}
use Rattle.std.proofs.lemmas.List.{append-nil, take_more, length-take}
use Rattle.bt_frame.specs.declared.numbers.Mark.{Mark}
use Rattle.bt_net.specs.Network.{Net}
use Rattle.bt_demand.specs.declared.plan.Plan.{Plan}
use Rattle.bt_air.specs.declared.sent.Aired.{Aired}
use Rattle.bt_apart.specs.Apart.{said_line, said_lines}

module _ (net : Net) (plans : List Plan) (mark : Mark) where
  said-more : (first : ℕ) (some others : List Aired)
      → said_lines net plans mark first (some ++ others) ≡ said_lines net plans mark first some ++ said_lines net plans mark (first + length some) others
  said-more first [] others = let same : first ≡ first + 0 = omega arith in ap (λ (n : ℕ). said_lines net plans mark n others) same
  said-more first (one ∷ more) others =
      let line = said_line net plans mark first one in
      let same : first + 1 + length more ≡ first + length (one ∷ more) = omega arith in
      ap (λ (list : List ℕ). line ++ list) (said-more (first + 1) more others)
      ∙ sym (append_assoc line (said_lines net plans mark (first + 1) more) (said_lines net plans mark (first + 1 + length more) others))
      ∙ ap (λ (n : ℕ). (line ++ said_lines net plans mark (first + 1) more) ++ said_lines net plans mark n others) same

  -- one message more
  pub said-next : (first : ℕ) (all : List Aired) (k : ℕ) (one : Aired) (before old next : List ℕ) → k < length all → one ≡ get_or all k one
      → old ≡ before ++ said_lines net plans mark first (take k all) → next ≡ old ++ said_line net plans mark (first + k) one
      → next ≡ before ++ said_lines net plans mark first (take (k + 1) all)
  said-next first all k one before old next within here so more =
      let count : length (take k all) ≡ k = omega (arith, length-take k all, within) in
      let so_far = said_lines net plans mark first (take k all) in
      let last : said_lines net plans mark first (take (k + 1) all) ≡ so_far ++ said_line net plans mark (first + k) one =
      ap (λ (list : List Aired). said_lines net plans mark first list) (take_more all k one within)
      ∙ said-more first (take k all) (get_or all k one ∷ [])
      ∙ ap (λ (n : ℕ). so_far ++ said_lines net plans mark (first + n) (get_or all k one ∷ [])) count
      ∙ ap (λ (a : Aired). so_far ++ said_lines net plans mark (first + k) (a ∷ [])) (sym here)
      ∙ ap (λ (list : List ℕ). so_far ++ list) (append-nil (said_line net plans mark (first + k) one)) in
      more ∙ ap (λ (list : List ℕ). list ++ said_line net plans mark (first + k) one) so
      ∙ append_assoc before so_far (said_line net plans mark (first + k) one)
      ∙ ap (λ (list : List ℕ). before ++ list) (sym last)
