-- What a station says is heard as it was said.
use Rattle.std.proofs.Common.{◌≡◌, ℕ, suc, ◌/◌, ◌%◌, ◌<◌, ◌≤◌, ◌==◌, not, Bool, true, false, cond, List, [], ◌∷◌, ◌++◌, length, decimal, Option, Some, None, option_and_then, Result, refl, ap, ◌∙◌, subst, arith, le-leb}
use Rattle.std.specs.Prelude.{◌&&◌, codes, option_map, slice_index}
use Rattle.std.proofs.lemmas.Bool.{eqb-true}
use Rattle.std.proofs.lemmas.Fmt.{length-decimal-le}
use Rattle.std.proofs.lemmas.List.{append-nil}
use Rattle.hex.specs.Hex.{IsBytes, decode_of, encode_lower, encode_with, hex_digit_value, lower_digits}
use Rattle.hex.specs.declared.error.FromHexError.{FromHexError}
use Rattle.hex.proofs.HexLemmas.{IsDigits-lower_digits, decode_of-encode_lower}
use Rattle.bt_frame.specs.declared.limits.TheConstants.{LAST_MARK, MOST_DIGITS}
use Rattle.bt_net.specs.Network.{Net}
use Rattle.bt_text.specs.Text.{lacks, number_of, number_of_digits, spaced, words}
use Rattle.bt_text.proofs.TextLines.{words-spaced}
use Rattle.bt_text.proofs.TextNumbers.{lacks-decimal, number_of-decimal}
use Rattle.bt_words.specs.Lines.{line_of, spaced_out}
use Rattle.bt_sites.specs.Stamps.{Begun, Line, Radio}
use Rattle.bt_script.specs.Heard.{at_most, begins, bus_line_of, bus_words_of, if_begun, number_in, said_in}
use Rattle.bt_station.specs.declared.asked.Asked.TheVariants as asked
use Rattle.bt_station.specs.Acts.{IsHeardAs, IsSayable, heard_as, text_of, words_of}
use Rattle.bt_station.specs.Asked.{asked_by}
use Rattle.bt_station.proofs.Acts.{begun-some}

-- a line is its words, with a space between each two and a newline behind them
spaced-out : (first : List ℕ) (rest : List (List ℕ)) → first ++ spaced_out rest ≡ spaced (first ∷ rest)
spaced-out first [] = append-nil first
spaced-out first (next ∷ rest) = ap (λ (t : List ℕ). first ++ (32 ∷ t)) (spaced-out next rest)

pub line-spaced : (first : List ℕ) (rest : List (List ℕ)) → line_of (first ∷ rest) ≡ spaced (first ∷ rest) ++ 10 ∷ []
line-spaced first rest = ap (λ (t : List ℕ). t ++ 10 ∷ []) (spaced-out first rest)

pub text-spaced : (line : Line) → text_of line ≡ spaced (words_of line) ++ 10 ∷ []
text-spaced (Begun stamp) = line-spaced (codes "mark") (decimal stamp ∷ [])
text-spaced (Radio stamp bytes) = line-spaced (codes "radio") (decimal stamp ∷ encode_lower bytes ∷ [])

-- a superframe is read from its digits
digits-read : (n : ℕ) → n ≤ 4000000000 → number_of_digits MOST_DIGITS (decimal n) ≡ Some n
digits-read n small =
    ap (λ (b : Bool). cond b (number_of (decimal n)) None) (le-leb (length (decimal n)) 10 (length-decimal-le 10 n (omega arith) (omega (arith, small)) (omega (arith, small))))
    ∙ number_of-decimal n (omega (arith, small))

mark-read : (n : ℕ) → n ≤ 4000000000 → number_in LAST_MARK (decimal n) ≡ Some n
mark-read n small =
    ap (λ (o : Option ℕ). option_and_then (at_most LAST_MARK) o) (digits-read n small)
    ∙ ap (λ (b : Bool). cond b (Some n) None) (le-leb n 4000000000 small)

-- a digit is no space
space-either : (c d : ℕ) (test : Bool) → (c == 32) ≡ test → hex_digit_value c ≡ Some d → not test ≡ true
space-either c d false is digit = refl
space-either c d true is digit =
    let none : None ≡ Some d = subst (λ (n : ℕ). hex_digit_value n ≡ Some d) (eqb-true c 32 is) digit in
    absurd (cc none)

no_space : (d : ℕ) → d < 16 → not (slice_index lower_digits d == 32) ≡ true
no_space d small = space-either (slice_index lower_digits d) d (slice_index lower_digits d == 32) refl (IsDigits-lower_digits d small)

lacks-encoded : (bytes : List ℕ) → IsBytes bytes → lacks 32 (encode_with lower_digits bytes) ≡ true
unfolding encode_with
lacks-encoded [] small = refl
lacks-encoded (byte ∷ rest) small =
    let this : byte < 256 = small 0 in
    let further = lacks 32 (encode_with lower_digits rest) in
    ap (λ (b : Bool). b && (not (slice_index lower_digits (byte % 16) == 32) && further)) (no_space (byte / 16) (omega (arith, this)))
    ∙ ap (λ (b : Bool). b && further) (no_space (byte % 16) (omega arith))
    ∙ lacks-encoded rest (λ i. small (suc i))

-- a line has these words
said-words : (line : Line) → IsSayable line → words (spaced (words_of line)) ≡ words_of line
said-words (Begun stamp) (some, small) =
    words-spaced (words_of (Begun stamp)) (omega arith) (ap (λ (b : Bool). b && true) (lacks-decimal 32 stamp refl (omega (arith, small))))
said-words (Radio stamp bytes) (small, are) =
    words-spaced (words_of (Radio stamp bytes)) (omega arith)
    (ap (λ (b : Bool). b && (lacks 32 (encode_lower bytes) && true)) (lacks-decimal 32 stamp refl (omega (arith, small)))
    ∙ ap (λ (b : Bool). b && true) (lacks-encoded bytes are))

-- by which it is read
words-read : (line : Line) → IsSayable line → bus_words_of (words_of line) ≡ Some (heard_as line)
words-read (Begun stamp) (some, small) = ap (λ (o : Option ℕ). begins (option_and_then if_begun o)) (mark-read stamp small) ∙ ap begins (begun-some stamp some)
words-read (Radio stamp bytes) (small, are) =
    ap (λ (o : Option ℕ). option_and_then (λ (n : ℕ). said_in n (decode_of (encode_lower bytes))) o) (mark-read stamp small)
    ∙ ap (λ (r : Result (List ℕ) FromHexError). said_in stamp r) (decode_of-encode_lower bytes are)

-- each line is heard as it was said, on the bus and by a station
pub said-on_bus : (line : Line) → IsSayable line → bus_line_of (spaced (words_of line)) ≡ Some (heard_as line)
said-on_bus line can = ap bus_words_of (said-words line can) ∙ words-read line can

pub said-heard : (net : Net) (line : Line) → IsSayable line → IsHeardAs net (spaced (words_of line)) line
said-heard net (Begun stamp) can = ap (asked_by net) (said-words (Begun stamp) can) ∙ ap (option_map asked.Heard) (words-read (Begun stamp) can)
said-heard net (Radio stamp bytes) can = ap (asked_by net) (said-words (Radio stamp bytes) can) ∙ ap (option_map asked.Heard) (words-read (Radio stamp bytes) can)
