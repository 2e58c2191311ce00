-- A byte that stands in no moment.
use Rattle.std.proofs.Common.{◌≡◌, ℕ, ◌==◌, ◌&&◌, ◌||◌, Bool, true, false, not, List, [], ◌∷◌, ◌++◌, refl, arith}
use Rattle.std.specs.Char.{is_ascii_digit}
use Rattle.std.proofs.lemmas.Bool.{and_parts}
use Rattle.std.proofs.lemmas.Bool.Decides.{nat_tests}
use Rattle.bt_text.specs.Text.{lacks}
use Rattle.bt_words.specs.Moments.{are_two, is_date, is_time, is_moment}

-- a digit, or a sign of a date or of a time of the day
abbrev pub is_moment_byte : ℕ → Bool
is_moment_byte byte = is_ascii_digit byte || byte == 45 || byte == 58 || byte == 84 || byte == 90

digit_differs : (byte digit : ℕ) → is_moment_byte byte ≡ false → is_ascii_digit digit ≡ true → not (digit == byte) ≡ true
digit_differs byte digit other is = grind (arith, nat_tests, is, other)

two_lack : (byte tens ones : ℕ) (rest : List ℕ) → is_moment_byte byte ≡ false → are_two tens ones ≡ true → lacks byte rest ≡ true → lacks byte (tens ∷ ones ∷ rest) ≡ true
two_lack byte tens ones rest other are none =
    let parts = and_parts (is_ascii_digit tens) (is_ascii_digit ones) are in
    rw (digit_differs byte tens other parts.0, digit_differs byte ones other parts.1, none) refl

sign_lacks : (byte sign here : ℕ) (rest : List ℕ) → is_moment_byte byte ≡ false → is_moment_byte sign ≡ true → (here == sign) ≡ true → lacks byte rest ≡ true → lacks byte (here ∷ rest) ≡ true
sign_lacks byte sign here rest other of_moment is none =
    let differs : not (here == byte) ≡ true = grind (arith, nat_tests, is, other, of_moment) in
    rw (differs, none) refl

date_lacks : (byte : ℕ) (date rest : List ℕ) → is_moment_byte byte ≡ false → is_date date ≡ true → lacks byte rest ≡ true → lacks byte (date ++ rest) ≡ true
date_lacks byte (y1 ∷ y2 ∷ y3 ∷ y4 ∷ h1 ∷ m1 ∷ m2 ∷ h2 ∷ d1 ∷ d2 ∷ []) rest other is none =
    let day = and_parts (are_two y1 y2 && are_two y3 y4 && h1 == 45 && are_two m1 m2 && h2 == 45) (are_two d1 d2) is in
    let dash = and_parts (are_two y1 y2 && are_two y3 y4 && h1 == 45 && are_two m1 m2) (h2 == 45) day.0 in
    let month = and_parts (are_two y1 y2 && are_two y3 y4 && h1 == 45) (are_two m1 m2) dash.0 in
    let first = and_parts (are_two y1 y2 && are_two y3 y4) (h1 == 45) month.0 in
    let year = and_parts (are_two y1 y2) (are_two y3 y4) first.0 in
    let days = sign_lacks byte 45 h2 (d1 ∷ d2 ∷ rest) other refl dash.1 (two_lack byte d1 d2 rest other day.1 none) in
    let months = sign_lacks byte 45 h1 (m1 ∷ m2 ∷ h2 ∷ d1 ∷ d2 ∷ rest) other refl first.1 (two_lack byte m1 m2 (h2 ∷ d1 ∷ d2 ∷ rest) other month.1 days) in
    two_lack byte y1 y2 (y3 ∷ y4 ∷ h1 ∷ m1 ∷ m2 ∷ h2 ∷ d1 ∷ d2 ∷ rest) other year.0 (two_lack byte y3 y4 (h1 ∷ m1 ∷ m2 ∷ h2 ∷ d1 ∷ d2 ∷ rest) other year.1 months)
date_lacks byte _ rest other is none = absurd cc

time_lacks : (byte : ℕ) (time : List ℕ) → is_moment_byte byte ≡ false → is_time time ≡ true → lacks byte time ≡ true
time_lacks byte (h1 ∷ h2 ∷ c1 ∷ m1 ∷ m2 ∷ c2 ∷ s1 ∷ s2 ∷ z ∷ []) other is =
    let zone = and_parts (are_two h1 h2 && c1 == 58 && are_two m1 m2 && c2 == 58 && are_two s1 s2) (z == 90) is in
    let second = and_parts (are_two h1 h2 && c1 == 58 && are_two m1 m2 && c2 == 58) (are_two s1 s2) zone.0 in
    let colon = and_parts (are_two h1 h2 && c1 == 58 && are_two m1 m2) (c2 == 58) second.0 in
    let minute = and_parts (are_two h1 h2 && c1 == 58) (are_two m1 m2) colon.0 in
    let hour = and_parts (are_two h1 h2) (c1 == 58) minute.0 in
    let seconds = two_lack byte s1 s2 (z ∷ []) other second.1 (sign_lacks byte 90 z [] other refl zone.1 refl) in
    let minutes = two_lack byte m1 m2 (c2 ∷ s1 ∷ s2 ∷ z ∷ []) other minute.1 (sign_lacks byte 58 c2 (s1 ∷ s2 ∷ z ∷ []) other refl colon.1 seconds) in
    two_lack byte h1 h2 (c1 ∷ m1 ∷ m2 ∷ c2 ∷ s1 ∷ s2 ∷ z ∷ []) other hour.0 (sign_lacks byte 58 c1 (m1 ∷ m2 ∷ c2 ∷ s1 ∷ s2 ∷ z ∷ []) other refl hour.1 minutes)
time_lacks byte _ other is = absurd cc

pub moment_lacks : (byte : ℕ) (moment : List ℕ) → is_moment_byte byte ≡ false → is_moment moment ≡ true → lacks byte moment ≡ true
moment_lacks byte (y1 ∷ y2 ∷ y3 ∷ y4 ∷ h1 ∷ m1 ∷ m2 ∷ h2 ∷ d1 ∷ d2 ∷ t ∷ time) other is =
    let date = y1 ∷ y2 ∷ y3 ∷ y4 ∷ h1 ∷ m1 ∷ m2 ∷ h2 ∷ d1 ∷ d2 ∷ [] in
    let day = and_parts (is_date date && t == 84) (is_time time) is in
    let front = and_parts (is_date date) (t == 84) day.0 in
    date_lacks byte date (t ∷ time) other front.0 (sign_lacks byte 84 t time other refl front.1 (time_lacks byte time other day.1))
moment_lacks byte _ other is = absurd cc
