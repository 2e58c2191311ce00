-- What a line of the bus says: that a superframe begins, or a message behind the superframe that its sayer takes for the present one.
use Rattle.std.specs.Prelude.{ℕ, ◌==◌, nat_le, if◌then◌else◌, codes, List, [], ◌∷◌, Option, Some, None, option_and_then, IfSome, Result, Ok, Err}
use Rattle.hex.specs.Hex.{decode_of}
use Rattle.hex.specs.declared.error.FromHexError.{FromHexError}
use Rattle.bt_frame.specs.declared.limits.TheConstants.{LAST_MARK, MOST_DIGITS}
use Rattle.bt_frame.specs.declared.numbers.Mark.{Mark}
use Rattle.bt_text.specs.Text.{words, is_word, number_of_digits}
use Rattle.bt_air.specs.declared.fault.AirFault.{AirFault}
use Rattle.bt_air.specs.declared.message.Message.{Message}
use Rattle.bt_air.specs.MessageText.{message_of}
use Rattle.bt_air.specs.Range.{IsInRange, IsMark}
use Rattle.bt_script.specs.declared.heard.BusLine.{BusLine}
use Rattle.bt_script.specs.declared.heard.BusLine.TheVariants as line

-- the message that was read, if one was
abbrev pub if_read : Result Message AirFault → Option Message
if_read (Ok message) = Some message
if_read (Err fault) = None

-- what a site reads of bytes that it hears: what is no message is heard as none
abbrev pub read_of : List ℕ → Option Message
read_of bytes = if_read (message_of bytes)

-- the number, where it is at most so much
abbrev pub at_most : ℕ → ℕ → Option ℕ
at_most most number = if nat_le number most then Some number else None

-- the number of at most so much that a word is
abbrev pub number_in : ℕ → List ℕ → Option ℕ
number_in most word = option_and_then (at_most most) (number_of_digits MOST_DIGITS word)

-- the superframe of that number, where it is not 0
abbrev pub if_begun : ℕ → Option Mark
if_begun number = if number == 0 then None else Some (record { 0 = number })

-- the superframe that a word is, from 1 on: none says that superframe 0 begins
abbrev pub begun_in : List ℕ → Option Mark
begun_in word = option_and_then if_begun (number_in LAST_MARK word)

-- a superframe begins, where this is one
abbrev pub begins : Option Mark → Option BusLine
begins None = None
begins (Some mark) = Some (line.Begun mark)

-- bytes were said in a superframe, where these digits are bytes
abbrev pub said_in : ℕ → Result (List ℕ) FromHexError → Option BusLine
said_in stamp (Err fault) = None
said_in stamp (Ok bytes) = Some (line.Radio (record { 0 = stamp }) (read_of bytes))

-- what stands behind `radio`: `N HEX`
abbrev pub radio_in : List ℕ → List ℕ → Option BusLine
radio_in stamp digits = option_and_then (λ number. said_in number (decode_of digits)) (number_in LAST_MARK stamp)

-- `mark N`
abbrev pub with_one : List ℕ → List ℕ → Option BusLine
with_one name word = if is_word (codes "mark") name then begins (begun_in word) else None

-- `radio N HEX`
abbrev pub with_two : List ℕ → List ℕ → List ℕ → Option BusLine
with_two name stamp digits = if is_word (codes "radio") name then radio_in stamp digits else None

-- what these words say, if they are those of a line of the bus
abbrev pub bus_words_of : List (List ℕ) → Option BusLine
bus_words_of (name ∷ word ∷ []) = with_one name word
bus_words_of (name ∷ stamp ∷ digits ∷ []) = with_two name stamp digits
bus_words_of _ = None

-- what a line of the bus says, if it is one
abbrev pub bus_line_of : List ℕ → Option BusLine
bus_line_of text = bus_words_of (words text)

-- its superframe and its message are in range
abbrev pub IsOnBus : BusLine → Type 0
IsOnBus (line.Begun mark) = IsMark mark
IsOnBus (line.Radio stamp message) = IsMark stamp × IfSome message IsInRange
