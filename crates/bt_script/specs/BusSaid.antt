-- The lines of the bus as they are said.
use Rattle.std.specs.Prelude.{ℕ, codes, decimal, List, [], ◌∷◌}
use Rattle.hex.specs.Hex.{encode_lower}
use Rattle.bt_frame.specs.declared.numbers.Mark.{Mark}
use Rattle.bt_air.specs.declared.message.Message.{Message}
use Rattle.bt_air.specs.Spelling.{message_bytes}
use Rattle.bt_words.specs.Lines.{line_of}

-- a superframe begins: `mark N`
abbrev pub mark_line : Mark → List ℕ
mark_line mark = line_of (codes "mark" ∷ decimal mark.0 ∷ [])

-- a message, behind the superframe that its sayer takes for the present one: `radio N HEX`
abbrev pub radio_line : Mark → Message → List ℕ
radio_line stamp message = line_of (codes "radio" ∷ decimal stamp.0 ∷ encode_lower (message_bytes message) ∷ [])
