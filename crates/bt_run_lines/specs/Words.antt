-- What the words of a printed line say.
use Rattle.std.specs.Prelude.{ℕ, ◌+◌, ◌-◌, ◌^◌, ◌==◌, nat_le, if◌then◌else◌, List, [], ◌∷◌, codes, take, drop, position, Option, Some, None, option_map, option_and_then}
use Rattle.std.specs.Str.{bytes_eq}
use Rattle.bt_frame.specs.declared.limits.TheConstants.{MOST_DESKS}
use Rattle.bt_frame.specs.declared.numbers.BeamNo.{BeamNo}
use Rattle.bt_text.specs.Text.{is_word, number_of_digits}
use Rattle.bt_text.specs.WordReader.{number_to}
use Rattle.bt_net.specs.Network.{Net}
use Rattle.bt_net.specs.Terminals.{terminal_of}
use Rattle.bt_air.specs.declared.sent.Heard.{Heard}
use Rattle.bt_air.specs.declared.sent.Heard.TheVariants as heard
use Rattle.bt_air.specs.declared.sent.Taken.{Taken}
use Rattle.bt_air.specs.declared.sent.Taken.TheVariants as taken
use Rattle.bt_run_lines.specs.declared.printed.Value.{Value}
use Rattle.bt_run_lines.specs.declared.printed.Value.TheVariants as value
use Rattle.bt_words.specs.Forms as part
use Rattle.bt_words.specs.Forms.{Part}
use Rattle.bt_words.specs.Moments.{is_moment}
use Rattle.bt_words.specs.Tags.{is_tag}

-- the number of a u32 that a word is
abbrev pub small_number : List ℕ → Option ℕ
small_number word = number_to (2 ^ 32 - 1) word

-- the desk that a word is the number of
abbrev pub desk_number : List ℕ → Option ℕ
desk_number word = option_and_then (λ desk. if nat_le 1 desk then Some desk else None) (number_to MOST_DESKS word)

-- the frame of these two numbers
abbrev pub frame_of : Option ℕ → Option ℕ → Option Value
frame_of (Some mark) (Some number) = Some (value.Frame (record { 0 = mark }) number)
frame_of _ _ = None

-- the frame that a word names: a superframe and the number of a frame, on both sides of its first point
abbrev pub frame_in : List ℕ → Option Value
frame_in word = option_and_then (λ point. frame_of (small_number (take point word)) (small_number (drop (point + 1) word))) (position (λ byte. byte == 46) word)

-- the beam of that name
abbrev pub beam_of : Net → List ℕ → Option BeamNo
beam_of net name = option_map (λ place. record { 0 = place }) (position (bytes_eq name) net.beams)

-- what the satellite does with a message that is for it, by its word
abbrev pub taken_of : List ℕ → Option Taken
taken_of word =
    if is_word (codes "accepted") word then Some taken.Accepted else
    if is_word (codes "stale") word then Some taken.Stale else
    if is_word (codes "busy") word then Some taken.Busy else
    if is_word (codes "notloaded") word then Some taken.NotLoaded else
    if is_word (codes "toolate") word then Some taken.TooLate else
    None

-- what a terminal does with a message that is for it, by its word
abbrev pub heard_of : List ℕ → Option Heard
heard_of word =
    if is_word (codes "took") word then Some heard.Took else
    if is_word (codes "wrongmark") word then Some heard.WrongMark else
    if is_word (codes "held") word then Some heard.Held else
    if is_word (codes "stored") word then Some heard.Stored else
    if is_word (codes "older") word then Some heard.Older else
    if is_word (codes "inuse") word then Some heard.InUse else
    None

-- the tag that a word is
abbrev pub tag_of : List ℕ → Option (List ℕ)
tag_of word = if is_tag word then Some word else None

-- the moment that a word is
abbrev pub moment_of : List ℕ → Option (List ℕ)
moment_of word = if is_moment word then Some word else None

-- what a word says at a place that has no fixed word
abbrev pub value_of : Net → Part → List ℕ → Option Value
value_of net (part.Text _) word = None
value_of net part.Number word = option_map (λ n. value.Number n) (small_number word)
value_of net part.Count word = option_map (λ n. value.Number n) (number_of_digits 19 word)
value_of net part.Desk word = option_map (λ n. value.Number n) (desk_number word)
value_of net part.Frame word = frame_in word
value_of net part.Beam word = option_map (λ beam. value.Beam beam) (beam_of net word)
value_of net part.Terminal word = option_map (λ terminal. value.Terminal terminal) (terminal_of net word)
value_of net part.Taken word = option_map (λ taken. value.Taken taken) (taken_of word)
value_of net part.Heard word = option_map (λ heard. value.Heard heard) (heard_of word)
value_of net part.Tag word = option_map (λ tag. value.Tag tag) (tag_of word)
value_of net part.Moment word = option_map (λ moment. value.Moment moment) (moment_of word)

-- what a word says at a place, where it may stand there: a fixed word says nothing
abbrev pub said_by : Net → Part → List ℕ → Option (List Value)
said_by net (part.Text text) word = if is_word text word then Some [] else None
said_by net place word = option_map (λ one. one ∷ []) (value_of net place word)
