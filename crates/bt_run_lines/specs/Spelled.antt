-- How a printed line is spelled, and which values suit its form.
use Rattle.std.specs.Prelude.{◌≢◌, ℕ, ◌<◌, ◌^◌, List, [], ◌∷◌, decimal, map, IsTrue}
use Rattle.bt_frame.specs.declared.limits.TheConstants.{MOST_DESKS}
use Rattle.bt_frame.specs.Range.{IsWithin}
use Rattle.bt_text.specs.Text.{spaced}
use Rattle.bt_net.specs.Network.{Net}
use Rattle.bt_net.specs.Terminals.{IsTerminal, name_at}
use Rattle.bt_air.specs.declared.sent.Heard.TheVariants as heard
use Rattle.bt_air.specs.declared.sent.Taken.TheVariants as taken
use Rattle.bt_words.specs.Lines.{frame_name}
use Rattle.bt_timeline.specs.Air.{taken_name, heard_name}
use Rattle.bt_timeline.specs.Timeline.{IsBeam, name_of_beam}
use Rattle.bt_run_lines.specs.declared.printed.Printed.{Printed}
use Rattle.bt_run_lines.specs.declared.printed.Value.{Value}
use Rattle.bt_run_lines.specs.declared.printed.Value.TheVariants as value
use Rattle.bt_words.specs.Filled.{filled}
use Rattle.bt_words.specs.Forms as part
use Rattle.bt_words.specs.Forms.{Part, is_of_a_run, parts_of}
use Rattle.bt_words.specs.Moments.{is_moment}
use Rattle.bt_words.specs.Tags.{is_tag}

-- the word of a value
abbrev pub word_of : Net → Value → List ℕ
word_of net (value.Number number) = decimal number
word_of net (value.Frame mark number) = frame_name mark number
word_of net (value.Beam beam) = name_of_beam net beam
word_of net (value.Terminal terminal) = name_at net terminal
word_of net (value.Taken taken) = taken_name taken
word_of net (value.Heard heard) = heard_name heard
word_of net (value.Tag tag) = tag
word_of net (value.Moment moment) = moment

-- the words of these places, with the values at those that have no fixed word
abbrev pub words_of : Net → List Part → List Value → List (List ℕ)
words_of net places values = filled places (map (word_of net) values)

-- the line, its newline left out
abbrev pub spelled : Net → Printed → List ℕ
spelled net printed = spaced (words_of net (parts_of printed.form) printed.said)

-- the value is of the kind of this place, and in its range
abbrev pub SuitsPlace : Net → Part → Value → Type 0
SuitsPlace net part.Number (value.Number number) = number < 2 ^ 32
SuitsPlace net part.Count (value.Number count) = count < 10 ^ 19
SuitsPlace net part.Desk (value.Number desk) = IsWithin 1 MOST_DESKS desk
SuitsPlace net part.Frame (value.Frame mark number) = (mark.0 < 2 ^ 32) × (number < 2 ^ 32)
SuitsPlace net part.Beam (value.Beam beam) = IsBeam net beam
SuitsPlace net part.Terminal (value.Terminal terminal) = IsTerminal net terminal
SuitsPlace net part.Taken (value.Taken answer) = answer ≢ taken.NotForMe
SuitsPlace net part.Heard (value.Heard answer) = answer ≢ heard.NotForMe
SuitsPlace net part.Tag (value.Tag tag) = IsTrue (is_tag tag)
SuitsPlace net part.Moment (value.Moment moment) = IsTrue (is_moment moment)
SuitsPlace net place value = ⊥

-- these values are those of the places that have no fixed word, one each and no more
abbrev pub SuitPlaces : Net → List Part → List Value → Type 0
SuitPlaces net [] [] = Unit {0}
SuitPlaces net [] (_ ∷ _) = ⊥
SuitPlaces net (part.Text text ∷ places) values = SuitPlaces net places values
SuitPlaces net (place ∷ places) [] = ⊥
SuitPlaces net (place ∷ places) (first ∷ values) = SuitsPlace net place first × SuitPlaces net places values

-- the form of the line is one of a run, and the values suit it
abbrev pub Suits : Net → Printed → Type 0
Suits net printed = IsTrue (is_of_a_run printed.form) × SuitPlaces net (parts_of printed.form) printed.said
