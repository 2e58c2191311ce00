-- What a line that a station hears asks.
use Rattle.std.specs.Prelude.{ℕ, ◌-◌, ◌==◌, if◌then◌else◌, codes, List, [], ◌∷◌, Option, Some, None, option_and_then, option_map}
use Rattle.bt_frame.specs.declared.numbers.Mark.{Mark}
use Rattle.bt_text.specs.Text.{words, is_word}
use Rattle.bt_net.specs.Network.{Net}
use Rattle.bt_script.specs.Heard.{begun_in, number_in, with_one, with_two}
use Rattle.bt_station.specs.declared.asked.Asked.{Asked}
use Rattle.bt_station.specs.declared.asked.Asked.TheVariants as asked

-- what is transmitted in a frame of a superframe is asked
abbrev pub shows : Mark → Option ℕ → Option Asked
shows mark None = None
shows mark (Some number) = Some (asked.FrameOf mark number)

-- `tick`, `frame`, `second`
abbrev pub alone : List ℕ → Option Asked
alone name =
    if is_word (codes "tick") name then Some asked.Tick else
    if is_word (codes "frame") name then Some asked.Frame else
    if is_word (codes "second") name then Some asked.Second else None

-- `frame M I`, with the number of one of the frames of a superframe
abbrev pub frame_in : Net → List ℕ → List ℕ → Option Asked
frame_in net mark number = option_and_then (λ superframe. shows superframe (number_in (net.frames - 1) number)) (begun_in mark)

-- what the words of a line ask, if they ask something: where they are none of the station's own, they are those of a line of the bus
abbrev pub asked_by : Net → List (List ℕ) → Option Asked
asked_by net (name ∷ []) = alone name
asked_by net (name ∷ word ∷ []) = option_map asked.Heard (with_one name word)
asked_by net (name ∷ first ∷ second ∷ []) = if is_word (codes "frame") name then frame_in net first second else option_map asked.Heard (with_two name first second)
asked_by net _ = None

-- what a line asks, if it is one of the grammar; an empty one, and one with `#` in front, asks nothing
abbrev pub asked_of : Net → List ℕ → Option Asked
asked_of net [] = Some asked.Remark
asked_of net (first ∷ rest) = if first == 35 then Some asked.Remark else asked_by net (words (first ∷ rest))
