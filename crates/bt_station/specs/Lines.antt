-- The lines that a station says.
use Rattle.std.specs.Prelude.{ℕ, codes, decimal, flat_map, map, List, [], ◌∷◌, ◌++◌}
use Rattle.bt_frame.specs.declared.mode.Mode.{Mode}
use Rattle.bt_frame.specs.declared.numbers.Mark.{Mark}
use Rattle.bt_text.specs.Text.{ended}
use Rattle.bt_net.specs.Network.{Net}
use Rattle.bt_demand.specs.declared.burst.Burst.{Burst}
use Rattle.bt_plan.specs.ScheduleSpelling.{mode_line}
use Rattle.bt_air.specs.declared.sent.Aired.{Aired}
use Rattle.bt_machines.specs.Says.{carried}
use Rattle.bt_script.specs.BusSaid as bus
use Rattle.bt_timeline.specs.Timeline.{burst_lines}
use Rattle.bt_words.specs.Lines.{line_of, frame_name}
use Rattle.bt_words.specs.declared.form.Form.TheVariants as form
use Rattle.bt_words.specs.Filled.{form_line}

-- what is said in a superframe, as it is carried by who has no plan
abbrev pub radio_line : Mark → Aired → List ℕ
radio_line stamp one = bus.radio_line stamp (carried [] one)

-- the lines of what is said in a superframe
abbrev pub radio_lines : Mark → List Aired → List ℕ
radio_lines stamp said = flat_map (radio_line stamp) said

-- modes, each as a plan has it: `mode DURATION P0 P1 ..`
abbrev pub mode_lines : List Mode → List ℕ
mode_lines modes = ended (map mode_line modes)

-- the line of that number is none of the grammar: `fault S1 N`
abbrev pub fault_line : ℕ → List ℕ
fault_line at = form_line form.LineFaultS1 (decimal at ∷ [])

-- the input failed: `fault input`
abbrev pub input_fault_line : List ℕ
input_fault_line = form_line form.InputFault []

-- what a terminal transmits in a frame: `frame M.I`, and `air START LENGTH FROM TO` for each burst
abbrev pub burst_frame_lines : Net → Mark → ℕ → List Burst → List ℕ
burst_frame_lines net mark number bursts = line_of (codes "frame" ∷ frame_name mark number ∷ []) ++ burst_lines net form.Air bursts
