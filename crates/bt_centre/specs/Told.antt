-- What a line of a session that asks is told, of the state of the book and of the air.
use Rattle.std.specs.Prelude.{◌≡◌, ℕ, List, None}
use Rattle.bt_net.specs.Network.{Net}
use Rattle.bt_plan.specs.PlanSpelling.{plan_spelling}
use Rattle.bt_history.specs.Changes.{matrix_after, newest}
use Rattle.bt_history.specs.Machine.{State}
use Rattle.bt_talk.specs.declared.block.Query.{Query}
use Rattle.bt_talk.specs.declared.block.Query.TheVariants as query
use Rattle.bt_talk.specs.Answers.{counted}
use Rattle.bt_talk.specs.Help.{help_text}
use Rattle.bt_timeline.specs.Air.{waiting_lines}
use Rattle.bt_round.specs.AirLines.{AirState, waiting_in}
use Rattle.bt_round.specs.OnAir.{air_lines}
use Rattle.bt_round.specs.Trial.{IsTry}
use Rattle.bt_look.specs.Look.{IsLinksText}
use Rattle.bt_look.specs.Room.{capacity_lines, link_room_line}
use Rattle.bt_look.specs.State.{book_lines, plans_lines}

-- the text is what is asked of this state, and of this air
abbrev pub IsAnswer : Net → State → AirState → Query → List ℕ → Type 0
IsAnswer net state air query.State text = text ≡ book_lines net state
IsAnswer net state air query.Capacity text = text ≡ capacity_lines net (matrix_after net state.changes)
IsAnswer net state air (query.Room from to) text = text ≡ link_room_line net (matrix_after net state.changes) from to
IsAnswer net state air query.Demand text = IsLinksText net state.changes None text
IsAnswer net state air query.Installed text = text ≡ plan_spelling net (newest state.changes)
IsAnswer net state air query.Plans text = text ≡ plans_lines state.changes
IsAnswer net state air query.Air text = text ≡ air_lines net air
IsAnswer net state air query.Waiting text = text ≡ waiting_lines net (waiting_in air)
IsAnswer net state air (query.Help sites) text = text ≡ help_text sites
IsAnswer net state air (query.Blocks lines) text = text ≡ lines
IsAnswer net state air (query.Try said) text = IsTry net state said text

-- the same, with the number of its lines in front
pub record IsTold (net : Net) (state : State) (air : AirState) (asked : Query) (text : List ℕ) : Type 0 where
  pub own : List ℕ
  pub answer : IsAnswer net state air asked own
  pub whole : text ≡ counted own
