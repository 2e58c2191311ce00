-- The lines of how the centre sees the air, each by its form.
use Rattle.std.specs.Prelude.{ℕ, ◌-◌, ◌==◌, Bool, true, false, List, [], ◌∷◌, decimal, Option, Some, None}
use Rattle.bt_frame.specs.declared.numbers.Mark.{Mark}
use Rattle.bt_frame.specs.declared.numbers.TermNo.{TermNo}
use Rattle.bt_net.specs.Network.{Net}
use Rattle.bt_net.specs.Terminals.{name_at}
use Rattle.bt_air.specs.declared.order.Armed.{Armed}
use Rattle.bt_air.specs.declared.order.Order.{Order}
use Rattle.bt_air.specs.declared.order.Order.TheVariants.{Load, Arm}
use Rattle.bt_air.specs.declared.order.Status.{Status}
use Rattle.bt_air.specs.Orders.{command_of}
use Rattle.bt_words.specs.declared.form.Form.{Form}
use Rattle.bt_words.specs.declared.form.Form.TheVariants as form
use Rattle.bt_words.specs.Filled.{form_line}

-- the line of the superframe that the centre takes for the present one, or that it has heard of none since its start
abbrev pub superframe_line : Option Mark → List ℕ
superframe_line None = form_line form.NoSuperframe []
superframe_line (Some present) = form_line form.Superframe (decimal present.0 ∷ [])

-- the age of a status in a superframe: the superframes from its own to that one, 0 where its own is later
abbrev pub age_in : Mark → Status → ℕ
age_in present status = present.0 - status.mark.0

-- the line of a status of this age, by the change for which the satellite is armed
abbrev pub aged_line : ℕ → Status → Option Armed → List ℕ
aged_line age status None = form_line form.Status (decimal status.mark.0 ∷ decimal age ∷ decimal status.fore.0 ∷ decimal status.back.0 ∷ decimal status.last.0 ∷ [])
aged_line age status (Some change) = form_line form.ArmedStatus (decimal status.mark.0 ∷ decimal age ∷ decimal status.fore.0 ∷ decimal status.back.0 ∷ decimal change.edition.0 ∷ decimal change.due.0 ∷ decimal status.last.0 ∷ [])

-- the line of the status that the centre keeps, in the superframe that it takes for the present one
abbrev pub kept_line : Mark → Option Status → List ℕ
kept_line present None = form_line form.NoStatus []
kept_line present (Some status) = aged_line (age_in present status) status status.armed

-- an order is confirmed where the status that is kept says that its command was the last that the satellite took
abbrev pub is_confirmed : Option Status → Order → Bool
is_confirmed None order = false
is_confirmed (Some status) order = status.last.0 == (command_of order).0

-- the form of the line of a Load that was placed last, by whether it is confirmed
abbrev pub last_load_form : Bool → Form
last_load_form false = form.LastLoad
last_load_form true = form.LastLoadConfirmed

-- the form of the line of an Arm that was placed last, by whether it is confirmed
abbrev pub last_arm_form : Bool → Form
last_arm_form false = form.LastArm
last_arm_form true = form.LastArmConfirmed

-- the line of the order that was placed last, by whether it is confirmed
abbrev pub last_order_line : Bool → Order → List ℕ
last_order_line confirmed (Load command edition) = form_line (last_load_form confirmed) (decimal command.0 ∷ decimal edition.0 ∷ [])
last_order_line confirmed (Arm command edition due) = form_line (last_arm_form confirmed) (decimal command.0 ∷ decimal edition.0 ∷ decimal due.0 ∷ [])

-- the line of the last order, if one was placed, by the status that the centre keeps
abbrev pub last_line : Option Status → Option Order → List ℕ
last_line kept None = form_line form.NoLast []
last_line kept (Some order) = last_order_line (is_confirmed kept order) order

-- the line of a terminal that has still to confirm the edition of the last order
abbrev pub missing_line : Net → TermNo → List ℕ
missing_line net terminal = form_line form.Missing (name_at net terminal ∷ [])

-- the line of a terminal that asks for its bursts
abbrev pub asks_line : Net → TermNo → List ℕ
asks_line net terminal = form_line form.Asks (name_at net terminal ∷ [])
