-- A terminal keeps its number, and says nothing but its own Confirm.
use Rattle.std.proofs.Common.{◌≡◌, Bool, true, false, List, [], ◌∷◌, Option, Some, None, refl, sym, subst}
use Rattle.std.specs.Prelude.{if◌then◌else◌}
use Rattle.bt_frame.specs.declared.numbers.Command.{Command}
use Rattle.bt_frame.specs.declared.numbers.EditionNo.{EditionNo}
use Rattle.bt_frame.specs.declared.numbers.Mark.{Mark}
use Rattle.bt_frame.specs.declared.numbers.TermNo.{TermNo}
use Rattle.bt_air.specs.declared.message.Message.{Message}
use Rattle.bt_air.specs.declared.message.Message.TheVariants as message
use Rattle.bt_air.specs.declared.sent.Aired.{Aired}
use Rattle.bt_air.specs.declared.sent.Heard.{Heard}
use Rattle.bt_machines.specs.Says.{confirms, is_confirming}
use Rattle.bt_machines.specs.Banks.{are_used, have_room, hold, next_bank}
use Rattle.bt_machines.specs.Terminal.{State, is_before, is_for_another, is_wrong, load_of, step_of as hear}
use Rattle.bt_site.specs.Sites.{terminal_says, terminal_with}
use Rattle.bt_station.specs.Ready.{IsConfirmOf}

either : (number : TermNo) (b : Bool) (x y : Heard × State) → x.1.number ≡ number → y.1.number ≡ number → (if b then x else y).1.number ≡ number
either number true x y this other = this
either number false x y this other = other

-- its number stays
pub number_kept : (s : State) (mark : Mark) (m : Message) → (terminal_with s mark (Some m)).number ≡ s.number
number_kept s mark (message.Load command edition modes) = refl
number_kept s mark (message.Arm command edition due) = refl
number_kept s mark (message.Status status) = refl
number_kept s mark (message.PlanFor to load edition bursts) =
    either s.number (is_for_another s to) _ _ refl (either s.number (hold s.banks edition) _ _ refl (either s.number (have_room s.banks) _ _ refl
    (either s.number (are_used s.heard mark.0 s.banks) _ _ refl (either s.number (is_before (record { load = load; edition = edition }) (next_bank s.heard mark.0 s.banks)) _ _ refl refl))))
number_kept s mark (message.Confirm from load edition) = refl
number_kept s mark (message.Reference superframe in_force next) = either s.number (is_wrong superframe mark) _ _ refl refl
number_kept s mark (message.Lost from) = refl

heads : (a b : Aired) → a ∷ [] ≡ b ∷ [] → a ≡ b
heads a b is = cc

of_confirms : (n : TermNo) (edition : EditionNo) (load : Option Command) (one : Aired) → one ∷ [] ≡ confirms n edition load → IsConfirmOf n one
of_confirms n edition None one is = absurd cc
of_confirms n edition (Some load) one is = subst (IsConfirmOf n) (sym (heads one _ is)) refl

where_true : (b : Bool) (one : Aired) (l : List Aired) → one ∷ [] ≡ (if b then l else []) → one ∷ [] ≡ l
where_true true one l is = is
where_true false one l is = absurd cc

-- what it says to a message is its own Confirm
pub confirm_said : (n : TermNo) (s : State) (mark : Mark) (m : Message) (one : Aired) → one ∷ [] ≡ terminal_says n s mark (Some m) → IsConfirmOf n one
confirm_said n s mark (message.PlanFor to load edition bursts) one is =
    let step = hear s mark (message.PlanFor to load edition bursts) in
    of_confirms n edition (load_of step.1 edition) one (where_true (is_confirming step.0) one (confirms n edition (load_of step.1 edition)) is)
confirm_said n s mark (message.Load command edition modes) one is = absurd cc
confirm_said n s mark (message.Arm command edition due) one is = absurd cc
confirm_said n s mark (message.Status status) one is = absurd cc
confirm_said n s mark (message.Confirm from load edition) one is = absurd cc
confirm_said n s mark (message.Reference superframe in_force next) one is = absurd cc
confirm_said n s mark (message.Lost from) one is = absurd cc
