-- What a status that was sent says for ever, and what a message that was sent is good for.
use Rattle.std.proofs.Common.{◌≡◌, ◌⊎◌, inl, inr, ℕ, ◌+◌, ◌<◌, ◌≤◌, nat_le, if◌then◌else◌, Bool, true, false, List, ◌∷◌, Option, Some, None, refl, ◌∙◌, ap, arith}
use Rattle.std.proofs.lemmas.Bool.Decides.{nat_tests}
use Rattle.bt_frame.specs.declared.numbers.Command.{Command}
use Rattle.bt_frame.specs.declared.numbers.EditionNo.{EditionNo}
use Rattle.bt_frame.specs.declared.numbers.Mark.{Mark}
use Rattle.std.specs.Prelude.{IfSome}
use Rattle.bt_air.specs.declared.order.Armed.{Armed}
use Rattle.bt_air.specs.declared.order.Order.{Order}
use Rattle.bt_air.specs.declared.order.Order.TheVariants.{Load, Arm}
use Rattle.bt_air.specs.declared.order.Status.{Status}
use Rattle.bt_air.specs.declared.sent.Aired.{Aired}
use Rattle.bt_air.specs.declared.sent.Aired.TheVariants as sends
use Rattle.bt_air.specs.Orders.{last_command, last_arm, to_come, fore_at}
use Rattle.std.specs.List.{list_any}
use Rattle.bt_machines.specs.Known.{is_unseen, known, told_fore}
use Rattle.bt_machines.specs.Orders.{telling}
use Rattle.bt_site.proofs.Orders.{Settled, told-fore_at, has_unseen-among, known-more}
use Rattle.bt_site.specs.Laws.{IsAmong, IsAnnounced, IsNoneOr}

-- the edition is the one in front in a superframe that has begun
pub record IsInFront (accepted : List Order) (mark : ℕ) (superframe : Mark) (edition : EditionNo) : Type 0 where
  pub begun : superframe.0 ≤ mark
  pub front : edition ≡ fore_at accepted superframe.0

-- The status shows the edition in front in its superframe. From then on, what it makes known is the edition in front by
-- the orders that the satellite accepted.
pub record Tells (orders accepted : List Order) (mark : ℕ) (status : Status) : Type 0 where
  pub last : status.last.0 ≤ (last_command accepted).0
  pub shows : IsInFront accepted mark status.mark status.fore
  pub right : (q : ℕ) → status.mark.0 ≤ q → IsNoneOr (known (Some status) orders q) (fore_at accepted q)

-- an edition that is named is in front
abbrev pub NamesFront : List Order → ℕ → Mark → Option EditionNo → Type 0
NamesFront accepted mark superframe None = Unit {0}
NamesFront accepted mark superframe (Some edition) = IsInFront accepted mark superframe edition

-- a Reference names the edition in front, if one, and announces what was placed, if anything
pub record IsSaid (orders accepted : List Order) (mark : ℕ) (superframe : Mark) (in_force : Option EditionNo) (next : Option Armed) : Type 0 where
  pub names : NamesFront accepted mark superframe in_force
  pub announces : IfSome next (IsAnnounced orders superframe.0)

-- what holds of each message that was sent
abbrev pub IsSound : List Order → List Order → ℕ → Aired → Type 0
IsSound orders accepted mark (sends.Load command edition) = IsAmong (Load command edition) orders
IsSound orders accepted mark (sends.Arm command edition due) = IsAmong (Arm command edition due) orders
IsSound orders accepted mark (sends.Status status) = Tells orders accepted mark status
IsSound orders accepted mark (sends.Reference superframe in_force next) = IsSaid orders accepted mark superframe in_force next
IsSound orders accepted mark _ = Unit {0}

-- one order more is placed
none-or-more : (a b : Option EditionNo) (edition : EditionNo) → (a ≡ None) ⊎ (a ≡ b) → IsNoneOr b edition → IsNoneOr a edition
none-or-more a b edition (inl none) known = inl none
none-or-more a b edition (inr same) (inl none) = inl (same ∙ none)
none-or-more a b edition (inr same) (inr some) = inr (same ∙ some)

pub tells-placed : (order : Order) (orders accepted : List Order) (mark : ℕ) (status : Status) → Tells orders accepted mark status → Tells (order ∷ orders) accepted mark status
tells-placed order orders accepted mark status tells = record {
  last = tells.last;
  shows = tells.shows;
  right = λ q h. none-or-more (known (Some status) (order ∷ orders) q) (known (Some status) orders q) (fore_at accepted q) (known-more status order orders q) (tells.right q h);
}

announced-placed : (order : Order) (orders : List Order) (superframe : ℕ) (next : Option Armed) → IfSome next (IsAnnounced orders superframe) → IfSome next (IsAnnounced (order ∷ orders) superframe)
announced-placed order orders superframe None announced = tt
announced-placed order orders superframe (Some armed) announced = record { command = announced.command; arms = inr announced.arms; later = announced.later }

pub sound-placed : (order : Order) (orders accepted : List Order) (mark : ℕ) (sent : Aired) → IsSound orders accepted mark sent → IsSound (order ∷ orders) accepted mark sent
sound-placed order orders accepted mark (sends.Load command edition) among = inr among
sound-placed order orders accepted mark (sends.Arm command edition due) among = inr among
sound-placed order orders accepted mark (sends.Status status) tells = tells-placed order orders accepted mark status tells
sound-placed order orders accepted mark (sends.PlanFor to load edition) sound = tt
sound-placed order orders accepted mark (sends.Confirm from load edition) sound = tt
sound-placed order orders accepted mark (sends.Reference superframe in_force next) said =
    record { names = said.names; announces = announced-placed order orders superframe.0 next said.announces }
sound-placed order orders accepted mark (sends.Lost from) sound = tt

-- a superframe more begins
front-begun : (accepted : List Order) (mark : ℕ) (superframe : Mark) (edition : EditionNo) → IsInFront accepted mark superframe edition → IsInFront accepted (mark + 1) superframe edition
front-begun accepted mark superframe edition front = let h : superframe.0 ≤ mark = front.begun in record { begun = omega arith; front = front.front }

names-begun : (accepted : List Order) (mark : ℕ) (superframe : Mark) (in_force : Option EditionNo) → NamesFront accepted mark superframe in_force → NamesFront accepted (mark + 1) superframe in_force
names-begun accepted mark superframe None names = tt
names-begun accepted mark superframe (Some edition) names = front-begun accepted mark superframe edition names

pub tells-begun : (orders accepted : List Order) (mark : ℕ) (status : Status) → Tells orders accepted mark status → Tells orders accepted (mark + 1) status
tells-begun orders accepted mark status tells = record { last = tells.last; shows = front-begun accepted mark status.mark status.fore tells.shows; right = tells.right }

pub sound-begun : (orders accepted : List Order) (mark : ℕ) (sent : Aired) → IsSound orders accepted mark sent → IsSound orders accepted (mark + 1) sent
sound-begun orders accepted mark (sends.Load command edition) among = among
sound-begun orders accepted mark (sends.Arm command edition due) among = among
sound-begun orders accepted mark (sends.Status status) tells = tells-begun orders accepted mark status tells
sound-begun orders accepted mark (sends.PlanFor to load edition) sound = tt
sound-begun orders accepted mark (sends.Confirm from load edition) sound = tt
sound-begun orders accepted mark (sends.Reference superframe in_force next) said =
    record { names = names-begun accepted mark superframe in_force said.names; announces = said.announces }
sound-begun orders accepted mark (sends.Lost from) sound = tt

-- what an order that joins the accepted ones must be: placed and later than the last, and an Arm is due later
abbrev pub MayJoin : List Order → List Order → ℕ → Order → Type 0
MayJoin orders accepted mark (Load command edition) = ((last_command accepted).0 < command.0) × IsAmong (Load command edition) orders
MayJoin orders accepted mark (Arm command edition due) = ((last_command accepted).0 < command.0) × (mark < due.0) × IsAmong (Arm command edition due) orders

-- one order more is accepted
right-armed : (orders accepted : List Order) (mark : ℕ) (status : Status) (command : Command) (edition : EditionNo) (due : Mark) (test : Bool)
    → Tells orders accepted mark status → (last_command accepted).0 < command.0 → mark < due.0 → IsAmong (Arm command edition due) orders
    → (q : ℕ) → nat_le due.0 q ≡ test → status.mark.0 ≤ q → IsNoneOr (known (Some status) orders q) (if test then edition else fore_at accepted q)
right-armed orders accepted mark status command edition due true tells after ahead among q e h =
    let a : status.last.0 ≤ (last_command accepted).0 = tells.last in
    let b : status.mark.0 ≤ mark = tells.shows.begun in
    let p : list_any (is_unseen status q) orders ≡ true = has_unseen-among status q orders command edition due among (omega arith) (omega arith) (grind (arith, nat_tests)) in
    inl (rw p refl)
right-armed orders accepted mark status command edition due false tells after ahead among q e h = tells.right q h

front-armed : (accepted : List Order) (mark : ℕ) (edition : EditionNo) (due superframe : Mark) (test : Bool) (named : EditionNo)
    → nat_le due.0 superframe.0 ≡ test → mark < due.0 → superframe.0 ≤ mark → named ≡ fore_at accepted superframe.0
    → named ≡ (if test then edition else fore_at accepted superframe.0)
front-armed accepted mark edition due superframe true named e ahead begun front = absurd (grind (arith, nat_tests))
front-armed accepted mark edition due superframe false named e ahead begun front = front

front-joined : (orders accepted : List Order) (mark : ℕ) (order : Order) (superframe : Mark) (named : EditionNo) → MayJoin orders accepted mark order
    → IsInFront accepted mark superframe named → IsInFront (order ∷ accepted) mark superframe named
front-joined orders accepted mark (Load command edition) superframe named may front = record { begun = front.begun; front = front.front }
front-joined orders accepted mark (Arm command edition due) superframe named may front =
    record { begun = front.begun; front = front-armed accepted mark edition due superframe _ named refl may.1 front.begun front.front }

pub tells-joined : (orders accepted : List Order) (mark : ℕ) (order : Order) (status : Status) → MayJoin orders accepted mark order → Tells orders accepted mark status
    → Tells orders (order ∷ accepted) mark status
tells-joined orders accepted mark (Load command edition) status may tells =
    let a : status.last.0 ≤ (last_command accepted).0 = tells.last in let b : (last_command accepted).0 < command.0 = may.0 in
    record { last = omega arith; shows = front-joined orders accepted mark (Load command edition) status.mark status.fore may tells.shows; right = tells.right }
tells-joined orders accepted mark (Arm command edition due) status may tells =
    let a : status.last.0 ≤ (last_command accepted).0 = tells.last in let b : (last_command accepted).0 < command.0 = may.0 in
    record { last = omega arith; shows = front-joined orders accepted mark (Arm command edition due) status.mark status.fore may tells.shows; right = λ q h. right-armed orders accepted mark status command edition due _ tells may.0 may.1 may.2 q refl h }

names-joined : (orders accepted : List Order) (mark : ℕ) (order : Order) (superframe : Mark) (in_force : Option EditionNo) → MayJoin orders accepted mark order
    → NamesFront accepted mark superframe in_force → NamesFront (order ∷ accepted) mark superframe in_force
names-joined orders accepted mark order superframe None may names = tt
names-joined orders accepted mark order superframe (Some edition) may names = front-joined orders accepted mark order superframe edition may names

pub sound-joined : (orders accepted : List Order) (mark : ℕ) (order : Order) (sent : Aired) → MayJoin orders accepted mark order
    → IsSound orders accepted mark sent → IsSound orders (order ∷ accepted) mark sent
sound-joined orders accepted mark order (sends.Load command edition) may among = among
sound-joined orders accepted mark order (sends.Arm command edition due) may among = among
sound-joined orders accepted mark order (sends.Status status) may tells = tells-joined orders accepted mark order status may tells
sound-joined orders accepted mark order (sends.PlanFor to load edition) may sound = tt
sound-joined orders accepted mark order (sends.Confirm from load edition) may sound = tt
sound-joined orders accepted mark order (sends.Reference superframe in_force next) may said =
    record { names = names-joined orders accepted mark order superframe in_force may said.names; announces = said.announces }
sound-joined orders accepted mark order (sends.Lost from) may sound = tt

-- a new status
new-right : (orders accepted : List Order) (q : ℕ) (told : EditionNo) (unseen : Bool) → told ≡ fore_at accepted q → IsNoneOr (if unseen then None else Some told) (fore_at accepted q)
new-right orders accepted q told true e = inl refl
new-right orders accepted q told false e = inr (ap (λ (edition : EditionNo). Some edition) e)

pub tells-new : (orders accepted : List Order) (mark : ℕ) → Settled accepted mark → Tells orders accepted mark (telling accepted mark)
tells-new orders accepted mark settled = record {
  last = omega arith;
  shows = record { begun = omega arith; front = refl };
  right = λ q h. new-right orders accepted q (told_fore (to_come (last_arm accepted) mark) (fore_at accepted mark) q)
      (list_any (is_unseen (telling accepted mark) q) orders) (told-fore_at accepted mark q settled h);
}
