-- What the centre says in its turn, part by part.
use Rattle.std.proofs.Common.{◌≡◌, ℕ, List, [], ◌∷◌, ◌++◌, filter, Option, ◌∙◌, ap, append_assoc}
use Rattle.bt_frame.specs.declared.numbers.EditionNo.{EditionNo}
use Rattle.bt_frame.specs.declared.numbers.Mark.{Mark}
use Rattle.bt_frame.specs.declared.numbers.TermNo.{TermNo}
use Rattle.bt_demand.specs.declared.plan.Plan.{Plan}
use Rattle.bt_air.specs.declared.order.Armed.{Armed}
use Rattle.bt_air.specs.declared.sent.Act.{Act}
use Rattle.bt_air.specs.declared.sent.Aired.{Aired}
use Rattle.bt_air.specs.declared.sent.Aired.TheVariants as sends
use Rattle.bt_machines.specs.Centre.{State, act_at, after_turn, is_missing, known_to}
use Rattle.bt_machines.specs.Last.{last_order, next_of}
use Rattle.bt_machines.specs.Says.{sent_by_act, sent_to_asking}
use Rattle.bt_machines.specs.Terminals.{has}
use Rattle.bt_site.specs.Sites.{turn_says}

-- the reference burst, then what the act calls for, then what those who ask are to have
pub turn-told : (everyone : List TermNo) (s after : State) (all : List Plan) (mark : Mark) (target : EditionNo) (lead patience : ℕ)
    (in_force : Option EditionNo) (next : Option Armed) (act : Act) (before first second third : List Aired)
    → in_force ≡ known_to s mark.0 → next ≡ next_of (last_order s.orders) mark.0 → act ≡ act_at s mark target lead patience → after ≡ after_turn s mark target lead patience
    → first ≡ before ++ sends.Reference mark in_force next ∷ []
    → second ≡ first ++ sent_by_act after.orders (filter (λ (terminal : TermNo). is_missing after terminal) everyone) act
    → third ≡ second ++ sent_to_asking in_force after.orders all (filter (λ (terminal : TermNo). has after.asking terminal) everyone)
    → third ≡ before ++ turn_says everyone s all mark target lead patience
turn-told everyone s after all mark target lead patience in_force next act before first second third knows announces acts turned one two three =
    let acted : Act → List Aired = λ (x : Act). sent_by_act s.orders (filter (λ (terminal : TermNo). is_missing s terminal) everyone) x in
    let asked : Option EditionNo → List Aired = λ (e : Option EditionNo). sent_to_asking e s.orders all (filter (λ (terminal : TermNo). has s.asking terminal) everyone) in
    let reference : Aired = sends.Reference mark in_force next in
    let second_is : second ≡ first ++ acted act =
    two ∙ ap (λ (x : State). first ++ sent_by_act x.orders (filter (λ (terminal : TermNo). is_missing x terminal) everyone) act) turned in
    let third_is : third ≡ second ++ asked in_force =
    three ∙ ap (λ (x : State). second ++ sent_to_asking in_force x.orders all (filter (λ (terminal : TermNo). has x.asking terminal) everyone)) turned in
    third_is
    ∙ ap (λ (list : List Aired). list ++ asked in_force) second_is
    ∙ ap (λ (list : List Aired). (list ++ acted act) ++ asked in_force) one
    ∙ ap (λ (list : List Aired). list ++ asked in_force) (append_assoc before (reference ∷ []) (acted act))
    ∙ append_assoc before (reference ∷ acted act) (asked in_force)
    ∙ ap (λ (e : Option EditionNo). before ++ sends.Reference mark e next ∷ (acted act ++ asked e)) knows
    ∙ ap (λ (x : Option Armed). before ++ sends.Reference mark (known_to s mark.0) x ∷ (acted act ++ asked (known_to s mark.0))) announces
    ∙ ap (λ (x : Act). before ++ sends.Reference mark (known_to s mark.0) (next_of (last_order s.orders) mark.0) ∷ (acted x ++ asked (known_to s mark.0))) acts
