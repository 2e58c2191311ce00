-- What the centre says by its own state is what the world sends.
use Rattle.std.proofs.Common.{◌≡◌, ℕ, List, ◌∷◌, ◌++◌, filter, length, Option, ◌∙◌, ap}
use Rattle.bt_frame.specs.declared.numbers.EditionNo.{EditionNo}
use Rattle.bt_frame.specs.declared.numbers.Mark.{Mark}
use Rattle.bt_frame.specs.declared.numbers.TermNo.{TermNo}
use Rattle.bt_air.specs.declared.order.Armed.{Armed}
use Rattle.bt_air.specs.declared.order.Order.{Order}
use Rattle.bt_air.specs.declared.order.Status.{Status}
use Rattle.bt_air.specs.declared.sent.Act.{Act}
use Rattle.bt_air.specs.declared.sent.Aired.{Aired}
use Rattle.bt_air.specs.declared.sent.Aired.TheVariants as sends
use Rattle.bt_machines.specs.Centre.{act_at, is_missing as is_missing_to, known_to}
use Rattle.bt_machines.specs.Known.{known}
use Rattle.bt_machines.specs.Last.{last_order, next_of}
use Rattle.bt_machines.specs.Terminals.{has}
use Rattle.bt_machines.specs.Says.{sent_by_act, sent_to_asking}
use Rattle.bt_site.specs.Centre.{IsCentreSaid, centre}
use Rattle.bt_site.specs.Event.{Opening, Happening, Turns}
use Rattle.bt_site.specs.World.{act, announced, is_asking, is_missing, kept, known_now, mark, orders, plans, sent_with, terminals}
use Rattle.bt_sites.specs.Sites.{turn_says}
use Rattle.bt_sites.proofs.Filters.{same-filter}

pub same-mark : (m : Mark) (n : ℕ) → m.0 ≡ n → m ≡ record { 0 = n }
same-mark m n e = ap (λ (k : ℕ). let one : Mark = record { 0 = k } in one) e

pub turn-said : (o : Opening) (past : List Happening) (target : EditionNo) → IsCentreSaid o past (centre o past)
    → turn_says o (centre o past) (plans o past) (record { 0 = mark o past }) target ≡ sent_with o past (Turns target (act o past target))
turn-said o past target is =
    let s = centre o past in
    let now : Mark = record { 0 = mark o past } in
    let n = length o.net.terminals in
    let missed = filter (λ (t : TermNo). is_missing_to s t) (terminals o) in
    let askers = filter (λ (t : TermNo). has s.asking t) (terminals o) in
    let knowing : known_to s now.0 ≡ known_now o past =
    ap (λ (status : Option Status). known status s.orders (mark o past)) is.kept ∙ ap (λ (list : List Order). known (kept past) list (mark o past)) is.orders in
    let announcing : next_of (last_order s.orders) now.0 ≡ announced o past = ap (λ (list : List Order). next_of (last_order list) (mark o past)) is.orders in
    let missing : missed ≡ filter (is_missing o past) (terminals o) = same-filter (λ (t : TermNo). is_missing_to s t) (is_missing o past) n is.missing in
    let asking : askers ≡ filter (is_asking o past) (terminals o) = same-filter (λ (t : TermNo). has s.asking t) (is_asking o past) n is.asking in
    let acts : sent_by_act s.orders missed (act_at s now target o.net.lead o.net.patience) ≡ sent_by_act (orders o past) (filter (is_missing o past) (terminals o)) (act o past target) =
    ap (λ (list : List Order). sent_by_act list missed (act_at s now target o.net.lead o.net.patience)) is.orders
    ∙ ap (λ (list : List TermNo). sent_by_act (orders o past) list (act_at s now target o.net.lead o.net.patience)) missing
    ∙ ap (λ (x : Act). sent_by_act (orders o past) (filter (is_missing o past) (terminals o)) x) (is.acts target) in
    let asked : sent_to_asking (known_to s now.0) s.orders (plans o past) askers ≡ sent_to_asking (known_now o past) (orders o past) (plans o past) (filter (is_asking o past) (terminals o)) =
    ap (λ (x : Option EditionNo). sent_to_asking x s.orders (plans o past) askers) knowing
    ∙ ap (λ (list : List Order). sent_to_asking (known_now o past) list (plans o past) askers) is.orders
    ∙ ap (λ (list : List TermNo). sent_to_asking (known_now o past) (orders o past) (plans o past) list) asking in
    let does = sent_by_act (orders o past) (filter (is_missing o past) (terminals o)) (act o past target) in
    ap (λ (x : Option EditionNo). sends.Reference now x (next_of (last_order s.orders) now.0) ∷ sent_by_act s.orders missed (act_at s now target o.net.lead o.net.patience) ++ sent_to_asking (known_to s now.0) s.orders (plans o past) askers) knowing
    ∙ ap (λ (x : Option Armed). sends.Reference now (known_now o past) x ∷ sent_by_act s.orders missed (act_at s now target o.net.lead o.net.patience) ++ sent_to_asking (known_to s now.0) s.orders (plans o past) askers) announcing
    ∙ ap (λ (list : List Aired). sends.Reference now (known_now o past) (announced o past) ∷ list ++ sent_to_asking (known_to s now.0) s.orders (plans o past) askers) acts
    ∙ ap (λ (list : List Aired). sends.Reference now (known_now o past) (announced o past) ∷ does ++ list) asked
