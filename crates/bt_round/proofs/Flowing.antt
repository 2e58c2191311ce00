-- Deliveries one after the other. What the receivers send meanwhile is for the centre, which sends nothing then.
use Rattle.std.proofs.Common.{◌≡◌, ℕ, ◌+◌, ◌<◌, ◌≤◌, ◌==◌, Bool, true, false, if◌then◌else◌, List, [], ◌∷◌, ◌++◌, length, take, drop, get_or, All, Option, Some, None, refl, sym, ap, ◌∙◌, subst, append_assoc, arith, slice_get}
use Rattle.std.proofs.lemmas.List.{append-nil, drop_all, drop_more, length-append, length-drop, take_more}
use Rattle.std.proofs.lemmas.List.Elements.{All-append, All-cons, All-head, All-nil, All-tail, All-take}
use Rattle.bt_frame.specs.declared.numbers.EditionNo.{EditionNo}
use Rattle.bt_frame.specs.declared.numbers.TermNo.{TermNo}
use Rattle.bt_net.specs.Network.{Net}
use Rattle.bt_air.specs.declared.order.Order.{Order}
use Rattle.bt_air.specs.declared.sent.Place.{Place}
use Rattle.bt_air.specs.declared.sent.Place.TheVariants.{Satellite, Centre, Terminal}
use Rattle.bt_air.specs.declared.sent.Aired.{Aired}
use Rattle.bt_air.specs.declared.sent.Aired.TheVariants as sends
use Rattle.bt_air.specs.Sent.{sent_as}
use Rattle.bt_frame.specs.declared.numbers.Command.{Command}
use Rattle.bt_machines.specs.declared.burst_bank.Holding.{Holding}
use Rattle.bt_machines.specs.Said.{load_in}
use Rattle.bt_timeline.specs.Air.{flow_line}
use Rattle.bt_site.specs.Event.{Opening, Deliver, Happening}
use Rattle.bt_site.specs.World.{accepted, held, held_by, joins, last_heard, mark, plans, sent_by_hearing, sent_by_satellite, sent_by_terminal, terminals}
use Rattle.bt_machines.specs.Says.{confirms}
use Rattle.bt_round.specs.Simulated.{SimulatedAir, PlaysDeliveries, PlaysFlow, PlaysNext, awaiting, happened, sent_by, sent_count, sent_in}
use Rattle.bt_round.specs.Waiting.{deliveries, deliveries_of, receivers}
use Rattle.bt_round.specs.Worker.{ComeFirst, IsForCentre, Plays, PlaysFirst}

-- the message is for the centre alone
abbrev IsReply : List TermNo → Aired → Type 0
IsReply everyone one = receivers everyone (sent_as one) ≡ Centre ∷ []

satellite-replies : (everyone : List TermNo) (joined before : List Order) (now : ℕ) → All (IsReply everyone) (sent_by_satellite joined before now)
satellite-replies everyone [] before now = All-nil (IsReply everyone)
satellite-replies everyone (first ∷ rest) before now = All-cons (IsReply everyone) _ [] refl (All-nil (IsReply everyone))

confirm-replies : (everyone : List TermNo) (test : Bool) (terminal : TermNo) (edition : EditionNo) (held : Option Command) → All (IsReply everyone) (if test then confirms terminal edition held else [])
confirm-replies everyone true terminal edition (Some load) = All-cons (IsReply everyone) (sends.Confirm terminal load edition) [] refl (All-nil (IsReply everyone))
confirm-replies everyone true terminal edition None = All-nil (IsReply everyone)
confirm-replies everyone false terminal edition held = All-nil (IsReply everyone)

terminal-replies : (everyone : List TermNo) (after : List Holding) (terminal : TermNo) (one : Option Aired) → All (IsReply everyone) (sent_by_terminal after terminal one)
terminal-replies everyone after terminal None = All-nil (IsReply everyone)
terminal-replies everyone after terminal (Some (sends.PlanFor for load edition)) = confirm-replies everyone (for.0 == terminal.0) terminal edition (load_in after edition)
terminal-replies everyone after terminal (Some (sends.Load command edition)) = All-nil (IsReply everyone)
terminal-replies everyone after terminal (Some (sends.Arm command edition due)) = All-nil (IsReply everyone)
terminal-replies everyone after terminal (Some (sends.Status status)) = All-nil (IsReply everyone)
terminal-replies everyone after terminal (Some (sends.Confirm from load edition)) = All-nil (IsReply everyone)
terminal-replies everyone after terminal (Some (sends.Reference superframe in_force next)) = All-nil (IsReply everyone)
terminal-replies everyone after terminal (Some (sends.Lost from)) = All-nil (IsReply everyone)

hearing-replies : (everyone : List TermNo) (o : Opening) (past : List Happening) (one : Option Aired) (place : Place) → All (IsReply everyone) (sent_by_hearing o past one place)
hearing-replies everyone o past one Satellite = satellite-replies everyone (joins (accepted o past) (mark o past) (plans o past) one Satellite) (accepted o past) (mark o past)
hearing-replies everyone o past one Centre = All-nil (IsReply everyone)
hearing-replies everyone o past one (Terminal to) = terminal-replies everyone (held_by (held o past to) (last_heard o past to) (mark o past) to one) to one

replies-for : (everyone : List TermNo) (first : ℕ) (xs : List Aired) → All (IsReply everyone) xs → All IsForCentre (deliveries everyone first xs)
replies-for everyone first [] all = All-nil IsForCentre
replies-for everyone first (one ∷ more) all =
    All-append IsForCentre (deliveries_of first (receivers everyone (sent_as one))) (deliveries everyone (first + 1) more)
    (subst (λ (l : List Place). All IsForCentre (deliveries_of first l)) (sym (All-head (IsReply everyone) one more all))
    (All-cons IsForCentre (first, Centre) [] refl (All-nil IsForCentre)))
    (replies-for everyone (first + 1) more (All-tail (IsReply everyone) one more all))

-- what a delivery sends is for the centre
joined-for : (air : SimulatedAir) (number : ℕ) (place : Place)
    → All IsForCentre (deliveries (terminals air.life.opening) (sent_count air) (sent_by air (Deliver number place)))
joined-for air number place =
    replies-for (terminals air.life.opening) (sent_count air) (sent_by air (Deliver number place)) (hearing-replies (terminals air.life.opening) air.life.opening (happened air) (slice_get (sent_in air) number) place)

-- a delivery to the centre sends nothing
centre-silent : (air : SimulatedAir) (number : ℕ) (place : Place) → place ≡ Centre
    → deliveries (terminals air.life.opening) (sent_count air) (sent_by air (Deliver number place)) ≡ []
centre-silent air number place is =
    ap (λ (p : Place). deliveries (terminals air.life.opening) (sent_count air) (sent_by air (Deliver number p))) is

-- deliveries, and then others
play-both : (net : Net) (a b c : SimulatedAir) (xs ys : List (ℕ × Place)) (s t : List ℕ) → PlaysDeliveries net a xs s b → PlaysDeliveries net b ys t c → PlaysDeliveries net a (xs ++ ys) (s ++ t) c
play-both net a b c [] ys s t one two =
    subst (λ (l : List ℕ). PlaysDeliveries net a ys (l ++ t) c) (sym one.0) (subst (λ (air : SimulatedAir). PlaysDeliveries net air ys t c) one.1 two)
play-both net a b c (x ∷ xs) ys s t one two = (
  one.0,
  one.1,
  one.2 ++ t,
  one.3,
  play-both net one.0 b c xs ys one.2 t one.4 two,
  ap (λ (l : List ℕ). l ++ t) one.5 ∙ append_assoc one.1 one.2 t,
)

play-one : (net : Net) (a b : SimulatedAir) (x : ℕ × Place) (s : List ℕ) → PlaysNext net a x s b → PlaysDeliveries net a (x ∷ []) s b
play-one net a b x s next = (b, s, [], next, (refl, refl), sym (append-nil s))

-- before the first
pub come-none : (net : Net) (before : SimulatedAir) (text : List ℕ) → Plays (ComeFirst net 0 before) before text text
come-none net before text = record {
  own = [];
  played = record {
    heard = [];
    came = (refl, refl);
    joined = [];
    left = sym (append-nil before.waiting);
    replies = All-nil IsForCentre;
    silent = λ all. refl;
  };
  added = sym (append-nil text);
}

heads : {A : Type 0} (x y : A) (xs ys : List A) → x ∷ xs ≡ y ∷ ys → x ≡ y
heads x y xs ys e = cc

tails : {A : Type 0} (x y : A) (xs ys : List A) → x ∷ xs ≡ y ∷ ys → xs ≡ ys
tails x y xs ys e = cc

firsts-for : (xs : List (ℕ × Place)) (x : ℕ × Place) → All IsForCentre (xs ++ x ∷ []) → All IsForCentre xs
firsts-for [] x all = All-nil IsForCentre
firsts-for (y ∷ xs) x all = All-cons IsForCentre y xs (All-head IsForCentre y (xs ++ x ∷ []) all) (firsts-for xs x (All-tail IsForCentre y (xs ++ x ∷ []) all))

last-for : (xs : List (ℕ × Place)) (x : ℕ × Place) → All IsForCentre (xs ++ x ∷ []) → IsForCentre x
last-for [] x all = All-head IsForCentre x [] all
last-for (y ∷ xs) x all = last-for xs x (All-tail IsForCentre y (xs ++ x ∷ []) all)

-- and one more
come-one : (net : Net) (k : ℕ) (before mid after : SimulatedAir) (s t : List ℕ) → k < length before.waiting → ComeFirst net k before s mid → PlaysFirst net mid t after → ComeFirst net (k + 1) before (s ++ t) after
come-one net k before mid after s t within so one =
    let next = one.next in
    let others = one.came.others in
    let air : SimulatedAir = awaiting mid others in
    let new : List (ℕ × Place) = deliveries (terminals air.life.opening) (sent_count air) (sent_by air (Deliver next.0 next.1)) in
    let there = get_or before.waiting k next in
    let order : next ∷ others ≡ there ∷ (drop (k + 1) before.waiting ++ so.joined) =
    sym one.came.first ∙ so.left ∙ ap (λ (l : List (ℕ × Place)). l ++ so.joined) (drop_more before.waiting k next within) in
    let same : next ≡ there = heads next there others (drop (k + 1) before.waiting ++ so.joined) order in
    let rest : others ≡ drop (k + 1) before.waiting ++ so.joined = tails next there others (drop (k + 1) before.waiting ++ so.joined) order in
    record {
      heard = so.heard ++ next ∷ [];
      came = play-both net before mid after so.heard (next ∷ []) s t so.came (play-one net mid after next t one.came);
      joined = so.joined ++ new;
      left = ap (λ (a : SimulatedAir). a.waiting) one.came.hearing.heard ∙ ap (λ (l : List (ℕ × Place)). l ++ new) rest ∙ append_assoc (drop (k + 1) before.waiting) so.joined new;
      replies = All-append IsForCentre so.joined new so.replies (joined-for air next.0 next.1);
      silent = λ all.
          let parts : All IsForCentre (take k before.waiting ++ there ∷ []) = subst (λ (l : List (ℕ × Place)). All IsForCentre l) (take_more before.waiting k next within) all in
          let last : IsForCentre there = last-for (take k before.waiting) there parts in
          let none : so.joined ≡ [] = so.silent (firsts-for (take k before.waiting) there parts) in
          let quiet : new ≡ [] = centre-silent air next.0 next.1 (ap (λ (d : ℕ × Place). d.1) same ∙ last) in
          ap (λ (l : List (ℕ × Place)). l ++ new) none ∙ quiet;
    }

pub come-more : (net : Net) (k : ℕ) (before mid after : SimulatedAir) (t0 t1 t2 : List ℕ) → k < length before.waiting → Plays (ComeFirst net k before) mid t0 t1 → Plays (PlaysFirst net mid) after t1 t2
    → Plays (ComeFirst net (k + 1) before) after t0 t2
come-more net k before mid after t0 t1 t2 within so one = record {
  own = so.own ++ one.own;
  played = come-one net k before mid after so.own one.own within so.played one.played;
  added = one.added ∙ ap (λ (l : List ℕ). l ++ one.own) so.added ∙ append_assoc t0 so.own one.own;
}

-- some are left while fewer have come than waited
pub some-left : (net : Net) (k count : ℕ) (before mid : SimulatedAir) (t0 t1 : List ℕ) → k < count → count ≤ length before.waiting → Plays (ComeFirst net k before) mid t0 t1 → 0 < length mid.waiting
some-left net k count before mid t0 t1 within few so =
    omega (arith, ap length so.played.left, length-append (drop k before.waiting) so.played.joined, length-drop k before.waiting, within, few)

-- all that waited came, and then all that joined
pub flowed : (net : Net) (before mid after : SimulatedAir) (n m : ℕ) (t0 t1 t2 t3 : List ℕ) → t1 ≡ t0 ++ flow_line → n ≡ length before.waiting → m ≡ length mid.waiting
    → Plays (ComeFirst net n before) mid t1 t2 → Plays (ComeFirst net m mid) after t2 t3 → Plays (PlaysFlow net before) after t0 t3
flowed net before mid after n m t0 t1 t2 t3 begun all_first all_joined one two =
    let short : length before.waiting ≤ n = omega (arith, all_first) in
    let fewer : length mid.waiting ≤ m = omega (arith, all_joined) in
    let joined : mid.waiting ≡ one.played.joined = one.played.left ∙ ap (λ (l : List (ℕ × Place)). l ++ one.played.joined) (drop_all n before.waiting short) in
    let centre : All IsForCentre mid.waiting = subst (λ (l : List (ℕ × Place)). All IsForCentre l) (sym joined) one.played.replies in
    let quiet : two.played.joined ≡ [] = two.played.silent (All-take IsForCentre m mid.waiting centre) in
    let none : after.waiting ≡ [] = two.played.left ∙ ap (λ (l : List (ℕ × Place)). l ++ two.played.joined) (drop_all m mid.waiting fewer) ∙ quiet in
    record {
      own = flow_line ++ (one.own ++ two.own);
      played = record {
        heard = one.played.heard ++ two.played.heard;
        lines = one.own ++ two.own;
        flowed = play-both net before mid after one.played.heard two.played.heard one.own two.own one.played.came two.played.came;
        none_left = none;
        printed = refl;
      };
      added = two.added ∙ ap (λ (l : List ℕ). l ++ two.own) (one.added ∙ ap (λ (l : List ℕ). l ++ one.own) begun)
          ∙ append_assoc (t0 ++ flow_line) one.own two.own ∙ append_assoc t0 flow_line (one.own ++ two.own);
    }
