-- What the standby keeps was sent, and so was what it names.
use Rattle.std.proofs.Common.{◌≡◌, ℕ, ◌==◌, ◌<◌, ◌++◌, if◌then◌else◌, Bool, true, false, List, length, drop, Option, Some, None, IfSome, inr, refl, sym, ap, ◌∙◌, subst, arith, slice_get}
use Rattle.std.proofs.lemmas.Bool.Decides.{nat_tests}
use Rattle.std.proofs.lemmas.List.Folds.{list_any_at}
use Rattle.std.proofs.lemmas.Option.{get_or_from_slice_get}
use Rattle.bt_frame.specs.declared.numbers.EditionNo.{EditionNo}
use Rattle.bt_frame.specs.declared.numbers.Mark.{Mark}
use Rattle.bt_air.specs.declared.order.Status.{Status}
use Rattle.bt_air.specs.declared.sent.Aired.{Aired}
use Rattle.bt_air.specs.declared.sent.Aired.TheVariants as sends
use Rattle.bt_air.specs.declared.sent.Sent.{Sent}
use Rattle.bt_air.specs.declared.sent.Sent.TheVariants as printed
use Rattle.bt_air.specs.Sent.{sent_as}
use Rattle.bt_net.specs.Network.{Net}
use Rattle.bt_site.specs.Event.{Second}
use Rattle.bt_site.specs.Fits.{Meets}
use Rattle.bt_site.specs.World.{is_told, tells, sent}
use Rattle.bt_world.specs.Life.{Life, past_of}
use Rattle.bt_machines.specs.declared.standby.Noticed.{Noticed}
use Rattle.bt_machines.specs.Standby.{is_wrong, named, step_of}
use Rattle.bt_timeline.specs.Air.{noticed_line, standby_burst_line, unnoticed_line}
use Rattle.bt_round.specs.Simulated.{SimulatedAir, PlaysBurst, PlaysNotice, bridging, happened, having, keeping, mark_of, notice_text, noticed, sends_text, sent_count, sent_in, sent_lines}
use Rattle.bt_round.specs.Worker.{IsHeard, Plays}
use Rattle.bt_round.proofs.FromNumber.{there}
use Rattle.bt_round.proofs.Running.{told}

-- a message that is printed as a status is one
status-is : (one : Aired) (status : Status) → printed.Status status ≡ sent_as one → one ≡ sends.Status status
status-is (sends.Status found) status e = status-same found status e
  where
    status-same : (found status : Status) → printed.Status status ≡ printed.Status found → sends.Status found ≡ sends.Status status
    status-same found status e = cc
status-is (sends.Load command edition) status e = cc
status-is (sends.Arm command edition due) status e = cc
status-is (sends.PlanFor to load edition) status e = cc
status-is (sends.Confirm from load edition) status e = cc
status-is (sends.Reference superframe in_force next) status e = cc
status-is (sends.Lost from) status e = cc

-- the message of a number that is printed as a status
pub status-there : (all : List Aired) (number : ℕ) (found : Sent) (status : Status) → number < length all → IfSome (slice_get all number) (λ (one : Aired). found ≡ sent_as one)
    → found ≡ printed.Status status → slice_get all number ≡ Some (sends.Status status)
status-there all number found status within is status_is =
    let one = there (λ (one : Aired). found ≡ sent_as one) all number within is in
    one.1 ∙ ap (λ (m : Aired). Some m) (status-is one.0 status (sym status_is ∙ one.2))

-- it tells its own edition in its own superframe
tells-own : (status : Status) → tells status.mark.0 status.fore (sends.Status status) ≡ true
tells-own status =
    let mark : (status.mark.0 == status.mark.0) ≡ true = grind (arith, nat_tests) in
    let fore : (status.fore.0 == status.fore.0) ≡ true = grind (arith, nat_tests) in
    rw (mark, fore) refl

-- a status that was sent
pub heard-there : (life : Life) (number : ℕ) (status : Status) → number < length (sent life.opening (past_of life)) → slice_get (sent life.opening (past_of life)) number ≡ Some (sends.Status status) → IsHeard life status
heard-there life number status within is =
    let all = sent life.opening (past_of life) in
    list_any_at (tells status.mark.0 status.fore) all number (sends.Status status) within
    (ap (tells status.mark.0 status.fore) (get_or_from_slice_get all number (sends.Status status) (sends.Status status) is) ∙ tells-own status)

-- what is kept once a status was heard
pub keeps-heard : (life : Life) (kept : Option Status) (mark : Mark) (status : Status) (wrong : Bool) → is_wrong mark status ≡ wrong → IfSome kept (IsHeard life) → IsHeard life status
    → IfSome (step_of kept mark status).1 (IsHeard life)
keeps-heard life kept mark status true e before now = rw e before
keeps-heard life kept mark status false e before now = rw e now

-- what is named in a superframe, by whether the status kept is of it
named-if : (life : Life) (status : Status) (mark : Mark) (own : Bool) → (status.mark.0 == mark.0) ≡ own → IsHeard life status
    → IfSome (if own then Some status.fore else None) (λ (edition : EditionNo). is_told (sent life.opening (past_of life)) mark.0 edition ≡ true)
named-if life status mark true e heard =
    let same : status.mark.0 ≡ mark.0 = grind (arith, nat_tests) in
    subst (λ (n : ℕ). is_told (sent life.opening (past_of life)) n status.fore ≡ true) same heard
named-if life status mark false e heard = tt

-- what is named was told
pub named-told : (life : Life) (kept : Option Status) (mark : Mark) → IfSome kept (IsHeard life)
    → IfSome (named kept mark) (λ (edition : EditionNo). is_told (sent life.opening (past_of life)) mark.0 edition ≡ true)
named-told life None mark heard = tt
named-told life (Some status) mark heard = named-if life status mark _ refl heard

-- the present superframe, by its number
mark-is : (air : SimulatedAir) (m : Mark) → m.0 ≡ (mark_of air).0 → m ≡ mark_of air
mark-is air m at = ap (λ (n : ℕ). let one : Mark = record { 0 = n } in one) at

-- the standby has heard a status
pub noticed-plays : (inside air after : SimulatedAir) (number : ℕ) (m : Mark) (status : Status) (answer : Noticed) (kept : Option Status) (t0 t1 : List ℕ) → inside ≡ air
    → number < sent_count inside → slice_get (sent_in inside) number ≡ Some (sends.Status status) → m.0 ≡ (mark_of inside).0
    → answer ≡ (step_of inside.standby m status).0 → kept ≡ (step_of inside.standby m status).1 → after ≡ keeping inside kept → t1 ≡ t0 ++ noticed_line number answer
    → Plays (PlaysNotice air number) after t0 t1
noticed-plays inside air after number m status answer kept t0 t1 same within is at answers keeps left added =
    let now = mark-is inside m at in
    subst (λ (a : SimulatedAir). Plays (PlaysNotice a number) after t0 t1) same (record {
      own = noticed_line number (step_of inside.standby (mark_of inside) status).0;
      played = inr (
        within,
        record {
          one = sends.Status status;
          sent = is;
          printed = refl;
          kept = left ∙ ap (keeping inside) (keeps ∙ ap (λ (p : Mark). (step_of inside.standby p status).1) now);
        },
      );
      added = added ∙ ap (λ (n : Noticed). t0 ++ noticed_line number n) (answers ∙ ap (λ (p : Mark). (step_of inside.standby p status).0) now);
    })

-- a message that is printed as no status is not for the standby
other-notice : (air : SimulatedAir) (number : ℕ) (one : Aired) (found : Sent) → found ≡ sent_as one → ((status : Status) → found ≡ printed.Status status → ⊥)
    → (unnoticed_line number ≡ notice_text air number one) × (air ≡ noticed air one)
other-notice air number (sends.Status status) found is other = absurd (other status is)
other-notice air number (sends.Load command edition) found is other = (refl, refl)
other-notice air number (sends.Arm command edition due) found is other = (refl, refl)
other-notice air number (sends.PlanFor to load edition) found is other = (refl, refl)
other-notice air number (sends.Confirm from load edition) found is other = (refl, refl)
other-notice air number (sends.Reference superframe in_force next) found is other = (refl, refl)
other-notice air number (sends.Lost from) found is other = (refl, refl)

pub other-plays : (inside air : SimulatedAir) (number : ℕ) (found : Sent) (t0 t1 : List ℕ) → inside ≡ air → number < sent_count inside
    → IfSome (slice_get (sent_in inside) number) (λ (one : Aired). found ≡ sent_as one) → ((status : Status) → found ≡ printed.Status status → ⊥)
    → t1 ≡ t0 ++ unnoticed_line number → Plays (PlaysNotice air number) air t0 t1
other-plays inside air number found t0 t1 same within is other added =
    let one = there (λ (one : Aired). found ≡ sent_as one) (sent_in inside) number within is in
    let both = other-notice inside number one.0 found one.2 other in
    subst (λ (a : SimulatedAir). Plays (PlaysNotice a number) a t0 t1) same (record {
      own = unnoticed_line number;
      played = inr (within, record { one = one.0; sent = one.1; printed = both.0; kept = both.1 });
      added = added;
    })

-- what the standby names in the present superframe
pub bridges : (inside air : SimulatedAir) (m : Mark) (in_force : Option EditionNo) → inside ≡ air → m.0 ≡ (mark_of inside).0 → in_force ≡ named inside.standby m
    → in_force ≡ named air.standby (mark_of air)
bridges inside air m in_force same at names =
    names ∙ ap (named inside.standby) (mark-is inside m at) ∙ ap (λ (a : SimulatedAir). named a.standby (mark_of a)) same

-- it may be named
pub burst-meets : (inside air : SimulatedAir) (m : Mark) (in_force : Option EditionNo) → inside ≡ air → m.0 ≡ (mark_of inside).0 → in_force ≡ named inside.standby m
    → IfSome inside.standby (IsHeard inside.life) → Meets air.life.opening (happened air) (Second in_force)
burst-meets inside air m in_force same at names heard =
    let told : Meets inside.life.opening (happened inside) (Second (named inside.standby (mark_of inside))) = named-told inside.life inside.standby (mark_of inside) heard in
    subst (λ (a : SimulatedAir). Meets a.life.opening (happened a) (Second in_force)) same
    (subst (λ (f : Option EditionNo). Meets inside.life.opening (happened inside) (Second f)) (sym (bridges inside inside m in_force refl at names)) told)

-- the standby has sent its reference burst
pub burst-plays : (net : Net) (air now : SimulatedAir) (in_force : Option EditionNo) (first : ℕ) (text middle after : List ℕ) → in_force ≡ named air.standby (mark_of air)
    → now ≡ having air (Second in_force) → first ≡ sent_count air → middle ≡ text ++ standby_burst_line → after ≡ middle ++ sent_lines net first (drop first (sent_in now))
    → Plays (PlaysBurst net air) now text after
burst-plays net air now in_force first text middle after is had counted headed added =
    let sent_so : now ≡ having air (bridging air) = had ∙ ap (λ (f : Option EditionNo). having air (Second f)) is in
    record {
      own = standby_burst_line ++ sends_text net air (bridging air);
      played = record { printed = refl; sent = sent_so };
      added = told net air now (bridging air) first text middle after standby_burst_line sent_so counted headed added;
    }
