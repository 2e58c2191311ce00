-- Superframes that begin before anything else.
use Rattle.std.proofs.Common.{◌≡◌, ℕ, zero, suc, ◌+◌, ◌≤◌, max, false, List, [], ◌∷◌, refl, ap, ◌∙◌, arith}
use Rattle.std.proofs.Math.Nat.{max-le}
use Rattle.bt_frame.specs.declared.limits.TheConstants.{LAST_MARK}
use Rattle.bt_frame.specs.declared.numbers.TermNo.{TermNo}
use Rattle.bt_machines.specs.Satellite.{State as Satellite, new_at, ticked}
use Rattle.bt_site.specs.Event.{Opening}
use Rattle.bt_site.specs.Fits.{IsOpening}
use Rattle.bt_site.specs.World.{greatest_due}
use Rattle.bt_sites.specs.Late.{now_of}
use Rattle.bt_sites.specs.Sites.{satellite_after}
use Rattle.bt_sites.specs.Stamps.{Act, AreStamped, Begins, has_started, is_same_site, known, reached, steps_by}
use Rattle.bt_sites.specs.Step.{Site}
use Rattle.bt_sites.specs.Step as site
use Rattle.bt_apart.specs.Apart.{apart_at_start}
use Rattle.bt_station.specs.declared.station.Station.TheVariants as station
use Rattle.bt_station.specs.Acts.{standby_at, terminal_at}
use Rattle.bt_station.specs.Standby.{standby_new}
use Rattle.bt_station.specs.Terminal.{terminal_of}
use Rattle.bt_station.proofs.Acts.{mark_of}
use Rattle.bt_apart_laws.proofs.Near.{IsNear, near-lower, near-other, near-start}
use Rattle.bt_apart_laws.proofs.Others.{known-other, standby-still, terminal-still}

-- so many begin
abbrev pub begin : ℕ → List Act
begin zero = []
begin (suc n) = Begins ∷ begin n

-- nothing is armed
tick-new : (m : ℕ) → ticked (new_at (mark_of m)) ≡ new_at (mark_of (m + 1))
tick-new m = refl

pub begun-satellite : (o : Opening) (n : ℕ) → satellite_after o (steps_by o (begin n)) ≡ new_at (mark_of (greatest_due o.orders + n))
begun-satellite o zero = ap (λ (m : ℕ). new_at (mark_of m)) (omega arith)
begun-satellite o (suc n) =
    let due = greatest_due o.orders in
    ap ticked (begun-satellite o n) ∙ tick-new (due + n) ∙ ap (λ (m : ℕ). new_at (mark_of m)) (omega arith)

pub begun-stamped : (o : Opening) (n : ℕ) → IsOpening o → greatest_due o.orders + n ≤ LAST_MARK → AreStamped o (begin n)
begun-stamped o zero opening few = opening
begun-stamped o (suc n) opening few =
    let now : now_of o (steps_by o (begin n)) ≡ greatest_due o.orders + n = ap (λ (s : Satellite). s.mark.0) (begun-satellite o n) in
    (omega (arith, now, few), begun-stamped o n opening (omega (arith, few)))

-- nobody else knows of it
pub begun-terminal : (o : Opening) (number : TermNo) (n : ℕ) → station.Terminal (terminal_of number) ≡ terminal_at o number (begin n)
begun-terminal o number zero = refl
begun-terminal o number (suc n) = begun-terminal o number n ∙ terminal-still o number (begin n) Begins refl

pub begun-standby : (o : Opening) (n : ℕ) → station.Standby standby_new ≡ standby_at o (begin n)
begun-standby o zero = refl
begun-standby o (suc n) = begun-standby o n ∙ standby-still o (begin n) Begins refl

pub begun-started : (number : TermNo) (n : ℕ) → has_started number (begin n) ≡ false
begun-started number zero = refl
begun-started number (suc n) = begun-started number n

begun-known : (one : Site) (n : ℕ) → is_same_site site.Satellite one ≡ false → known one (begin n) ≡ 0
begun-known one zero other = refl
begun-known one (suc n) other = known-other one (begin n) Begins other ∙ begun-known one n other

pub begun-reached : (o : Opening) (one : Site) (n reach : ℕ) → is_same_site site.Satellite one ≡ false → greatest_due o.orders ≤ reach → reached o one (begin n) ≤ reach
begun-reached o one zero reach other from = from
begun-reached o one (suc n) reach other from = max-le (begun-reached o one n reach other from) (omega (arith, begun-known one (suc n) other))

pub begun-near : (o : Opening) (n reach : ℕ) → IsOpening o → greatest_due o.orders ≤ reach → IsNear o (begin n) (apart_at_start o) o.plans o.orders reach
begun-near o zero reach opening from = near-start o reach opening from
begun-near o (suc n) reach opening from =
    near-lower o (Begins ∷ begin n) (apart_at_start o) o.plans o.orders (max reach 0) reach (max-le (omega arith) (omega arith))
    (near-other o (begin n) (apart_at_start o) o.plans o.orders reach Begins refl (begun-near o n reach opening from))
