-- Rounds that are played one after the other.
use Rattle.std.proofs.Common.{◌≡◌, ℕ, suc, ◌+◌, ◌<◌, List, [], ◌∷◌, ◌++◌, get_or, length, take, false, Result, Ok, Err, sym, ap, ◌∙◌, subst, arith}
use Rattle.std.specs.Prelude.{if◌then◌else◌}
use Rattle.std.specs.Result.{is_err, is_ok}
use Rattle.std.proofs.Math.Seq.{take-suc}
use Rattle.bt_net.specs.Network.{Net}
use Rattle.bt_script.specs.declared.script.Round.{Round}
use Rattle.bt_centre.specs.Answering.{LastsIn, RoundsPlayed}
use Rattle.bt_centre.specs.Progress.{Hand, RoundPlayed}
use Rattle.bt_centre.proofs.Going.{rounds_append}

-- so many rounds more
pub rounds_count : (net : Net) (rounds : List Round) (old new : Hand) (text : List ℕ) → RoundsPlayed net rounds old new text → new.rounds ≡ old.rounds + length rounds
rounds_count net [] old new text (same, nothing) = omega (arith, ap (λ (h : Hand). h.rounds) same)
rounds_count net (round ∷ rounds) old new text (between, first, rest, played, lasts, more, text_is) = omega (arith, played.rounds, rounds_count net rounds between new rest more)

-- one of a list more
pub played_to : (net : Net) (rounds : List Round) (index : ℕ) (round : Round) (old between new : Hand) (text own : List ℕ) → index < length rounds → round ≡ get_or rounds index round → RoundsPlayed net (take index rounds) old between text
    → RoundPlayed net round between new own → LastsIn new → RoundsPlayed net (take (index + 1) rounds) old new (text ++ own)
played_to net rounds index round old between new text own within is so played lasts =
    subst (λ (l : List Round). RoundsPlayed net l old new (text ++ own)) (sym (ap (λ (n : ℕ). take n rounds) (let more : index + 1 ≡ suc index = omega arith in more) ∙ take-suc rounds index round within ∙ ap (λ (x : Round). take index rounds ++ x ∷ []) (sym is)))
    (rounds_append net (take index rounds) round old between new text own so played lasts)

-- a text that was extended, since that did not fail
pub extended : {T E : Type 0} (result : Result T E) (new longer old : List ℕ) → new ≡ (if is_ok result then longer else old) → is_err result ≡ false → new ≡ longer
extended (Ok value) new longer old is fine = is
extended (Err fault) new longer old is fine = absurd cc
