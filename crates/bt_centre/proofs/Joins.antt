-- Whether the order that the centre wanted joins the others at a restart.
use Rattle.std.proofs.Common.{◌≡◌, ◌≢◌, ℕ, ◌+◌, Bool, true, false, List, length, get_or, refl, sym, ap, ◌∙◌, subst, Option, Some, None}
use Rattle.std.specs.Prelude.{IsSome}
use Rattle.bt_air.specs.declared.order.Order.{Order}
use Rattle.bt_journal.specs.declared.call.Change.{Change}
use Rattle.bt_history.specs.Changes.{orders}
use Rattle.bt_round.specs.AirLines.{AirState, KeepsWanted, orders_in, wanted_in}
use Rattle.bt_centre.specs.Progress.{TellsJoined}
use Rattle.bt_centre.specs.Run.{JoinsOrder}

-- the order at the place is this one, or another is
pub tells_joined : (changes : List Change) (placed : ℕ) (order held : Order) (result : Bool) → length (orders changes) ≡ placed + 1
    → ((d : Order) → held ≡ get_or (orders changes) placed d) → (result ≡ true → held ≡ order) → (result ≡ false → held ≢ order) → TellsJoined changes placed order result
tells_joined changes placed order held true more here same other = record { more = more; last = λ d. sym (here d) ∙ same refl }
tells_joined changes placed order held false more here same other = λ joined. other refl (here order ∙ joined.last order)

pub some_same : {a b : Order} → (let x : Option Order = Some a in x) ≡ Some b → a ≡ b
some_same is = cc

some_none : {a : Order} → (let x : Option Order = Some a in x) ≡ None → ⊥
some_none is = cc

-- the centre wanted that order
pub joins_wanted : (air : AirState) (changes : List Change) (order : Order) (placed : ℕ) (result : Bool) → wanted_in air ≡ Some order → placed ≡ length (orders_in air)
    → TellsJoined changes placed order result → JoinsOrder air changes result
joins_wanted air changes order placed true asked is joined = record {
  order = order;
  asked = asked;
  more = joined.more ∙ ap (λ n. n + 1) is;
  last = subst (λ (n : ℕ). (d : Order) → get_or (orders changes) n d ≡ order) is joined.last;
}
joins_wanted air changes order placed false asked is apart = λ joining.
    let same : joining.order ≡ order = some_same (sym joining.asked ∙ asked) in
    apart (record {
      more = joining.more ∙ ap (λ n. n + 1) (sym is);
      last = subst (λ (n : ℕ). (d : Order) → get_or (orders changes) n d ≡ order) (sym is) (λ d. joining.last d ∙ same);
    })

-- the centre wanted none
pub joins_none : (air : AirState) (changes : List Change) → wanted_in air ≡ None → JoinsOrder air changes false
joins_none air changes none = λ joining. absurd (some_none (sym joining.asked ∙ none))

-- the order that joins is one that the centre wanted
pub keeps_wanted : (air : AirState) (changes : List Change) (kept : Bool) → JoinsOrder air changes kept → KeepsWanted air kept
keeps_wanted air changes true joins = subst IsSome (sym joins.asked) refl
keeps_wanted air changes false joins = tt
