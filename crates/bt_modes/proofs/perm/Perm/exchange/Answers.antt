use Rattle.std.proofs.Common.{◌≡◌, ℕ, List, length, take, ap, ◌∙◌, arith}
use Rattle.std.proofs.lemmas.List.{length-take-le}
use Rattle.std.specs.List.{swap}
use Rattle.bt_modes.proofs.Exchanges.{IsPermutation-exchanged, exchanged_view}
use Rattle.bt_modes.proofs.perm.Perm.exchange.Goals as goal

pub invariant_of-self : goal.invariant_of-self
invariant_of-self c =
    let kept = c.self.invariant in
    let long : length (take c.self.inside.size c.self.inside.columns) ≡ c.self.inside.size =
    length-take-le c.self.inside.size c.self.inside.columns (omega (arith, c.self.told, kept.1)) in
    let seen : length (take c.self.inside.size c.self.inside.columns) ≡ length c.args.self.now = ap length c.self.view_is in (
      kept.0,
      kept.1,
      IsPermutation-exchanged c.self.inside.size c.self.inside.columns c.args.one c.args.other (omega (arith, c.self.told, kept.1)) kept.2
          (omega arith) (omega arith),
    )

-- two places of the list are exchanged
pub returns-clause-exchanged : goal.returns-clause-exchanged
returns-clause-exchanged c =
    let kept = c.self.invariant in
    let long : length (take c.self.inside.size c.self.inside.columns) ≡ c.self.inside.size =
    length-take-le c.self.inside.size c.self.inside.columns (omega (arith, c.self.told, kept.1)) in
    let seen : length (take c.self.inside.size c.self.inside.columns) ≡ length c.args.self.now = ap length c.self.view_is in
    exchanged_view c.self.inside.size c.self.inside.columns c.args.one c.args.other (omega (arith, c.self.told, kept.1)) (omega arith) (omega arith)
    ∙ ap (λ (downs : List ℕ). swap downs c.args.one c.args.other) c.self.view_is
