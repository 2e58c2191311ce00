use Rattle.std.proofs.Common.{rules, ◌≡◌, ◌+◌, ℕ, length, not, refl, ap, ◌∙◌, arith}
use Rattle.std.proofs.lemmas.Fn.{filter_same}
use Rattle.std.proofs.lemmas.List.Filters.{length-filter_both}
use Rattle.bt_air.specs.declared.sent.Place.{Place}
use Rattle.bt_round.specs.Waiting.{left_of, loses, lost_of}
use Rattle.bt_round.proofs.waiting.Waiting.lose.Goals as goal

pub returns-clause-left : goal.returns-clause-left
returns-clause-left c =
    filter_same _ (λ (delivery : ℕ × Place). not (loses c.args.losing delivery.1)) _ (λ x b f' k. search rules) _ _ c.retain.ensures.filtered
    ∙ ap (left_of c.args.losing) c.self.view_is

pub returns-clause-count : goal.returns-clause-count
returns-clause-count c =
    let parts : length (lost_of c.args.losing c.args.self.now) + length (left_of c.args.losing c.args.self.now) ≡ length c.args.self.now =
    length-filter_both (λ (delivery : ℕ × Place). loses c.args.losing delivery.1) (λ (delivery : ℕ × Place). not (loses c.args.losing delivery.1)) (λ x. refl) c.args.self.now in
    let left = ap length (returns-clause-left c) in
    let whole = ap length c.self.view_is in
    omega (arith, parts, left, whole, c.len.ensures, c.len-before.ensures)
