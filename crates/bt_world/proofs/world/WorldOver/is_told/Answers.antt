use Rattle.std.proofs.Common.{ℕ, List, ◌∙◌, ap}
use Rattle.std.specs.List.{list_any}
use Rattle.bt_air.specs.declared.sent.Aired.{Aired}
use Rattle.bt_site.specs.World.{sent, tells}
use Rattle.bt_world.specs.Life.{Life, past_of}
use Rattle.bt_world.proofs.Kept.{kept-as}
use Rattle.bt_world.proofs.world.WorldOver.is_told.Goals as goal

pub returns : goal.returns
returns g c =
    let view : Life = c.args.self.now in
    let is = kept-as _ _ _ c.self.view_is c.self.invariant in
    record {
      told = c.is_told.ensures
          ∙ ap (λ (list : List Aired). list_any (tells c.mark.result.0 c.args.edition) list) (c.as_slice.ensures.value ∙ is.sent)
          ∙ ap (λ (n : ℕ). list_any (tells n c.args.edition) (sent view.opening (past_of view))) c.mark.ensures.mark;
    }
