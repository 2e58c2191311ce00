use Rattle.std.proofs.Common.{All, subst, arith}
use Rattle.bt_machines.specs.Plans.{IsStored}
use Rattle.bt_site.specs.Fits.{IsOpening}
use Rattle.bt_apart.specs.Apart.{ApartAir}
use Rattle.bt_apart.proofs.centre.ApartCentre.opens.Goals as goal

pub returns : goal.returns
returns c =
    let opening : IsOpening c.args.self.now.opening = subst (λ (a : ApartAir). IsOpening a.opening) c.self.view_is c.self.invariant.opening in
    record {
      opening = opening;
      stored = record {
        plans = subst (λ (a : ApartAir). All IsStored a.opening.plans) c.self.view_is c.self.invariant.opened;
        orders = (omega arith, omega (arith, opening.few));
      };
    }
