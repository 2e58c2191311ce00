use Rattle.bt_site.specs.Example.{opened, started}
use Rattle.bt_sites.proofs.LedExample.{started-led}
use Rattle.bt_sites.proofs.laws.some_stamped_sites_change.Goals as goal

pub returns : goal.returns
returns c = record {
  change = c.worlds_are_stamped_sites.ensures.acts opened started c.examples_are_worlds.ensures.network c.examples_are_worlds.ensures.started c.examples_are_worlds.ensures.started_stored started-led;
}
