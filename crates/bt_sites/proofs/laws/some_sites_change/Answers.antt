use Rattle.bt_site.specs.Example.{opened, reset}
use Rattle.bt_sites.proofs.laws.some_sites_change.Goals as goal

pub returns : goal.returns
returns c = record {
  change = c.worlds_are_sites.ensures.sites opened reset c.examples_are_worlds.ensures.network c.examples_are_worlds.ensures.reset c.examples_are_worlds.ensures.stored;
}
