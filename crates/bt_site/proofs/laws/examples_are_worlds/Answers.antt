use Rattle.bt_site.proofs.Witness.{back-world, calm-air, late-stored, late-world, lossy-world, network-sound, reset-flies, reset-stored, reset-world, started-stored, started-world}
use Rattle.bt_site.proofs.laws.examples_are_worlds.Goals as goal

pub returns : goal.returns
returns c = record {
  network = network-sound;
  lossy = lossy-world;
  reset = reset-world;
  late = late-world;
  started = started-world;
  back = back-world;
  flyable = reset-flies;
  stored = reset-stored;
  late_stored = late-stored;
  started_stored = started-stored;
  air = calm-air;
}
