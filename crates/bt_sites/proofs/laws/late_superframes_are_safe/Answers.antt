use Rattle.bt_sites.proofs.LateFrames.{late-safe}
use Rattle.bt_sites.proofs.laws.late_superframes_are_safe.Goals as goal

pub returns : goal.returns
returns c = record {
  safe = λ o late board now sends bursts. late-safe c.frames_are_safe.ensures.of_plan c.satellite_is_said.ensures.stands c.satellite_is_said.ensures.mark
      c.transmissions_are_said.ensures.bursts c.frames_are_safe.ensures.own c.sites_are_a_world.ensures.behind o late board now sends bursts;
}
