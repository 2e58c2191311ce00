use Rattle.bt_sites.proofs.Acts.{acts-of}
use Rattle.bt_sites.proofs.laws.sites_are_stamped_sites.Goals as goal

pub returns : goal.returns
returns c = record { acts = acts-of }
