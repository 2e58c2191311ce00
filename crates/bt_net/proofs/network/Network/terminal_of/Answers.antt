-- a name is text
use Rattle.bt_net.proofs.NameBytes.{utf8_from_name}
use Rattle.bt_net.proofs.network.Network.terminal_of.Goals as goal

pub from_utf8_unchecked-text-requires : goal.from_utf8_unchecked-text-requires
from_utf8_unchecked-text-requires c = utf8_from_name c.args.name.now c.requires.shape
