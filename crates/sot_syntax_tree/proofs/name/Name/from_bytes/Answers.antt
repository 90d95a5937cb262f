use Rattle.sot_syntax_tree.proofs.Names.{name_fits}
use Rattle.sot_syntax_tree.proofs.name.Name.from_bytes.Goals as goal

pub from_slice-requires : goal.from_slice-requires
from_slice-requires c = name_fits c.args.bytes.now c.requires
