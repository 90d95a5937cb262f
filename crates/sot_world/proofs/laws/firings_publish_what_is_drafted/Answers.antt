use Rattle.sot_world.proofs.Publication.{firings_publish_so}
use Rattle.sot_world.proofs.laws.firings_publish_what_is_drafted.Goals as goal

pub returns : goal.returns
returns c = firings_publish_so
