use Rattle.std.proofs.Common.{refl}
use Rattle.sot_test_runs.proofs.Entries.{no_module}
use Rattle.sot_test_runs.proofs.certificates.nothing_to_certify.Goals as goal

pub returns : goal.returns
returns c = no_module _ refl c.new.ensures.items
