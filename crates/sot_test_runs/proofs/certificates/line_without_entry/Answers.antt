use Rattle.std.proofs.Common.{refl}
use Rattle.sot_test_runs.proofs.Entries.{no_entry}
use Rattle.sot_test_runs.proofs.certificates.line_without_entry.Goals as goal

pub returns : goal.returns
returns c = no_entry 1 _ refl c.in_ok-vec.ensures.items
