use Rattle.std.proofs.Common.{refl}
use Rattle.sot_test_runs.proofs.Entries.{two_entries}
use Rattle.sot_test_runs.proofs.certificates.pair_cert.Goals as goal

pub returns : goal.returns
returns c = two_entries 1 2 _ _ _ refl c.in_ok-vehicle_cells.ensures c.in_ok-battery_cells.ensures c.in_ok-vec.ensures.items
