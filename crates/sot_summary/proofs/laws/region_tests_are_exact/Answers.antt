use Rattle.sot_summary.proofs.RegionTests.{region_test}
use Rattle.sot_summary.proofs.laws.region_tests_are_exact.Goals as goal

pub returns : goal.returns
returns c = region_test
