use Rattle.std.proofs.Common.{sym, arith}
use Rattle.sot_report.proofs.Parts.{program_within}
use Rattle.sot_report.proofs.loading.load.Goals as goal

pub load_text-requires : goal.load_text-requires
load_text-requires c = omega (arith, c.requires, program_within c.args.need c.args.bytes.now _ (sym c.in-Ok.ensures))
