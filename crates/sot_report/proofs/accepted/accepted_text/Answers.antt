use Rattle.std.proofs.Common.{sym, subst}
use Rattle.sot_report.specs.Counts.{AreFew}
use Rattle.sot_report.proofs.Counts.{fits_few}
use Rattle.sot_report.proofs.accepted.accepted_text.Goals as goal

pub cell_count-cells-requires-clause-few : goal.cell_count-cells-requires-clause-few
cell_count-cells-requires-clause-few c = subst AreFew (sym c.deref.ensures.value) (fits_few c.args.p.now c.args.cert.now c.requires)
