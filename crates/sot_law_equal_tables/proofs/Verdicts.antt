-- No program is accepted by one of its tables and refused by another.
use Rattle.std.proofs.Common.{subst}
use Rattle.sot_tube.specs.Certified.{IsWellCertified}
use Rattle.sot_tube.proofs.Acceptance.{certified_passes, passes_certified}
use Rattle.sot_tube.proofs.VerdictExact.{verdict_exact}
use Rattle.sot_law_equal_tables.specs.Laws.{VerdictsAlike}
use Rattle.sot_law_equal_tables.proofs.Certified.{certified_alike}

pub verdicts_alike : VerdictsAlike
verdicts_alike t u c d r typed fits same jitter cells passes refuses =
    let well = passes_certified t c.jitter c typed fits.node_jitter fits.module_jitter passes in
    let there : IsWellCertified u d.jitter d = subst (λ j. IsWellCertified u j d) jitter (certified_alike t u c.jitter c d same cells well) in
    (verdict_exact u d.jitter d).exclusive r refuses (certified_passes u d.jitter d there)
