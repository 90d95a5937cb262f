-- All checks pass exactly of well certified programs.
use Rattle.sot_lang.specs.declared.cert.Cert.{Cert}
use Rattle.sot_lang.specs.Tables.{Tables}
use Rattle.sot_lang.specs.CertRules.{FitsTables}
use Rattle.sot_lang.specs.TableRules.{MeetsTableRules}
use Rattle.sot_tube.specs.Certified.{IsWellCertified}
use Rattle.sot_tube.specs.Verdict.{verdict}
use Rattle.sot_tube.proofs.Acceptance.{passes_certified}

pub certified : (p : Tables) (cert : Cert) → MeetsTableRules p → FitsTables p cert → (verdict p cert.jitter cert).Passes → IsWellCertified p cert.jitter cert
certified p cert rules fits passes = passes_certified p cert.jitter cert rules.typed fits.node_jitter fits.module_jitter passes
