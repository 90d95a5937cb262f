-- What is left to show of `cert_in`.
use Rattle.std.proofs.Common.{rules}
use Rattle.serde_json.specs.View.{view}
use Rattle.sot_cert.specs.CertFormat.{cert}
use Rattle.sot_cert.proofs.Fits.{cert_fits}
use Rattle.sot_cert.proofs.reading.cert_in.Goals as goal

pub returns-clause-says : goal.returns-clause-says
unfolding cert
returns-clause-says c = search rules

pub returns-clause-fits : goal.returns-clause-fits
returns-clause-fits c =
    cert_fits c.args.p.now c.in_ok-modules.ensures.rules (view c.args.value.now) (record { jitter = c.in_ok-jitter.jitter; modules = c.in_ok-modules.modules })
    (returns-clause-says c)
