-- What the loop of `is_module` keeps.
use Rattle.std.proofs.Common.{◌≡◌, drop}
use Rattle.sot_json.specs.Json.{is_among}
use Rattle.sot_cert.specs.CertFormat.{names}
use Rattle.sot_cert.proofs.reading.is_module.Given as goal

abbrev pub invariant-loop-info : goal.invariant-loop-info
invariant-loop-info l = is_among l.fn.key (names l.fn.p.modules) ≡ is_among l.fn.key (names (drop l.info-index l.fn.p.modules))
