-- Worked certificates, computed.
use Rattle.std.proofs.Common.{refl}
use Rattle.std.specs.Fmt.{digits}
use Rattle.std.specs.Str.{is_utf8, chars}
use Rattle.serde_json.proofs.OnLiterals.{serde_json_on_literals}
use Rattle.sot_json.specs.Json.{whole, count, each_after, at}
use Rattle.sot_cert.specs.CertFormat.{number, side, cell, cells, entry, entries, modules, jitter, jitter_in, has_jitter, cert}
use Rattle.sot_cert.proofs.facts.certificates_are_as_stated.Goals as goal

pub returns-clause-both_formats : goal.returns-clause-both_formats
unfolding serde_json_on_literals is_utf8 chars digits whole count each_after at number side cell cells entry entries modules jitter jitter_in has_jitter cert
returns-clause-both_formats c g = (refl, refl, refl, refl, refl)

pub returns-clause-repeated : goal.returns-clause-repeated
unfolding serde_json_on_literals is_utf8 chars digits whole count each_after at number side cell cells entry entries modules jitter jitter_in has_jitter cert
returns-clause-repeated c g = refl
