-- Worked faults, computed.
use Rattle.std.proofs.Common.{refl}
use Rattle.std.specs.Fmt.{digits}
use Rattle.std.specs.Str.{is_utf8, chars}
use Rattle.serde_json.proofs.OnLiterals.{serde_json_on_literals}
use Rattle.sot_json.specs.Json.{whole, count, each_after, at}
use Rattle.sot_cert.specs.CertFormat.{number, side, cell, cells, entry, entries, modules, jitter, jitter_in, has_jitter, cert}
use Rattle.sot_cert.proofs.facts.faults_are_as_stated.Goals as goal

pub returns-clause-no_json : goal.returns-clause-no_json
unfolding serde_json_on_literals is_utf8 chars digits whole count each_after at number side cell cells entry entries modules jitter jitter_in has_jitter cert
returns-clause-no_json c g = (refl, refl, refl, refl, refl)

pub returns-clause-numbers : goal.returns-clause-numbers
unfolding serde_json_on_literals is_utf8 chars digits whole count each_after at number side cell cells entry entries modules jitter jitter_in has_jitter cert
returns-clause-numbers c g = (refl, refl, refl, refl, refl, refl, refl, refl, refl)

pub returns-clause-keys : goal.returns-clause-keys
unfolding serde_json_on_literals is_utf8 chars digits whole count each_after at number side cell cells entry entries modules jitter jitter_in has_jitter cert
returns-clause-keys c g = (refl, refl, refl, refl, refl, refl, refl, refl)

pub returns-clause-jitters : goal.returns-clause-jitters
unfolding serde_json_on_literals is_utf8 chars digits whole count each_after at number side cell cells entry entries modules jitter jitter_in has_jitter cert
returns-clause-jitters c g = (refl, refl, refl, refl, refl)

pub returns-clause-cells : goal.returns-clause-cells
unfolding serde_json_on_literals is_utf8 chars digits whole count each_after at number side cell cells entry entries modules jitter jitter_in has_jitter cert
returns-clause-cells c g = (refl, refl, refl, refl, refl, refl, refl, refl, refl, refl)

pub returns-clause-limit : goal.returns-clause-limit
unfolding serde_json_on_literals is_utf8 chars digits whole count each_after at number side cell cells entry entries modules jitter jitter_in has_jitter cert
returns-clause-limit c = (refl, refl)
