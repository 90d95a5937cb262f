-- What the loop of `has_only_modules` keeps.
use Rattle.std.proofs.Common.{◌≡◌}
use Rattle.serde_json.specs.View.{members_view}
use Rattle.sot_json.specs.Json.{all_among}
use Rattle.sot_cert.specs.CertFormat.{names}
use Rattle.sot_cert.proofs.reading.has_only_modules.Given as goal

abbrev pub invariant-loop-key : goal.invariant-loop-key
invariant-loop-key l = all_among (members_view l.fn.object.entries) (names l.fn.p.modules) ≡ all_among (members_view l.key-iterator) (names l.fn.p.modules)
