-- What the loop of `entries_of` keeps.
use Rattle.std.proofs.Common.{◌≡◌, drop}
use Rattle.serde_json.specs.View.{members_view}
use Rattle.sot_cert.specs.CertFormat.{entries}
use Rattle.sot_cert.proofs.Modules.{with_front}
use Rattle.sot_cert.proofs.reading.entries_of.Given as goal

abbrev pub invariant-loop-info : goal.invariant-loop-info
invariant-loop-info l =
    with_front l.found.items (entries l.fn.p.plants (drop l.info-index l.fn.p.modules) (members_view l.fn.object.entries))
    ≡ entries l.fn.p.plants l.fn.p.modules (members_view l.fn.object.entries)
