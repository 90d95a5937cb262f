-- What `check_all` answers.
use Rattle.std.specs.Prelude.{◌≡◌, Result, Ok, Err}
use Rattle.sot_lang.specs.declared.cert.Cert.{Cert}
use Rattle.sot_lang.specs.Tables.{Tables}
use Rattle.sot_tube.specs.Admitted.{Admitted}
use Rattle.sot_tube.specs.Certified.{IsWellCertified}
use Rattle.sot_tube.specs.Verdict.{verdict}
use Rattle.sot_rta.specs.Refused.{refusal_view}
use Rattle.sot_rta.specs.declared.refusal.Refusal.{Refusal}

-- this program with this certificate, which is well certified; or the first condition that fails
abbrev pub Accepts : Tables → Cert → Result Admitted Refusal → Type 0
Accepts p cert (Ok accepted) =
    (accepted ≡ record { program = p; cert = cert }) × IsWellCertified p cert.jitter cert
Accepts p cert (Err r) = (verdict p cert.jitter cert).Refuses (refusal_view r)
