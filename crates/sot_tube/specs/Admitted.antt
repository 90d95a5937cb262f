-- What contracts see of an accepted program.
use Rattle.sot_lang.specs.declared.cert.Cert.{Cert}
use Rattle.sot_lang.specs.Tables.{Tables}

-- a program with a certificate
pub record Admitted : Type 0 where
  pub program : Tables
  pub cert : Cert
