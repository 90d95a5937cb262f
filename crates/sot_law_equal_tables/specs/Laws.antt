-- Tables that look the same mean the same.
use Rattle.std.specs.Prelude.{◌≡◌, ℕ, List}
use Rattle.sot_lang.specs.Tables.{Tables}
use Rattle.sot_lang.specs.TableRules.{IsTyped}
use Rattle.sot_lang.specs.CertRules.{FitsTables}
use Rattle.sot_lang.specs.declared.cert.Cert.{Cert}
use Rattle.sot_typing.specs.Resolved.{tables_seen}
use Rattle.sot_cert.specs.CertFormat.{cert_of}
use Rattle.sot_flight.specs.FlightFormat.{flight_of}
use Rattle.sot_tube.specs.Certified.{IsWellCertified}
use Rattle.sot_tube.specs.Refusals.{Refusal}
use Rattle.sot_tube.specs.Verdict.{verdict}

-- a certificate's text says the same of tables that look the same
abbrev pub CertificatesAlike : Type 0
CertificatesAlike =
    (t u : Tables) (bytes : List ℕ) → tables_seen t ≡ tables_seen u
    → cert_of t bytes ≡ cert_of u bytes

-- tables that look the same are well certified alike, by certificates with the same cells
abbrev pub CertifiedAlike : Type 0
CertifiedAlike =
    (t u : Tables) (jitter : ℕ) (c d : Cert) → tables_seen t ≡ tables_seen u
    → c.modules.items ≡ d.modules.items
    → IsWellCertified t jitter c → IsWellCertified u jitter d

-- no program is accepted by one of its tables and refused by another
abbrev pub VerdictsAlike : Type 0
VerdictsAlike =
    (t u : Tables) (c d : Cert) (r : Refusal) → IsTyped t → FitsTables t c
    → tables_seen t ≡ tables_seen u
    → c.jitter ≡ d.jitter → c.modules.items ≡ d.modules.items
    → (verdict t c.jitter c).Passes → (verdict u d.jitter d).Refuses r → ⊥

-- a flight's text says the same of tables that look the same
abbrev pub FlightsAlike : Type 0
FlightsAlike =
    (t u : Tables) (guests : ℕ) (bytes : List ℕ) → tables_seen t ≡ tables_seen u
    → flight_of t guests bytes ≡ flight_of u guests bytes
