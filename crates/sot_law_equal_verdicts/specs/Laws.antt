-- Tables that look the same are certified alike.
use Rattle.std.specs.Prelude.{◌≡◌, ◌≢◌, ℕ, Result, Ok, Err}
use Rattle.sot_lists.specs.Places.{At}
use Rattle.sot_lang.specs.declared.cert.Cells.{Cells}
use Rattle.sot_lang.specs.declared.cert.Cert.{Cert}
use Rattle.sot_lang.specs.declared.tables.ModuleInfo.{ModuleInfo}
use Rattle.sot_lang.specs.Tables.{Tables}
use Rattle.sot_lang.specs.CertRules.{FitsTables}
use Rattle.sot_tube.specs.Certified.{HasCells}
use Rattle.sot_tube.specs.Refusals.{Refusal}
use Rattle.sot_tube.specs.Verdict.{verdict}
use Rattle.sot_typing.specs.Resolved.{tables_seen}
use Rattle.sot_certify.specs.declared.fail.CertifyFail.{CertifyFail}
use Rattle.sot_certify.specs.declared.fail.CertifyFail.TheVariants.{Memory}
use Rattle.sot_certify.specs.Certifying.{Certifies}

-- what may be answered for a table may be answered for each that looks the same: the same
-- certificate, or the same failure
abbrev pub AnswersAlike : Type 0
AnswersAlike =
    (t u : Tables) (answer : Result Cert CertifyFail) → tables_seen t ≡ tables_seen u
    → Certifies t answer → Certifies u answer

-- no certificate is made for one of the tables of a program where there is none for another, unless
-- memory was short
abbrev pub CertifyAlike : Type 0
CertifyAlike =
    (t u : Tables) (cert : Cert) (fail : CertifyFail) → tables_seen t ≡ tables_seen u
    → fail ≢ Memory
    → Certifies t (Ok cert) → Certifies u (Err fail) → ⊥

-- why there is no certificate is one thing for all tables of a program: the same refusal, or the
-- same list with the same point
abbrev pub FailsAlike : Type 0
FailsAlike =
    (t u : Tables) (f g : CertifyFail) → tables_seen t ≡ tables_seen u → f ≢ Memory → g ≢ Memory
    → Certifies t (Err f) → Certifies u (Err g) → f ≡ g

-- the certificates that are made for tables of one program have the same boxes as cells, in the
-- same order
abbrev pub CellsAlike : Type 0
CellsAlike =
    (t u : Tables) (c d : Cert) (m : ℕ) (a : ModuleInfo) (x y : Cells)
    → tables_seen t ≡ tables_seen u
    → Certifies t (Ok c) → Certifies u (Ok d) → At t.modules m a → HasCells c m x → HasCells d m y
    → (x.closed.boxes ≡ y.closed.boxes) × (x.reach.boxes ≡ y.reach.boxes)

-- certificates that are made for tables of one program, and fit them, have one jitter and the same
-- entries
abbrev pub EntriesAlike : Type 0
EntriesAlike =
    (t u : Tables) (c d : Cert) → tables_seen t ≡ tables_seen u → FitsTables t c → FitsTables u d
    → Certifies t (Ok c) → Certifies u (Ok d)
    → (c.jitter ≡ d.jitter) × (c.modules.items ≡ d.modules.items)

-- what the checker refuses of one of the tables of a program, it refuses of each, with the same
-- evidence, by certificates that say the same
abbrev pub RefusalsAlike : Type 0
RefusalsAlike =
    (t u : Tables) (c d : Cert) (r : Refusal) → tables_seen t ≡ tables_seen u → c.jitter ≡ d.jitter
    → c.modules.items ≡ d.modules.items
    → (verdict t c.jitter c).Refuses r → (verdict u d.jitter d).Refuses r
