-- The text divides as it was put together; its program is the same, so it breaks no rule either; and its tables are alike, so its
-- certificate says the same of them and certifies them too.
use Rattle.std.proofs.Common.{◌≡◌, ℕ, List, None, Ok, Err, sym, ap, ◌∙◌, subst}
use Rattle.sot_sections.specs.declared.mission.Need.TheVariants.{Check}
use Rattle.sot_sections.specs.Sections.{Parts, split_of}
use Rattle.sot_syntax_tree.specs.Trees.{Program}
use Rattle.sot_parser.specs.Programs.{Spells}
use Rattle.sot_print.specs.Canonical.{canonical}
use Rattle.sot_law_print_parse.specs.Unplaced.{without_places, AreSame}
use Rattle.sot_law_print_parse.proofs.Canonical.{canonical_text}
use Rattle.sot_law_print_parse.proofs.FormedPrograms.{spelled_formed}
use Rattle.sot_parser.proofs.ProgramTexts.{spells_unique}
use Rattle.sot_lang.specs.Tables.{Tables}
use Rattle.sot_lang.specs.declared.cert.Cert.{Cert}
use Rattle.sot_tube.specs.Certified.{IsWellCertified}
use Rattle.sot_tube.proofs.Acceptance.{certified_passes}
use Rattle.sot_tube.proofs.VerdictExact.{verdict_exact}
use Rattle.sot_json.specs.declared.fault.JsonFault.{JsonFault}
use Rattle.sot_json.specs.Says.{Says}
use Rattle.sot_cert.specs.CertFormat.{Contents, cert_of, contents}
use Rattle.sot_report.specs.declared.fault.Fault.TheVariants as faults
use Rattle.sot_report.specs.Missions.{Mission, Resolves, HasParts, SpellsMission, HasFault, FaultsFlight}
use Rattle.sot_certify.proofs.Certified.{well_certified}
use Rattle.sot_certified_text.specs.Missions.{mission_text}
use Rattle.sot_certified_text.specs.CertText.{line_with_jitter}
use Rattle.sot_certified_text.proofs.Lines.{jittered_texts_divide, without_jitter}
use Rattle.sot_certified_text.proofs.LineBack.{line_back}
use Rattle.sot_certified_text.proofs.Made.{made_writable, regions_short}
use Rattle.sot_law_equal_tables.specs.UnplacedTables.{AreAlike}
use Rattle.sot_law_equal_tables.proofs.Faultless.{faultless_same}
use Rattle.sot_law_equal_tables.proofs.Tables.{tables_alike}
use Rattle.sot_law_equal_tables.proofs.PlacelessCertificates.{certificates_alike}
use Rattle.sot_law_equal_tables.proofs.PlacelessCertified.{certified_alike}
use Rattle.sot_certified_text.specs.ReadAgain.{IsCertificateOf, written, IsCertificateFor, written_with_jitter, MadeCertificatesAreForPrograms}
use Rattle.sot_certified_text.specs.ReadAgain.{TextsWithJitterHaveNoFault, MissionsWithJitterAreCertified, MissionsWithJitterAreNotRefused}
use Rattle.sot_certified_text.specs.ReadAgain.{WrittenTextsHaveNoFault, WrittenMissionsAreCertified, WrittenMissionsAreNotRefused}

module _ (p : Program) (t : Tables) (cert : Cert) (has : IsCertificateFor p t cert) where
  abbrev own_parts : Parts
  own_parts = record { program = canonical p; cert = line_with_jitter t cert; flight = None; trace = None }

  divides : split_of (written_with_jitter p t cert) Check ≡ Ok own_parts
  divides = jittered_texts_divide p t cert has.formed

  says : cert_of t (line_with_jitter t cert) ≡ Ok (contents cert)
  says = line_back t cert has.resolved.rules (regions_short p t has.formed has.resolved.tables).1 has.fits has.writable

  -- the sections that are read are those that were written
  parts_are : (parts : Parts) → HasParts Check (written_with_jitter p t cert) parts → parts ≡ own_parts
  parts_are parts divided = (let e = divided in let own = divides in cc)

  -- and the program that is read is the same
  same_program : (parts : Parts) (q : Program) → HasParts Check (written_with_jitter p t cert) parts → Spells parts.program 0 q → AreSame p q
  same_program parts q divided spelled =
      let here : Spells (canonical p) 0 q = subst (λ (x : Parts). Spells x.program 0 q) (parts_are parts divided) spelled in
      has.again.2 ∙ ap without_places (spells_unique (canonical p) 0 has.again.0 q has.again.1 here)

  -- tables of it are alike, and the certificate says the same of them
  alike : (parts : Parts) (q : Program) (u : Tables) → HasParts Check (written_with_jitter p t cert) parts → Spells parts.program 0 q → Resolves q u
      → AreAlike t u
  alike parts q u divided spelled resolved = tables_alike p q t u (same_program parts q divided spelled) has.resolved.tables resolved.tables

  says_too : (parts : Parts) (q : Program) (u : Tables) → HasParts Check (written_with_jitter p t cert) parts → Spells parts.program 0 q → Resolves q u
      → cert_of u parts.cert ≡ Ok (contents cert)
  says_too parts q u divided spelled resolved =
      ap (λ (x : Parts). cert_of u x.cert) (parts_are parts divided)
      ∙ sym (certificates_alike t u (line_with_jitter t cert) (alike parts q u divided spelled resolved))
      ∙ says

same_contents : (r : Says Contents) (c d : Contents) → r ≡ Ok c → r ≡ Ok d → c ≡ d
same_contents r c d e g = (let same = sym e ∙ g in cc)

no_fault_says : (c : Contents) (f : JsonFault) (r : Says Contents) → r ≡ Ok c → r ≡ Err f → ⊥
no_fault_says c f r e g = (let same = sym e ∙ g in cc)

pub jittered_no_fault : TextsWithJitterHaveNoFault
jittered_no_fault p t cert guests (faults.Section fault) has e = (let own = divides p t cert has in let is = e in cc)
jittered_no_fault p t cert guests (faults.Syntax fault) has (parts, divided, none, at) =
    none has.again.0 (subst (λ (x : Parts). Spells x.program 0 has.again.0) (sym (parts_are p t cert has parts divided)) has.again.1)
jittered_no_fault p t cert guests (faults.Typing fault) has (parts, divided, (q, spelled, first)) =
    faultless_same p q (same_program p t cert has parts q divided spelled) has.resolved.faultless fault.at fault.kind first.fails
jittered_no_fault p t cert guests (faults.Cert fault) has (parts, divided, (q, u, (spelled, resolved), says)) =
    no_fault_says (contents cert) fault (cert_of u parts.cert) (says_too p t cert has parts q u divided spelled resolved) says
jittered_no_fault p t cert guests (faults.Flight fault) has (parts, divided, (q, u, spells, says, flies)) =
    subst (λ (x : Parts). FaultsFlight u guests x.flight fault) (parts_are p t cert has parts divided) flies

pub jittered_certified : MissionsWithJitterAreCertified
jittered_certified p t cert guests m has mission =
    let there = alike p t cert has mission.parts m.program m.tables mission.divided mission.spelled mission.resolved in
    let same : contents cert ≡ contents m.cert =
    same_contents (cert_of m.tables mission.parts.cert) (contents cert) (contents m.cert)
    (says_too p t cert has mission.parts m.program m.tables mission.divided mission.spelled mission.resolved) mission.certified
    in
    let well_there = certified_alike t m.tables cert.jitter cert m.cert there (ap (λ (c : Contents). c.modules) same) has.certified in (
      same_program p t cert has mission.parts m.program mission.divided mission.spelled,
      same,
      subst (λ j. IsWellCertified m.tables j m.cert) (ap (λ (c : Contents). c.jitter) same) well_there,
    )

pub jittered_passed : MissionsWithJitterAreNotRefused
jittered_passed p t cert guests m r has mission refuses =
    (verdict_exact m.tables m.cert.jitter m.cert).exclusive r refuses
    (certified_passes m.tables m.cert.jitter m.cert (jittered_certified p t cert guests m has mission).2)

-- ---- certificates that are made

pub made_for : MadeCertificatesAreForPrograms
made_for bytes p t cert has =
    let formed = spelled_formed bytes 0 p has.spelled in
    record {
      formed = formed;
      again = canonical_text bytes 0 p has.spelled;
      resolved = has.resolved;
      fits = has.fits;
      certified = subst (λ j. IsWellCertified t j cert) (sym has.made.1.jitter) (well_certified t cert has.resolved.rules has.made.0 has.made.1);
      writable = made_writable t cert (regions_short p t formed has.resolved.tables).0 has.made.1;
    }

-- they are written without jitter as with theirs
same_text : (bytes : List ℕ) (p : Program) (t : Tables) (cert : Cert) → IsCertificateOf bytes p t cert → written p t cert ≡ written_with_jitter p t cert
same_text bytes p t cert has = ap (mission_text (canonical p)) (sym (without_jitter t cert has.made.1.jitter))

pub no_fault : WrittenTextsHaveNoFault
no_fault bytes p t cert guests fault has faulty =
    jittered_no_fault p t cert guests fault (made_for bytes p t cert has)
    (subst (λ text. HasFault Check guests text fault) (same_text bytes p t cert has) faulty)

spelled_too : (bytes : List ℕ) (p : Program) (t : Tables) (cert : Cert) (guests : ℕ) (m : Mission) → IsCertificateOf bytes p t cert
    → SpellsMission Check guests (written p t cert) m → SpellsMission Check guests (written_with_jitter p t cert) m
spelled_too bytes p t cert guests m has mission = subst (λ text. SpellsMission Check guests text m) (same_text bytes p t cert has) mission

pub missions_certified : WrittenMissionsAreCertified
missions_certified bytes p t cert guests m has mission =
    let all = jittered_certified p t cert guests m (made_for bytes p t cert has) (spelled_too bytes p t cert guests m has mission) in
    (all.0, all.2)

pub missions_passed : WrittenMissionsAreNotRefused
missions_passed bytes p t cert guests m r has mission =
    jittered_passed p t cert guests m r (made_for bytes p t cert has) (spelled_too bytes p t cert guests m has mission)
