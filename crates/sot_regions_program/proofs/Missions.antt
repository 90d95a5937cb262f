-- The program with what was found for it, and its certificate.
use Rattle.std.proofs.Common.{◌≡◌, ◌∙◌, ℕ, ◌≤◌, List, Option, Result, length, refl, sym, ap, subst, arith}
use Rattle.std.specs.Prelude.{IfOk}
use Rattle.std.specs.declared.alloc.AllocError.{AllocError}
use Rattle.sot_sections.specs.declared.mission.Need.TheVariants as needs
use Rattle.sot_syntax_tree.specs.Trees.{Program}
use Rattle.sot_parser.specs.Programs.{Spells}
use Rattle.sot_lang.specs.declared.cert.Cells.{Cells}
use Rattle.sot_lang.specs.declared.cert.Cert.{Cert}
use Rattle.sot_lang.specs.Tables.{Tables}
use Rattle.sot_lang.specs.CertRules.{FitsTables}
use Rattle.sot_tube.specs.Certified.{IsWellCertified}
use Rattle.sot_tube.specs.Refusals.{Refusal}
use Rattle.sot_tube.specs.Verdict.{verdict}
use Rattle.sot_report.specs.Missions.{Mission, Resolves, SpellsMission}
use Rattle.sot_report.specs.RefusalTexts.{refusal_text}
use Rattle.sot_certified_text.specs.ReadAgain.{IsCertificateFor, written_with_jitter}
use Rattle.sot_regions_rewrite.specs.declared.modules.ModuleRegions.{ModuleRegions}
use Rattle.sot_regions_rewrite.specs.OtherRegions.{with_regions}
use Rattle.sot_typing.specs.Resolved.{tables_seen}
use Rattle.sot_law_regions_rewrite.specs.OtherTables.{tables_with}
use Rattle.sot_cli.specs.declared.answer.Answer.{Answer}
use Rattle.sot_regions_program.specs.AsAsked.{IsLate}
use Rattle.sot_regions_program.specs.Answers.{SpellsTyped}
use Rattle.sot_regions_program.specs.Shown.{HaveRegions, verdict_of_some}
use Rattle.sot_regions_program.specs.Steps.{AreTablesOf, AreFindings, ArePadded, AnswersNone, AnswersFound}
use Rattle.sot_regions_program.proofs.OtherTables.{stay_inside, are_found, module_count, found_shown}
use Rattle.sot_regions_program.proofs.Spelled.{other, some_fit, fits, certificate_for}
use Rattle.sot_regions_program.proofs.Forms.{unaccepted_result, before_result, mission_result}

module _ (bytes : List ℕ) (t u : Tables) (changed : Program) (regions given : List ModuleRegions) (same : given ≡ regions) (cells : List (Option Cells))
    (found : AreFindings t regions cells (length t.modules))
    (typed : (p : Program) → Spells bytes 0 p → (changed ≡ with_regions given p) × Resolves (with_regions given p) u) (cert : Cert)
    (are : cert.modules.items ≡ cells) (low : cert.jitter ≤ 999) (in_time : ¬ (IsLate t cert.jitter)) where
  changed_is : (p : Program) → Spells bytes 0 p → changed ≡ with_regions regions p
  changed_is p spells = (typed p spells).0 ∙ ap (λ (rs : List ModuleRegions). with_regions rs p) same

  resolved : (p : Program) → Spells bytes 0 p → Resolves (with_regions regions p) u
  resolved p spells = subst (λ (rs : List ModuleRegions). Resolves (with_regions rs p) u) same (typed p spells).1

  pub cert_fits : AreTablesOf bytes t → FitsTables u cert
  cert_fits (p, spelled) = fits bytes p t regions cells (length t.modules) spelled found u (resolved p spelled.0) cert refl are low in_time

  pub cert_for : AreTablesOf bytes t → IsWellCertified u cert.jitter cert → IsCertificateFor changed u cert
  cert_for (p, spelled) certified =
      subst (λ (q : Program). IsCertificateFor q u cert) (sym (changed_is p spelled.0))
      (certificate_for bytes p t regions cells (length t.modules) spelled found u (resolved p spelled.0) cert refl are low in_time certified)

  pub refused_so : (r : Result Answer AllocError) (p : Program) (refusal : Refusal) → SpellsTyped bytes p t → (verdict u cert.jitter cert).Refuses refusal
      → IfOk r (λ a. a.status ≡ 1) → IfOk r (λ a. a.text.items ≡ refusal_text u refusal)
      → IfOk r (λ a. AnswersFound p t cert.jitter a.status a.text.items)
  refused_so r p refusal spelled refuses status text =
      let seen = other bytes p t regions cells (length t.modules) spelled found u (resolved p spelled.0) in
      unaccepted_result r p t u cert.jitter regions cert refusal (are_found regions t u seen cells (length t.modules) found spelled.1.rules (omega arith))
      (resolved p spelled.0) refl refuses status text

  pub written_so : (r : Result Answer AllocError) (p : Program) → SpellsTyped bytes p t → IsWellCertified u cert.jitter cert
      → IfOk r (λ a. a.status ≡ 0) → IfOk r (λ a. a.text.items ≡ written_with_jitter changed u cert)
      → IfOk r (λ a. (m : Mission) × SpellsMission needs.Check 0 a.text.items m)
      → IfOk r (λ a. AnswersFound p t cert.jitter a.status a.text.items)
  written_so r p spelled certified status text mission =
      let seen = other bytes p t regions cells (length t.modules) spelled found u (resolved p spelled.0) in
      mission_result r p changed t u regions cert (changed_is p spelled.0)
      (are_found regions t u seen cells (length t.modules) found spelled.1.rules (omega arith))
      (stay_inside regions t u seen cells (length t.modules) found)
      (cert_for (p, spelled) certified) status text mission

-- the program with what was found for the modules before one of which nothing was found
module _ (bytes : List ℕ) (t u : Tables) (changed : Program) (regions given : List ModuleRegions) (same : given ≡ regions) (cells : List (Option Cells))
    (m : ℕ) (found : AreFindings t regions cells m) (few : m ≤ length t.modules)
    (typed : (p : Program) → Spells bytes 0 p → (changed ≡ with_regions given p) × Resolves (with_regions given p) u) (cert : Cert)
    (padded : ArePadded cells cert.modules.items (length u.modules)) where
  resolved_first : (p : Program) → Spells bytes 0 p → Resolves (with_regions regions p) u
  resolved_first p spells = subst (λ (rs : List ModuleRegions). Resolves (with_regions rs p) u) same (typed p spells).1

  seen_first : (p : Program) → SpellsTyped bytes p t → tables_seen u ≡ tables_with regions (tables_seen t)
  seen_first p spelled = other bytes p t regions cells m spelled found u (resolved_first p spelled.0)

  pub first_fit : AreTablesOf bytes t → ¬ (IsLate t cert.jitter) → FitsTables u cert
  first_fit (p, spelled) in_time =
      some_fit bytes p t regions cells m spelled found u (resolved_first p spelled.0) cert few
      (padded.count_is ∙ module_count regions t u (seen_first p spelled)) padded.own in_time

  pub have_regions : (p : Program) → SpellsTyped bytes p t → (verdict_of_some u cert.jitter cert).Passes → HaveRegions p t cert.jitter m
  have_regions p spelled passes = record {
    regions = regions;
    found = are_found regions t u (seen_first p spelled) cells m found spelled.1.rules few;
    tables = u;
    resolves = resolved_first p spelled.0;
    cert = cert;
    jitter_is = refl;
    composed = passes.0;
    free = passes.1.0;
    shown = found_shown regions t u (seen_first p spelled) cells m found spelled.1.rules few cert.jitter cert padded.has passes.1.1;
  }

  pub refused_first : (r : Result Answer AllocError) (p : Program) (refusal : Refusal) → SpellsTyped bytes p t
      → (verdict_of_some u cert.jitter cert).Refuses refusal
      → IfOk r (λ a. a.status ≡ 1) → IfOk r (λ a. a.text.items ≡ refusal_text u refusal)
      → IfOk r (λ a. AnswersNone p t cert.jitter a.status a.text.items)
  refused_first r p refusal spelled refuses status text =
      before_result r p t u cert.jitter m regions cert refusal (are_found regions t u (seen_first p spelled) cells m found spelled.1.rules few)
      (resolved_first p spelled.0) refl refuses status text
