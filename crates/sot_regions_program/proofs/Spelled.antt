-- The text that is written spells an accepted mission.
use Rattle.std.proofs.Common.{◌≡◌, ◌∙◌, ℕ, ◌≤◌, List, Option, Some, length, sym, ap, subst, arith}
use Rattle.sot_lists.specs.Places.{At}
use Rattle.sot_sections.specs.declared.mission.Need.TheVariants as needs
use Rattle.sot_syntax_tree.specs.Trees.{Program}
use Rattle.sot_parser.specs.Programs.{Spells}
use Rattle.sot_law_print_parse.proofs.FormedPrograms.{spelled_formed}
use Rattle.sot_lang.specs.declared.cert.Cells.{Cells}
use Rattle.sot_lang.specs.declared.cert.Cert.{Cert}
use Rattle.sot_lang.specs.declared.tables.ModuleInfo.{ModuleInfo}
use Rattle.sot_lang.specs.Tables.{Tables}
use Rattle.sot_lang.specs.CertRules.{FitsTables}
use Rattle.sot_typing.specs.Resolved.{ProgramTables, tables_seen}
use Rattle.sot_traps.specs.Verdict.{HaveSafeBoxes}
use Rattle.sot_tube.specs.Certified.{IsWellCertified}
use Rattle.sot_world.proofs.Main.{certified_runs_are_safe}
use Rattle.sot_cert.specs.CertFormat.{Contents}
use Rattle.sot_law_equal_tables.proofs.Tables.{tables_alike}
use Rattle.sot_report.specs.declared.fault.Fault.{Fault}
use Rattle.sot_report.specs.Missions.{Mission, Resolves, SpellsMission, HasFault}
use Rattle.sot_certified_text.specs.ReadBack.{IsWritable}
use Rattle.sot_certified_text.specs.ReadAgain.{IsCertificateFor, written_with_jitter}
use Rattle.sot_certified_text.proofs.Written.{jittered_no_fault, jittered_certified}
use Rattle.sot_regions_rewrite.specs.declared.modules.ModuleRegions.{ModuleRegions}
use Rattle.sot_regions_rewrite.specs.OtherRegions.{with_regions}
use Rattle.sot_law_regions_rewrite.specs.Fitting.{AreFitting}
use Rattle.sot_law_regions_rewrite.specs.OtherTables.{tables_with}
use Rattle.sot_law_regions_rewrite.proofs.Formed.{stay_formed}
use Rattle.sot_law_regions_rewrite.proofs.Programs.{read_back}
use Rattle.sot_law_regions_rewrite.proofs.Tables.{tables_have}
use Rattle.sot_regions_program.specs.AsAsked.{IsLate}
use Rattle.sot_regions_program.specs.Findings.{IsFinding}
use Rattle.sot_regions_program.specs.Answers.{SpellsTyped, StayInside, SpellsSafe}
use Rattle.sot_regions_program.specs.Steps.{AreTablesOf, AreFindings, MayTake, IsWritten}
use Rattle.sot_regions_program.proofs.Fits.{found_fit}
use Rattle.sot_regions_program.proofs.OtherTables.{finding_at, cells_fit, module_count, boxes_stay}

-- what was written has no fault
pub written_faulty : (text : List ℕ) (f : Fault) → IsWritten text → HasFault needs.Check 0 text f → ⊥
written_faulty text f (p, t, cert, has, is) fault =
    jittered_no_fault p t cert 0 f has (subst (λ (x : List ℕ). HasFault needs.Check 0 x f) is fault)

module _ (bytes : List ℕ) (p : Program) (t : Tables) (regions : List ModuleRegions) (cells : List (Option Cells)) (count : ℕ)
    (spelled : SpellsTyped bytes p t) (found : AreFindings t regions cells count) where
  -- the program may take what was found
  pub fitting : AreFitting regions p.decls
  fitting = found_fit p t regions cells count spelled.1.tables spelled.1.rules found

  module _ (u : Tables) (resolved : Resolves (with_regions regions p) u) where
    pub other : tables_seen u ≡ tables_with regions (tables_seen t)
    other = tables_have regions p t u fitting spelled.1.tables resolved.tables

    -- a certificate fits that has some of the cells, and no others
    pub some_fit : (cert : Cert) → count ≤ length t.modules → length cert.modules.items ≡ length t.modules
        → ((m : ℕ) (c : Cells) → At cert.modules.items m (Some c) → At cells m (Some c)) → ¬ (IsLate t cert.jitter) → FitsTables u cert
    some_fit cert few counted own in_time = cells_fit regions t u other cells count found spelled.1.rules few cert counted own in_time

    module _ (cert : Cert) (all : count ≡ length t.modules) (are : cert.modules.items ≡ cells) (low : cert.jitter ≤ 999)
        (in_time : ¬ (IsLate t cert.jitter)) where
      there : (m : ℕ) (c : Cells) → At cert.modules.items m (Some c) → At cells m (Some c)
      there m c at = subst (λ (os : List (Option Cells)). At os m (Some c)) are at

      pub fits : FitsTables u cert
      fits = some_fit cert (omega (arith, all)) (ap length are ∙ found.cells_count ∙ all) there in_time

      own : (m : ℕ) (c : Cells) → At cert.modules.items m (Some c)
          → (a : ModuleInfo) × (r : ModuleRegions) × At t.modules m a × IsFinding a r c
      own m c at =
          finding_at regions t u other cells count found spelled.1.rules (omega (arith, all)) m c (there m c at)

      writable : IsWritable cert
      writable = record {
        jitter = low;
        closed = λ m i c cell at_c at. ((own m c at_c).3.closed.each i cell at).2;
        reach = λ m i c cell at_c at. ((own m c at_c).3.reach.each i cell at).2;
        closed_settled = λ m c at_c. (own m c at_c).3.closed.settled;
        reach_settled = λ m c at_c. (own m c at_c).3.reach.settled;
      }

      -- a certificate of the cells that were found, which certifies
      pub certificate_for : IsWellCertified u cert.jitter cert → IsCertificateFor (with_regions regions p) u cert
      certificate_for certified = record {
        formed = stay_formed regions p (spelled_formed bytes 0 p spelled.0) fitting;
        again = read_back regions bytes 0 p spelled.0 fitting;
        resolved = resolved;
        fits = fits;
        certified = certified;
        writable = writable;
      }

-- a mission that its text spells is accepted, and its safe regions lie inside
pub spells_safe : (q : Program) (t u : Tables) (cert : Cert) (text : List ℕ) → IsCertificateFor q u cert → StayInside t u
    → text ≡ written_with_jitter q u cert
    → (m : Mission) × SpellsMission needs.Check 0 text m → SpellsSafe q t cert.jitter text
spells_safe q t u cert text has inside is (m, spelled) =
    let mission : SpellsMission needs.Check 0 (written_with_jitter q u cert) m = subst (λ (x : List ℕ). SpellsMission needs.Check 0 x m) is spelled in
    let known = jittered_certified q u cert 0 m has mission in
    let jitter : m.cert.jitter ≡ cert.jitter = ap (λ (c : Contents). c.jitter) (sym known.1) in
    let accepted : IsWellCertified m.tables cert.jitter m.cert = subst (λ (j : ℕ). IsWellCertified m.tables j m.cert) jitter known.2 in
    let modules : u.modules ≡ m.tables.modules =
    ap (λ (s : ProgramTables). s.modules) (tables_alike q m.program u m.tables known.0 has.resolved.tables spelled.resolved.tables) in
    record {
      mission = m;
      spelled = spelled;
      program = known.0;
      jitter_is = jitter;
      accepted = accepted;
      safe = certified_runs_are_safe m.tables cert.jitter m.cert spelled.resolved.rules.typed accepted;
      inside = λ k a b at_a at_b. inside k a b at_a (subst (λ (ms : List ModuleInfo). At ms k b) (sym modules) at_b);
    }

-- a program may take what was found
pub may_take : (bytes : List ℕ) (t : Tables) (regions : List ModuleRegions) (cells : List (Option Cells)) (count : ℕ) → AreTablesOf bytes t
    → AreFindings t regions cells count → MayTake bytes regions
may_take bytes t regions cells count (p, typed) found = (p, t, typed, fitting bytes p t regions cells count typed found)

-- and with it its modules still have boxes
module _ (bytes : List ℕ) (t u : Tables) (changed : Program) (regions : List ModuleRegions) (cells : List (Option Cells)) (count : ℕ)
    (found : AreFindings t regions cells count)
    (typed : (p : Program) → Spells bytes 0 p → (changed ≡ with_regions regions p) × Resolves (with_regions regions p) u) where
  seen : (tables : AreTablesOf bytes t) → tables_seen u ≡ tables_with regions (tables_seen t)
  seen (p, spelled) = other bytes p t regions cells count spelled found u (typed p spelled.0).1

  pub taken_boxes : AreTablesOf bytes t → HaveSafeBoxes t → HaveSafeBoxes u
  taken_boxes tables boxed = boxes_stay regions t u (seen tables) cells count found boxed

  pub taken_count : AreTablesOf bytes t → length u.modules ≡ length t.modules
  taken_count tables = module_count regions t u (seen tables)
