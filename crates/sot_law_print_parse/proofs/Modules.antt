-- Modules.
use Rattle.std.proofs.Common.{List, ◌∷◌, ◌++◌, codes, ap₂, ◌∙◌}
use Rattle.std.proofs.Math.Nat.{le_refl}
use Rattle.sot_text.specs.Reading.{Lexeme}
use Rattle.sot_syntax_tree.specs.declared.tree.Ident.{Ident}
use Rattle.sot_syntax_tree.specs.declared.tree.Lit.{Lit}
use Rattle.sot_syntax_tree.specs.Trees.{Area, Module}
use Rattle.sot_parser.specs.Pieces.{spelled_role, spelled_timing}
use Rattle.sot_parser.specs.Declarations.{spelled_bound, ModuleForm, spelled_module, module_of}
use Rattle.sot_print.specs.declared.gap.Gap.{Gap}
use Rattle.sot_print.specs.declared.gap.Gap.TheVariants.{Space, Line}
use Rattle.sot_print.specs.Words.{Word}
use Rattle.sot_print.specs.Leaves.{ident_words}
use Rattle.sot_print.specs.Statements.{semicolon}
use Rattle.sot_print.specs.Canonical.{clause, closing, timing_words, region_words, control_clauses, region_clauses, module_words}
use Rattle.sot_syntax_tree.specs.Formed as formed
use Rattle.sot_law_print_parse.specs.Unplaced.{unplaced_module}
use Rattle.sot_law_print_parse.proofs.Takes.{Takes, split, a_keyword, a_sign, a_name, led, onto}
use Rattle.sot_law_print_parse.proofs.Kept.{Production, Again, Kept, Keeps, IsWritten, kept_written, no_level, also}
use Rattle.sot_law_print_parse.proofs.Texts.{AreTexts}
use Rattle.sot_law_print_parse.proofs.Leaves.{same_name, name_text}
use Rattle.sot_law_print_parse.proofs.Clauses.{roles, roles_keep, timings, timings_keep}
use Rattle.sot_law_print_parse.proofs.Regions.{bounds, bounds_keep}

abbrev pub modules : Production Gap ModuleForm Module
modules = record { spelled = spelled_module; tree = module_of; unplaced = unplaced_module; levels = no_level; Holds = formed.IsModule; words = module_words }

abbrev module_with : Ident → Ident → Ident → Lit × Lit → Ident → List Area → List Area → Module
module_with own ac sc timing plant safe safer =
    record { name = own; ac = ac; sc = sc; period = timing.0; offset = timing.1; plant = plant; safe = safe; safer = safer }

-- the words of each part of a module are tokens of that part
pub record ArePartsWritten (t : Module) : Type 0 where
  pub ac : IsWritten (roles (codes "ac")) tt t.ac
  pub sc : IsWritten (roles (codes "sc")) tt t.sc
  pub timing : IsWritten timings (Line 2) (t.period, t.offset)
  pub plant : IsWritten (roles (codes "plant")) tt t.plant
  pub safe : IsWritten (bounds (codes "safe")) tt t.safe
  pub safer : IsWritten (bounds (codes "safer")) tt t.safer

pub module_written : (t : Module) → ArePartsWritten t → (gap : Gap) → IsWritten modules gap t
module_written t parts gap ts us h =
    let of_ac : List Word = clause (codes "ac") (ident_words Space t.ac) in
    let of_sc : List Word = clause (codes "sc") (ident_words Space t.sc) in
    let of_timing : List Word = timing_words (Line 2) t.period t.offset in
    let of_plant : List Word = clause (codes "plant") (ident_words Space t.plant) in
    let of_safe : List Word = clause (codes "safe") (region_words t.safe) in
    let of_safer : List Word = clause (codes "safer") (region_words t.safer) in
    let own = h.2 in
    let opening = own.2 in
    let outer = split (control_clauses t ++ region_clauses t) closing opening.0 us opening.2 in
    let halves = split (control_clauses t) (region_clauses t) opening.0 outer.0 outer.1 in
    let control = split ((of_ac ++ of_sc) ++ of_timing) semicolon opening.0 halves.0 halves.1 in
    let timed = split (of_ac ++ of_sc) of_timing opening.0 control.0 control.1 in
    let both = split of_ac of_sc opening.0 timed.0 timed.1 in
    let lower = split (of_plant ++ of_safe) of_safer halves.0 outer.0 halves.2 in
    let lowest = split of_plant of_safe halves.0 lower.0 lower.1 in
    let a = parts.ac opening.0 both.0 both.1 in
    let b = parts.sc both.0 timed.0 both.2 in
    let c = parts.timing timed.0 control.0 timed.2 in
    let mark = control.2 in
    let d = parts.plant halves.0 lowest.0 lowest.1 in
    let e = parts.safe lowest.0 lower.0 lowest.2 in
    let f = parts.safer lower.0 outer.0 lower.2 in
    let last = outer.2 in
    record {
      form = record {
        word = a_keyword h.1;
        name = a_name own.1;
        opening = a_sign opening.1;
        ac = a.form;
        sc = b.form;
        timing = c.form;
        semicolon = a_sign mark.1;
        plant = d.form;
        safe = e.form;
        safer = f.form;
        closing = a_sign last.1;
      };
      tokens =
          led h.1 (led own.1 (led opening.1 (
          onto (spelled_role a.form) a.tokens (onto (spelled_role b.form) b.tokens (onto (spelled_timing c.form) c.tokens (led mark.1 (mark.2 ∙ (
          onto (spelled_role d.form) d.tokens (onto (spelled_bound e.form) e.tokens (onto (spelled_bound f.form) f.tokens (led last.1 last.2)))))))))));
      same = also (also (also (also (also (ap₂ module_with (same_name own.1.text) a.same) b.same) c.same) d.same) e.same) f.same;
    }

-- the parts of a module that are kept
pub record ControlKept (m : ModuleForm) : Type 0 where
  pub ac : Kept (roles (codes "ac")) m.ac
  pub sc : Kept (roles (codes "sc")) m.sc
  pub timing : Kept timings m.timing
  pub plant : Kept (roles (codes "plant")) m.plant

pub control_keep : (m : ModuleForm) (more : List Lexeme) → AreTexts (spelled_module m more)
    → ControlKept m × AreTexts (spelled_bound m.safe (spelled_bound m.safer (m.closing.token ∷ more)))
control_keep m more texts =
    let after_plant : List Lexeme = spelled_bound m.safe (spelled_bound m.safer (m.closing.token ∷ more)) in
    let after_timing : List Lexeme = m.semicolon.token ∷ spelled_role m.plant after_plant in
    let a = roles_keep (codes "ac") m.ac (spelled_role m.sc (spelled_timing m.timing after_timing)) texts.1.1.1 in
    let b = roles_keep (codes "sc") m.sc (spelled_timing m.timing after_timing) a.1 in
    let c = timings_keep m.timing after_timing b.1 in
    let d = roles_keep (codes "plant") m.plant after_plant c.1.1 in
    (record { ac = a.0; sc = b.0; timing = c.0; plant = d.0 }, d.1)

-- a module with other regions is written, where these regions are
pub with_regions_written : (m : ModuleForm) → ControlKept m → (safe safer : List Area)
    → IsWritten (bounds (codes "safe")) tt safe → IsWritten (bounds (codes "safer")) tt safer
    → (gap : Gap) → IsWritten modules gap (record (module_of m) { safe = safe; safer = safer })
with_regions_written m kept safe safer of_safe of_safer =
    module_written (record (module_of m) { safe = safe; safer = safer }) (record {
      ac = kept_written (roles (codes "ac")) m.ac tt kept.ac;
      sc = kept_written (roles (codes "sc")) m.sc tt kept.sc;
      timing = kept_written timings m.timing (Line 2) kept.timing;
      plant = kept_written (roles (codes "plant")) m.plant tt kept.plant;
      safe = of_safe;
      safer = of_safer;
    })

module_again : (m : ModuleForm) → ControlKept m → Kept (bounds (codes "safe")) m.safe → Kept (bounds (codes "safer")) m.safer
    → (gap : Gap) (ts us : List Lexeme) → Takes ts (module_words gap (module_of m)) us → Again modules m ts us
module_again m kept safe safer gap ts us h =
    let t : Module = module_of m in
    let of_safe = kept_written (bounds (codes "safe")) m.safe tt safe in
    let of_safer = kept_written (bounds (codes "safer")) m.safer tt safer in
    let w = with_regions_written m kept t.safe t.safer of_safe of_safer gap ts us h in
    record { form = w.form; tokens = w.tokens; same = w.same; nests = le_refl 0 }

pub modules_keep : Keeps modules
modules_keep m more texts =
    let control = control_keep m more texts in
    let e = bounds_keep (codes "safe") m.safe (spelled_bound m.safer (m.closing.token ∷ more)) control.1 in
    let f = bounds_keep (codes "safer") m.safer (m.closing.token ∷ more) e.1 in (
      record {
        holds =
            record {
              name = name_text m.name.token m.name.is texts.1.0;
              ac = control.0.ac.holds;
              sc = control.0.sc.holds;
              period = control.0.timing.holds.0;
              offset = control.0.timing.holds.1;
              plant = control.0.plant.holds;
              safe = e.0.holds;
              safer = f.0.holds;
            };
        again = module_again m control.0 e.0 f.0;
      },
      f.1.1,
    )
