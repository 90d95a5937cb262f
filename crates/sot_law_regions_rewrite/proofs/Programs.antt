-- The canonical text of a program with other regions is read back.
use Rattle.std.proofs.Common.{◌≡◌, ℕ, ◌≤◌, List, [], ◌∷◌, map, true, false, Bool, Option, None, codes, refl, sym, ap, subst, arith}
use Rattle.std.proofs.Math.Nat.{le_refl}
use Rattle.sot_text.specs.Reading.{Lexeme}
use Rattle.sot_text.specs.Ahead.{Ahead, Comes}
use Rattle.sot_text.specs.declared.token.LexFault.{LexFault}
use Rattle.sot_syntax_tree.specs.Trees.{Area, Declaration, Program}
use Rattle.sot_syntax_tree.specs.Trees as trees
use Rattle.sot_syntax_tree.specs.Formed.{IsFormed}
use Rattle.sot_parser.specs.Pieces.{each}
use Rattle.sot_parser.specs.Declarations.{module_of, DeclarationForm}
use Rattle.sot_parser.specs.Declarations.{a_topic, a_plant, a_coded, an_external, a_module}
use Rattle.sot_parser.specs.Declarations.{spelled_declaration, declaration_of, declaration_levels, most}
use Rattle.sot_parser.specs.Programs.{spelled_program, program_of, program_levels, Spells}
use Rattle.sot_print.specs.declared.gap.Gap.{Gap}
use Rattle.sot_print.specs.Canonical.{declaration_words, own_line}
use Rattle.sot_print.specs.Canonical.{declarations_from, words, canonical}
use Rattle.sot_print.specs.Layout.{Reads}
use Rattle.sot_print.proofs.ProgramSits.{canonical_read}
use Rattle.sot_law_print_parse.specs.Unplaced.{AreSame}
use Rattle.sot_law_print_parse.proofs.Takes.{Takes, split, onto, all_taken}
use Rattle.sot_law_print_parse.proofs.Texts.{AreTexts, lexes_texts}
use Rattle.sot_law_print_parse.proofs.Kept.{Production}
use Rattle.sot_law_print_parse.proofs.Lists.{cons_same, max_nests}
use Rattle.sot_law_print_parse.proofs.Modules.{control_keep, with_regions_written}
use Rattle.sot_law_print_parse.proofs.Programs.{declarations, declarations_keep, programs, programs_keep}
use Rattle.sot_regions_rewrite.specs.declared.modules.ModuleRegions.{ModuleRegions}
use Rattle.sot_regions_rewrite.specs.OtherRegions.{areas_like, declaration_with, left_behind, declarations_with, with_regions}
use Rattle.sot_law_regions_rewrite.specs.Fitting.{FitNext, AreFitting}
use Rattle.sot_law_regions_rewrite.specs.Laws.{CanonicalTextsAreReadBack}
use Rattle.sot_law_regions_rewrite.proofs.Formed.{areas_formed, stay_formed}
use Rattle.sot_law_regions_rewrite.proofs.Written.{bound_written}

-- ---- declarations

-- these tokens are a form of the production that means this tree, and nests no deeper
record WrittenWithin {G F T : Type 0} (p : Production G F T) (t : T) (levels : ℕ) (ts us : List Lexeme) : Type 0 where
  form : F
  tokens : ts ≡ p.spelled form us
  same : p.unplaced (p.tree form) ≡ p.unplaced t
  nests : p.levels form ≤ levels

as_before : (d : DeclarationForm) (more : List Lexeme) → AreTexts (spelled_declaration d more) → (gap : Gap) (ts us : List Lexeme)
    → Takes ts (declaration_words gap (declaration_of d)) us
    → WrittenWithin declarations (declaration_of d) (declaration_levels d) ts us
as_before d more texts gap ts us h =
    let a = (declarations_keep d more texts).0.again gap ts us h in
    record { form = a.form; tokens = a.tokens; same = a.same; nests = a.nests }

declaration_written : (regions : List ModuleRegions) (d : DeclarationForm) (more : List Lexeme) → AreTexts (spelled_declaration d more)
    → FitNext regions (declaration_of d)
    → (gap : Gap) (ts us : List Lexeme) → Takes ts (declaration_words gap (declaration_with regions (declaration_of d))) us
    → WrittenWithin declarations (declaration_with regions (declaration_of d)) (declaration_levels d) ts us
declaration_written [] d more texts fits gap ts us h = as_before d more texts gap ts us h
declaration_written (r ∷ later) (a_topic t) more texts fits gap ts us h = as_before (a_topic t) more texts gap ts us h
declaration_written (r ∷ later) (a_plant q) more texts fits gap ts us h = as_before (a_plant q) more texts gap ts us h
declaration_written (r ∷ later) (a_coded n) more texts fits gap ts us h = as_before (a_coded n) more texts gap ts us h
declaration_written (r ∷ later) (an_external n) more texts fits gap ts us h = as_before (an_external n) more texts gap ts us h
declaration_written (r ∷ later) (a_module m) more texts fits gap ts us h =
    let own = (declarations_keep (a_module m) more texts).0.holds in
    let given : List Area = (module_of m).safe in
    let safe : List Area = areas_like given r.safe.boxes in
    let safer : List Area = areas_like given r.safer.boxes in
    let of_safe = bound_written (codes "safe") safe (areas_formed given r.safe own.safe fits.safe) in
    let of_safer = bound_written (codes "safer") safer (areas_formed given r.safer own.safe fits.safer) in
    let a = with_regions_written m (control_keep m more texts).0 safe safer of_safe of_safer gap ts us h in
    record { form = a_module a.form; tokens = a.tokens; same = ap trees.a_module a.same; nests = le_refl 0 }

-- ---- programs

all_written : (regions : List ModuleRegions) (ds : List DeclarationForm) → AreTexts (each spelled_declaration ds [])
    → AreFitting regions (map declaration_of ds)
    → (first : Bool) (ts us : List Lexeme) → Takes ts (declarations_from first (declarations_with regions (map declaration_of ds))) us
    → WrittenWithin programs (declarations_with regions (map declaration_of ds)) (most declaration_levels ds) ts us
all_written regions [] texts fits first ts us h = record { form = []; tokens = h; same = refl; nests = le_refl 0 }
all_written regions (d ∷ ds) texts fits first ts us h =
    let later = left_behind (declaration_of d) regions in
    let after = each spelled_declaration ds [] in
    let parts = split (declaration_words (own_line first) (declaration_with regions (declaration_of d)))
    (declarations_from false (declarations_with later (map declaration_of ds))) ts us h
    in
    let a = declaration_written regions d after texts fits.0 (own_line first) ts parts.0 parts.1 in
    let b = all_written later ds (declarations_keep d after texts).1 fits.1 false parts.0 us parts.2 in
    record {
      form = a.form ∷ b.form;
      tokens = onto (spelled_declaration a.form) a.tokens b.tokens;
      same = cons_same a.same b.same;
      nests = max_nests a.nests b.nests;
    }

abbrev ReadBack : List ModuleRegions → Program → Type 0
ReadBack regions p = (q : Program) × Spells (canonical (with_regions regions p)) 0 q × AreSame (with_regions regions p) q

abbrev program_with : List Declaration → Program
program_with ds = record { decls = ds }

abbrev ahead_of : List Lexeme → Option LexFault → Ahead
ahead_of ts end = record { tokens = ts; end = end }

form_read : (regions : List ModuleRegions) (ds : List DeclarationForm) → AreTexts (spelled_program ds) → program_levels ds ≤ 64
    → AreFitting regions (map declaration_of ds)
    → ReadBack regions (program_of ds)
form_read regions ds texts nests fits =
    let p : Program = with_regions regions (program_of ds) in
    let is : IsFormed (program_of ds) = (programs_keep ds [] texts).0.holds in
    let read : Reads (canonical p) (words p) = canonical_read p (stay_formed regions (program_of ds) is fits) in
    let ahead : Ahead = read.0 in
    let a = all_written regions ds texts fits true ahead.tokens [] (all_taken ahead.tokens (words p) read.2) in
    let P : Ahead → Type 0 = λ x. Comes (canonical p) 0 x in
    let ends : ahead ≡ record { tokens = ahead.tokens; end = None } = ap (λ e. ahead_of ahead.tokens e) read.3 in (
      program_of a.form,
      record {
        tokens = ahead.tokens;
        text = subst P ends read.1;
        is = record { form = a.form; spelled = a.tokens; means = refl; nests = omega (arith, a.nests, nests) };
      },
      sym (ap program_with a.same),
    )

pub read_back : CanonicalTextsAreReadBack
read_back regions bytes at p spells fits =
    let ds : List DeclarationForm = spells.is.form in
    let texts : AreTexts spells.tokens = lexes_texts bytes at spells.tokens spells.text.0 spells.text.1 in
    subst (ReadBack regions) (sym spells.is.means)
    (form_read regions ds (subst AreTexts spells.is.spelled texts) spells.is.nests
    (subst (λ (x : Program). AreFitting regions x.decls) spells.is.means fits))
