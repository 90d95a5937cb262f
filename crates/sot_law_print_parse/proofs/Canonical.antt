-- The canonical text of a program that a text spells is read back.
use Rattle.std.proofs.Common.{◌≡◌, ℕ, ◌≤◌, List, [], true, Option, None, refl, sym, ap, ◌∙◌, subst, arith}
use Rattle.sot_text.specs.Reading.{Lexeme}
use Rattle.sot_text.specs.Ahead.{Ahead, Comes}
use Rattle.sot_text.specs.declared.token.LexFault.{LexFault}
use Rattle.sot_syntax_tree.specs.Trees.{Program, Declaration}
use Rattle.sot_parser.specs.Declarations.{DeclarationForm}
use Rattle.sot_parser.specs.Programs.{spelled_program, program_of, program_levels, Spells}
use Rattle.sot_parser.proofs.ProgramTexts.{spells_unique}
use Rattle.sot_print.specs.Canonical.{words, canonical}
use Rattle.sot_print.specs.Layout.{Reads}
use Rattle.sot_print.proofs.ProgramSits.{canonical_read}
use Rattle.sot_law_print_parse.specs.Unplaced.{without_places, AreSame}
use Rattle.sot_law_print_parse.proofs.Takes.{all_taken}
use Rattle.sot_law_print_parse.proofs.Texts.{AreTexts, lexes_texts}
use Rattle.sot_law_print_parse.proofs.Kept.{Kept}
use Rattle.sot_law_print_parse.proofs.SameWords.{one_text}
use Rattle.sot_law_print_parse.proofs.Programs.{programs, programs_keep}

abbrev ReadBack : Program → Type 0
ReadBack p = (q : Program) × Spells (canonical p) 0 q × AreSame p q

abbrev program_with : List Declaration → Program
program_with ds = record { decls = ds }

abbrev ahead_of : List Lexeme → Option LexFault → Ahead
ahead_of ts end = record { tokens = ts; end = end }

-- a program as its form says it
form_read : (ds : List DeclarationForm) → AreTexts (spelled_program ds) → program_levels ds ≤ 64 → ReadBack (program_of ds)
form_read ds texts nests =
    let kept : Kept programs ds = (programs_keep ds [] texts).0 in
    let read : Reads (canonical (program_of ds)) (words (program_of ds)) = canonical_read (program_of ds) kept.holds in
    let ahead : Ahead = read.0 in
    let a = kept.again true ahead.tokens [] (all_taken ahead.tokens (words (program_of ds)) read.2) in
    let P : Ahead → Type 0 = λ x. Comes (canonical (program_of ds)) 0 x in
    let ends : ahead ≡ record { tokens = ahead.tokens; end = None } = ap (λ e. ahead_of ahead.tokens e) read.3 in (
      program_of a.form,
      record {
        tokens = ahead.tokens;
        text = subst P ends read.1;
        is = record { form = a.form; spelled = a.tokens; means = refl; nests = omega (arith, a.nests, nests) };
      },
      sym (ap program_with a.same),
    )

pub canonical_text : (bytes : List ℕ) (at : ℕ) (p : Program) → Spells bytes at p → (q : Program) × Spells (canonical p) 0 q × AreSame p q
canonical_text bytes at p spells =
    let ds : List DeclarationForm = spells.is.form in
    let texts : AreTexts spells.tokens = lexes_texts bytes at spells.tokens spells.text.0 spells.text.1 in
    subst ReadBack (sym spells.is.means) (form_read ds (subst AreTexts spells.is.spelled texts) spells.is.nests)

-- the text spells no other program
pub printed_again : (bytes : List ℕ) (at : ℕ) (p q : Program) → Spells bytes at p → Spells (canonical p) 0 q → canonical q ≡ canonical p
printed_again bytes at p q spells again =
    let back = canonical_text bytes at p spells in
    ap canonical (spells_unique (canonical p) 0 q back.0 again back.1) ∙ sym (one_text p back.0 back.2)

pub told_apart : (a b : List ℕ) (i j : ℕ) (p q : Program) → Spells a i p → Spells b j q → canonical p ≡ canonical q → AreSame p q
told_apart a b i j p q of_p of_q e =
    let one = canonical_text a i p of_p in
    let other = canonical_text b j q of_q in
    let P : List ℕ → Type 0 = λ text. Spells text 0 other.0 in
    one.2 ∙ ap without_places (spells_unique (canonical p) 0 one.0 other.0 one.1 (subst P (sym e) other.1)) ∙ sym other.2
