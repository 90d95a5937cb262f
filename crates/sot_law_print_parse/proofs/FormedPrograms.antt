-- What a text spells is formed.
use Rattle.std.proofs.Common.{ℕ, List, [], sym, subst}
use Rattle.sot_syntax_tree.specs.Trees.{Program}
use Rattle.sot_syntax_tree.specs.Formed.{IsFormed}
use Rattle.sot_parser.specs.Declarations.{DeclarationForm}
use Rattle.sot_parser.specs.Programs.{spelled_program, program_of, Spells}
use Rattle.sot_law_print_parse.proofs.Texts.{AreTexts, lexes_texts}
use Rattle.sot_law_print_parse.proofs.Programs.{programs_keep}

program_formed : (ds : List DeclarationForm) → AreTexts (spelled_program ds) → IsFormed (program_of ds)
program_formed ds texts = (programs_keep ds [] texts).0.holds

pub spelled_formed : (bytes : List ℕ) (at : ℕ) (p : Program) → Spells bytes at p → IsFormed p
spelled_formed bytes at p spells =
    let P : Program → Type 0 = λ q. IsFormed q in
    let texts : AreTexts spells.tokens = lexes_texts bytes at spells.tokens spells.text.0 spells.text.1 in
    subst P (sym spells.is.means) (program_formed spells.is.form (subst AreTexts spells.is.spelled texts))
