-- What the words of formulas are read as.
use Rattle.std.specs.Prelude.{ℕ, List, ◌∷◌, [], Bool, true, false, Option, Some, None, codes}
use Rattle.std.specs.Str.{bytes_eq}
use Rattle.sot_text.specs.Reading.{Lexeme}
use Rattle.sot_expression.specs.Lexemes.{is_sign, is_keyword, is_name}
use Rattle.sot_expression.specs.Operators.{first_case}
use Rattle.sot_formula.specs.declared.quantity.Comparison.{Comparison}
use Rattle.sot_formula.specs.declared.quantity.Comparison.TheVariants as comparisons
use Rattle.sot_formula.specs.declared.quantity.Pairing.{Pairing}
use Rattle.sot_formula.specs.declared.quantity.Pairing.TheVariants as pairings
use Rattle.sot_formula.specs.declared.what.What.{What}
use Rattle.sot_formula.specs.declared.what.What.TheVariants as whats
use Rattle.sot_formula.specs.declared.words.Single.{Single}
use Rattle.sot_formula.specs.declared.words.Single.TheVariants as singles
use Rattle.sot_formula.specs.declared.words.Double.{Double}
use Rattle.sot_formula.specs.declared.words.Double.TheVariants as doubles
use Rattle.sot_formula.specs.declared.words.FormulaOpening.{FormulaOpening}
use Rattle.sot_formula.specs.declared.words.FormulaOpening.TheVariants as openings
use Rattle.sot_formula.specs.declared.words.Word.{Word}
use Rattle.sot_formula.specs.declared.words.Word.TheVariants as words

abbrev pub comparing_of : Lexeme → Option Comparison
comparing_of t = first_case None (
    (is_sign (codes "<") t, Some comparisons.Less)
    ∷ (is_sign (codes "<=") t, Some comparisons.LessEqual)
    ∷ (is_sign (codes ">") t, Some comparisons.Greater)
    ∷ (is_sign (codes ">=") t, Some comparisons.GreaterEqual)
    ∷ (is_sign (codes "==") t, Some comparisons.Equal)
    ∷ (is_sign (codes "!=") t, Some comparisons.NotEqual)
    ∷ [])

abbrev pub comparing_from : Option Lexeme → Option Comparison
comparing_from None = None
comparing_from (Some t) = comparing_of t

abbrev pub pairing_of : Lexeme → Option Pairing
pairing_of t = first_case None (
    (is_sign (codes "+") t, Some pairings.Sum)
    ∷ (is_sign (codes "-") t, Some pairings.Difference)
    ∷ [])

abbrev pub pairing_from : Option Lexeme → Option Pairing
pairing_from None = None
pairing_from (Some t) = pairing_of t

abbrev pub opening_of : Lexeme → FormulaOpening
opening_of t = first_case openings.Other (
    (is_name t, openings.Name)
    ∷ (is_keyword (codes "true") t, openings.Truth true)
    ∷ (is_keyword (codes "false") t, openings.Truth false)
    ∷ (is_keyword (codes "not") t, openings.Single singles.Not)
    ∷ (is_keyword (codes "and") t, openings.Double doubles.And)
    ∷ (is_keyword (codes "or") t, openings.Double doubles.Or)
    ∷ [])

abbrev pub opening_from : Option Lexeme → FormulaOpening
opening_from None = openings.Other
opening_from (Some t) = opening_of t

abbrev pub word_of : List ℕ → Word
word_of name = first_case words.Other (
    (bytes_eq name (codes "once"), words.Single singles.Once)
    ∷ (bytes_eq name (codes "always"), words.Single singles.Always)
    ∷ (bytes_eq name (codes "since"), words.Double doubles.Since)
    ∷ (bytes_eq name (codes "implies"), words.Double doubles.Implies)
    ∷ (bytes_eq name (codes "within"), words.Within)
    ∷ (bytes_eq name (codes "mode"), words.Mode)
    ∷ [])

abbrev pub is_mode : List ℕ → Bool
is_mode name = bytes_eq name (codes "mode")

-- what has the parts at these places
abbrev pub single_what : Single → ℕ → What
single_what singles.Not place = whats.Not place
single_what singles.Once place = whats.Once place
single_what singles.Always place = whats.Always place

abbrev pub double_what : Double → ℕ → ℕ → What
double_what doubles.And first second = whats.And first second
double_what doubles.Or first second = whats.Or first second
double_what doubles.Since first second = whats.Since first second
double_what doubles.Implies first second = whats.Implies first second
