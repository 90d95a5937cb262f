-- What is read as an expression is one, each expression is read, and tokens spell at most one.
use Rattle.std.specs.Prelude.{◌≡◌, ℕ, ◌≤◌, List, Ok}
use Rattle.sot_text.specs.Reading.{Lexeme}
use Rattle.sot_expression.specs.ExpressionReaders.{Part, expression_at}
use Rattle.sot_expression.specs.Phrases.{Phrase, IsPhrase, spelled, part_of, levels_of, Stops}

-- a phrase of at most so many levels stands in front of these tokens, and is read as this part
pub record IsReadAs (room : ℕ) (ts : List Lexeme) (part : Part) (us : List Lexeme) : Type 0 where
  pub phrase : Phrase
  pub is_phrase : IsPhrase phrase
  pub tokens : ts ≡ spelled phrase us
  pub part_is : part ≡ part_of phrase
  pub levels : levels_of phrase ≤ room

abbrev pub ReadsOnlyPhrases : Type 0
ReadsOnlyPhrases =
    (room : ℕ) (ts : List Lexeme) (part : Part) (us : List Lexeme)
    → expression_at room ts ≡ Ok (part, us) → IsReadAs room ts part us

abbrev pub ReadsEachPhrase : Type 0
ReadsEachPhrase =
    (room : ℕ) (f : Phrase) (us : List Lexeme) → IsPhrase f → levels_of f ≤ room → Stops us
    → expression_at room (spelled f us) ≡ Ok (part_of f, us)

abbrev pub PhrasesAreUnique : Type 0
PhrasesAreUnique =
    (f g : Phrase) (us : List Lexeme) → IsPhrase f → IsPhrase g → Stops us
    → spelled f us ≡ spelled g us → part_of f ≡ part_of g
