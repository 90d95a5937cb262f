-- The laws on places.
use Rattle.std.specs.Prelude.{◌≡◌, ℕ, ◌<◌, List, length, None}
use Rattle.sot_text.specs.Reading.{Lexeme}
use Rattle.sot_text.specs.Ahead.{Ahead, ahead_from}
use Rattle.sot_syntax_tree.specs.Trees.{Program}
use Rattle.sot_parser.specs.Programs.{Spells}
use Rattle.sot_parser.specs.ParseAnswers.{fault_at}
use Rattle.sot_parser.specs.declared.syntax.Syntax.{Syntax}
use Rattle.sot_parser.specs.declared.syntax.Syntax.TheVariants.{Deep}
use Rattle.sot_law_fault_place.specs.Places.{IsText, IsExact, IsFirstWrong, IsTooDeep, IsFaultOf}

-- where a text spells no program, reading stops at a place that the grammar allows, and for the
-- reason that it gives
abbrev pub PlacesAreExact : Type 0
PlacesAreExact =
    (bytes : List ℕ) (at : ℕ) → ((program : Program) → Spells bytes at program → ⊥)
    → IsFaultOf bytes (ahead_from bytes at) (fault_at bytes at)

-- a text of the grammar that nests too deep is refused as that, and for nothing else
abbrev pub TextsAreOnlyDeep : Type 0
TextsAreOnlyDeep =
    (bytes : List ℕ) (ahead : Ahead) (fault : Syntax) → IsFaultOf bytes ahead fault
    → IsText ahead.tokens → ahead.end ≡ None
    → (t : Lexeme) × IsTooDeep ahead t × (fault ≡ Deep t.at)

-- where the tokens are no text of the grammar, or no token comes next, there is a fault that is not
-- one of nesting
abbrev pub ExactPlacesExist : Type 0
ExactPlacesExist =
    (bytes : List ℕ) (ahead : Ahead) → (IsText ahead.tokens → ahead.end ≡ None → ⊥)
    → (fault : Syntax) × IsFaultOf bytes ahead fault × IsExact fault

-- but for nesting, tokens have one fault at the most
abbrev pub ExactPlacesAreOne : Type 0
ExactPlacesAreOne =
    (bytes : List ℕ) (ahead : Ahead) (fault other : Syntax) → IsFaultOf bytes ahead fault
    → IsFaultOf bytes ahead other → IsExact fault → IsExact other → fault ≡ other

-- where there is a first token with which no text goes on, what nests too deep stands before it
abbrev pub DeepComesBefore : Type 0
DeepComesBefore =
    (ahead : Ahead) (wrong token : Lexeme) (w : IsFirstWrong ahead wrong)
    (d : IsTooDeep ahead token) → length d.before < length w.before

-- a text that spells a program has no fault
abbrev pub ProgramsHaveNoFault : Type 0
ProgramsHaveNoFault =
    (bytes : List ℕ) (at : ℕ) (fault : Syntax) → IsFaultOf bytes (ahead_from bytes at) fault
    → (program : Program) → Spells bytes at program → ⊥
