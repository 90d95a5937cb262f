-- The place of a fault of syntax, by the grammar alone.
use Rattle.std.specs.Prelude.{◌≡◌, ℕ, ◌<◌, List, [], ◌∷◌, ◌++◌, length, None, Some}
use Rattle.sot_text.specs.declared.token.LexFault.{LexFault}
use Rattle.sot_text.specs.Lexeme.{IsTokenText}
use Rattle.sot_text.specs.Reading.{Lexeme, span}
use Rattle.sot_text.specs.Ahead.{Ahead}
use Rattle.sot_parser.specs.declared.syntax.Syntax.{Syntax}
use Rattle.sot_parser.specs.declared.syntax.Syntax.TheVariants.{Lex, Token, Deep}
use Rattle.sot_parser.specs.Declarations.{DeclarationForm}
use Rattle.sot_parser.specs.Programs.{spelled_program, program_levels}

-- these tokens are a text of the grammar, however deep it nests
abbrev pub IsText : List Lexeme → Type 0
IsText ts = (form : List DeclarationForm) × (ts ≡ spelled_program form)

-- a token that a text can have
abbrev pub IsToken : Lexeme → Type 0
IsToken t = IsTokenText t.kind t.text

abbrev pub AreTokens : List Lexeme → Type 0
AreTokens [] = Unit {0}
AreTokens (t ∷ ts) = IsToken t × AreTokens ts

-- some text of the grammar begins with these tokens
abbrev pub Begins : List Lexeme → Type 0
Begins ts = (more : List Lexeme) × AreTokens more × IsText (ts ++ more)

-- no text of the grammar begins with these tokens, whatever stands behind them
abbrev pub BeginsNone : List Lexeme → Type 0
BeginsNone ts = (more : List Lexeme) → IsText (ts ++ more) → ⊥

-- each text of the grammar that begins with these tokens nests more than 64 levels
abbrev pub BeginsOnlyDeep : List Lexeme → Type 0
BeginsOnlyDeep ts =
    (form : List DeclarationForm) (more : List Lexeme) → spelled_program form ≡ ts ++ more
    → 64 < program_levels form

-- the first token with which no text of the grammar goes on
pub record IsFirstWrong (ahead : Ahead) (wrong : Lexeme) : Type 0 where
  pub before : List Lexeme
  pub behind : List Lexeme
  pub tokens : ahead.tokens ≡ before ++ wrong ∷ behind
  pub begins : Begins before
  pub nothing : BeginsNone (before ++ wrong ∷ [])

-- the tokens begin a text of the grammar, and with nothing behind them they are none
pub record IsCutShort (ahead : Ahead) : Type 0 where
  pub begins : Begins ahead.tokens
  pub no_text : IsText ahead.tokens → ⊥
  pub ended : ahead.end ≡ None

-- a token that can be gone on with, but only by texts that nest too deep
pub record IsTooDeep (ahead : Ahead) (token : Lexeme) : Type 0 where
  pub before : List Lexeme
  pub behind : List Lexeme
  pub tokens : ahead.tokens ≡ before ++ token ∷ behind
  pub begins : Begins (before ++ token ∷ [])
  pub only_deep : BeginsOnlyDeep (before ++ token ∷ [])

-- the fault of a text of these tokens: `Lex` where all tokens begin a text of the grammar and no
-- token comes next; `Token` at the first token with which no text of the grammar goes on, or at the
-- end of the text; and `Deep` at a token at which each text that goes on nests too deep
pub data IsFaultOf (bytes : List ℕ) (ahead : Ahead) (fault : Syntax) : Type 0 where
  no_token : (f : LexFault) → ahead.end ≡ Some f → Begins ahead.tokens → fault ≡ Lex f
      → IsFaultOf bytes ahead fault
  wrong_token : (t : Lexeme) → IsFirstWrong ahead t → fault ≡ Token t.at
      → IsFaultOf bytes ahead fault
  too_short : IsCutShort ahead → fault ≡ Token (span bytes (length bytes))
      → IsFaultOf bytes ahead fault
  too_deep : (t : Lexeme) → IsTooDeep ahead t → fault ≡ Deep t.at → IsFaultOf bytes ahead fault

-- not a fault of nesting
abbrev pub IsExact : Syntax → Type 0
IsExact (Lex f) = Unit {0}
IsExact (Token at) = Unit {0}
IsExact (Deep at) = ⊥
