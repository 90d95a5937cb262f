-- Words that are read back from their text: tokens, kept apart where they would run together.
use Rattle.std.specs.Prelude.{◌≡◌, ℕ, List, [], ◌∷◌, ◌++◌, length, map, None}
use Rattle.sot_text.specs.declared.token.Kind.{Kind}
use Rattle.sot_text.specs.Reading.{Lexeme}
use Rattle.sot_text.specs.declared.lexeme.Front.TheVariants.{Token}
use Rattle.sot_text.specs.Lexeme.{front, IsTokenText}
use Rattle.sot_text.specs.Ahead.{Ahead, Comes}
use Rattle.sot_print.specs.declared.gap.Gap.{Gap}
use Rattle.sot_print.specs.declared.gap.Gap.TheVariants.{Touching, Space, Line}
use Rattle.sot_print.specs.Words.{Word}

abbrev pub AreTokens : List Word → Type 0
AreTokens [] = Unit {0}
AreTokens (w ∷ ws) = IsTokenText w.kind w.text × AreTokens ws

-- where the second stands directly behind the first, the text still begins with the first, whatever
-- follows
abbrev pub MayTouch : Word → Word → Type 0
MayTouch a b = (rest : List ℕ) → front (a.text ++ (b.text ++ rest)) ≡ Token a.kind (length a.text)

-- blanks between two words, or words that may touch
abbrev pub MayFollow : Word → Gap → Word → Type 0
MayFollow a Touching b = MayTouch a b
MayFollow a Space b = Unit {0}
MayFollow a (Line indent) b = Unit {0}

abbrev pub MayGoOn : Word → List Word → Type 0
MayGoOn a [] = Unit {0}
MayGoOn a (b ∷ ws) = MayFollow a b.before b

abbrev pub AreParted : List Word → Type 0
AreParted [] = Unit {0}
AreParted (w ∷ ws) = MayGoOn w ws × AreParted ws

-- a token without its place, and a word without its gap
pub record Spelled : Type 0 where
  pub kind : Kind
  pub text : List ℕ

abbrev pub token_spelled : Lexeme → Spelled
token_spelled t = record { kind = t.kind; text = t.text }

abbrev pub word_spelled : Word → Spelled
word_spelled w = record { kind = w.kind; text = w.text }

-- the tokens of a text are these words in order, and then it ends
abbrev pub Reads : List ℕ → List Word → Type 0
Reads bytes ws =
    (ahead : Ahead) × Comes bytes 0 ahead × (map token_spelled ahead.tokens ≡ map word_spelled ws)
    × (ahead.end ≡ None)
