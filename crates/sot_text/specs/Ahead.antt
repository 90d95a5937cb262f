-- The tokens that a text has still to come, and how they end.
use Rattle.std.specs.Prelude.{◌≡◌, ℕ, zero, suc, ◌-◌, List, [], ◌∷◌, length, Option, None, Some}
use Rattle.std.specs.Prelude.{Result, Ok, Err}
use Rattle.sot_text.specs.declared.token.LexFault.{LexFault}
use Rattle.sot_text.specs.Reading.{Lexeme, Lexes, next_lexeme}

-- tokens, and then the end of the text or a fault
pub record Ahead : Type 0 where
  pub tokens : List Lexeme
  pub end : Option LexFault

-- what stands where no token does
abbrev pub ending : Option LexFault → Result (Option Lexeme) LexFault
ending None = Ok None
ending (Some fault) = Err fault

-- from a place on the text has these tokens, and ends so
abbrev pub Comes : List ℕ → ℕ → Ahead → Type 0
Comes bytes at ahead =
    (to : ℕ) × Lexes bytes at ahead.tokens to × (next_lexeme bytes to ≡ ending ahead.end)

abbrev pub push : Lexeme → Ahead → Ahead
push t ahead = record { tokens = t ∷ ahead.tokens; end = ahead.end }

abbrev pub ahead_with : (ℕ → Ahead) → Result (Option Lexeme) LexFault → Ahead
ahead_with more (Ok None) = record { tokens = []; end = None }
ahead_with more (Ok (Some t)) = push t (more t.to)
ahead_with more (Err fault) = record { tokens = []; end = Some fault }

-- what comes from a place on, as a function; the number bounds how many tokens are taken
unfoldable pub ahead_within : ℕ → List ℕ → ℕ → Ahead
ahead_within zero bytes at = record { tokens = []; end = None }
ahead_within (suc n) bytes at = ahead_with (ahead_within n bytes) (next_lexeme bytes at)

-- what `Comes` from a place on
unfoldable pub ahead_from : List ℕ → ℕ → Ahead
ahead_from bytes at = ahead_within (suc (length bytes - at)) bytes at
