-- What the lexer's own functions promise each other.
use Rattle.std.specs.Prelude.{ℕ, ◌+◌, ◌<◌, List, [], ◌∷◌, Bool, ◌==◌, ◌||◌, ◌&&◌, if◌then◌else◌}
use Rattle.std.specs.List.{list_any}
use Rattle.sot_text.specs.declared.token.Span.{Span}
use Rattle.sot_text.specs.declared.lexeme.Front.{Front}
use Rattle.sot_text.specs.declared.lexeme.Front.TheVariants.{End, Token, BadByte, NameLong}
use Rattle.sot_text.specs.declared.lexeme.Front.TheVariants.{LiteralWide}
use Rattle.sot_text.specs.Lexeme.{is_blank, sign_characters}

-- ':=', '..', '<=', '>=', '==' and '!='
abbrev pub is_long_sign : ℕ → ℕ → Bool
is_long_sign a b =
    (a == 58 && b == 61) || (a == 46 && b == 46) || (a == 60 && b == 61) || (a == 62 && b == 61) ||
    (a == 61 && b == 61) || (a == 33 && b == 61)

abbrev pub is_short_sign : ℕ → Bool
is_short_sign a = list_any (λ s. a == s) sign_characters

-- the length of a sign, by the first two bytes
abbrev pub sign_by_two : List ℕ → ℕ
sign_by_two [] = 0
sign_by_two (a ∷ []) = if is_short_sign a then 1 else 0
sign_by_two (a ∷ b ∷ bs) = if is_long_sign a b then 2 else (if is_short_sign a then 1 else 0)

-- how many bytes it takes
abbrev pub len_of : Front → ℕ
len_of End = 0
len_of (Token kind len) = len
len_of BadByte = 1
len_of (NameLong len) = len
len_of (LiteralWide len) = len

-- a token has some byte
abbrev pub IsSomeLen : Front → Type 0
IsSomeLen End = Unit {0}
IsSomeLen (Token kind len) = 0 < len
IsSomeLen BadByte = Unit {0}
IsSomeLen (NameLong len) = Unit {0}
IsSomeLen (LiteralWide len) = Unit {0}

-- the place behind so many bytes that end no line
abbrev pub further : Span → ℕ → Span
further p n = record { line = p.line; column = p.column + n }

-- the place behind a line's end
abbrev pub next_line : Span → Span
next_line p = record { line = p.line + 1; column = 1 }

-- a blank or a comment begins with this byte
abbrev pub is_skipped : ℕ → Bool
is_skipped b = is_blank b || b == 35
