-- The tokens that a text has still to come, one of them taken off its lexer already.
use Rattle.std.specs.Prelude.{List, [], ◌∷◌, drop, Option, None, Some}
use Rattle.sot_text.specs.declared.token.Token.{Token}
use Rattle.sot_text.specs.declared.token.LexFault.{LexFault}
use Rattle.sot_text.specs.Reading.{Reading, Lexeme, lexeme}
use Rattle.sot_text.specs.Ahead.{Ahead, push, ahead_from}

-- a token or a fault, and then what its lexer has still to give
abbrev pub ahead_of : Option Token → Option LexFault → Reading → Ahead
ahead_of None fault l = record { tokens = []; end = fault }
ahead_of (Some t) fault l = push (lexeme t) (ahead_from l.bytes l.at)

abbrev pub first_of : List Lexeme → Option Lexeme
first_of [] = None
first_of (t ∷ ts) = Some t

abbrev pub behind : Ahead → Ahead
behind a = record { tokens = drop 1 a.tokens; end = a.end }
