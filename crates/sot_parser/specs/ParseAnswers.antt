-- What `parse` answers.
use Rattle.std.specs.Prelude.{◌≡◌, ℕ, Bool, true, false, List, [], ◌∷◌, length, Option, None, Some}
use Rattle.std.specs.Prelude.{Result, Ok, Err}
use Rattle.sot_text.specs.declared.token.LexFault.{LexFault}
use Rattle.sot_text.specs.Reading.{span}
use Rattle.sot_text.specs.Ahead.{Ahead, ahead_from}
use Rattle.sot_syntax_tree.specs.declared.tree.Program.{Program as CodeProgram}
use Rattle.sot_syntax_tree.specs.Trees.{Program}
use Rattle.sot_syntax_tree.specs.TreeViews.{program_view}
use Rattle.sot_parser.specs.declared.syntax.Syntax.{Syntax}
use Rattle.sot_parser.specs.declared.syntax.Syntax.TheVariants.{Lex, Token, Deep}
use Rattle.sot_parser.specs.declared.syntax.ParseFail.{ParseFail}
use Rattle.sot_parser.specs.declared.syntax.ParseFail.TheVariants as fails
use Rattle.sot_expression.specs.Readers.{Read, stuck, deep}
use Rattle.sot_parser.specs.DeclarationReaders.{program_at}

-- the fault where no token is left: that of the lexer, or the end of the text
abbrev pub at_end : List ℕ → Option LexFault → Syntax
at_end bytes None = Token (span bytes (length bytes))
at_end bytes (Some fault) = Lex fault

-- the fault where reading is stuck, and where it nests too deep
abbrev pub stuck_syntax : List ℕ → Ahead → Syntax
stuck_syntax bytes ahead =
    elim ahead.tokens as (λ x. Syntax) [ [] ↦ at_end bytes ahead.end | ◌∷◌ t ts ↦ Token t.at ]

abbrev pub deep_syntax : List ℕ → Ahead → Syntax
deep_syntax bytes ahead =
    elim ahead.tokens as (λ x. Syntax) [ [] ↦ at_end bytes ahead.end | ◌∷◌ t ts ↦ Deep t.at ]

-- all tokens spell this program, and the text ends behind them
abbrev pub IsRead : Ahead → Program → Type 0
IsRead ahead program = (program_at ahead.tokens ≡ Ok (program, [])) × (ahead.end ≡ None)

-- the fault of what was read, at the tokens that are left
abbrev pub fault_of : List ℕ → Option LexFault → Read Program → Syntax
fault_of bytes end (Ok x) = stuck_syntax bytes (record { tokens = x.1; end = end })
fault_of bytes end (Err e) =
    elim e.0 as (λ x. Syntax) [
      | stuck ↦ stuck_syntax bytes (record { tokens = e.1; end = end })
      | deep ↦ deep_syntax bytes (record { tokens = e.1; end = end })
    ]

-- where reading from a place on stops, and why
unfoldable pub fault_at : List ℕ → ℕ → Syntax
fault_at bytes at =
    let ahead = ahead_from bytes at in
    fault_of bytes ahead.end (program_at ahead.tokens)

abbrev pub Refuses : ParseFail → List ℕ → Ahead → Type 0
Refuses (fails.Syntax s) bytes ahead =
    (s ≡ fault_of bytes ahead.end (program_at ahead.tokens))
    × ((program : Program) → ¬ (IsRead ahead program))
Refuses fails.Memory bytes ahead = Unit {0}

abbrev pub Answers : Result CodeProgram ParseFail → List ℕ → Ahead → Type 0
Answers (Ok program) bytes ahead = IsRead ahead (program_view program)
Answers (Err e) bytes ahead = Refuses e bytes ahead

abbrev pub is_none : {A : Type 0} → Option A → Bool
is_none None = true
is_none (Some x) = false

-- the text ends where its tokens do
abbrev pub is_ended : Ahead → Bool
is_ended ahead = elim ahead.tokens as (λ x. Bool) [ [] ↦ is_none ahead.end | ◌∷◌ t ts ↦ false ]
