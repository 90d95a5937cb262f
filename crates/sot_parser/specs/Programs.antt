-- What a text spells: a program.
use Rattle.std.specs.Prelude.{◌≡◌, ℕ, ◌≤◌, List, [], map, None}
use Rattle.sot_text.specs.Reading.{Lexeme}
use Rattle.sot_text.specs.Ahead.{Comes}
use Rattle.sot_syntax_tree.specs.Trees.{Program}
use Rattle.sot_parser.specs.Pieces.{each}
use Rattle.sot_parser.specs.Declarations.{DeclarationForm, spelled_declaration, declaration_of}
use Rattle.sot_parser.specs.Declarations.{declaration_levels, most}

-- program = {decl}
abbrev pub spelled_program : List DeclarationForm → List Lexeme
spelled_program ds = each spelled_declaration ds []

abbrev pub program_of : List DeclarationForm → Program
program_of ds = record { decls = map declaration_of ds }

abbrev pub program_levels : List DeclarationForm → ℕ
program_levels ds = most declaration_levels ds

-- these tokens are a program of the grammar, of at most 64 levels, and this is its tree
pub record IsProgramText (ts : List Lexeme) (program : Program) : Type 0 where
  pub form : List DeclarationForm
  pub spelled : ts ≡ spelled_program form
  pub means : program ≡ program_of form
  pub nests : program_levels form ≤ 64

-- from a place on to its end, the text is of tokens that spell this program
pub record Spells (bytes : List ℕ) (at : ℕ) (program : Program) : Type 0 where
  pub tokens : List Lexeme
  pub text : Comes bytes at (record { tokens = tokens; end = None })
  pub is : IsProgramText tokens program
