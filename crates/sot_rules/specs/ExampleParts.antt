-- The parts of worked programs of one line: places are columns of that line.
use Rattle.std.specs.Prelude.{ℕ, ℤ, List}
use Rattle.sot_text.specs.declared.token.Span.{Span}
use Rattle.sot_syntax_tree.specs.declared.tree.Ident.{Ident}
use Rattle.sot_syntax_tree.specs.declared.tree.Lit.{Lit}
use Rattle.sot_syntax_tree.specs.declared.tree.Bounds.{Bounds}

-- a column of the one line
abbrev pub at : ℕ → Span
at column = record { line = 1; column = column }

abbrev pub word : ℕ → List ℕ → Ident
word column name = record { name = name; at = at column }

abbrev pub decimal : ℕ → ℤ → ℕ → Lit
decimal column mantissa scale = record { mantissa = mantissa; scale = scale; at = at column }

abbrev pub whole : ℕ → ℤ → Lit
whole column mantissa = decimal column mantissa 0

abbrev pub range : Lit → Lit → Bounds
range lo hi = record { lo = lo; hi = hi }
