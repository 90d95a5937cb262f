-- Words with what stands before each of them, and how they are laid out.
use Rattle.std.specs.Prelude.{ℕ, List, [], ◌∷◌, ◌++◌, replicate}
use Rattle.sot_text.specs.declared.token.Kind.{Kind}
use Rattle.sot_text.specs.declared.token.Kind.TheVariants.{Name, Keyword, Number, Sign}
use Rattle.sot_print.specs.declared.gap.Gap.{Gap}
use Rattle.sot_print.specs.declared.gap.Gap.TheVariants.{Touching, Space, Line}

-- a token, and what stands before it
pub record Word : Type 0 where
  pub before : Gap
  pub kind : Kind
  pub text : List ℕ

abbrev pub keyword : Gap → List ℕ → Word
keyword before text = record { before = before; kind = Keyword; text = text }

abbrev pub sign : Gap → List ℕ → Word
sign before text = record { before = before; kind = Sign; text = text }

abbrev pub name : Gap → List ℕ → Word
name before text = record { before = before; kind = Name; text = text }

abbrev pub number : Gap → List ℕ → Word
number before text = record { before = before; kind = Number; text = text }

-- nothing, one space, or a line end and so many spaces
abbrev pub blanks : Gap → List ℕ
blanks Touching = []
blanks Space = 32 ∷ []
blanks (Line indent) = 10 ∷ replicate indent 32

-- words one after another, each with what stands before it
abbrev pub laid : List Word → List ℕ
laid [] = []
laid (w ∷ ws) = blanks w.before ++ (w.text ++ laid ws)

-- the text of these words ends with a line end; with no word it is empty
abbrev pub text_of : List Word → List ℕ
text_of [] = []
text_of (w ∷ ws) = laid (w ∷ ws) ++ 10 ∷ []
