-- Pieces of texts: lines, numbers, points and boxes.
use Rattle.std.specs.Prelude.{ℕ, ℤ, List, [], ◌∷◌, ◌++◌, codes}
use Rattle.std.specs.Fmt.{decimal, signed_decimal}
use Rattle.sot_text.specs.declared.token.Span.{Span}
use Rattle.sot_box.specs.Sides.{Side}
use Rattle.sot_lang.specs.declared.trap.TrapKind.{TrapKind}
use Rattle.sot_lang.specs.declared.trap.TrapKind.TheVariants.{ZeroDivisor, Wide, OutsideRange}

-- a text and a line end (LF)
abbrev pub line : List ℕ → List ℕ
line text = text ++ 10 ∷ []

-- a comma and a blank before each further item
abbrev pub further : {A : Type 0} → (A → List ℕ) → List A → List ℕ
further item [] = []
further item (x ∷ xs) = codes ", " ++ item x ++ further item xs

-- items with a comma and a blank between two
abbrev pub listed : {A : Type 0} → (A → List ℕ) → List A → List ℕ
listed item [] = []
listed item (x ∷ xs) = item x ++ further item xs

-- an interval: `LO..HI`
abbrev pub side_text : Side → List ℕ
side_text r = signed_decimal r.lo ++ codes ".." ++ signed_decimal r.hi

-- a point: `(X1, X2)`
abbrev pub point_text : List ℤ → List ℕ
point_text xs = codes "(" ++ listed signed_decimal xs ++ codes ")"

-- a box: `[LO..HI, LO..HI]`
abbrev pub box_text : List Side → List ℕ
box_text sides = codes "[" ++ listed side_text sides ++ codes "]"

-- a place in the program's text: `line L column C`
abbrev pub place_text : Span → List ℕ
place_text at = codes "line " ++ decimal at.line ++ codes " column " ++ decimal at.column

-- an interval in brackets: ` [LO..HI]`, with a blank before it
abbrev pub ends_text : ℤ → ℤ → List ℕ
ends_text lo hi = codes " [" ++ signed_decimal lo ++ codes ".." ++ signed_decimal hi ++ codes "]"

abbrev pub trap_word : TrapKind → List ℕ
trap_word ZeroDivisor = codes "ZeroDivisor"
trap_word Wide = codes "Wide"
trap_word OutsideRange = codes "OutsideRange"
