-- The words of literals, names, lists and types. The gap is what stands before the first word.
use Rattle.std.specs.Prelude.{ℕ, zero, suc, ◌+◌, ◌/◌, ◌%◌, ◌^◌, ◌==◌, pos, int_lt, unsigned_abs}
use Rattle.std.specs.Prelude.{Bool, true, false, if◌then◌else◌, List, [], ◌∷◌, ◌++◌, Option, None}
use Rattle.std.specs.Prelude.{Some, codes}
use Rattle.std.specs.Fmt.{decimal}
use Rattle.sot_syntax_tree.specs.declared.tree.Ident.{Ident}
use Rattle.sot_syntax_tree.specs.declared.tree.Lit.{Lit}
use Rattle.sot_syntax_tree.specs.declared.tree.Bounds.{Bounds}
use Rattle.sot_syntax_tree.specs.declared.tree.Scalar.{Scalar}
use Rattle.sot_syntax_tree.specs.declared.tree.Scalar.TheVariants.{Int, Fix, Bool as Truths}
use Rattle.sot_syntax_tree.specs.declared.tree.Field.{Field}
use Rattle.sot_syntax_tree.specs.declared.tree.Const.{Const}
use Rattle.sot_syntax_tree.specs.declared.tree.Const.TheVariants.{Number, Truth}
use Rattle.sot_print.specs.declared.gap.Gap.{Gap}
use Rattle.sot_print.specs.declared.gap.Gap.TheVariants.{Touching, Space}
use Rattle.sot_print.specs.Words.{Word, keyword, sign, name, number}

-- the last so many digits of a number, zeros in front too
abbrev pub last_digits : ℕ → ℕ → List ℕ
last_digits zero n = []
last_digits (suc count) n = last_digits count (n / 10) ++ (48 + n % 10) ∷ []

-- the whole part, and a point and so many decimals if there are any
abbrev pub numeral : ℕ → ℕ → List ℕ
numeral digits scale =
    if scale == 0 then decimal digits
    else decimal (digits / 10 ^ scale) ++ (codes "." ++ last_digits scale digits)

abbrev pub literal_words : Gap → Lit → List Word
literal_words gap l =
    if int_lt l.mantissa (pos 0) then sign gap (codes "-") ∷ number Touching
    (numeral (unsigned_abs l.mantissa) l.scale) ∷ []
    else number gap (numeral (unsigned_abs l.mantissa) l.scale) ∷ []

abbrev pub ident_words : Gap → Ident → List Word
ident_words gap i = name gap i.name ∷ []

-- a name, or two with a point between them
abbrev pub reference_words : Gap → Ident → Option Ident → List Word
reference_words gap first None = ident_words gap first
reference_words gap first (Some field) =
    name gap first.name ∷ sign Touching (codes ".") ∷ ident_words Touching field

abbrev pub truth_words : Gap → Bool → List Word
truth_words gap value = keyword gap (if value then codes "true" else codes "false") ∷ []

abbrev pub constant_words : Gap → Const → List Word
constant_words gap (Number l) = literal_words gap l
constant_words gap (Truth value at) = truth_words gap value

-- a comma before each but the first
abbrev pub separated : Bool → Gap → (Gap → List Word) → List Word
separated true gap item = item gap
separated false gap item = sign Touching (codes ",") ∷ item Space

-- items, the first of them the first of its list or not
abbrev pub items_from : {A : Type 0} → (Gap → A → List Word) → Gap → Bool → List A → List Word
items_from item gap first [] = []
items_from item gap first (x ∷ xs) =
    separated first gap (λ g. item g x) ++ items_from item gap false xs

abbrev pub listed : {A : Type 0} → (Gap → A → List Word) → Gap → List A → List Word
listed item gap xs = items_from item gap true xs

abbrev pub bounds_words : Gap → Bounds → List Word
bounds_words gap b =
    literal_words gap b.lo ++ sign Touching (codes "..") ∷ literal_words Touching b.hi

abbrev pub range_words : Bounds → List Word
range_words b =
    sign Touching (codes "[") ∷ bounds_words Touching b ++ sign Touching (codes "]") ∷ []

-- `fix` with its count of decimals
abbrev pub fixed_words : Lit → List Word
fixed_words scale =
    keyword Space (codes "fix") ∷ sign Touching (codes "(") ∷ literal_words Touching scale
    ++ sign Touching (codes ")") ∷ []

abbrev pub scalar_words : Scalar → List Word
scalar_words (Int b) = keyword Space (codes "int") ∷ range_words b
scalar_words (Fix scale b) = fixed_words scale ++ range_words b
scalar_words (Truths at) = keyword Space (codes "bool") ∷ []

abbrev pub field_words : Gap → Field → List Word
field_words gap f = name gap f.name.name ∷ sign Touching (codes ":") ∷ scalar_words f.scalar
