-- Numbers in decimal, alone and in a row.
use Rattle.std.specs.Prelude.{ℕ, zero, suc, ℤ, pos, negsuc, ◌+◌, ◌/◌, ◌%◌, List, [], ◌∷◌, ◌++◌}
use Rattle.std.specs.Prelude.{codes}

-- the digits of a number before what stands there, in so many steps at the most
abbrev pub digits_before : ℕ → ℕ → List ℕ → List ℕ
digits_before zero n text = text
digits_before (suc steps) zero text = text
digits_before (suc steps) (suc n) text = digits_before steps (suc n / 10) ((48 + suc n % 10) ∷ text)

-- a number of any size in decimal, without zeros in front; no number has more digits than it
-- counts, so the steps are enough
abbrev pub numeral : ℕ → List ℕ
numeral zero = codes "0"
numeral (suc n) = digits_before (suc n) (suc n) []

-- `-` stands before a number below 0
abbrev pub signed_numeral : ℤ → List ℕ
signed_numeral (pos n) = numeral n
signed_numeral (negsuc n) = codes "-" ++ numeral (suc n)

-- a comma before each further number
abbrev pub further : List ℤ → List ℕ
further [] = []
further (x ∷ xs) = codes "," ++ (signed_numeral x ++ further xs)

-- numbers with a comma between two
abbrev pub numbers : List ℤ → List ℕ
numbers [] = []
numbers (x ∷ xs) = signed_numeral x ++ further xs
