-- How a line is read, piece by piece from its front: a reader gives what stands in front and what
-- stands behind it, or nothing.
use Rattle.std.specs.Prelude.{ℕ, zero, suc, ℤ, pos, negsuc, List, [], ◌∷◌, Bool, true, false, ◌==◌}
use Rattle.std.specs.Prelude.{not, if◌then◌else◌, Option, Some, None, take, drop, codes}
use Rattle.std.specs.List.{prefix_len}
use Rattle.std.specs.Char.{is_ascii_digit}
use Rattle.sot_text.specs.Lexeme.{value}

-- first the one, then what follows from its answer
infixl 10 ◌>>=◌
abbrev pub ◌>>=◌ : {A B : Type 0} → Option A → (A → Option B) → Option B
None >>= f = None
(Some x) >>= f = f x

-- the text behind these bytes
abbrev pub behind : List ℕ → List ℕ → Option (List ℕ)
behind [] text = Some text
behind (c ∷ cs) [] = None
behind (c ∷ cs) (b ∷ bs) = if b == c then behind cs bs else None

-- the answer where nothing stands behind any more
abbrev pub at_end : {A : Type 0} → A → List ℕ → Option A
at_end x [] = Some x
at_end x (b ∷ bs) = None

-- some digits, of which the first is no 0 where further ones follow
abbrev pub is_plain : List ℕ → Bool
is_plain [] = false
is_plain (d ∷ []) = true
is_plain (d ∷ e ∷ ds) = not (d == 48)

-- the digits of a number
abbrev pub digits_at : List ℕ → Option (List ℕ × List ℕ)
digits_at text =
    if is_plain (take (prefix_len is_ascii_digit text) text) then Some
    (take (prefix_len is_ascii_digit text) text, drop (prefix_len is_ascii_digit text) text)
    else None

-- a number from 0 on
abbrev pub numeral_at : List ℕ → Option (ℕ × List ℕ)
numeral_at text = digits_at text >>= λ c. Some (value c.0, c.1)

-- a number that stands behind a minus, which is not 0
abbrev pub minus : ℕ → Option ℤ
minus zero = None
minus (suc n) = Some (negsuc n)

abbrev pub positive_at : List ℕ → Option (ℤ × List ℕ)
positive_at text = numeral_at text >>= λ c. Some (pos c.0, c.1)

abbrev pub negative_at : List ℕ → Option (ℤ × List ℕ)
negative_at text = numeral_at text >>= λ c. minus c.0 >>= λ z. Some (z, c.1)

-- a number, behind a `-` where it is below 0
abbrev pub number_at : List ℕ → Option (ℤ × List ℕ)
number_at [] = None
number_at (b ∷ bs) = if b == 45 then negative_at bs else positive_at (b ∷ bs)

-- so many numbers, each behind a comma
abbrev pub further_at : ℕ → List ℕ → Option (List ℤ × List ℕ)
further_at zero text = Some ([], text)
further_at (suc n) text =
    behind (codes ",") text >>= λ r. number_at r >>= λ c. further_at n c.1 >>= λ d.
    Some (c.0 ∷ d.0, d.1)

-- so many numbers with a comma between two
abbrev pub row_at : ℕ → List ℕ → Option (List ℤ × List ℕ)
row_at zero text = Some ([], text)
row_at (suc n) text = number_at text >>= λ c. further_at n c.1 >>= λ d. Some (c.0 ∷ d.0, d.1)
