-- Rows of numbers are read as they are spelled.
use Rattle.std.proofs.Common.{◌≡◌, ℕ, zero, suc, ℤ, List, [], ◌∷◌, ◌++◌, Some, length, codes, refl, sym, ap, ◌∙◌, arith, append_assoc}
use Rattle.std.specs.Char.{is_ascii_digit}
use Rattle.sot_trace.specs.Numbers.{signed_numeral, further, numbers}
use Rattle.sot_trace.proofs.Splits.{Stops}
use Rattle.sot_trace_lines.specs.Pieces.{◌>>=◌, behind, number_at, further_at, row_at}
use Rattle.sot_trace_lines.proofs.Pieces.{both, then_next, parts_same, in_front}
use Rattle.sot_trace_lines.proofs.Numerals.{number_from, read_number}

-- so many numbers were read behind a first one
pub record ReadMore (n : ℕ) (text : List ℕ) (zs : List ℤ) (rest : List ℕ) : Type 0 where
  pub first : ℤ
  pub more : List ℤ
  pub are : zs ≡ first ∷ more
  pub size : length more ≡ n
  pub is : text ≡ signed_numeral first ++ (further more ++ rest)

pub further_from : (n : ℕ) (text : List ℕ) (zs : List ℤ) (rest : List ℕ) → further_at n text ≡ Some (zs, rest) → (length zs ≡ n) × (text ≡ further zs ++ rest)
further_from zero text zs rest e = (let same = parts_same [] zs text rest e in (ap length (sym same.0), same.1 ∙ ap (λ x. further x ++ rest) same.0))
further_from (suc n) text zs rest e =
    let s = both (behind (codes ",") text) (λ r. number_at r >>= λ c. further_at n c.1 >>= λ d. Some (c.0 ∷ d.0, d.1)) (zs, rest) e in
    let t = both (number_at s.0) (λ c. further_at n c.1 >>= λ d. Some (c.0 ∷ d.0, d.1)) (zs, rest) s.2 in
    let u = both (further_at n t.0.1) (λ d. Some (t.0.0 ∷ d.0, d.1)) (zs, rest) t.2 in
    let same = parts_same (t.0.0 ∷ u.0.0) zs u.0.1 rest u.2 in
    let below = further_from n t.0.1 u.0.0 u.0.1 u.1 in (
      ap length (sym same.0) ∙ omega (arith, below.0),
      in_front (codes ",") text s.0 s.1
          ∙ ap (λ x. 44 ∷ x) (number_from s.0 t.0.0 t.0.1 t.1 ∙ ap (λ x. signed_numeral t.0.0 ++ x) (below.1 ∙ ap (λ x. further u.0.0 ++ x) same.1)
          ∙ sym (append_assoc (signed_numeral t.0.0) (further u.0.0) rest))
          ∙ ap (λ x. further x ++ rest) same.0,
    )

-- what is read as a row of so many numbers is the text of so many numbers
pub row_from : (n : ℕ) (text : List ℕ) (zs : List ℤ) (rest : List ℕ) → row_at n text ≡ Some (zs, rest) → (length zs ≡ n) × (text ≡ numbers zs ++ rest)
row_from zero text zs rest e = (let same = parts_same [] zs text rest e in (ap length (sym same.0), same.1 ∙ ap (λ x. numbers x ++ rest) same.0))
row_from (suc n) text zs rest e =
    let t = both (number_at text) (λ c. further_at n c.1 >>= λ d. Some (c.0 ∷ d.0, d.1)) (zs, rest) e in
    let u = both (further_at n t.0.1) (λ d. Some (t.0.0 ∷ d.0, d.1)) (zs, rest) t.2 in
    let same = parts_same (t.0.0 ∷ u.0.0) zs u.0.1 rest u.2 in
    let below = further_from n t.0.1 u.0.0 u.0.1 u.1 in (
      ap length (sym same.0) ∙ omega (arith, below.0),
      number_from text t.0.0 t.0.1 t.1 ∙ ap (λ x. signed_numeral t.0.0 ++ x) (below.1 ∙ ap (λ x. further u.0.0 ++ x) same.1)
          ∙ sym (append_assoc (signed_numeral t.0.0) (further u.0.0) rest)
          ∙ ap (λ x. numbers x ++ rest) same.0,
    )

further_stops : (zs : List ℤ) (rest : List ℕ) → Stops is_ascii_digit rest → Stops is_ascii_digit (further zs ++ rest)
further_stops [] rest stops = stops
further_stops (z ∷ zs) rest stops = refl

pub read_further : (zs : List ℤ) (rest : List ℕ) → Stops is_ascii_digit rest → further_at (length zs) (further zs ++ rest) ≡ Some (zs, rest)
read_further [] rest stops = refl
read_further (z ∷ zs) rest stops =
    let text : List ℕ = further zs ++ rest in
    ap (λ x. number_at x >>= λ c. further_at (length zs) c.1 >>= λ d. Some (c.0 ∷ d.0, d.1)) (append_assoc (signed_numeral z) (further zs) rest)
    ∙ then_next (number_at (signed_numeral z ++ text)) (λ c. further_at (length zs) c.1 >>= λ d. Some (c.0 ∷ d.0, d.1)) (z, text)
    (read_number z text (further_stops zs rest stops))
    ∙ then_next (further_at (length zs) text) (λ d. Some (z ∷ d.0, d.1)) (zs, rest) (read_further zs rest stops)

-- the text of numbers is read as the numbers
pub read_row : (zs : List ℤ) (rest : List ℕ) → Stops is_ascii_digit rest → row_at (length zs) (numbers zs ++ rest) ≡ Some (zs, rest)
read_row [] rest stops = refl
read_row (z ∷ zs) rest stops =
    let text : List ℕ = further zs ++ rest in
    ap (λ x. number_at x >>= λ c. further_at (length zs) c.1 >>= λ d. Some (c.0 ∷ d.0, d.1)) (append_assoc (signed_numeral z) (further zs) rest)
    ∙ then_next (number_at (signed_numeral z ++ text)) (λ c. further_at (length zs) c.1 >>= λ d. Some (c.0 ∷ d.0, d.1)) (z, text)
    (read_number z text (further_stops zs rest stops))
    ∙ then_next (further_at (length zs) text) (λ d. Some (z ∷ d.0, d.1)) (zs, rest) (read_further zs rest stops)
