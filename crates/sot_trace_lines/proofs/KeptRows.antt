-- Rows of numbers that are read step by step, with what is kept of them.
use Rattle.std.proofs.Common.{◌≡◌, ℕ, zero, suc, ◌+◌, ◌-◌, ◌<◌, List, ◌∷◌, Option, Some, None, codes, refl, sym, ap, ◌∙◌, arith}
use Rattle.std.specs.Prelude.{ℤ}
use Rattle.sot_trace_lines.specs.Pieces.{◌>>=◌, behind, number_at, further_at, row_at}
use Rattle.sot_trace_lines.specs.Kept.{bounded, kept_number, Kept, put_one, kept_row, rest_of}
use Rattle.sot_trace_lines.proofs.Pieces.{then_next, parts_same}

-- no number was read
pub no_number : (o : Option (ℤ × List ℕ)) → kept_number o ≡ None → o ≡ None
no_number None e = refl
no_number (Some c) e = absurd cc

-- some number was
pub some_number : (o : Option (ℤ × List ℕ)) (v : Option ℤ) (rest : List ℕ) → kept_number o ≡ Some (v, rest) → (z : ℤ) × (o ≡ Some (z, rest)) × (bounded z ≡ v)
some_number None v rest e = absurd cc
some_number (Some (z, r)) v rest e = (let same = parts_same (bounded z) v r rest e in (z, ap (λ x. Some (z, x)) same.1, same.0))

-- one number more in front
abbrev pub more : ℤ → Option (List ℤ × List ℕ) → Option (List ℤ × List ℕ)
more z o = o >>= λ d. Some (z ∷ d.0, d.1)

kept_more : (kept : Kept) (z : ℤ) (o : Option (List ℤ × List ℕ)) → kept_row kept (more z o) ≡ kept_row (put_one kept (bounded z)) o
kept_more kept z None = refl
kept_more kept z (Some d) = refl

rest_more : (z : ℤ) (o : Option (List ℤ × List ℕ)) → rest_of (more z o) ≡ rest_of o
rest_more z None = refl
rest_more z (Some d) = refl

one_left : (count i : ℕ) → i < count → count - i ≡ suc (count - (i + 1))
one_left count i lt = omega arith

pub no_comma : (count i : ℕ) (text : List ℕ) → i < count → behind (codes ",") text ≡ None → further_at (count - i) text ≡ None
no_comma count i text lt none =
    ap (λ n. further_at n text) (one_left count i lt) ∙ ap (λ o. o >>= λ r. number_at r >>= λ c. more c.0 (further_at (count - (i + 1)) c.1)) none

pub no_further : (count i : ℕ) (text r : List ℕ) → i < count → behind (codes ",") text ≡ Some r → kept_number (number_at r) ≡ None
    → further_at (count - i) text ≡ None
no_further count i text r lt comma none =
    ap (λ n. further_at n text) (one_left count i lt)
    ∙ then_next (behind (codes ",") text) (λ t. number_at t >>= λ c. more c.0 (further_at (count - (i + 1)) c.1)) r comma
    ∙ ap (λ o. o >>= λ c. more c.0 (further_at (count - (i + 1)) c.1)) (no_number (number_at r) none)

one_further : (count i : ℕ) (text r : List ℕ) (z : ℤ) (rest : List ℕ) → i < count → behind (codes ",") text ≡ Some r → number_at r ≡ Some (z, rest)
    → further_at (count - i) text ≡ more z (further_at (count - (i + 1)) rest)
one_further count i text r z rest lt comma number =
    ap (λ n. further_at n text) (one_left count i lt)
    ∙ then_next (behind (codes ",") text) (λ t. number_at t >>= λ c. more c.0 (further_at (count - (i + 1)) c.1)) r comma
    ∙ then_next (number_at r) (λ c. more c.0 (further_at (count - (i + 1)) c.1)) (z, rest) number

-- a number was read and kept
pub kept_further : (count i : ℕ) (kept next : Kept) (text r : List ℕ) (v : Option ℤ) (rest : List ℕ) → i < count → behind (codes ",") text ≡ Some r
    → kept_number (number_at r) ≡ Some (v, rest) → next ≡ put_one kept v
    → kept_row next (further_at (count - (i + 1)) rest) ≡ kept_row kept (further_at (count - i) text)
kept_further count i kept next text r v rest lt comma number is =
    let s = some_number (number_at r) v rest number in
    sym (
    ap (kept_row kept) (one_further count i text r s.0 rest lt comma s.1) ∙ kept_more kept s.0 (further_at (count - (i + 1)) rest)
    ∙ ap (λ k. kept_row k (further_at (count - (i + 1)) rest)) (ap (put_one kept) s.2 ∙ sym is)
    )

-- .. or skipped
pub skipped_further : (count i : ℕ) (text r : List ℕ) (v : Option ℤ) (rest : List ℕ) → i < count → behind (codes ",") text ≡ Some r
    → kept_number (number_at r) ≡ Some (v, rest) → rest_of (further_at (count - (i + 1)) rest) ≡ rest_of (further_at (count - i) text)
skipped_further count i text r v rest lt comma number =
    let s = some_number (number_at r) v rest number in
    sym (ap rest_of (one_further count i text r s.0 rest lt comma s.1) ∙ rest_more s.0 (further_at (count - (i + 1)) rest))

pub no_row : (count : ℕ) (text : List ℕ) → 0 < count → kept_number (number_at text) ≡ None → row_at count text ≡ None
no_row zero text some none = absurd (omega arith)
no_row (suc n) text some none = ap (λ o. o >>= λ c. more c.0 (further_at n c.1)) (no_number (number_at text) none)

one_row : (count : ℕ) (text : List ℕ) (z : ℤ) (rest : List ℕ) → 0 < count → number_at text ≡ Some (z, rest)
    → row_at count text ≡ more z (further_at (count - 1) rest)
one_row zero text z rest some number = absurd (omega arith)
one_row (suc n) text z rest some number =
    let same : n ≡ suc n - 1 = omega arith in
    then_next (number_at text) (λ c. more c.0 (further_at n c.1)) (z, rest) number ∙ ap (λ m. more z (further_at m rest)) same

-- the first number of a row was read and kept
pub kept_first : (count : ℕ) (kept next : Kept) (text : List ℕ) (v : Option ℤ) (rest : List ℕ) → 0 < count → kept_number (number_at text) ≡ Some (v, rest)
    → next ≡ put_one kept v
    → kept_row next (further_at (count - 1) rest) ≡ kept_row kept (row_at count text)
kept_first count kept next text v rest some number is =
    let s = some_number (number_at text) v rest number in
    sym (
    ap (kept_row kept) (one_row count text s.0 rest some s.1) ∙ kept_more kept s.0 (further_at (count - 1) rest)
    ∙ ap (λ k. kept_row k (further_at (count - 1) rest)) (ap (put_one kept) s.2 ∙ sym is)
    )

-- .. or skipped
pub skipped_first : (count : ℕ) (text : List ℕ) (v : Option ℤ) (rest : List ℕ) → 0 < count → kept_number (number_at text) ≡ Some (v, rest)
    → rest_of (further_at (count - 1) rest) ≡ rest_of (row_at count text)
skipped_first count text v rest some number =
    let s = some_number (number_at text) v rest number in
    sym (ap rest_of (one_row count text s.0 rest some s.1) ∙ rest_more s.0 (further_at (count - 1) rest))
