-- Items one after another, read from the left.
use Rattle.std.specs.Prelude.{ℕ, zero, suc, List, [], ◌∷◌, Bool, codes, length, Ok, if◌then◌else◌}
use Rattle.sot_text.specs.Reading.{Lexeme}
use Rattle.sot_expression.specs.Lexemes.{begins, is_sign, is_keyword}
use Rattle.sot_expression.specs.Readers.{Read, ◌>>=◌, expect}

-- items as long as a test of the next token passes; the number bounds how many
unfoldable pub repeated : {A : Type 0} → (List Lexeme → Bool) → (List Lexeme → Read A) → ℕ
    → List Lexeme → Read (List A)
repeated goes_on item zero ts = Ok ([], ts)
repeated goes_on item (suc n) ts =
    if goes_on ts then (item ts >>= λ x. repeated goes_on item n x.1 >>= λ more.
    Ok (x.0 ∷ more.0, more.1))
    else Ok ([], ts)

-- each item takes some token, so the number bounds nothing
unfoldable pub all_at : {A : Type 0} → (List Lexeme → Bool) → (List Lexeme → Read A) → List Lexeme
    → Read (List A)
all_at goes_on item ts = repeated goes_on item (suc (length ts)) ts

unfoldable pub further_at : {A : Type 0} → List ℕ → (List Lexeme → Read A) → List Lexeme → Read A
further_at text item ts = do
  sign ← expect (is_sign text) ts
  item sign.1

-- item {sign item}
unfoldable pub separated_at : {A : Type 0} → List ℕ → (List Lexeme → Read A) → List Lexeme
    → Read (List A)
separated_at text item ts = do
  first ← item ts
  more ← all_at (begins (is_sign text)) (further_at text item) first.1
  Ok (first.0 ∷ more.0, more.1)

-- a keyword, a list of items, and ";"
unfoldable pub clause_at : {A : Type 0} → List ℕ → (List Lexeme → Read A) → List Lexeme
    → Read (List A)
clause_at text item ts = do
  word ← expect (is_keyword text) ts
  items ← separated_at (codes ",") item word.1
  semicolon ← expect (is_sign (codes ";")) items.1
  Ok (items.0, semicolon.1)

-- a keyword, a list of items, and ";"; or nothing
unfoldable pub optional_at : {A : Type 0} → List ℕ → (List Lexeme → Read A) → List Lexeme
    → Read (List A)
optional_at text item ts =
    if begins (is_keyword text) ts then clause_at text item ts else Ok ([], ts)
