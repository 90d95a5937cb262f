-- A word is compared with the keywords of its own length alone.
use Rattle.std.proofs.Common.{◌≡◌, ◌≢◌, ℕ, suc, ◌||◌, List, [], ◌∷◌, Bool, false, ◌==◌, inl, inr, length, refl, ap, ◌∙◌, arith}
use Rattle.std.specs.List.{list_any, filter}
use Rattle.std.specs.Str.{bytes_eq}
use Rattle.std.proofs.lemmas.Bool.{cases_Bool}
use Rattle.std.proofs.lemmas.Bool.Decides.{nat_tests}
use Rattle.sot_text.specs.Lexeme.{keywords, is_keyword}
use Rattle.sot_text.proofs.Signs.{and_false}

-- texts of different lengths differ
other_length : (k w : List ℕ) → length k ≢ length w → bytes_eq k w ≡ false
other_length [] [] differ = absurd (differ refl)
other_length [] (b ∷ w) differ = refl
other_length (a ∷ k) [] differ = refl
other_length (a ∷ k) (b ∷ w) differ = rw (other_length k w (λ e. differ (ap suc e))) (and_false (a == b))

any_of_length : (n : ℕ) (w : List ℕ) (ks : List (List ℕ)) → length w ≡ n
    → list_any (λ k. bytes_eq k w) ks ≡ list_any (λ k. bytes_eq k w) (filter (λ k. length k == n) ks)
any_of_length n w [] len = refl
any_of_length n w (k ∷ ks) len =
    let more = any_of_length n w ks len in
    elim (cases_Bool (length k == n)) [
      | inl same ↦ rw same (ap (λ (t : Bool). bytes_eq k w || t) more)
      | inr other ↦ (let none : bytes_eq k w ≡ false = other_length k w (grind (arith, nat_tests)) in rw (other, none) more)
    ]

-- the keywords of this length
abbrev pub of_length : ℕ → List (List ℕ)
of_length n = filter (λ k. length k == n) keywords

pub by_length : (n : ℕ) (w : List ℕ) → length w ≡ n → is_keyword w ≡ list_any (λ k. bytes_eq k w) (of_length n)
by_length n w len = any_of_length n w keywords len

differs : (m n : ℕ) → n ≢ m → (m == n) ≡ false
differs m n other = grind (arith, nat_tests)

none_of_length : (n : ℕ) → n ≢ 2 → n ≢ 3 → n ≢ 4 → n ≢ 5 → n ≢ 6 → n ≢ 7 → n ≢ 8 → n ≢ 11 → of_length n ≡ []
none_of_length n a b c d e f g h =
    simp (differs 2 n a, differs 3 n b, differs 4 n c, differs 5 n d, differs 6 n e, differs 7 n f, differs 8 n g, differs 11 n h) refl

-- no keyword has another length
pub other_lengths : (w : List ℕ) → length w ≢ 2 → length w ≢ 3 → length w ≢ 4 → length w ≢ 5 → length w ≢ 6 → length w ≢ 7 → length w ≢ 8 → length w ≢ 11
    → is_keyword w ≡ false
other_lengths w a b c d e f g h =
    by_length (length w) w refl ∙ ap (λ (ks : List (List ℕ)). list_any (λ k. bytes_eq k w) ks) (none_of_length (length w) a b c d e f g h)
