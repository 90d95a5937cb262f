-- Items one after another: what is of the grammar is read.
use Rattle.std.proofs.Common.{◌≡◌, ℕ, zero, suc, ◌<◌, List, [], ◌∷◌, Bool, true, false, codes, map, length, Option, Some, None, Ok, refl, arith}
use Rattle.std.specs.Str.{bytes_eq}
use Rattle.sot_text.specs.Reading.{Lexeme}
use Rattle.sot_expression.specs.Lexemes.{begins, is_sign, is_keyword}
use Rattle.sot_expression.specs.Readers.{Read}
use Rattle.sot_parser.specs.ListReaders.{repeated, all_at, further_at, separated_at, clause_at, optional_at}
use Rattle.sot_parser.specs.Pieces.{each, maybe, Separated, Further, spelled_further, further_of, spelled_separated, separated_of, ClauseForm, spelled_clause}
use Rattle.sot_parser.specs.Pieces.{clause_of, clause_or_none}
use Rattle.sot_parser.proofs.SoundSteps.{Any}
use Rattle.sot_parser.proofs.ListsSound.{Each}
use Rattle.sot_parser.proofs.Shorter.{Short, further_short}
use Rattle.sot_expression.proofs.ReadSteps.{give}
use Rattle.sot_parser.proofs.FullSteps.{yes_by, no_by, keyword_full, sign_full, keyword_test, sign_test, sign_other, keyword_other}

module _ {F A : Type 0} (spelled : F → List Lexeme → List Lexeme) (tree : F → A) (Fits : F → Type 0) (goes_on : List Lexeme → Bool)
    (item : List Lexeme → Read A) where
  -- an item is read, whatever follows
  abbrev pub Reads : Type 0
  Reads = (f : F) → Fits f → (us : List Lexeme) → item (spelled f us) ≡ Ok (tree f, us)

  -- the loop goes on where an item stands
  abbrev pub Starts : Type 0
  Starts = (f : F) (us : List Lexeme) → goes_on (spelled f us) ≡ true

  repeated_full : Reads → Starts → Short item → (n : ℕ) (fs : List F) → Each Fits fs → (us : List Lexeme) → goes_on us ≡ false → length (each spelled fs us) < n
      → repeated goes_on item n (each spelled fs us) ≡ Ok (map tree fs, us)
  unfolding repeated
  repeated_full reads starts short_item zero fs all us off enough = absurd (omega (arith, enough))
  repeated_full reads starts short_item (suc n) [] all us off enough = no_by off _ refl
  repeated_full reads starts short_item (suc n) (f ∷ fs) all us off enough =
      let vs : List Lexeme = each spelled fs us in
      let less : length vs < n = omega (arith, enough, short_item (spelled f vs) (tree f, vs) (reads f all.0 vs)) in
      yes_by (starts f vs) _ (give (reads f all.0 vs) _ _ (give (repeated_full reads starts short_item n fs all.1 us off less) _ _ refl))

  pub all_full : Reads → Starts → Short item → (fs : List F) → Each Fits fs → (us : List Lexeme) → goes_on us ≡ false
      → all_at goes_on item (each spelled fs us) ≡ Ok (map tree fs, us)
  unfolding all_at
  all_full reads starts short_item fs all us off = repeated_full reads starts short_item (suc (length (each spelled fs us))) fs all us off (omega arith)

pub any_each : {F : Type 0} (fs : List F) → Each (Any {F = F}) fs
any_each [] = tt
any_each (f ∷ fs) = (tt, any_each fs)

module _ {F A : Type 0} (spelled : F → List Lexeme → List Lexeme) (tree : F → A) (item : List Lexeme → Read A) where
  abbrev pub ReadsAny : Type 0
  ReadsAny = (f : F) (us : List Lexeme) → item (spelled f us) ≡ Ok (tree f, us)

  further_full : ReadsAny → (text : List ℕ) (x : Further text F) → Any x → (us : List Lexeme)
      → further_at text item (spelled_further spelled x us) ≡ Ok (further_of tree x, us)
  unfolding further_at
  further_full reads text x any us = give (sign_full x.sign _) _ _ (reads x.item us)

  pub separated_full : ReadsAny → Short item → (text : List ℕ) (s : Separated text F) (us : List Lexeme) → begins (is_sign text) us ≡ false
      → separated_at text item (spelled_separated spelled s us) ≡ Ok (separated_of tree s, us)
  unfolding separated_at
  separated_full reads short_item text s us off =
      give (reads s.first _) _ _
      (give (all_full (spelled_further spelled) (further_of tree) Any (begins (is_sign text)) (further_at text item) (further_full reads text)
      (λ x vs. sign_test x.sign) (further_short text item short_item) s.further (any_each s.further) us off) _ _ refl)

  pub clause_full : ReadsAny → Short item → (text : List ℕ) (c : ClauseForm text F) (us : List Lexeme)
      → clause_at text item (spelled_clause spelled c us) ≡ Ok (clause_of tree c, us)
  unfolding clause_at
  clause_full reads short_item text c us =
      give (keyword_full c.word _) _ _ (give (separated_full reads short_item (codes ",") c.items _ (sign_other (codes ",") c.semicolon refl)) _ _
      (give (sign_full c.semicolon us) _ _ refl))

  pub optional_full : ReadsAny → Short item → (text : List ℕ) (c : Option (ClauseForm text F)) (us : List Lexeme) → begins (is_keyword text) us ≡ false
      → optional_at text item (maybe (spelled_clause spelled) c us) ≡ Ok (clause_or_none tree c, us)
  unfolding optional_at
  optional_full reads short_item text None us off = no_by off _ refl
  optional_full reads short_item text (Some c) us off = yes_by (keyword_test c.word) _ (clause_full reads short_item text c us)

-- another clause, or none, is no clause of this keyword
pub other_clause : {F : Type 0} (spelled : F → List Lexeme → List Lexeme) (other text : List ℕ) (c : Option (ClauseForm text F)) (us : List Lexeme)
    → bytes_eq text other ≡ false → begins (is_keyword other) us ≡ false
    → begins (is_keyword other) (maybe (spelled_clause spelled) c us) ≡ false
other_clause spelled other text None us differ off = off
other_clause spelled other text (Some c) us differ off = keyword_other other c.word differ
