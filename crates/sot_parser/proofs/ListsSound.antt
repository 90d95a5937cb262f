-- Items one after another: what is read is of the grammar.
use Rattle.std.proofs.Common.{ℕ, zero, suc, List, [], ◌∷◌, Bool, codes, map, length, Some, None}
use Rattle.sot_text.specs.Reading.{Lexeme}
use Rattle.sot_expression.specs.Lexemes.{begins, is_sign, is_keyword}
use Rattle.sot_expression.specs.Readers.{Read}
use Rattle.sot_parser.specs.ListReaders.{repeated, all_at, further_at, separated_at, clause_at, optional_at}
use Rattle.sot_parser.specs.Pieces.{each, maybe, spelled_further, further_of, spelled_separated, separated_of, spelled_clause, clause_of, clause_or_none}
use Rattle.sot_parser.proofs.SoundSteps.{Sound, Any, take, close, here, either, done, done_within, keyword_sound, sign_sound}

-- each of them fits
abbrev pub Each : {F : Type 0} → (F → Type 0) → List F → Type 0
Each Fits [] = Unit {0}
Each Fits (f ∷ fs) = Fits f × Each Fits fs

module _ {F A : Type 0} (spelled : F → List Lexeme → List Lexeme) (tree : F → A) where
  pub repeated_sound : (Fits : F → Type 0) (goes_on : List Lexeme → Bool) (item : List Lexeme → Read A) → Sound spelled tree Fits item → (n : ℕ)
      → Sound (each spelled) (map tree) (Each Fits) (repeated goes_on item n)
  unfolding repeated
  repeated_sound Fits goes_on item sound zero = done_within (each spelled) (map tree) (Each Fits) [] tt
  repeated_sound Fits goes_on item sound (suc n) =
      either goes_on _ _ _
      (take sound _ _ (λ f fits.
      take (repeated_sound Fits goes_on item sound n) _ _ (λ fs all.
      done_within (each spelled) (map tree) (Each Fits) (f ∷ fs) (fits, all))))
      (done_within (each spelled) (map tree) (Each Fits) [] tt)

  pub all_sound : (Fits : F → Type 0) (goes_on : List Lexeme → Bool) (item : List Lexeme → Read A) → Sound spelled tree Fits item
      → Sound (each spelled) (map tree) (Each Fits) (all_at goes_on item)
  unfolding all_at
  all_sound Fits goes_on item sound ts y e = repeated_sound Fits goes_on item sound (suc (length ts)) ts y e

  pub all_any_sound : (goes_on : List Lexeme → Bool) (item : List Lexeme → Read A) → Sound spelled tree Any item
      → Sound (each spelled) (map tree) Any (all_at goes_on item)
  all_any_sound goes_on item sound ts y e = let s = all_sound Any goes_on item sound ts y e in (s.0, tt, s.2, s.3)

module _ {F A : Type 0} (spelled : F → List Lexeme → List Lexeme) (tree : F → A) where
  pub further_sound : (text : List ℕ) (item : List Lexeme → Read A) → Sound spelled tree Any item
      → Sound (spelled_further {text = text} spelled) (further_of tree) Any (further_at text item)
  unfolding further_at
  further_sound text item sound =
      take (sign_sound text) _ _ (λ sign _.
      close sound _ (λ f _ us.
      here (spelled_further spelled) (further_of tree) (record { sign = sign; item = f }) us))

  pub separated_sound : (text : List ℕ) (item : List Lexeme → Read A) → Sound spelled tree Any item
      → Sound (spelled_separated {text = text} spelled) (separated_of tree) Any (separated_at text item)
  unfolding separated_at
  separated_sound text item sound =
      take sound _ _ (λ f _.
      take (all_any_sound (spelled_further {text = text} spelled) (further_of tree) (begins (is_sign text)) (further_at text item)
      (further_sound text item sound)) _ _ (λ fs _.
      done (spelled_separated spelled) (separated_of tree) (record { first = f; further = fs })))

  pub clause_sound : (text : List ℕ) (item : List Lexeme → Read A) → Sound spelled tree Any item
      → Sound (spelled_clause {text = text} spelled) (clause_of tree) Any (clause_at text item)
  unfolding clause_at
  clause_sound text item sound =
      take (keyword_sound text) _ _ (λ word _.
      take (separated_sound (codes ",") item sound) _ _ (λ items _.
      take (sign_sound (codes ";")) _ _ (λ semicolon _.
      done (spelled_clause spelled) (clause_of tree) (record { word = word; items = items; semicolon = semicolon }))))

  pub optional_sound : (text : List ℕ) (item : List Lexeme → Read A) → Sound spelled tree Any item
      → Sound (maybe (spelled_clause {text = text} spelled)) (clause_or_none tree) Any (optional_at text item)
  unfolding optional_at
  optional_sound text item sound =
      either (begins (is_keyword text)) _ _ _
      (close (clause_sound text item sound) _ (λ c _ us.
      here (maybe (spelled_clause spelled)) (clause_or_none tree) (Some c) us))
      (done (maybe (spelled_clause spelled)) (clause_or_none tree) None)
