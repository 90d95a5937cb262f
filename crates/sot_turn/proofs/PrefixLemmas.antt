-- Prefixes, and facts about all elements of short lists.
use Rattle.std.proofs.Common.{◌≡◌, zero, suc, ◌<◌, ◌≤◌, Bool, true, false, if◌then◌else◌, List, [], ◌∷◌, ◌++◌, length, All, Option, Some, None, IsSome, nat_lt}
use Rattle.std.proofs.Common.{slice_index_or, sym, refl, ap, ◌∙◌, arith, append_assoc, append-nil}
use Rattle.std.proofs.lemmas.Bool.Decides.{nat_tests}
use Rattle.sot_turn.specs.Prefixes.{IsPrefix}
use Rattle.sot_turn.specs.Views.{longer}

module _ {A : Type 0} where
  pub IsPrefix-refl : (list : List A) → IsPrefix list list
  IsPrefix-refl list = ([], sym (append-nil list))

  pub IsPrefix-trans : (first second third : List A) → IsPrefix first second → IsPrefix second third → IsPrefix first third
  IsPrefix-trans first second third one two = (one.0 ++ two.0, two.1 ∙ (ap (λ list. list ++ two.0) one.1 ∙ append_assoc first one.0 two.0))

  -- of two prefixes of one list, the shorter is a prefix of the longer
  pub IsPrefix-shorter : (short long whole : List A) → IsPrefix short whole → IsPrefix long whole → length short ≤ length long → IsPrefix short long
  IsPrefix-shorter [] long whole one two at_most = (long, refl)
  IsPrefix-shorter (x ∷ xs) [] whole one two at_most = absurd (omega arith)
  IsPrefix-shorter (x ∷ xs) (y ∷ ys) [] one two at_most = absurd (cc)
  IsPrefix-shorter (x ∷ xs) (y ∷ ys) (z ∷ zs) one two at_most =
      let rest = IsPrefix-shorter xs ys zs (one.0, cc) (two.0, cc) (omega arith) in
      let same : x ≡ y = cc in
      (rest.0, (λ i. sym same i ∷ rest.1 i))

  -- what holds of `longer first second`, by the test that it makes
  abbrev Longer : List A → List A → List A → List A → Type 0
  Longer first second whole list = IsPrefix list whole × IsPrefix first list × IsPrefix second list

  longer_by : (first second whole : List A) (test : Bool) → nat_lt (length first) (length second) ≡ test → IsPrefix first whole → IsPrefix second whole
      → Longer first second whole (if test then second else first)
  longer_by first second whole true is one two = (
    two,
    IsPrefix-shorter first second whole one two (let less : length first < length second = grind (arith, nat_tests) in omega arith),
    IsPrefix-refl second,
  )
  longer_by first second whole false is one two =
      (one, IsPrefix-refl first, IsPrefix-shorter second first whole two one (let at_most : length second ≤ length first = grind (arith, nat_tests) in at_most))

  -- of two prefixes of one list, the longer is one too, and goes on from both
  pub IsPrefix-longer : (first second whole : List A) → IsPrefix first whole → IsPrefix second whole
      → IsPrefix (longer first second) whole × IsPrefix first (longer first second) × IsPrefix second (longer first second)
  IsPrefix-longer first second whole = longer_by first second whole (nat_lt (length first) (length second)) refl

  pub All-map : (P Q : A → Type 0) → ((x : A) → P x → Q x) → (list : List A) → All P list → All Q list
  All-map P Q turns list all k d below = turns (slice_index_or list k d) (all k d below)

  pub All-none : (P : A → Type 0) → All P []
  All-none P k d below = absurd (omega arith)

  pub All-one : (P : A → Type 0) (a : A) → P a → All P (a ∷ [])
  All-one P a holds zero d below = holds
  All-one P a holds (suc k) d below = absurd (omega arith)

  pub All-two : (P : A → Type 0) (a b : A) → P a → P b → All P (a ∷ b ∷ [])
  All-two P a b one two zero d below = one
  All-two P a b one two (suc zero) d below = two
  All-two P a b one two (suc (suc k)) d below = absurd (omega arith)

  pub some_same : (a b : A) → Some a ≡ Some b → a ≡ b
  some_same a b is = cc

  pub some_is_not_none : (a : A) → Some a ≡ None → ⊥
  some_is_not_none a is = absurd (cc)

  pub has_some : (option : Option A) → IsSome option → (a : A) × (option ≡ Some a)
  has_some None has = absurd (cc)
  has_some (Some a) has = (a, refl)
