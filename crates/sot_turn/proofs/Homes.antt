-- What lies in the slot.
use Rattle.std.proofs.Common.{◌≡◌, ℕ, List, [], ◌∷◌, length, slice_set, Option, Some, None, sym, ap, ◌∙◌, arith}
use mathlib.Core.Option as maybe
use Rattle.atomic_table.proofs.Lists.{set_here}
use Rattle.sot_turn.specs.Kept.{Homes, IsHome, IsOut}
use Rattle.sot_turn.proofs.PrefixLemmas.{some_same}

module _ {Value : Type 0} where
  -- one value is at home
  pub one_at_home : (homes : Homes Value) (value other : Value) → IsHome homes value → IsHome homes other → value ≡ other
  one_at_home homes value other one two =
      some_same value other
      (maybe.some-injective (Some value) (Some other) (maybe.some-injective (maybe.some (Some value)) (maybe.some (Some other)) (sym one ∙ two)))

  -- and none is while the slot is out
  pub out_is_not_home : (homes : Homes Value) (value : Value) → IsOut homes → IsHome homes value → ⊥
  out_is_not_home homes value out home =
      maybe.some-ne-none (Some value) (maybe.some-injective (maybe.some (Some value)) maybe.none (sym home ∙ out))

  pub IsOut-taken : (homes : Homes Value) → length homes ≡ 1 → IsOut (slice_set homes 0 maybe.none)
  IsOut-taken homes one = set_here homes 0 maybe.none (omega arith)

  pub IsHome-given : (homes : Homes Value) (value : Value) → length homes ≡ 1 → IsHome (slice_set homes 0 (maybe.some (Some value))) value
  IsHome-given homes value one = set_here homes 0 (maybe.some (Some value)) (omega arith)

  abbrev first_value : List (ℕ × Option Value) → Option Value
  first_value [] = None
  first_value (slot ∷ slots) = slot.1

  -- the one slot that a seat has taken holds one value
  pub one_taken : (taken : List (ℕ × Option Value)) (value other : Value) → taken ≡ (0, Some value) ∷ [] → taken ≡ (0, Some other) ∷ [] → value ≡ other
  one_taken taken value other one two = some_same value other (sym (ap first_value one) ∙ ap first_value two)
