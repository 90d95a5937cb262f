-- Steps of the loops that note the faults of two lists side by side.
use Rattle.std.proofs.Common.{◌≡◌, ℕ, ◌+◌, ◌≤◌, List, length, drop, Option, Some, refl, arith, pos}
use Rattle.std.specs.List.{flat_map, zip, slice_get}
use Rattle.std.proofs.lemmas.Slice.Zip.{length-zip}
use Rattle.indexmap.proofs.ReorderLemmas.{slice_get-zip_some}
use Rattle.sot_syntax_tree.specs.declared.tree.Bounds.{Bounds}
use Rattle.sot_syntax_tree.specs.declared.tree.Lit.{Lit}
use Rattle.sot_rules.specs.declared.fault.TypeFault.{TypeFault}
use Rattle.sot_rules.specs.Faults.{least}
use Rattle.sot_rules.proofs.Loops.{step_got, none_left}

module _ {A B : Type 0} (f : A × B → List TypeFault) (xs : List A) (ys : List B) (i : ℕ) where
  -- a pair's faults are noted, and then what is left
  pub step_pairs : (x : A) (y : B) (a b c : Option TypeFault) → slice_get xs i ≡ Some x → slice_get ys i ≡ Some y
      → least a (flat_map f (drop i (zip xs ys))) ≡ c → b ≡ least a (f (x, y)) → least b (flat_map f (drop (i + 1) (zip xs ys))) ≡ c
  step_pairs x y a b c left right inv now =
      step_got (λ ps. flat_map f ps) f (λ p more. refl) (zip xs ys) i (x, y) a b c (slice_get-zip_some xs ys i x y left right) inv now

  -- no pair is left
  pub no_pairs : (a c : Option TypeFault) → length xs ≤ i → least a (flat_map f (drop i (zip xs ys))) ≡ c → a ≡ c
  no_pairs a c le inv =
      let short : length (zip xs ys) ≤ i = omega (arith, length-zip xs ys) in
      none_left (λ ps. flat_map f ps) refl (zip xs ys) i a c short inv

-- what stands past the end of a list of bounds
abbrev no_number : Lit
no_number = record { mantissa = pos 0; scale = 0; at = record { line = 0; column = 0 } }

abbrev pub no_bounds : Bounds
no_bounds = record { lo = no_number; hi = no_number }
