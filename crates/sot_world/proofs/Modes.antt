-- Lists of flags and of modes.
use Rattle.std.proofs.Common.{ℤ, length, ◌≡◌, ℕ, zero, suc, Bool, false, ◌⊎◌, inl, inr, List, [], ◌∷◌, map, refl, ◌∙◌}
use Rattle.std.specs.Prelude.{slice_index_or, slice_set}
use Rattle.std.proofs.lemmas.List.{get_or-set_other, length-map}
use Rattle.sot_lang.specs.declared.tables.ModuleInfo.{ModuleInfo}
use Rattle.sot_lang.specs.Tables.{Tables}
use Rattle.sot_lang.specs.Ranges.{scalar_ranges}
use Rattle.sot_box.specs.Sides.{Side}
use Rattle.sot_box.specs.Boxes.{IsWithin}
use Rattle.sot_lists.specs.Places.{At}
use Rattle.sot_world.specs.Configurations.{Mode, Ac, Sc}
use Rattle.sot_lists.proofs.Places.{at_same}
use Rattle.sot_box.proofs.Ranges.{within_length}

pub cases_mode : (x : Mode) → (x ≡ Ac) ⊎ (x ≡ Sc)
cases_mode Ac = inl refl
cases_mode Sc = inr refl

pub same_module : (ms : List ModuleInfo) (m m' : ℕ) (a b : ModuleInfo) → m ≡ m' → At ms m a → At ms m' b → a ≡ b
same_module ms m m' a b e at_a at_b = at_same ms m a b at_a (rw e at_b)

-- whether a node is left, after one has fired
pub left_same : (xs : List Bool) (n i : ℕ) → (i ≡ n → ⊥) → slice_index_or (slice_set xs n false) i false ≡ slice_index_or xs i false
left_same xs n i ne = get_or-set_other xs n i false false ne

pub left_none : (xs : List Bool) (n : ℕ) → slice_index_or (slice_set xs n false) n false ≡ false
left_none [] zero = refl
left_none [] (suc n) = refl
left_none (x ∷ xs) zero = refl
left_none (x ∷ xs) (suc n) = left_none xs n

pub every_sc : (ms : List ModuleInfo) (m : ℕ) → slice_index_or (map (λ a. Sc) ms) m Sc ≡ Sc
every_sc [] m = refl
every_sc (a ∷ ms) zero = refl
every_sc (a ∷ ms) (suc m) = every_sc ms m

-- as many numbers as there are scalars
pub scalars_length : (p : Tables) (xs : List ℤ) → IsWithin (scalar_ranges p) xs → length xs ≡ length p.scalars
scalars_length p xs w = within_length (scalar_ranges p) xs w ∙ length-map p.scalars (λ i. let x : Side = record { lo = i.lo; hi = i.hi } in x)
