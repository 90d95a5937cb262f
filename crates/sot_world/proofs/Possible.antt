-- What is possible is what has a step.
use Rattle.std.proofs.Common.{◌≡◌, ℕ, zero, suc, ◌+◌, ℤ, ⊎_elim, List, [], ◌∷◌, map, take, drop, length, refl, sym, ap, ◌∙◌, subst, arith, length-take-le}
use Rattle.std.specs.Prelude.{slice_index_or}
use Rattle.std.proofs.lemmas.Option.{none-some, same_Some, slice_get_cases, get_or_from_slice_get}
use Rattle.sot_lang.specs.declared.tables.PlantInfo.{PlantInfo}
use Rattle.sot_lang.specs.declared.tables.NodeInfo.{NodeInfo}
use Rattle.sot_lang.specs.Tables.{Tables}
use Rattle.sot_lang.specs.Ranges.{range_of, bounds}
use Rattle.sot_lists.proofs.Places.{at_map}
use Rattle.sot_lists.specs.Places.{At}
use Rattle.sot_box.specs.Sides.{IsIn}
use Rattle.sot_box.specs.Boxes.{IsWithin}
use Rattle.sot_world.specs.declared.event.Event.TheVariants.{Input, Code, Guest, Decide, Tick}
use Rattle.sot_world.specs.Events.{slot_count, cut, IsInBounds}
use Rattle.sot_world.specs.Possible.{PossibleIsStep}
use Rattle.sot_world.proofs.Progress.{something_can_happen}

-- each plant's part is in its bounds exactly where each part of the cut list is
cut_bounds : (plants : List PlantInfo) (w : List ℤ) → ((k : ℕ) (plant : PlantInfo) → At plants k plant
    → IsWithin (bounds plant) (slice_index_or (cut plants w) k [])) → IsInBounds plants w
cut_bounds [] w h = tt
cut_bounds (x ∷ xs) w h = (h 0 x refl, cut_bounds xs (drop (length x.noise.items) w) (λ k plant at. h (suc k) plant at))

pub bounds_cut : (plants : List PlantInfo) (w : List ℤ) → IsInBounds plants w → (k : ℕ) (plant : PlantInfo) → At plants k plant
    → IsWithin (bounds plant) (slice_index_or (cut plants w) k [])
bounds_cut [] w h k plant at = absurd (none-some plant at)
bounds_cut (x ∷ xs) w h zero plant at = subst (λ y. IsWithin (bounds y) (take (length x.noise.items) w)) (same_Some x plant at) h.0
bounds_cut (x ∷ xs) w h (suc k) plant at = bounds_cut xs (drop (length x.noise.items) w) h.1 k plant at

pub cut_length : (plants : List PlantInfo) (w : List ℤ) → length (cut plants w) ≡ length plants
cut_length [] w = refl
cut_length (x ∷ xs) w = ap suc (cut_length xs (drop (length x.noise.items) w))

pub slots_of : (p : Tables) (n : ℕ) (node : NodeInfo) → At p.nodes n node → slot_count p n ≡ length node.writes.items
slots_of p n node at =
    get_or_from_slice_get (map (λ k. length k.writes.items) p.nodes) n (length node.writes.items) 0 (at_map (λ k. length k.writes.items) p.nodes n node at)

pub possible_is_step : PossibleIsStep
possible_is_step p j C (Input topic value) rules well h names = (
  (λ D s. (s.info, s.is, s.typed)),
  (λ typed settled.
      let info = same_Some typed.0 names.0 (sym typed.1 ∙ names.1) in
      let r = (something_can_happen p j C rules.typed well h).input topic names.0 value.now names.1 names.2 names.3
      (λ i z at. subst (λ x. IsIn (range_of p.scalars (x.first + i)) z) info (typed.2 i z at)) in
      (r.0, r.2)),
)
possible_is_step p j C (Code n) rules well h names = (
  (λ D s. s.fires.was_left),
  (λ left settled. let r = (something_can_happen p j C rules.typed well h).code n names.0 names.1 names.2 names.3 left in (r.0, r.2)),
)
possible_is_step p j C (Guest n draft) rules well h names = (
  (λ D s. s.fires.was_left),
  (λ left settled.
      let slots = slots_of p n names.0 names.1 in
      let few = (rules.nodes n names.0 names.1).writes in
      let size : length (take (slot_count p n) draft) ≡ length names.0.writes.items = length-take-le (slot_count p n) draft (omega (arith, slots, few, settled))
      ∙ slots in
      let r = (something_can_happen p j C rules.typed well h).guest n names.0 (take (slot_count p n) draft) names.1 names.2 size left in
      (r.0, r.2)),
)
possible_is_step p j C (Decide m) rules well h names = (
  (λ D s. s.was_left),
  (λ left settled. ⊎_elim
      (λ a. let r = (something_can_happen p j C rules.typed well h).decide m a.0 a.2 left (settled a.0 a.2) in (r.0, r.2))
      (λ past. absurd (omega (arith, past.0, names)))
      (slice_get_cases p.modules m).1),
)
possible_is_step p j C (Tick noise) rules well h names = (
  (λ D s. (s.may, cut_bounds p.plants noise.now s.bounded)),
  (λ possible settled.
      let r = (something_can_happen p j C rules.typed well h).tick (cut p.plants noise.now) possible.0 (cut_length p.plants noise.now)
      (bounds_cut p.plants noise.now possible.1) in
      (r.0, r.2)),
)
