-- What a node reads lies in its intervals while plants are in their safe regions.
use Rattle.std.proofs.Common.{◌≡◌, ℕ, suc, ℤ, List, [], ◌∷◌, Some, refl, ap}
use Rattle.std.specs.Prelude.{map, slice_index_or, Ok}
use Rattle.sot_box.specs.Sides.{Side, IsIn}
use Rattle.sot_lists.specs.Places.{At, Has}
use Rattle.sot_box.specs.Boxes.{IsWithin}
use Rattle.sot_lang.specs.declared.act.Act.{Act}
use Rattle.sot_lang.specs.declared.tables.PlantInfo.{PlantInfo}
use Rattle.sot_lang.specs.declared.tables.NodeInfo.{NodeInfo}
use Rattle.sot_lang.specs.declared.tables.Slot.{Slot}
use Rattle.sot_lang.specs.declared.tables.Slot.TheVariants.{Scalar, State}
use Rattle.sot_lang.specs.Tables.{Tables}
use Rattle.sot_lang.specs.TableRules.{IsTyped}
use Rattle.sot_lang.specs.Bodies.{Fired, execution}
use Rattle.sot_lang.specs.Readings.{number_at, reading}
use Rattle.sot_lang.specs.Ranges.{scalar_ranges, local_ranges, write_ranges}
use Rattle.sot_lang.specs.SafeRegions.{AllSafe, AllHulls}
use Rattle.sot_box.proofs.Ranges.{within_read}
use Rattle.sot_iv.specs.NodeIntervals.{interval_at, reading_intervals}
use Rattle.sot_iv.specs.TrapFree.{IsTrapFree}
use Rattle.sot_iv.proofs.BodySound.{exec_sound}

module _ (p : Tables) (scalars : List ℤ) (points : List (List ℤ)) (hulls : List (List Side)) (all : AllHulls p hulls)
    (inside : IsWithin (scalar_ranges p) scalars) (safe : AllSafe p points) where
  number_in : (s : Slot) → ((k v : ℕ) → s ≡ State k v → (plant : PlantInfo) × At p.plants k plant) → IsIn (interval_at p hulls s) (number_at scalars points s)
  number_in (Scalar k) exists = within_read (scalar_ranges p) scalars k inside
  number_in (State k v) exists =
      let plant = exists k v refl in
      within_read (slice_index_or hulls k []) (slice_index_or points k []) v
      ((all.1 k plant.0 plant.1).holds (slice_index_or points k []) (safe k plant.0 plant.1))

  numbers_in : (ss : List Slot) → ((k v : ℕ) → Has ss (State k v) → (plant : PlantInfo) × At p.plants k plant)
      → IsWithin (map (interval_at p hulls) ss) (map (number_at scalars points) ss)
  numbers_in [] exists = tt
  numbers_in (s ∷ ss) exists =
      let r = number_in s (λ k v e. exists k v (0, ap Some e)) in
      (r.0, r.1, numbers_in ss (λ k v h. exists k v (suc h.0, h.1)))

pub never_traps : (p : Tables) (n : ℕ) (node : NodeInfo) (acts : List Act) (scalars locals : List ℤ) (points : List (List ℤ))
    → IsTyped p → At p.nodes n node → IsTrapFree p node acts
    → IsWithin (scalar_ranges p) scalars → AllSafe p points → IsWithin (local_ranges node) locals
    → (g : Fired) × (execution acts (local_ranges node) (write_ranges p node) (reading node scalars points) locals ≡ Ok g)
never_traps p n node acts scalars locals points typed at free inside safe kept =
    let read = numbers_in p scalars points free.0 free.1 inside safe node.reads.items (λ k v h. typed.reads_are n node k v at h) in
    let sound = exec_sound acts (local_ranges node) (write_ranges p node) (reading_intervals p node free.0) (local_ranges node) (reading node scalars points)
    locals free.2.0 read kept free.2.1 in
    (sound.0, sound.1)
