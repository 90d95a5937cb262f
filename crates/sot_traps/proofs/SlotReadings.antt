-- The intervals that a node reads are those of the definition, whichever hulls it takes.
use Rattle.std.proofs.Common.{◌≡◌, ℕ, suc, ◌+◌, ◌<◌, List, [], ◌∷◌, ◌++◌, length, take, get_or, refl, sym, ap, ap₂, ◌∙◌, subst}
use Rattle.std.specs.Prelude.{map, pos, slice_index_or, Some}
use Rattle.std.proofs.lemmas.Option.{get_or_from_slice_get}
use Rattle.std.proofs.lemmas.List.{take_more}
use Rattle.sot_box.specs.Sides.{Side}
use Rattle.sot_lists.specs.Places.{At, Has}
use Rattle.sot_box.proofs.Laws.{hull_unique}
use Rattle.sot_lang.specs.declared.tables.PlantInfo.{PlantInfo}
use Rattle.sot_lang.specs.declared.tables.Slot.{Slot}
use Rattle.sot_lang.specs.declared.tables.Slot.TheVariants.{Scalar, State}
use Rattle.sot_lang.specs.Tables.{Tables}
use Rattle.sot_lang.specs.SafeRegions.{safe_of, AllHulls}
use Rattle.sot_iv.specs.NodeIntervals.{interval_at}
use Rattle.sot_lang.specs.declared.tables.NodeInfo.{NodeInfo}
use Rattle.sot_lang.specs.TableRules.{MeetsTableRules}
use Rattle.sot_traps.specs.Readings.{IsReading, AreReadings, CanBeRead}
use Rattle.sot_traps.specs.Verdict.{HaveSafeBoxes}
use Rattle.sot_traps.proofs.SafeHulls.{safe_some}

more : (p : Tables) (ss : List Slot) (rs : List Side) (s : Slot) (r : Side) → AreReadings p ss rs → IsReading p s r
    → AreReadings p (ss ++ s ∷ []) (rs ++ r ∷ [])
more p [] [] s r are is = (is, tt)
more p (t ∷ ss) (x ∷ rs) s r are is = (are.0, more p ss rs s r are.1 is)
more p [] (x ∷ rs) s r are is = absurd are
more p (t ∷ ss) [] s r are is = absurd are

-- one more reading
pub readings_more : (p : Tables) (ss : List Slot) (i : ℕ) (rs : List Side) (d : Slot) (r : Side) → i < length ss → AreReadings p (take i ss) rs
    → IsReading p (get_or ss i d) r → AreReadings p (take (i + 1) ss) (rs ++ r ∷ [])
readings_more p ss i rs d r lt are is =
    subst (λ q. AreReadings p q (rs ++ r ∷ [])) (sym (take_more ss i d lt)) (more p (take i ss) rs (get_or ss i d) r are is)

-- there is one for each slot
pub readings_length : (p : Tables) (ss : List Slot) (rs : List Side) → AreReadings p ss rs → length rs ≡ length ss
readings_length p [] [] are = refl
readings_length p (s ∷ ss) (r ∷ rs) are = ap suc (readings_length p ss rs are.1)
readings_length p [] (r ∷ rs) are = absurd are
readings_length p (s ∷ ss) [] are = absurd are

-- one of them
pub reading_is : (p : Tables) (hulls : List (List Side)) → AllHulls p hulls → (s : Slot) (r : Side)
    → ((k v : ℕ) → s ≡ State k v → (plant : PlantInfo) × At p.plants k plant) → IsReading p s r → r ≡ interval_at p hulls s
reading_is p hulls all (Scalar k) r exists is = is
reading_is p hulls all (State k v) r exists is =
    let plant = exists k v refl in
    let same : is.0 ≡ slice_index_or hulls k [] = hull_unique (safe_of p.modules k) is.0 (slice_index_or hulls k []) is.1 (all.1 k plant.0 plant.1) in
    sym (get_or_from_slice_get is.0 v r (record { lo = pos 0; hi = pos 0 }) is.2) ∙ ap (λ h. slice_index_or h v (record { lo = pos 0; hi = pos 0 })) same

pub readings_are : (p : Tables) (hulls : List (List Side)) → AllHulls p hulls → (ss : List Slot) (rs : List Side)
    → ((k v : ℕ) → Has ss (State k v) → (plant : PlantInfo) × At p.plants k plant)
    → AreReadings p ss rs → rs ≡ map (interval_at p hulls) ss
readings_are p hulls all [] [] exists are = refl
readings_are p hulls all (s ∷ ss) (r ∷ rs) exists are =
    ap₂ (λ x xs. x ∷ xs) (reading_is p hulls all s r (λ k v e. exists k v (0, ap Some e)) are.0)
    (readings_are p hulls all ss rs (λ k v h. exists k v (suc h.0, h.1)) are.1)
readings_are p hulls all [] (r ∷ rs) exists are = absurd are
readings_are p hulls all (s ∷ ss) [] exists are = absurd are

-- what a node reads can be read
pub can_be_read : (p : Tables) → MeetsTableRules p → HaveSafeBoxes p → (n : ℕ) (node : NodeInfo) → At p.nodes n node → (i : ℕ) (s : Slot)
    → At node.reads.items i s → CanBeRead p s
can_be_read p rules boxes n node at i (Scalar k) h = (rules.nodes n node at).reads_scalars k (i, h)
can_be_read p rules boxes n node at i (State k v) h =
    let plant = rules.typed.reads_are n node k v at (i, h) in
    (safe_some p rules boxes k plant.0 plant.1, (rules.nodes n node at).reads_states k v (i, h))
