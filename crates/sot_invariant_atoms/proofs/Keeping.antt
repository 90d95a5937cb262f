-- Taking atoms out of a set keeps the held regions that lie in it.
use Rattle.std.proofs.Common.{◌≡◌, ℕ, zero, suc, ◌≤◌, ◌<◌, ◌⊎◌, inl, inr, ⊎_elim, ℤ, List, [], ◌∷◌, length, refl, sym, ap, ◌∙◌, subst, arith}
use Rattle.std.specs.Prelude.{slice_set}
use Rattle.std.proofs.lemmas.Option.{same_Some, none-some}
use Rattle.sot_lists.specs.Places.{At}
use Rattle.sot_box.specs.Sides.{Side}
use Rattle.sot_box.specs.Boxes.{IsWithin, point_box}
use Rattle.sot_box.specs.Regions.{IsInRegion}
use Rattle.sot_lang.specs.declared.tables.ModuleInfo.{ModuleInfo}
use Rattle.sot_lang.specs.Tables.{Tables}
use Rattle.sot_iv.specs.Monotony.{AreNarrower}
use Rattle.sot_iv.proofs.NarrowBoxes.{point_narrower}
use Rattle.sot_atoms.specs.declared.axis.Axis.{Axis}
use Rattle.sot_atoms.specs.declared.block.Stretch.{Stretch}
use Rattle.sot_atoms.specs.Blocks.{FitsAxes, IsOneAtom, AreHalves}
use Rattle.sot_atoms.specs.Grids.{Cut, IsCut, IsAreaOf}
use Rattle.sot_atoms.specs.Sets.{SetFits, IsTaken}
use Rattle.sot_atoms.proofs.Points.{fits_length, fits_each, fits_at, holds_atom, is_in_block}
use Rattle.sot_atoms.proofs.Boxes.{area_in, thin, point_is}
use Rattle.sot_law_invariant_regions.specs.Following.{HeldStays}
use Rattle.sot_invariant_atoms.specs.Greatest.{IsAmong, KeepsHeldRegions}
use Rattle.sot_invariant_atoms.specs.declared.tube.TubeInAtoms.{TubeInAtoms}
use Rattle.sot_invariant_atoms.specs.declared.tube.TubeInAtoms.TheVariants.{Inside, Leaves, Apart}
use Rattle.sot_invariant_atoms.proofs.Extents.{extent, low_less, high_less}
use Rattle.sot_invariant_atoms.proofs.HeldLeaves.{held_more}

-- the halves of a block that fits fit
set_at : {A : Type 0} (xs : List A) (k j : ℕ) (x y : A) → At (slice_set xs k x) j y → ((j ≡ k) × (y ≡ x)) ⊎ At xs j y
set_at [] k j x y at = absurd (none-some y at)
set_at (z ∷ zs) zero zero x y at = inl (refl, sym (same_Some x y at))
set_at (z ∷ zs) zero (suc j) x y at = inr at
set_at (z ∷ zs) (suc k) zero x y at = inr at
set_at (z ∷ zs) (suc k) (suc j) x y at = ⊎_elim (λ h. inl (ap suc h.0, h.1)) (λ h. inr h) (set_at zs k j x y at)

set_length : {A : Type 0} (xs : List A) (k : ℕ) (x : A) → length (slice_set xs k x) ≡ length xs
set_length [] k x = refl
set_length (z ∷ zs) zero x = refl
set_length (z ∷ zs) (suc k) x = ap suc (set_length zs k x)

fits_set : (axes : List Axis) (block : List Stretch) (k : ℕ) (r s : Stretch) → FitsAxes axes block → At block k r → s.from ≤ s.to → s.to ≤ r.to
    → FitsAxes axes (slice_set block k s)
fits_set axes block k r s fits at order below =
    fits_each axes (slice_set block k s) (set_length block k s ∙ fits_length axes block fits)
    (λ j x q ax aq.
    ⊎_elim
    (λ (h : (j ≡ k) × (q ≡ s)).
    let f = fits_at axes block k x r fits (subst (λ n. At axes n x) h.0 ax) at in
    subst (λ (t : Stretch). (t.from ≤ t.to) × (t.to < x.size)) (sym h.1) (order, omega (arith, below, f.1)))
    (λ (h : At block j q). fits_at axes block j x q fits ax h)
    (set_at block k j s q aq))

pub low_fits : (axes : List Axis) (block low high : List Stretch) → FitsAxes axes block → AreHalves block low high → FitsAxes axes low
low_fits axes block low high fits h =
    subst (FitsAxes axes) (sym h.low_is)
    (fits_set axes block h.axis h.side _ fits h.longest.0 (let s = h.some_places in omega arith) (let s = h.some_places in omega arith))

pub high_fits : (axes : List Axis) (block low high : List Stretch) → FitsAxes axes block → AreHalves block low high → FitsAxes axes high
high_fits axes block low high fits h =
    subst (FitsAxes axes) (sym h.high_is)
    (fits_set axes block h.axis h.side _ fits h.longest.0 (let s = h.some_places in omega arith) (let s = h.some_places in omega arith))

-- either half
pub part_less : (block low high part : List Stretch) → AreHalves block low high → (part ≡ low) ⊎ (part ≡ high) → extent part < extent block
part_less block low high part h either =
    ⊎_elim (λ e. subst (λ q. extent q < extent block) (sym e) (low_less block low high h))
    (λ e. subst (λ q. extent q < extent block) (sym e) (high_less block low high h)) either

pub part_fits : (axes : List Axis) (block low high part : List Stretch) → FitsAxes axes block → AreHalves block low high → (part ≡ low) ⊎ (part ≡ high)
    → FitsAxes axes part
part_fits axes block low high part fits h either =
    ⊎_elim (λ e. subst (FitsAxes axes) (sym e) (low_fits axes block low high fits h))
    (λ e. subst (FitsAxes axes) (sym e) (high_fits axes block low high fits h)) either

module _ (p : Tables) (jitter : ℕ) (a : ModuleInfo) (grid : Cut) where
  -- a block goes as a whole where its tube is apart from the set, or where it is one atom whose tube leaves it
  pub taken_keeps : (old new : List ℕ) (block : List Stretch) (area : List Side) (found : TubeInAtoms) → IsCut grid.width grid.last grid.axes
      → FitsAxes grid.axes block → length area ≡ grid.width → (FitsAxes grid.axes block → IsAreaOf grid block area)
      → (found ≡ Leaves → HeldStays (IsAmong grid old) p jitter a area → ⊥)
      → (found ≡ Apart → (box : List Side) → AreNarrower box area → HeldStays (IsAmong grid old) p jitter a box → ⊥)
      → (found ≡ Inside → ⊥) → (found ≡ Apart) ⊎ IsOneAtom block → length new ≡ length old → (SetFits grid.axes old block → IsTaken grid.axes old new block)
      → KeepsHeldRegions p jitter a grid old new
  taken_keeps old new block area found cut fits width is_area leaves apart not_inside whole size taken finest region held holds s inside =
      let m = holds s inside in
      let stays : HeldStays (IsAmong grid old) p jitter a (point_box s) =
      held_more (IsInRegion region) (IsAmong grid old) p jitter a (point_box s) holds (held s inside) in
      let four = fits_length grid.axes block fits ∙ cut.four in
      ⊎_elim
      (λ here. let w = area_in grid cut area block width four fits (is_area fits) m.at s here m.holds m.width in
      absurd (goes w stays four))
      (λ away. let t = taken (record { size = m.size; in_axes = fits }) in
      record {
        size = size ∙ m.size;
        width = m.width;
        at = m.at;
        holds = m.holds;
        member = (t.outside m.at (holds_atom grid.axes m.at s m.holds) away).1 m.member;
      })
      (is_in_block block m.at)
    where
      goes : IsWithin area s → HeldStays (IsAmong grid old) p jitter a (point_box s) → length block ≡ 4 → ⊥
      goes w stays four = by_found found refl
        where
          by_found : (f : TubeInAtoms) → found ≡ f → ⊥
          by_found Inside e = not_inside e
          by_found Apart e = apart e (point_box s) (point_narrower area s w) stays
          by_found Leaves e =
              ⊎_elim (λ (q : found ≡ Apart). apart q (point_box s) (point_narrower area s w) stays)
              (λ (one : IsOneAtom block).
              let same : area ≡ point_box s = point_is area s w (thin grid cut area block width four fits (is_area fits) finest one) in
              leaves e (subst (HeldStays (IsAmong grid old) p jitter a) (sym same) stays))
              whole
