-- The atoms that hold points of a region are put into a set, block by block.
use Rattle.std.proofs.Common.{◌≡◌, ℕ, zero, suc, ◌+◌, ◌-◌, ◌/◌, ◌≤◌, ◌<◌, ◌⊎◌, inl, inr, ⊎_elim, ℤ, List, [], ◌∷◌, length, refl, sym, ◌∙◌}
use Rattle.std.proofs.Common.{subst, arith}
use Rattle.std.proofs.lemmas.Int.{ints}
use Rattle.std.specs.Prelude.{slice_set}
use Rattle.std.proofs.lemmas.Bool.{cases_lt}
use Rattle.std.proofs.lemmas.Option.{same_Some, none-some}
use Rattle.sot_lists.specs.Places.{At}
use Rattle.sot_box.specs.Sides.{Side}
use Rattle.sot_box.specs.Boxes.{IsWithin, point_box}
use Rattle.sot_box.specs.Regions.{IsInRegion, Covers}
use Rattle.sot_box.proofs.Ranges.{within_length}
use Rattle.sot_lang.specs.declared.tables.ModuleInfo.{ModuleInfo}
use Rattle.sot_lang.specs.Tables.{Tables}
use Rattle.sot_atoms.specs.declared.block.Stretch.{Stretch}
use Rattle.sot_atoms.specs.Blocks.{FitsAxes, IsInBlock, IsOneAtom, AreHalves, atom_count}
use Rattle.sot_atoms.specs.Grids.{Cut, IsCut, IsAreaOf}
use Rattle.sot_atoms.proofs.Points.{fits_length, holds_atom}
use Rattle.sot_atoms.proofs.Boxes.{area_in, thin, point_is, in_hull}
use Rattle.sot_invariant_atoms.specs.Greatest.{HoldsRegion, HasPointsOf, HasPointsIn, HasMembersOf, TellsNone, KeepsHeldRegions}

-- a point of the box of one point is that point
point_same : (s t : List ℤ) → IsWithin (point_box s) t → t ≡ s
point_same [] [] w = refl
point_same (x ∷ xs) (y ∷ ys) w =
    let e : y ≡ x = omega (arith, ints, w.0, w.1) in
    let rest = point_same xs ys w.2 in
    cc
point_same [] (y ∷ ys) w = absurd w
point_same (x ∷ xs) [] w = absurd w

-- an atom of a block is in one of its halves
in_set : (block : List Stretch) (at : List ℕ) (k a : ℕ) (s : Stretch) → IsInBlock block at → At at k a → s.from ≤ a → a ≤ s.to
    → IsInBlock (slice_set block k s) at
in_set [] at k a s inside aa lo hi = inside
in_set (r ∷ rs) [] k a s inside aa lo hi = absurd inside
in_set (r ∷ rs) (b ∷ bs) zero a s inside aa lo hi =
    let e = same_Some b a aa in
    (subst (λ n. s.from ≤ n) (sym e) lo, subst (λ n. n ≤ s.to) (sym e) hi, inside.2)
in_set (r ∷ rs) (b ∷ bs) (suc k) a s inside aa lo hi = (inside.0, inside.1, in_set rs bs k a s inside.2 aa lo hi)

at_long : (block : List Stretch) (at : List ℕ) (k : ℕ) (r : Stretch) → IsInBlock block at → At block k r → (a : ℕ) × At at k a × (r.from ≤ a) × (a ≤ r.to)
at_long [] at k r inside ar = absurd (none-some r ar)
at_long (q ∷ qs) [] k r inside ar = absurd inside
at_long (q ∷ qs) (b ∷ bs) zero r inside ar =
    let e = same_Some q r ar in
    (b, refl, subst (λ (t : Stretch). t.from ≤ b) e inside.0, subst (λ (t : Stretch). b ≤ t.to) e inside.1)
at_long (q ∷ qs) (b ∷ bs) (suc k) r inside ar = at_long qs bs k r inside.2 ar

pub in_halves : (block low high : List Stretch) (at : List ℕ) → AreHalves block low high → IsInBlock block at → IsInBlock low at ⊎ IsInBlock high at
in_halves block low high at h inside =
    let a = at_long block at h.axis h.side inside h.longest.0 in
    let middle = h.side.from + (h.side.to - h.side.from) / 2 in
    ⊎_elim
    (λ (above : middle < a.0). inr (subst (λ q. IsInBlock q at) (sym h.high_is)
    (in_set block at h.axis a.0 _ inside a.1 (omega (arith, above)) a.3)))
    (λ (below : a.0 ≤ middle). inl (subst (λ q. IsInBlock q at) (sym h.low_is) (in_set block at h.axis a.0 _ inside a.1 a.2 below)))
    (cases_lt middle a.0)

module _ (grid : Cut) (cut : IsCut grid.width grid.last grid.axes) (region : List (List Side)) where
  module _ (set : List ℕ) (block : List Stretch) (fits : FitsAxes grid.axes block) (area : List Side) (width : length area ≡ grid.width)
      (is : IsAreaOf grid block area) where
    four : length block ≡ 4
    four = fits_length grid.axes block fits ∙ cut.four

    -- one that the region does not meet
    pub apart_holds : ((s : List ℤ) → IsInRegion region s → IsWithin area s → ⊥) → HasPointsIn grid set region block
    apart_holds apart finest s at inside long holds here = absurd (apart s inside (area_in grid cut area block width four fits is at s here holds long))

    -- one atom that the region does not cover
    pub one_holds : IsOneAtom block → (Covers region area → ⊥) → HasPointsIn grid set region block
    one_holds one uncovered finest s at inside long holds here =
        let w = area_in grid cut area block width four fits is at s here holds long in
        let e = point_is area s w (thin grid cut area block width four fits is finest one) in
        absurd (uncovered (λ t in_area. subst (IsInRegion region) (sym (point_same s t (subst (λ q. IsWithin q t) e in_area))) inside))

  -- one after the other half
  pub halves_hold : (one two : List ℕ) (block low high : List Stretch) → AreHalves block low high → HasPointsIn grid one region low → HasMembersOf grid one two
      → HasPointsIn grid two region high → HasPointsIn grid two region block
  halves_hold one two block low high h first more second finest s at inside long holds here =
      ⊎_elim (λ l. more at (holds_atom grid.axes at s holds) (first finest s at inside long holds l)) (λ u. second finest s at inside long holds u)
      (in_halves block low high at h here)

-- nothing left on the finest grid of the safe region's hull: no held region lies in it
module _ (p : Tables) (jitter : ℕ) (a : ModuleInfo) (grid : Cut) (cut : IsCut grid.width grid.last grid.axes) (old new : List ℕ)
    (size : length old ≡ atom_count grid.axes) (points : HasPointsOf grid old a.safe.boxes) (keeps : KeepsHeldRegions p jitter a grid old new) where
  pub tells_none : TellsNone p jitter a grid new
  tells_none f empty region s held inside here =
      let long : (t : List ℤ) → IsInRegion region t → IsWithin f.hull t = λ t i. f.is.holds t (inside t i) in
      let among : HoldsRegion grid old region = λ t i.
      let w = long t i in
      let at = in_hull grid cut f.hull t f.cuts f.width w in
      let e = within_length f.hull t w ∙ f.width in
      record { size = size; width = e; at = at.0; holds = at.1; member = points f.finest t at.0 (inside t i) e at.1 } in
      let m = keeps f.finest region held among s here in
      empty _ m.member
