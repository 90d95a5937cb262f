-- Closed sets of atoms: taking out what leaves the set keeps them, and the atoms that a region covers have them.
use Rattle.std.proofs.Common.{◌≡◌, ℕ, suc, ◌≤◌, ◌⊎◌, ⊎_elim, ℤ, List, [], ◌∷◌, map, length, refl, sym, ap₂, ◌∙◌, subst, arith}
use Rattle.sot_lists.specs.Places.{At}
use Rattle.sot_lists.proofs.Places.{at_map, same_list}
use Rattle.sot_box.specs.Sides.{Side, AreOrdered}
use Rattle.sot_box.specs.Boxes.{IsWithin, lows}
use Rattle.sot_box.specs.Regions.{IsInRegion, Covers}
use Rattle.sot_box.proofs.Ranges.{within_length, lows_within}
use Rattle.sot_lang.specs.declared.tables.ModuleInfo.{ModuleInfo}
use Rattle.sot_lang.specs.Tables.{Tables}
use Rattle.sot_iv.specs.Monotony.{AreNarrower}
use Rattle.sot_iv.proofs.Narrow.{le_refl_ℤ}
use Rattle.sot_atoms.specs.declared.block.Stretch.{Stretch}
use Rattle.sot_atoms.specs.Blocks.{FitsAxes, IsInBlock, IsOneAtom, AreHalves, atom_count}
use Rattle.sot_atoms.specs.Grids.{Cut, IsCut, IsAreaOf}
use Rattle.sot_atoms.specs.Sets.{SetFits, IsTaken, IsAtom}
use Rattle.sot_atoms.proofs.Points.{fits_length, holds_atom, is_in_block}
use Rattle.sot_atoms.proofs.Boxes.{area_in}
use Rattle.sot_law_invariant_regions.specs.Following.{HeldStays}
use Rattle.sot_invariant_atoms.specs.Greatest.{IsAmong, HasMembersOf}
use Rattle.sot_invariant_atoms.specs.Closed.{IsAtomBox, IsClosedSet, KeepsClosedSets, HasCoveredOf, HasCoveredIn, HasClosedSets, LieIn}
use Rattle.sot_invariant_atoms.specs.declared.tube.TubeInAtoms.{TubeInAtoms}
use Rattle.sot_invariant_atoms.specs.declared.tube.TubeInAtoms.TheVariants.{Inside, Leaves, Apart}
use Rattle.sot_invariant_atoms.proofs.Covering.{in_halves}
use Rattle.sot_invariant_atoms.proofs.HeldLeaves.{held_more}

-- a box in order of which each point is in another box is narrower
narrower_of : (b area : List Side) → AreOrdered b → ((s : List ℤ) → IsWithin b s → IsWithin area s) → AreNarrower b area
narrower_of [] [] o inside = tt
narrower_of [] (q ∷ qs) o inside = absurd (inside [] tt)
narrower_of (r ∷ rs) [] o inside = absurd (inside (lows (r ∷ rs)) (lows_within (r ∷ rs) o))
narrower_of (r ∷ rs) (q ∷ qs) o inside =
    let w = lows_within rs o.1 in
    let low = inside (r.lo ∷ lows rs) (le_refl_ℤ r.lo, o.0, w) in
    let high = inside (r.hi ∷ lows rs) (o.0, le_refl_ℤ r.hi, w) in
    ((low.0, o.0, high.1), narrower_of rs qs o.1 (λ s v. (inside (r.lo ∷ s) (le_refl_ℤ r.lo, o.0, v)).2))

-- the block of one atom
abbrev single : ℕ → Stretch
single a = record { from = a; to = a }

-- it is each block of one atom that has this atom
only_atom : (block : List Stretch) (at : List ℕ) → IsInBlock block at → IsOneAtom block → block ≡ map single at
only_atom [] [] inside one = refl
only_atom [] (a ∷ rest) inside one = absurd inside
only_atom (r ∷ rs) [] inside one = absurd inside
only_atom (r ∷ rs) (a ∷ rest) inside one =
    let thin = one 0 r refl in
    let from : r.from ≡ a = omega (arith, thin, inside.0, inside.1) in
    let to : r.to ≡ a = omega (arith, thin, inside.0, inside.1) in
    ap₂ (λ q qs. q ∷ qs) (ap₂ (λ x y. let q : Stretch = record { from = x; to = y } in q) from to)
    (only_atom rs rest inside.2 (λ k. one (suc k)))

module _ (grid : Cut) (at : List ℕ) (box : List Side) (atom : IsAtomBox grid at box) where
  corner : IsWithin box (lows box)
  corner = lows_within box atom.ordered

  long : (s : List ℤ) → IsWithin box s → length s ≡ grid.width
  long s w = within_length box s w ∙ atom.width

  -- what has a box is an atom
  pub boxed_atom : IsAtom grid.axes at
  boxed_atom = holds_atom grid.axes at (lows box) (atom.points (lows box) corner)

  -- the box of an atom of a block, in the block's area
  module _ (cut : IsCut grid.width grid.last grid.axes) (block : List Stretch) (fits : FitsAxes grid.axes block) (area : List Side)
      (width : length area ≡ grid.width) (is : IsAreaOf grid block area) (here : IsInBlock block at) where
    four : length block ≡ 4
    four = fits_length grid.axes block fits ∙ cut.four

    pub atom_in : (s : List ℤ) → IsWithin box s → IsWithin area s
    atom_in s w = area_in grid cut area block width four fits is at s here (atom.points s w) (long s w)

    pub atom_narrower : AreNarrower box area
    atom_narrower = narrower_of box area atom.ordered atom_in

    pub atom_whole : IsOneAtom block → area ≡ box
    atom_whole one =
        same_list area box (width ∙ sym atom.width)
        (λ i q r aq ar. let h = atom.sides i r ar in
        let s = subst (λ b. At b h.k (single h.place)) (sym (only_atom block at here one)) (at_map single at h.k h.place h.is_place) in
        let n = is h.k h.axis (single h.place) q h.real h.is_axis s (subst (λ j. At area j q) (sym h.side) aq) in
        ap₂ (λ x y. let t : Side = record { lo = x; hi = y } in t) (n.0 ∙ sym h.lo) (n.1 ∙ sym h.hi))

-- one step after another keeps what each of them keeps
pub closed_then : (p : Tables) (jitter : ℕ) (a : ModuleInfo) (grid : Cut) (old mid new : List ℕ) → KeepsClosedSets p jitter a grid old mid
    → length mid ≡ length old → KeepsClosedSets p jitter a grid mid new → KeepsClosedSets p jitter a grid old new
closed_then p jitter a grid old mid new first same second size closed is lies = second (same ∙ size) closed is (first size closed is lies)

module _ (p : Tables) (jitter : ℕ) (a : ModuleInfo) (grid : Cut) where
  -- a block goes as a whole where its tube is apart from the set, or where it is one atom whose tube leaves it
  pub taken_closed : (old new : List ℕ) (block : List Stretch) (area : List Side) (found : TubeInAtoms) → IsCut grid.width grid.last grid.axes
      → FitsAxes grid.axes block → length area ≡ grid.width → (FitsAxes grid.axes block → IsAreaOf grid block area)
      → (found ≡ Leaves → HeldStays (IsAmong grid old) p jitter a area → ⊥)
      → (found ≡ Apart → (box : List Side) → AreNarrower box area → HeldStays (IsAmong grid old) p jitter a box → ⊥)
      → (found ≡ Inside → ⊥) → (found ≡ Apart) ⊎ IsOneAtom block → (SetFits grid.axes old block → IsTaken grid.axes old new block)
      → KeepsClosedSets p jitter a grid old new
  taken_closed old new block area found cut fits width is_area leaves apart not_inside whole taken size closed is lies at atom member =
      ⊎_elim (λ here. absurd (goes here))
      (λ away. ((taken (record { size = size; in_axes = fits })).outside at atom away).1 (lies at atom member))
      (is_in_block block at)
    where
      goes : IsInBlock block at → ⊥
      goes here = by_found found refl
        where
          kept : (box : List Side) × IsAtomBox grid at box × HeldStays (IsAmong grid closed) p jitter a box
          kept = is at atom member

          stays : HeldStays (IsAmong grid old) p jitter a kept.0
          stays =
              held_more (IsAmong grid closed) (IsAmong grid old) p jitter a kept.0
              (λ s m. record {
                size = size;
                width = m.width;
                at = m.at;
                holds = m.holds;
                member = lies m.at (holds_atom grid.axes m.at s m.holds) m.member;
              })
              kept.2

          by_found : (f : TubeInAtoms) → found ≡ f → ⊥
          by_found Inside e = not_inside e
          by_found Apart e = apart e kept.0 (atom_narrower grid at kept.0 kept.1 cut block fits area width (is_area fits) here) stays
          by_found Leaves e =
              ⊎_elim
              (λ (q : found ≡ Apart). apart q kept.0 (atom_narrower grid at kept.0 kept.1 cut block fits area width (is_area fits) here) stays)
              (λ (one : IsOneAtom block).
              leaves e (subst (HeldStays (IsAmong grid old) p jitter a)
              (sym (atom_whole grid at kept.0 kept.1 cut block fits area width (is_area fits) here one)) stays))
              whole

-- the atoms of a block that a region covers
module _ (grid : Cut) (cut : IsCut grid.width grid.last grid.axes) (region : List (List Side)) where
  module _ (set : List ℕ) (block : List Stretch) (fits : FitsAxes grid.axes block) (area : List Side) (width : length area ≡ grid.width)
      (is : IsAreaOf grid block area) where
    -- where the region does not meet it
    pub apart_covered : ((s : List ℤ) → IsInRegion region s → IsWithin area s → ⊥) → HasCoveredIn grid set region block
    apart_covered apart at box atom covered here =
        let w = lows_within box atom.ordered in
        absurd (apart (lows box) (covered (lows box) w) (atom_in grid at box atom cut block fits area width is here (lows box) w))

    -- one atom that the region does not cover
    pub one_covered : IsOneAtom block → (Covers region area → ⊥) → HasCoveredIn grid set region block
    one_covered one uncovered at box atom covered here =
        absurd (uncovered (subst (Covers region) (sym (atom_whole grid at box atom cut block fits area width is here one)) covered))

  -- one half after the other
  pub halves_covered : (one two : List ℕ) (block low high : List Stretch) → AreHalves block low high → HasCoveredIn grid one region low
      → HasMembersOf grid one two → HasCoveredIn grid two region high → HasCoveredIn grid two region block
  halves_covered one two block low high h first more second at box atom covered here =
      ⊎_elim (λ l. more at (boxed_atom grid at box atom) (first at box atom covered l)) (λ u. second at box atom covered u)
      (in_halves block low high at h here)

-- what is left of the atoms that the safe region covers has each closed set that lies in it
pub has_closed : (p : Tables) (jitter : ℕ) (a : ModuleInfo) (grid : Cut) (old new : List ℕ) → length old ≡ atom_count grid.axes
    → HasCoveredOf grid old a.safe.boxes → KeepsClosedSets p jitter a grid old new → HasClosedSets p jitter a grid new
has_closed p jitter a grid old new size covered keeps closed is lies =
    keeps size closed is (λ at atom member. let c = is at atom member in covered at c.0 c.1 (lies at c.0 atom member c.1))
