-- How a box lies to a set of atoms, by the blocks of atoms that it meets.
use Rattle.std.proofs.Common.{◌≡◌, ℕ, ℤ, List, Bool, length, ◌∙◌, subst}
use Rattle.std.specs.Prelude.{IsTrue, ◌↔◌}
use Rattle.sot_box.specs.Sides.{Side, AreOrdered}
use Rattle.sot_box.specs.Boxes.{IsWithin, lows}
use Rattle.sot_box.proofs.Ranges.{lows_within}
use Rattle.sot_atoms.specs.declared.block.Stretch.{Stretch}
use Rattle.sot_atoms.specs.Blocks.{FitsAxes}
use Rattle.sot_atoms.specs.Grids.{Cut, IsCut, LeavesHull, MeetsBlock, IsOffHull, ClipsBlock}
use Rattle.sot_atoms.specs.Sets.{IsMember, SetFits, AllMembers, NoMembers}
use Rattle.sot_atoms.proofs.Points.{fits_length, holds_same}
use Rattle.sot_atoms.proofs.Boxes.{off_hull, clip_in, leaves_corner, block_point}
use Rattle.sot_law_invariant_regions.specs.Following.{LiesAmong}
use Rattle.sot_invariant_atoms.specs.Greatest.{IsAmong}

module _ (grid : Cut) (cut : IsCut grid.width grid.last grid.axes) (set : List ℕ) (area : List Side) (width : length area ≡ grid.width) where
  four_of : (block : List Stretch) → FitsAxes grid.axes block → length block ≡ 4
  four_of block fits = fits_length grid.axes block fits ∙ cut.four

  pub leaves_not_among : AreOrdered area → LeavesHull grid.axes area → LiesAmong (IsAmong grid set) area → ⊥
  leaves_not_among ordered leaves among = leaves_corner grid cut area width ordered leaves (λ s w. let m = among s w in (m.at, m.holds))

  pub all_among : (block : List Stretch) (test : Bool) → AreOrdered area → MeetsBlock grid.axes area block → FitsAxes grid.axes block
      → (SetFits grid.axes set block → IsTrue test ↔ AllMembers grid.axes set block) → LiesAmong (IsAmong grid set) area → IsTrue test
  all_among block test ordered meets fits tells among =
      let corner = among (lows area) (lows_within area ordered) in
      (tells (record { size = corner.size; in_axes = fits })).1
      (λ at inside. let point = block_point grid cut area block width (four_of block fits) ordered meets at inside in
      let m = among point.0 point.1 in
      subst (IsMember grid.axes set) (holds_same grid.axes m.at at point.0 m.holds point.2) m.member)

  pub off_apart : IsOffHull grid.axes area → (s : List ℤ) → IsWithin area s → IsAmong grid set s → ⊥
  off_apart off s w m = off_hull grid cut area m.at s off w m.holds

  pub none_apart : (block : List Stretch) (test : Bool) → ClipsBlock grid.axes area block → FitsAxes grid.axes block
      → (SetFits grid.axes set block → IsTrue test ↔ NoMembers grid.axes set block) → IsTrue test → (s : List ℤ) → IsWithin area s → IsAmong grid set s → ⊥
  none_apart block test clips fits tells is s w m =
      (tells (record { size = m.size; in_axes = fits })).0 is m.at (clip_in grid cut area block width (four_of block fits) m.at s clips w m.holds) m.member
