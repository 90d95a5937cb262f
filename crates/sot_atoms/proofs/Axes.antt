-- The axes of a grid, and the places that a box meets on them.
use Rattle.std.proofs.Common.{◌≡◌, ℕ, zero, suc, ◌<◌, List, [], ◌∷◌, Some, None, subst, arith}
use Rattle.std.specs.Prelude.{slice_index_or}
use Rattle.std.proofs.lemmas.Option.{same_Some, none-some, slice_get-get_or}
use Rattle.sot_lists.specs.Places.{At}
use Rattle.sot_lists.proofs.Places.{at_same}
use Rattle.sot_box.specs.Sides.{Side}
use Rattle.sot_atoms.specs.declared.axis.Axis.{Axis}
use Rattle.sot_atoms.specs.declared.block.Stretch.{Stretch}
use Rattle.sot_atoms.specs.Places.{IsAxis}
use Rattle.sot_atoms.specs.Grids.{IsCut, IsGridAxis, MeetsPlaces, MeetsAxis, MeetsBlock, LeavesHull, on_axis, ClipsAxis, ClipsBlock, IsOffHull}

module _ (width last : ℕ) (axes : List Axis) (cut : IsCut width last axes) (k : ℕ) (d : Axis) (lt : k < 4) where
  pub axis_there : At axes k (slice_index_or axes k d)
  axis_there = slice_get-get_or axes k d (let f = cut.four in omega arith)

  pub axis_cut : IsAxis (slice_index_or axes k d)
  axis_cut = (cut.each k (slice_index_or axes k d) axis_there).0

  pub axis_side : (slice_index_or axes k d).side < width
  axis_side = (cut.each k (slice_index_or axes k d) axis_there).1

  pub axis_grid : IsGridAxis width last k (slice_index_or axes k d)
  axis_grid = cut.each k (slice_index_or axes k d) axis_there

  pub axis_some : 0 < (slice_index_or axes k d).size
  axis_some = axis_cut.some_place

-- what a box meets on an axis, of the axis and the side there
meets_at : (axes : List Axis) (box : List Side) (k : ℕ) (s : Stretch) → MeetsAxis axes box k (Some s) → (x : Axis) (r : Side) → At axes k x
    → At box x.side r → MeetsPlaces x r s
meets_at axes box k s m x r ax ar =
    let e : m.0 ≡ x = at_same axes k m.0 x m.2 ax in
    let at : At box x.side m.1 = subst (λ (y : Axis). At box y.side m.1) e m.3 in
    let f : m.1 ≡ r = at_same box x.side m.1 r at ar in
    subst (λ (q : Side). MeetsPlaces x q s) f (subst (λ (y : Axis). MeetsPlaces y m.1 s) e m.4)

pub leaves_hull : (axes : List Axis) (box : List Side) (k : ℕ) → MeetsAxis axes box k None → LeavesHull axes box
leaves_hull axes box k m = (k, m.0, m.1, m.2, m.3, m.4)

pub meets_block : (axes : List Axis) (box : List Side) (a b c d : Stretch) (block : List Stretch) → block ≡ a ∷ b ∷ c ∷ d ∷ []
    → MeetsAxis axes box 0 (Some a) → MeetsAxis axes box 1 (Some b) → MeetsAxis axes box 2 (Some c) → MeetsAxis axes box 3 (Some d)
    → MeetsBlock axes box block
meets_block axes box a b c d block is ma mb mc md k x r s ax ar as' = go k (subst (λ q. At q k s) is as') ax
  where
    go : (j : ℕ) → At (a ∷ b ∷ c ∷ d ∷ []) j s → At axes j x → MeetsPlaces x r s
    go zero at ax' = subst (λ q. MeetsPlaces x r q) (same_Some a s at) (meets_at axes box 0 a ma x r ax' ar)
    go (suc zero) at ax' = subst (λ q. MeetsPlaces x r q) (same_Some b s at) (meets_at axes box 1 b mb x r ax' ar)
    go (suc (suc zero)) at ax' = subst (λ q. MeetsPlaces x r q) (same_Some c s at) (meets_at axes box 2 c mc x r ax' ar)
    go (suc (suc (suc zero))) at ax' = subst (λ q. MeetsPlaces x r q) (same_Some d s at) (meets_at axes box 3 d md x r ax' ar)
    go (suc (suc (suc (suc j)))) at ax' = absurd (none-some s at)

-- the same of a box as far as it is on the axes
clips_at : (axes : List Axis) (box : List Side) (k : ℕ) (s : Stretch) → ClipsAxis axes box k (Some s) → (x : Axis) (r : Side) → At axes k x
    → At box x.side r → MeetsPlaces x (on_axis x r) s
clips_at axes box k s m x r ax ar =
    let e : m.0 ≡ x = at_same axes k m.0 x m.2 ax in
    let at : At box x.side m.1 = subst (λ (y : Axis). At box y.side m.1) e m.3 in
    let f : m.1 ≡ r = at_same box x.side m.1 r at ar in
    subst (λ (q : Side). MeetsPlaces x (on_axis x q) s) f (subst (λ (y : Axis). MeetsPlaces y (on_axis y m.1) s) e m.4)

pub off_hull : (axes : List Axis) (box : List Side) (k : ℕ) → ClipsAxis axes box k None → IsOffHull axes box
off_hull axes box k m = (k, m.0, m.1, m.2, m.3, m.4)

pub clips_block : (axes : List Axis) (box : List Side) (a b c d : Stretch) (block : List Stretch) → block ≡ a ∷ b ∷ c ∷ d ∷ []
    → ClipsAxis axes box 0 (Some a) → ClipsAxis axes box 1 (Some b) → ClipsAxis axes box 2 (Some c) → ClipsAxis axes box 3 (Some d)
    → ClipsBlock axes box block
clips_block axes box a b c d block is ma mb mc md k x r s ax ar as' = go k (subst (λ q. At q k s) is as') ax
  where
    go : (j : ℕ) → At (a ∷ b ∷ c ∷ d ∷ []) j s → At axes j x → MeetsPlaces x (on_axis x r) s
    go zero at ax' = subst (λ q. MeetsPlaces x (on_axis x r) q) (same_Some a s at) (clips_at axes box 0 a ma x r ax' ar)
    go (suc zero) at ax' = subst (λ q. MeetsPlaces x (on_axis x r) q) (same_Some b s at) (clips_at axes box 1 b mb x r ax' ar)
    go (suc (suc zero)) at ax' = subst (λ q. MeetsPlaces x (on_axis x r) q) (same_Some c s at) (clips_at axes box 2 c mc x r ax' ar)
    go (suc (suc (suc zero))) at ax' = subst (λ q. MeetsPlaces x (on_axis x r) q) (same_Some d s at) (clips_at axes box 3 d md x r ax' ar)
    go (suc (suc (suc (suc j)))) at ax' = absurd (none-some s at)
