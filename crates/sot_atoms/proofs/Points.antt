-- Atoms and the points that they hold.
use Rattle.std.proofs.Common.{◌≡◌, ℕ, zero, suc, ◌+◌, ◌-◌, ◌*◌, ◌^◌, ◌<◌, ◌≤◌, ◌⊎◌, inl, inr, ⊎_elim, List, [], ◌∷◌, length, ℤ, pos, ◌-ℤ◌}
use Rattle.std.proofs.Common.{◌≤ℤ◌, ◌<ℤ◌, ltb, refl, subst, arith}
use Rattle.std.proofs.lemmas.Int.{ints}
use Rattle.std.proofs.lemmas.Bool.{cond-true, cases_lt}
use Rattle.std.proofs.lemmas.Bool.Decides.{nat_tests}
use Rattle.std.proofs.lemmas.Option.{same_Some, none-some}
use Rattle.sot_lists.specs.Places.{At}
use Rattle.sot_box.specs.Sweep.{coordinate}
use Rattle.sot_atoms.specs.declared.axis.Axis.{Axis}
use Rattle.sot_atoms.specs.declared.block.Stretch.{Stretch}
use Rattle.sot_atoms.specs.Places.{HoldsNumber, start_of, end_of}
use Rattle.sot_atoms.specs.Blocks.{FitsAxes, IsInBlock}
use Rattle.sot_atoms.specs.Grids.{HoldsPoint}
use Rattle.sot_atoms.specs.Sets.{IsAtom}
use Rattle.sot_atoms.proofs.Places.{start_order}

-- a place that is not the last one ends before the next one begins
pub end_is : (x : Axis) (a : ℕ) → a + 1 < x.size → end_of x a ≡ start_of x (a + 1) -ℤ pos 1
end_is x a lt = cond-true (ltb (a + 1) x.size) (start_of x (a + 1) -ℤ pos 1) x.hi (grind (arith, nat_tests))

end_apart : (x : Axis) (a b : ℕ) → a < b → b < x.size → end_of x a <ℤ start_of x b
end_apart x a b lt there =
    let e = end_is x a (omega arith) in
    let o = start_order x (a + 1) b (omega arith) in
    rw e (omega (arith, ints))

-- of two numbers in order the places are in order
pub places_ordered : (x : Axis) (a b : ℕ) (y z : ℤ) → HoldsNumber x a y → HoldsNumber x b z → y ≤ℤ z → a ≤ b
places_ordered x a b y z hy hz le = ⊎_elim (λ (above : b < a). absurd (wrong above)) (λ (below : a ≤ b). below) (cases_lt b a)
  where
    wrong : b < a → ⊥
    wrong above = (let e = end_apart x b a above hy.there in omega (arith, ints, hy.from, hz.to))

pub place_same : (x : Axis) (a b : ℕ) (z : ℤ) → HoldsNumber x a z → HoldsNumber x b z → a ≡ b
place_same x a b z ha hb =
    let l = places_ordered x a b z z ha hb (omega (arith, ints)) in
    let g = places_ordered x b a z z hb ha (omega (arith, ints)) in
    omega arith

-- place by place
pub fits_each : (axes : List Axis) (block : List Stretch) → length block ≡ length axes
    → ((k : ℕ) (x : Axis) (r : Stretch) → At axes k x → At block k r → (r.from ≤ r.to) × (r.to < x.size)) → FitsAxes axes block
fits_each [] [] same each = tt
fits_each (x ∷ xs) (r ∷ rs) same each =
    let here = each zero x r refl refl in (here.0, here.1, fits_each xs rs (omega (arith, same)) (λ k. each (suc k)))
fits_each [] (r ∷ rs) same each = absurd (omega (arith, same))
fits_each (x ∷ xs) [] same each = absurd (omega (arith, same))

pub fits_at : (axes : List Axis) (block : List Stretch) (k : ℕ) (x : Axis) (r : Stretch) → FitsAxes axes block → At axes k x → At block k r
    → (r.from ≤ r.to) × (r.to < x.size)
fits_at [] block k x r fits ax ar = absurd (none-some x ax)
fits_at (y ∷ ys) [] k x r fits ax ar = absurd fits
fits_at (y ∷ ys) (s ∷ ss) zero x r fits ax ar =
    subst (λ (q : Axis). (r.from ≤ r.to) × (r.to < q.size)) (same_Some y x ax)
    (subst (λ (q : Stretch). (q.from ≤ q.to) × (q.to < y.size)) (same_Some s r ar) (fits.0, fits.1))
fits_at (y ∷ ys) (s ∷ ss) (suc k) x r fits ax ar = fits_at ys ss k x r fits.2 ax ar

pub fits_length : (axes : List Axis) (block : List Stretch) → FitsAxes axes block → length block ≡ length axes
fits_length [] [] fits = refl
fits_length (x ∷ xs) (r ∷ rs) fits = (let e = fits_length xs rs fits.2 in omega (arith, e))
fits_length [] (r ∷ rs) fits = absurd fits
fits_length (x ∷ xs) [] fits = absurd fits

-- an atom of which each place is in a block is in the block
pub in_block_each : (axes : List Axis) (block : List Stretch) (at : List ℕ) (s : List ℤ) → length block ≡ length axes → HoldsPoint axes at s
    → ((k : ℕ) (x : Axis) (r : Stretch) (a : ℕ) → At axes k x → At block k r → HoldsNumber x a (coordinate s x.side) → (r.from ≤ a) × (a ≤ r.to))
    → IsInBlock block at
in_block_each [] [] [] s same holds each = tt
in_block_each (x ∷ xs) (r ∷ rs) (a ∷ rest) s same holds each =
    let here = each zero x r a refl refl holds.0 in
    (here.0, here.1, in_block_each xs rs rest s (omega (arith, same)) holds.1 (λ k. each (suc k)))
in_block_each [] [] (a ∷ rest) s same holds each = absurd holds
in_block_each (x ∷ xs) (r ∷ rs) [] s same holds each = absurd holds
in_block_each [] (r ∷ rs) at s same holds each = absurd (omega (arith, same))
in_block_each (x ∷ xs) [] at s same holds each = absurd (omega (arith, same))

-- the place of an atom on axis k
pub in_block_at : (axes : List Axis) (block : List Stretch) (at : List ℕ) (s : List ℤ) (k : ℕ) (x : Axis) (r : Stretch) → IsInBlock block at
    → HoldsPoint axes at s → At axes k x → At block k r → (a : ℕ) × (r.from ≤ a) × (a ≤ r.to) × HoldsNumber x a (coordinate s x.side)
in_block_at [] block at s k x r inside holds ax ar = absurd (none-some x ax)
in_block_at (y ∷ ys) [] at s k x r inside holds ax ar = absurd (none-some r ar)
in_block_at (y ∷ ys) (q ∷ qs) [] s k x r inside holds ax ar = absurd inside
in_block_at (y ∷ ys) (q ∷ qs) (a ∷ rest) s zero x r inside holds ax ar =
    let ey = same_Some y x ax in
    let eq = same_Some q r ar in (
      a,
      subst (λ (t : Stretch). t.from ≤ a) eq inside.0,
      subst (λ (t : Stretch). a ≤ t.to) eq inside.1,
      subst (λ (t : Axis). HoldsNumber t a (coordinate s t.side)) ey holds.0,
    )
in_block_at (y ∷ ys) (q ∷ qs) (a ∷ rest) s (suc k) x r inside holds ax ar = in_block_at ys qs rest s k x r inside.2 holds.1 ax ar

-- an atom of a block holds a point where each of its places holds the coordinate
pub holds_each : (axes : List Axis) (block : List Stretch) (at : List ℕ) (s : List ℤ) → length block ≡ length axes → IsInBlock block at
    → ((k : ℕ) (x : Axis) (r : Stretch) (a : ℕ) → At axes k x → At block k r → At at k a → r.from ≤ a → a ≤ r.to → HoldsNumber x a (coordinate s x.side))
    → HoldsPoint axes at s
holds_each [] [] [] s same inside each = tt
holds_each (x ∷ xs) (r ∷ rs) (a ∷ rest) s same inside each =
    (each zero x r a refl refl refl inside.0 inside.1, holds_each xs rs rest s (omega (arith, same)) inside.2 (λ k. each (suc k)))
holds_each [] [] (a ∷ rest) s same inside each = absurd inside
holds_each (x ∷ xs) (r ∷ rs) [] s same inside each = absurd inside
holds_each [] (r ∷ rs) at s same inside each = absurd (omega (arith, same))
holds_each (x ∷ xs) [] at s same inside each = absurd (omega (arith, same))

-- a point of which each coordinate is in some place is in some atom
pub holds_any : (axes : List Axis) (s : List ℤ) → ((k : ℕ) (x : Axis) → At axes k x → (a : ℕ) × HoldsNumber x a (coordinate s x.side))
    → (at : List ℕ) × HoldsPoint axes at s
holds_any [] s each = ([], tt)
holds_any (x ∷ xs) s each =
    let here = each zero x refl in
    let rest = holds_any xs s (λ k. each (suc k)) in
    (here.0 ∷ rest.0, (here.1, rest.1))

-- what holds a point is an atom, and there is one
pub holds_atom : (axes : List Axis) (at : List ℕ) (s : List ℤ) → HoldsPoint axes at s → IsAtom axes at
holds_atom [] [] s holds = tt
holds_atom (x ∷ xs) (a ∷ rest) s holds = (holds.0.there, holds_atom xs rest s holds.1)
holds_atom [] (a ∷ rest) s holds = absurd holds
holds_atom (x ∷ xs) [] s holds = absurd holds

pub holds_same : (axes : List Axis) (at other : List ℕ) (s : List ℤ) → HoldsPoint axes at s → HoldsPoint axes other s → at ≡ other
holds_same [] [] [] s h h' = refl
holds_same (x ∷ xs) (a ∷ rest) (b ∷ more) s h h' =
    let e = place_same x a b (coordinate s x.side) h.0 h'.0 in
    let f = holds_same xs rest more s h.1 h'.1 in
    cc
holds_same [] (a ∷ rest) other s h h' = absurd h
holds_same [] [] (b ∷ more) s h h' = absurd h'
holds_same (x ∷ xs) [] other s h h' = absurd h
holds_same (x ∷ xs) (a ∷ rest) [] s h h' = absurd h'

-- an atom is in a block or it is not
pub is_in_block : (block : List Stretch) (at : List ℕ) → IsInBlock block at ⊎ (IsInBlock block at → ⊥)
is_in_block [] [] = inl tt
is_in_block [] (a ∷ rest) = inr (λ h. h)
is_in_block (r ∷ rs) [] = inr (λ h. h)
is_in_block (r ∷ rs) (a ∷ rest) =
    ⊎_elim
    (λ (below : a < r.from). inr (λ (g : IsInBlock (r ∷ rs) (a ∷ rest)). omega (arith, g.0, below)))
    (λ (low : r.from ≤ a). ⊎_elim
    (λ (above : r.to < a). inr (λ (g : IsInBlock (r ∷ rs) (a ∷ rest)). omega (arith, g.1, above)))
    (λ (high : a ≤ r.to). ⊎_elim (λ h. inl (low, high, h)) (λ (h : IsInBlock rs rest → ⊥). inr (λ (g : IsInBlock (r ∷ rs) (a ∷ rest)). h g.2))
    (is_in_block rs rest)) (cases_lt r.to a))
    (cases_lt a r.from)
