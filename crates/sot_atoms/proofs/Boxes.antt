-- Boxes and blocks of a grid: which atoms a box meets, and which points a block has.
use Rattle.std.proofs.Common.{◌≡◌, ℕ, zero, suc, ◌+◌, ◌-◌, ◌*◌, ◌/◌, ◌^◌, min, ◌<◌, ◌≤◌, ◌⊎◌, inl, inr, ⊎_elim, List, [], ◌∷◌, length, ℤ, pos, negsuc, ◌+ℤ◌}
use Rattle.std.proofs.Common.{◌-ℤ◌, ◌≤ℤ◌, ◌<ℤ◌, ltb, eqb, refl, sym, ap, ap₂, ◌∙◌, subst, arith}
use Rattle.std.specs.Prelude.{slice_index_or, slice_set, take, Option, Some, MatchOption}
use Rattle.std.specs.Int.{int_max}
use Rattle.std.proofs.lemmas.Int.{ints, clamps}
use Rattle.std.proofs.lemmas.Nat.{mul-le}
use Rattle.std.proofs.lemmas.List.{get_or-set_same, get_or-set_other}
use Rattle.std.proofs.lemmas.Bool.{cond-true, cond-false, cases_lt, cases_eq, ne_eqb}
use Rattle.std.proofs.lemmas.Bool.Decides.{nat_tests}
use Rattle.std.proofs.lemmas.Option.{same_Some, none-some, get_or_from_slice_get, slice_get_within}
use Rattle.sot_lists.specs.Places.{At}
use Rattle.sot_lists.proofs.Places.{at_same, at_below}
use Rattle.sot_box.specs.Sides.{Side, IsIn, AreOrdered, nought}
use Rattle.sot_box.specs.Boxes.{IsWithin, lows, highs, point_box}
use Rattle.sot_box.specs.Sweep.{coordinate}
use Rattle.sot_box.proofs.Ranges.{within_read, lows_within}
use Rattle.sot_atoms.specs.declared.axis.Axis.{Axis}
use Rattle.sot_atoms.specs.declared.block.Stretch.{Stretch}
use Rattle.sot_atoms.specs.Places.{IsAxis, IsTight, HoldsNumber, start_of, end_of}
use Rattle.sot_atoms.specs.Blocks.{FitsAxes, IsInBlock, IsOneAtom, atom_count}
use Rattle.sot_atoms.specs.Grids.{Cut, IsCut, side_at, LeavesHull, MeetsPlaces, MeetsBlock, on_axis, IsOffHull, ClipsBlock, HasNumbers, AreNumbersOn}
use Rattle.sot_atoms.specs.Grids.{IsGrainOf, IsAreaOf, CutsHull, HoldsPoint, IsFinest}
use Rattle.sot_atoms.proofs.Places.{start_order, below_end, stretch_ordered, holds_number}
use Rattle.sot_atoms.proofs.Points.{end_is, places_ordered, fits_each, fits_at, in_block_each, in_block_at, holds_each, holds_any}

-- coordinates of a point in a box, and a point by its coordinates
pub within_coordinate : (b : List Side) (s : List ℤ) (i : ℕ) (r : Side) → IsWithin b s → At b i r → IsIn r (coordinate s i)
within_coordinate b s i r w at = subst (λ q. IsIn q (coordinate s i)) (get_or_from_slice_get b i r nought at) (within_read b s i w)

pub within_each : (b : List Side) (s : List ℤ) → length s ≡ length b → ((i : ℕ) (r : Side) → At b i r → IsIn r (coordinate s i)) → IsWithin b s
within_each [] [] same each = tt
within_each (r ∷ rs) (z ∷ zs) same each =
    let here = each zero r refl in (here.0, here.1, within_each rs zs (omega (arith, same)) (λ i. each (suc i)))
within_each [] (z ∷ zs) same each = absurd (omega (arith, same))
within_each (r ∷ rs) [] same each = absurd (omega (arith, same))

-- a box whose sides have one number each is the box of that point
pub point_is : (b : List Side) (s : List ℤ) → IsWithin b s → ((i : ℕ) (r : Side) → At b i r → r.hi ≤ℤ r.lo) → b ≡ point_box s
point_is [] [] w thin = refl
point_is (r ∷ rs) (z ∷ zs) w thin =
    let t = thin zero r refl in
    let lo : r.lo ≡ z = omega (arith, ints, t, w.0, w.1) in
    let hi : r.hi ≡ z = omega (arith, ints, t, w.0, w.1) in
    ap₂ (λ q qs. q ∷ qs) (ap₂ (λ x y. let q : Side = record { lo = x; hi = y } in q) lo hi) (point_is rs zs w.2 (λ i. thin (suc i)))
point_is [] (z ∷ zs) w thin = absurd w
point_is (r ∷ rs) [] w thin = absurd w

ordered_at : (b : List Side) (i : ℕ) (r : Side) → AreOrdered b → At b i r → r.lo ≤ℤ r.hi
ordered_at [] i r o at = absurd (none-some r at)
ordered_at (q ∷ qs) zero r o at = subst (λ (t : Side). t.lo ≤ℤ t.hi) (same_Some q r at) o.0
ordered_at (q ∷ qs) (suc i) r o at = ordered_at qs i r o.1 at

highs_within : (rs : List Side) → AreOrdered rs → IsWithin rs (highs rs)
highs_within [] o = tt
highs_within (r ∷ rs) o = (o.0, omega (arith, ints), highs_within rs o.1)

lows_at : (b : List Side) (i : ℕ) (r : Side) → At b i r → coordinate (lows b) i ≡ r.lo
lows_at [] i r at = absurd (none-some r at)
lows_at (q ∷ qs) zero r at = ap (λ (x : Side). x.lo) (same_Some q r at)
lows_at (q ∷ qs) (suc i) r at = lows_at qs i r at

highs_at : (b : List Side) (i : ℕ) (r : Side) → At b i r → coordinate (highs b) i ≡ r.hi
highs_at [] i r at = absurd (none-some r at)
highs_at (q ∷ qs) zero r at = ap (λ (x : Side). x.hi) (same_Some q r at)
highs_at (q ∷ qs) (suc i) r at = highs_at qs i r at

-- a number in a place is on the axis
end_low : (x : Axis) (a : ℕ) → IsAxis x → a < x.size → end_of x a ≤ℤ x.hi
end_low x a cut lt =
    ⊎_elim
    (λ (next : a + 1 < x.size). let e = end_is x a next in
    let o = start_order x (a + 1) (x.size - 1) (omega arith) in
    let f = cut.full in
    rw e (omega (arith, ints)))
    (λ (last : x.size ≤ a + 1).
    let e : end_of x a ≡ x.hi = cond-false (ltb (a + 1) x.size) (start_of x (a + 1) -ℤ pos 1) x.hi (grind (arith, nat_tests)) in
    rw e (omega (arith, ints)))
    (cases_lt (a + 1) x.size)

pub on_axis_of : (x : Axis) (a : ℕ) (z : ℤ) → IsAxis x → HoldsNumber x a z → (x.lo ≤ℤ z) × (z ≤ℤ x.hi)
on_axis_of x a z cut h =
    let e = end_low x a cut h.there in
    let o = start_order x 0 a (omega arith) in
    let s : start_of x 0 ≡ x.lo = omega (arith, ints) in
    (omega (arith, ints, h.from), omega (arith, ints, h.to))

end_order : (x : Axis) (a b : ℕ) → IsAxis x → a ≤ b → b < x.size → end_of x a ≤ℤ end_of x b
end_order x a b cut le lt =
    ⊎_elim
    (λ (next : a + 1 < x.size). let e = end_is x a next in
    rw e (below_end x b (start_of x (a + 1) -ℤ pos 1)
    (λ more. let o = start_order x (a + 1) (b + 1) (omega arith) in omega (arith, ints))
    (let o = start_order x (a + 1) (x.size - 1) (omega arith) in let f = cut.full in omega (arith, ints))))
    (λ (last : x.size ≤ a + 1). let e : b ≡ a = omega arith in subst (λ n. end_of x a ≤ℤ end_of x n) (sym e) (omega (arith, ints)))
    (cases_lt (a + 1) x.size)

-- each number on an axis is in a place
pub place_there : (x : Axis) (z : ℤ) → IsAxis x → x.lo ≤ℤ z → z ≤ℤ x.hi → (a : ℕ) × HoldsNumber x a z
place_there x z cut low high = from (z -ℤ x.lo) refl
  where
    from : (d : ℤ) → d ≡ z -ℤ x.lo → (a : ℕ) × HoldsNumber x a z
    from (pos n) e = (min (n / 2 ^ x.shift) (x.size - 1), holds_number x z n (min (n / 2 ^ x.shift) (x.size - 1)) cut e high refl)
    from (negsuc n) e = absurd (omega (arith, ints, e, low))

-- an axis of a grid has no more places than the grid has atoms
some_atom : (axes : List Axis) → ((k : ℕ) (x : Axis) → At axes k x → 0 < x.size) → 0 < atom_count axes
some_atom [] some = omega arith
some_atom (x ∷ xs) some =
    let m = mul-le 1 1 x.size (atom_count xs) (let s = some zero x refl in omega arith) (let s = some_atom xs (λ k. some (suc k)) in omega arith) in omega arith

few_places : (axes : List Axis) (k : ℕ) (x : Axis) → ((k : ℕ) (x : Axis) → At axes k x → 0 < x.size) → At axes k x → x.size ≤ atom_count axes
few_places [] k x some ax = absurd (none-some x ax)
few_places (y ∷ ys) zero x some ax =
    let m : y.size * 1 ≤ y.size * atom_count ys = mul-le y.size 1 y.size (atom_count ys) (omega arith)
    (let s = some_atom ys (λ k. some (suc k)) in omega arith) in
    subst (λ (t : Axis). t.size ≤ y.size * atom_count ys) (same_Some y x ax) (omega arith)
few_places (y ∷ ys) (suc k) x some ax =
    let m : 1 * atom_count ys ≤ y.size * atom_count ys = mul-le 1 (atom_count ys) y.size (atom_count ys) (let s = some zero y refl in omega arith)
    (omega arith) in
    let rest = few_places ys k x (λ j. some (suc j)) ax in
    omega arith

-- the places of an atom in a block, without a point
in_block_place : (block : List Stretch) (at : List ℕ) (k : ℕ) (q : Stretch) (a : ℕ) → IsInBlock block at → At block k q → At at k a
    → (q.from ≤ a) × (a ≤ q.to)
in_block_place [] at k q a inside aq aa = absurd (none-some q aq)
in_block_place (r ∷ rs) [] k q a inside aq aa = absurd inside
in_block_place (r ∷ rs) (b ∷ bs) zero q a inside aq aa =
    subst (λ (t : Stretch). (t.from ≤ a) × (a ≤ t.to)) (same_Some r q aq)
    (subst (λ n. (r.from ≤ n) × (n ≤ r.to)) (same_Some b a aa) (inside.0, inside.1))
in_block_place (r ∷ rs) (b ∷ bs) (suc k) q a inside aq aa = in_block_place rs bs k q a inside.2 aq aa

in_block_length : (block : List Stretch) (at : List ℕ) → IsInBlock block at → length at ≡ length block
in_block_length [] [] inside = refl
in_block_length (r ∷ rs) (a ∷ rest) inside = ap suc (in_block_length rs rest inside.2)
in_block_length [] (a ∷ rest) inside = absurd inside
in_block_length (r ∷ rs) [] inside = absurd inside

-- the place on axis k of an atom that holds a point
pub holds_at : (axes : List Axis) (at : List ℕ) (s : List ℤ) (k : ℕ) (x : Axis) → HoldsPoint axes at s → At axes k x
    → (a : ℕ) × At at k a × HoldsNumber x a (coordinate s x.side)
holds_at [] at s k x holds ax = absurd (none-some x ax)
holds_at (y ∷ ys) [] s k x holds ax = absurd holds
holds_at (y ∷ ys) (a ∷ rest) s zero x holds ax = (a, refl, subst (λ (t : Axis). HoldsNumber t a (coordinate s t.side)) (same_Some y x ax) holds.0)
holds_at (y ∷ ys) (a ∷ rest) s (suc k) x holds ax = holds_at ys rest s k x holds.1 ax

-- a point by its coordinates
chosen : (P : ℕ → ℤ → Type 0) (n : ℕ) → ((i : ℕ) → i < n → (z : ℤ) × P i z) → (s : List ℤ) × (length s ≡ n) × ((i : ℕ) → i < n → P i (coordinate s i))
chosen P zero each = ([], refl, λ i lt. absurd (omega (arith, lt)))
chosen P (suc n) each =
    let here = each zero (omega arith) in
    let rest = chosen (λ i z. P (suc i) z) n (λ i lt. each (suc i) (omega (arith, lt))) in
    (here.0 ∷ rest.0, ap suc rest.1, all here.0 rest.0 here.1 rest.2)
  where
    all : (z : ℤ) (zs : List ℤ) → P zero z → ((i : ℕ) → i < n → P (suc i) (coordinate zs i)) → (i : ℕ) → i < suc n → P i (coordinate (z ∷ zs) i)
    all z zs here rest zero lt = here
    all z zs here rest (suc i) lt = rest i (omega (arith, lt))

-- what is found of an answer that was found
pub matched : {A : Type 0} (o : Option A) (x : A) (None' : Type 0) (P : A → Type 0) → o ≡ Some x → MatchOption o None' P → P x
matched o x None' P e h = subst (λ q. MatchOption q None' P) e h

take_at : {A : Type 0} (n : ℕ) (xs : List A) (i : ℕ) (x : A) → At (take n xs) i x → At xs i x
take_at zero xs i x at = absurd (none-some x at)
take_at (suc n) [] i x at = absurd (none-some x at)
take_at (suc n) (y ∷ ys) zero x at = at
take_at (suc n) (y ∷ ys) (suc i) x at = take_at n ys i x at

-- which axis a side lies on
module _ (width last : ℕ) (few : width ≤ 4) (last_is : last < width) where
  side_last : side_at width last 3 ≡ last
  side_last = refl

  side_before : (k : ℕ) → k < 3 → k + width - 4 < last → side_at width last k ≡ k + width - 4
  side_before k lt below =
      cond-false (eqb k 3) last _ (ne_eqb k 3 (λ e. omega (arith, e, lt))) ∙ cond-true (ltb (k + width - 4) last) (k + width - 4) _ (grind (arith, nat_tests))

  side_behind : (k : ℕ) → k < 3 → last ≤ k + width - 4 → side_at width last k ≡ k + width - 4 + 1
  side_behind k lt behind =
      cond-false (eqb k 3) last _ (ne_eqb k 3 (λ e. omega (arith, e, lt))) ∙ cond-false (ltb (k + width - 4) last) (k + width - 4) _ (grind (arith, nat_tests))

  axis_of : (i : ℕ) → i < width → (k : ℕ) × (4 ≤ k + width) × (k < 4) × (side_at width last k ≡ i)
  axis_of i lt =
      ⊎_elim
      (λ (e : i ≡ last). (3, omega (arith, last_is), omega arith, sym e))
      (λ (ne : i ≡ last → ⊥). ⊎_elim
      (λ (below : i < last). (
        i + 4 - width,
        omega (arith, few),
        omega (arith, last_is, below),
        (let e : i + 4 - width + width - 4 ≡ i = omega (arith, few) in
            side_before (i + 4 - width) (omega (arith, last_is, below)) (omega (arith, e, below)) ∙ e),
      ))
      (λ (behind : last ≤ i). let more : last < i = above ne behind in (
        i + 3 - width,
        omega (arith, few, last_is, more),
        omega (arith, lt),
        (let e : i + 3 - width + width - 4 + 1 ≡ i = omega (arith, few, last_is, more) in
            side_behind (i + 3 - width) (omega (arith, lt)) (omega (arith, e, more)) ∙ e),
      ))
      (cases_lt i last))
      (cases_eq i last)
    where
      above : (i ≡ last → ⊥) → last ≤ i → last < i
      above ne behind = ⊎_elim (λ (h : last < i). h) (λ (h : i ≤ last). absurd (ne (omega (arith, h, behind)))) (cases_lt last i)

  -- what is known of the side on an axis before the last one
  early : (k i : ℕ) → k < 3 → side_at width last k ≡ i → ((k + width - 4 < last) × (i ≡ k + width - 4)) ⊎ ((last ≤ k + width - 4) × (i ≡ k + width - 4 + 1))
  early k i lt is =
      ⊎_elim (λ below. inl (below, sym is ∙ side_before k lt below)) (λ behind. inr (behind, sym is ∙ side_behind k lt behind)) (cases_lt (k + width - 4) last)

  axis_once : (j k i : ℕ) → j < 4 → k < 4 → 4 ≤ j + width → 4 ≤ k + width → side_at width last j ≡ i → side_at width last k ≡ i → j ≡ k
  axis_once j k i lj lk rj rk ij ik =
      ⊎_elim
      (λ (bj : j < 3). ⊎_elim
      (λ (bk : k < 3). ⊎_elim
      (λ a. ⊎_elim (λ b. omega (arith, a.1, b.1, rj, rk)) (λ b. omega (arith, a.0, a.1, b.0, b.1, rj, rk)) (early k i bk ik))
      (λ a. ⊎_elim (λ b. omega (arith, a.0, a.1, b.0, b.1, rj, rk)) (λ b. omega (arith, a.1, b.1, rj, rk)) (early k i bk ik))
      (early j i bj ij))
      (λ (ek : 3 ≤ k). let e : last ≡ i = at_last k ek lk ik in
      ⊎_elim (λ a. omega (arith, a.0, a.1, e)) (λ a. omega (arith, a.0, a.1, e)) (early j i bj ij)) (cases_lt k 3))
      (λ (ej : 3 ≤ j). let e : last ≡ i = at_last j ej lj ij in
      ⊎_elim
      (λ (bk : k < 3). ⊎_elim (λ a. omega (arith, a.0, a.1, e)) (λ a. omega (arith, a.0, a.1, e)) (early k i bk ik))
      (λ (ek : 3 ≤ k). omega (arith, ej, ek, lj, lk)) (cases_lt k 3))
      (cases_lt j 3)
    where
      at_last : (n : ℕ) → 3 ≤ n → n < 4 → side_at width last n ≡ i → last ≡ i
      at_last n low high is = (let e : n ≡ 3 = omega (arith, low, high) in subst (λ m. side_at width last m ≡ i) e is)

module _ (grid : Cut) (cut : IsCut grid.width grid.last grid.axes) where
  -- the axis on which a side lies, and no other one of those with sides
  side_axis : (i : ℕ) → i < grid.width → (k : ℕ) × (x : Axis) × (4 ≤ k + grid.width) × At grid.axes k x × (x.side ≡ i)
  side_axis i lt =
      let k = axis_of grid.width grid.last cut.few_sides cut.last_is i lt in
      let x = at_below grid.axes k.0 (omega (arith, k.2, cut.four)) in
      (k.0, x.0, k.1, x.1, ((cut.each k.0 x.0 x.1).2 k.1).0 ∙ k.3)

  side_axis_once : (j k : ℕ) (x y : Axis) → 4 ≤ j + grid.width → 4 ≤ k + grid.width → At grid.axes j x → At grid.axes k y → x.side ≡ y.side → j ≡ k
  side_axis_once j k x y rj rk ax ay same =
      axis_once grid.width grid.last cut.few_sides cut.last_is j k y.side
      (let l = slice_get_within grid.axes j x ax in let f = cut.four in omega (arith, l, f))
      (let l = slice_get_within grid.axes k y ay in let f = cut.four in omega (arith, l, f)) rj rk
      (sym (((cut.each j x ax).2 rj).0) ∙ same) (sym (((cut.each k y ay).2 rk).0))

  -- what is found on the axis of a side is so on any axis of the side
  pub numbers_on : (block : List Stretch) (k : ℕ) (x : Axis) (s : Stretch) (side : ℕ) (r : Side) → 4 ≤ k + grid.width → At grid.axes k x → At block k s
      → side_at grid.width grid.last k ≡ side → (s.from ≤ s.to → s.to < x.size → HasNumbers x s r) → AreNumbersOn grid block side r
  numbers_on block k x s side r real ax as' is has j y q real' ay aq same =
      let e : k ≡ j = side_axis_once k j x y real real' ax ay (((cut.each k x ax).2 real).0 ∙ is ∙ sym same) in
      let ex : x ≡ y = at_same grid.axes j x y (subst (λ n. At grid.axes n x) e ax) ay in
      let es : s ≡ q = at_same block j s q (subst (λ n. At block n s) e as') aq in
      subst (λ (t : Stretch). t.from ≤ t.to → t.to < y.size → HasNumbers y t r) es
      (subst (λ (t : Axis). s.from ≤ s.to → s.to < t.size → HasNumbers t s r) ex has)

  pub grain_on : (k : ℕ) (x : Axis) (side grain : ℕ) → 4 ≤ k + grid.width → At grid.axes k x → side_at grid.width grid.last k ≡ side → grain ≡ 2 ^ x.shift
      → IsGrainOf grid side grain
  grain_on k x side grain real ax is has j y real' ay same =
      let e : k ≡ j = side_axis_once k j x y real real' ax ay (((cut.each k x ax).2 real).0 ∙ is ∙ sym same) in
      let ex : x ≡ y = at_same grid.axes j x y (subst (λ n. At grid.axes n x) e ax) ay in
      subst (λ (t : Axis). grain ≡ 2 ^ t.shift) ex has

  -- the sides of a block's area, one after another
  pub numbers_more : (block : List Stretch) (sides : List Side) (n : ℕ) (r : Side) → n < length sides
      → ((j : ℕ) → j < n → AreNumbersOn grid block j (slice_index_or sides j nought)) → AreNumbersOn grid block n r
      → (j : ℕ) → j < n + 1 → AreNumbersOn grid block j (slice_index_or (slice_set sides n r) j nought)
  numbers_more block sides n r lt sofar here j below =
      ⊎_elim
      (λ (e : j ≡ n). subst (λ m. AreNumbersOn grid block m (slice_index_or (slice_set sides n r) m nought)) (sym e)
      (subst (AreNumbersOn grid block n) (sym (get_or-set_same sides n r nought lt)) here))
      (λ (ne : j ≡ n → ⊥). subst (AreNumbersOn grid block j) (sym (get_or-set_other sides n j r nought ne)) (sofar j (before ne)))
      (cases_eq j n)
    where
      before : (j ≡ n → ⊥) → j < n
      before ne = ⊎_elim (λ (h : j < n). h) (λ (h : n ≤ j). absurd (ne (omega (arith, h, below)))) (cases_lt j n)

  pub area_of : (block : List Stretch) (sides box : List Side) (n : ℕ) → box ≡ take n sides
      → ((j : ℕ) → j < n → AreNumbersOn grid block j (slice_index_or sides j nought)) → grid.width ≤ n → FitsAxes grid.axes block → IsAreaOf grid block box
  area_of block sides box n is all wide fits k x s r real ax as' ar =
      let at = take_at n sides x.side r (subst (λ b. At b x.side r) is ar) in
      let e = get_or_from_slice_get sides x.side r nought at in
      let f = fits_at grid.axes block k x s fits ax as' in
      subst (HasNumbers x s) e (all x.side (let l = (cut.each k x ax).1 in omega (arith, l, wide)) k x s real ax as' refl f.0 f.1)

  -- clipped blocks
  pub off_hull : (box : List Side) (at : List ℕ) (s : List ℤ) → IsOffHull grid.axes box → IsWithin box s → HoldsPoint grid.axes at s → ⊥
  off_hull box at s off w holds =
      let x = off.1 in
      let a = holds_at grid.axes at s off.0 x holds off.3 in
      let on = on_axis_of x a.0 (coordinate s x.side) (cut.each off.0 x off.3).0 a.2 in
      let i = within_coordinate box s x.side off.2 w off.4 in
      ⊎_elim (λ below. omega (arith, ints, below, on.0, i.1)) (λ above. omega (arith, ints, above, on.1, i.0)) off.5

  -- a box that leaves the hull has a point that no atom holds
  pub leaves_corner : (box : List Side) → length box ≡ grid.width → AreOrdered box → LeavesHull grid.axes box
      → ((s : List ℤ) → IsWithin box s → (at : List ℕ) × HoldsPoint grid.axes at s) → ⊥
  leaves_corner box width ordered leaves held =
      let x = leaves.1 in
      let r = leaves.2 in
      let g = (cut.each leaves.0 x leaves.3).0 in
      ⊎_elim
      (λ below. let h = held (lows box) (lows_within box ordered) in
      let a = holds_at grid.axes h.0 (lows box) leaves.0 x h.1 leaves.3 in
      let on = on_axis_of x a.0 (coordinate (lows box) x.side) g a.2 in
      let e = lows_at box x.side r leaves.4 in
      omega (arith, ints, below, on.0, e))
      (λ above. let h = held (highs box) (highs_within box ordered) in
      let a = holds_at grid.axes h.0 (highs box) leaves.0 x h.1 leaves.3 in
      let on = on_axis_of x a.0 (coordinate (highs box) x.side) g a.2 in
      let e = highs_at box x.side r leaves.4 in
      omega (arith, ints, above, on.1, e))
      leaves.5

  module _ (box : List Side) (block : List Stretch) (width : length box ≡ grid.width) (count : length block ≡ 4) where
    long : length block ≡ length grid.axes
    long = (let f = cut.four in omega (arith, f, count))

    side_there : (x : Axis) → x.side < grid.width → (r : Side) × At box x.side r
    side_there x lt = at_below box x.side (omega (arith, lt, width))

    pub clip_in : (at : List ℕ) (s : List ℤ) → ClipsBlock grid.axes box block → IsWithin box s → HoldsPoint grid.axes at s → IsInBlock block at
    clip_in at s clips w holds =
        in_block_each grid.axes block at s long holds
        (λ k x q a ax aq here. let g = cut.each k x ax in
        let r = side_there x g.1 in
        let m = clips k x r.0 q ax r.1 aq in
        let on = on_axis_of x a (coordinate s x.side) g.0 here in
        let i = within_coordinate box s x.side r.0 w r.1 in (
          places_ordered x q.from a (on_axis x r.0).lo (coordinate s x.side) m.first here (omega (arith, ints, clamps, on.0, i.0)),
          places_ordered x a q.to (coordinate s x.side) (on_axis x r.0).hi here m.last (omega (arith, ints, clamps, on.1, i.1)),
        ))

    pub clip_fits : AreOrdered box → ClipsBlock grid.axes box block → FitsAxes grid.axes block
    clip_fits ordered clips =
        fits_each grid.axes block long
        (λ k x q ax aq. let g = cut.each k x ax in
        let r = side_there x g.1 in
        let m = clips k x r.0 q ax r.1 aq in
        let lo = on_axis_of x q.from (on_axis x r.0).lo g.0 m.first in
        let hi = on_axis_of x q.to (on_axis x r.0).hi g.0 m.last in
        let o = ordered_at box x.side r.0 ordered r.1 in
        (places_ordered x q.from q.to _ _ m.first m.last (omega (arith, ints, clamps, lo.0, lo.1, hi.0, hi.1, o)), m.last.there))

    pub block_fits : AreOrdered box → MeetsBlock grid.axes box block → FitsAxes grid.axes block
    block_fits ordered meets =
        fits_each grid.axes block long
        (λ k x q ax aq. let g = cut.each k x ax in
        let r = side_there x g.1 in
        let m = meets k x r.0 q ax r.1 aq in
        (places_ordered x q.from q.to r.0.lo r.0.hi m.first m.last (ordered_at box x.side r.0 ordered r.1), m.last.there))

    -- a block that a box meets: each of its atoms holds a point of the box
    module _ (ordered : AreOrdered box) (meets : MeetsBlock grid.axes box block) (at : List ℕ) (inside : IsInBlock block at) where
      abbrev Fits : ℕ → ℤ → Type 0
      Fits i z =
          ((r : Side) → At box i r → IsIn r z)
          × ((k : ℕ) (x : Axis) (a : ℕ) → At grid.axes k x → At at k a → x.side ≡ i → HoldsNumber x a z)

      on_side : (i : ℕ) → i < grid.width → (z : ℤ) × Fits i z
      on_side i lt = (z, (fits_side, fits_axis))
        where
          found : (k : ℕ) × (x : Axis) × (4 ≤ k + grid.width) × At grid.axes k x × (x.side ≡ i)
          found = side_axis i lt

          x : Axis
          x = found.1

          g : IsAxis x
          g = (cut.each found.0 x found.3).0

          side : (r : Side) × At box i r
          side = at_below box i (omega (arith, lt, width))

          place : (a : ℕ) × At at found.0 a
          place = at_below at found.0 (let l = slice_get_within grid.axes found.0 x found.3 in let f = cut.four in
              let n = in_block_length block at inside in omega (arith, l, f, n, count))

          stretch : (q : Stretch) × At block found.0 q
          stretch = at_below block found.0 (let l = slice_get_within grid.axes found.0 x found.3 in let f = cut.four in omega (arith, l, f, count))

          m : MeetsPlaces x side.0 stretch.0
          m = meets found.0 x side.0 stretch.0 found.3 (subst (λ n. At box n side.0) (sym found.4) side.1) stretch.1

          in_stretch : (stretch.0.from ≤ place.0) × (place.0 ≤ stretch.0.to)
          in_stretch = in_block_place block at found.0 stretch.0 place.0 inside stretch.1 place.1

          z : ℤ
          z = int_max side.0.lo (start_of x place.0)

          high : z ≤ℤ side.0.hi
          high =
              let o = ordered_at box i side.0 ordered side.1 in
              let s = start_order x place.0 stretch.0.to in_stretch.1 in
              let l = m.last.from in
              omega (arith, ints, clamps, o, s, l)

          here : HoldsNumber x place.0 z
          here = record {
            there = (let l = m.last.there in omega (arith, l, in_stretch.1));
            from = omega (arith, ints, clamps);
            to =
                (let e = end_order x stretch.0.from place.0 g in_stretch.0 (let l = m.last.there in omega (arith, l, in_stretch.1)) in
                let s = stretch_ordered x place.0 place.0 g (omega arith) (let l = m.last.there in omega (arith, l, in_stretch.1)) in
                let f = m.first.to in
                omega (arith, ints, clamps, e, s, f));
          }

          fits_side : (r : Side) → At box i r → IsIn r z
          fits_side r ar = subst (λ (t : Side). IsIn t z) (at_same box i side.0 r side.1 ar) (omega (arith, ints, clamps), high)

          fits_axis : (k : ℕ) (y : Axis) (a : ℕ) → At grid.axes k y → At at k a → y.side ≡ i → HoldsNumber y a z
          fits_axis k y a ay aa same =
              ⊎_elim
              (λ (unused : k + grid.width < 4). let gy = cut.each k y ay in
              let one = gy.3 unused in
              let q = at_below block k (let l = slice_get_within grid.axes k y ay in let f = cut.four in omega (arith, l, f, count)) in
              let mm = meets k y side.0 q.0 ay (subst (λ n. At box n side.0) (sym same) side.1) q.1 in
              let lo = on_axis_of y q.0.from side.0.lo gy.0 mm.first in
              let hi = on_axis_of y q.0.to side.0.hi gy.0 mm.last in
              let p = in_block_place block at k q.0 a inside q.1 aa in
              let nought' : a ≡ 0 = (let l = mm.last.there in omega (arith, p.1, l, one)) in
              single y a nought' one (omega (arith, ints, clamps, lo.0)) (omega (arith, ints, hi.1, high)))
              (λ (real : 4 ≤ k + grid.width).
              let e : found.0 ≡ k = side_axis_once found.0 k x y found.2 real found.3 ay (found.4 ∙ sym same) in
              let ex : x ≡ y = at_same grid.axes k x y (subst (λ n. At grid.axes n x) e found.3) ay in
              let ea : place.0 ≡ a = at_same at k place.0 a (subst (λ n. At at n place.0) e place.1) aa in
              subst (λ n. HoldsNumber y n z) ea (subst (λ (t : Axis). HoldsNumber t place.0 z) ex here))
              (cases_lt (k + grid.width) 4)
            where
              single : (t : Axis) (n : ℕ) → n ≡ 0 → t.size ≡ 1 → t.lo ≤ℤ z → z ≤ℤ t.hi → HoldsNumber t n z
              single t n zero' one low high' = record {
                there = omega (arith, zero', one);
                from = subst (λ m'. start_of t m' ≤ℤ z) (sym zero') (omega (arith, ints, low));
                to =
                    subst (λ m'. z ≤ℤ end_of t m') (sym zero')
                    (below_end t 0 z (λ next. absurd (omega (arith, next, one))) high');
              }

      pub block_point : (s : List ℤ) × IsWithin box s × HoldsPoint grid.axes at s
      block_point =
          let s = chosen Fits grid.width on_side in (
            s.0,
            within_each box s.0 (s.1 ∙ sym width)
                (λ i r ar. (s.2 i (let l = slice_get_within box i r ar in omega (arith, l, width))).0 r ar),
            holds_each grid.axes block at s.0 long inside
                (λ k x q a ax aq aa lo hi. (s.2 x.side (cut.each k x ax).1).1 k x a ax aa refl),
          )

    -- the points of a block
    module _ (fits : FitsAxes grid.axes block) (area : IsAreaOf grid block box) where
      side_numbers : (i : ℕ) (r : Side) → At box i r → (k : ℕ) × (x : Axis) × (q : Stretch) × (4 ≤ k + grid.width) × At grid.axes k x × At block k q
          × (x.side ≡ i) × (r.lo ≡ start_of x q.from) × (r.hi ≡ end_of x q.to)
      side_numbers i r ar =
          let found = side_axis i (let l = slice_get_within box i r ar in omega (arith, l, width)) in
          let q = at_below block found.0 (let l = slice_get_within grid.axes found.0 found.1 found.3 in let f = cut.four in omega (arith, l, f, count)) in
          let n = area found.0 found.1 q.0 r found.2 found.3 q.1 (subst (λ m. At box m r) (sym found.4) ar) in
          (found.0, found.1, q.0, found.2, found.3, q.1, found.4, n.0, n.1)

      pub area_in : (at : List ℕ) (s : List ℤ) → IsInBlock block at → HoldsPoint grid.axes at s → length s ≡ grid.width → IsWithin box s
      area_in at s inside holds same =
          within_each box s (same ∙ sym width)
          (λ i r ar. let n = side_numbers i r ar in
          let x = n.1 in
          let q = n.2 in
          let h = in_block_at grid.axes block at s n.0 x q inside holds n.4 n.5 in
          let f = fits_at grid.axes block n.0 x q fits n.4 n.5 in
          let g = (cut.each n.0 x n.4).0 in
          let lo = start_order x q.from h.0 h.1 in
          let hi = end_order x h.0 q.to g h.2 f.1 in
          let from = h.3.from in
          let to = h.3.to in
          let e : coordinate s x.side ≡ coordinate s i = ap (coordinate s) n.6 in
          (omega (arith, ints, n.7, lo, from, e), omega (arith, ints, n.8, hi, to, e)))

      pub thin : IsFinest grid → IsOneAtom block → (i : ℕ) (r : Side) → At box i r → r.hi ≤ℤ r.lo
      thin finest one i r ar =
          let n = side_numbers i r ar in
          let x = n.1 in
          let q = n.2 in
          let f = fits_at grid.axes block n.0 x q fits n.4 n.5 in
          let o = one n.0 q n.5 in
          let same : q.from ≡ q.to = omega (arith, f.0, o) in
          let last = last_number x q.to f.1 (finest n.0 x n.3 n.4) (((cut.each n.0 x n.4).2 n.3).1)
          (let p = few_places grid.axes n.0 x (λ k y ay. (cut.each k y ay).0.some_place) n.4 in let c = cut.few_atoms in omega (arith, p, c)) in
          let lo : r.lo ≡ start_of x q.to = subst (λ m. r.lo ≡ start_of x m) same n.7 in
          omega (arith, ints, lo, n.8, last)
        where
          last_number : (x : Axis) (a : ℕ) → a < x.size → x.shift ≡ 0 → IsTight x → x.size ≤ 33554432 → end_of x a ≤ℤ start_of x a
          last_number x a lt unit tight few =
              ⊎_elim
              (λ (next : a + 1 < x.size). let e = end_is x a next in
              let p : 2 ^ x.shift ≡ 1 = subst (λ m. 2 ^ m ≡ 1) (sym unit) refl in
              rw e (rw p (omega (arith, ints))))
              (λ (last : x.size ≤ a + 1).
              let e : end_of x a ≡ x.hi = cond-false (ltb (a + 1) x.size) (start_of x (a + 1) -ℤ pos 1) x.hi (grind (arith, nat_tests)) in
              let p : 2 ^ x.shift ≡ 1 = subst (λ m. 2 ^ m ≡ 1) (sym unit) refl in
              let t : x.hi <ℤ (x.lo +ℤ pos (x.size * 1)) = subst (λ m. x.hi <ℤ (x.lo +ℤ pos (x.size * m))) p (tight few) in
              rw e (rw p (omega (arith, ints, t, last, lt))))
              (cases_lt (a + 1) x.size)

  -- each point of the hull is in an atom
  pub in_hull : (hull : List Side) (s : List ℤ) → CutsHull grid hull → length hull ≡ grid.width → IsWithin hull s → (at : List ℕ) × HoldsPoint grid.axes at s
  in_hull hull s cuts width w =
      holds_any grid.axes s
      (λ k x ax. let g = cut.each k x ax in
      let r = at_below hull x.side (omega (arith, g.1, width)) in
      let e = cuts k x ax r.0 r.1 in
      let i = within_coordinate hull s x.side r.0 w r.1 in
      place_there x (coordinate s x.side) g.0 (omega (arith, ints, e.0, i.0)) (omega (arith, ints, e.1, i.1)))
