-- Grains that are told side by side, and what is known where nothing is left.
use Rattle.std.proofs.Common.{◌≡◌, ℕ, zero, suc, ◌^◌, ◌<◌, ◌≤◌, ◌⊎◌, inl, inr, ⊎_elim, ℤ, pos, List, [], ◌∷◌, length, take, Result, Ok, Err, refl, sym}
use Rattle.std.proofs.Common.{◌∙◌, ap, subst, arith}
use Rattle.std.specs.Prelude.{slice_index}
use Rattle.std.specs.Result.{OkIff, result_unwrap_or}
use Rattle.std.proofs.lemmas.Bool.{cases_lt}
use Rattle.std.proofs.lemmas.List.{length-take-le}
use Rattle.std.proofs.lemmas.Option.{same_Some, none-some, slice_get_within}
use Rattle.sot_lists.specs.Places.{At}
use Rattle.sot_lists.proofs.Places.{at_same, at_below}
use Rattle.sot_box.specs.Sides.{Side}
use Rattle.sot_box.specs.Regions.{IsHull}
use Rattle.sot_lang.specs.declared.tables.ModuleInfo.{ModuleInfo}
use Rattle.sot_lang.specs.Tables.{Tables}
use Rattle.sot_atoms.specs.Grids.{Cut, IsCut, IsGrainOf, IsFinest, CutsHull}
use Rattle.sot_law_invariant_regions.specs.Following.{HasNoHeldRegion}
use Rattle.sot_invariant_atoms.specs.Asking.{Asked}
use Rattle.sot_invariant_atoms.specs.Greatest.{TellsNone}
use Rattle.sot_invariant_atoms.specs.Closed.{HasClosedSets}
use Rattle.sot_regions.specs.Grains.{IsUnitGrain, IsToldGrain, AreToldGrains, TellGrains, HasNoClosedSetAt}

-- 2 to a number is 1 at 0 alone
no_shift : (n : ℕ) → 1 ≡ 2 ^ n → n ≡ 0
no_shift zero one = refl
no_shift (suc n) one = absurd (omega (arith, one))

-- a grain that fits is told, and the greatest number in place of one that does not
told_as : {E : Type 0} (told : Result ℤ E) (P : Type 0) (grain : ℕ) → OkIff told P (pos grain) → (grain ≤ 9223372036854775807 → P)
    → (result_unwrap_or told (pos 9223372036854775807) ≡ pos grain)
    ⊎ ((result_unwrap_or told (pos 9223372036854775807) ≡ pos 9223372036854775807) × (9223372036854775807 < grain))
told_as (Ok z) P grain is fits = inl is.1
told_as (Err e) P grain is fits =
    ⊎_elim (λ (above : 9223372036854775807 < grain). inr (refl, above)) (λ (below : grain ≤ 9223372036854775807). absurd (is (fits below)))
    (cases_lt 9223372036854775807 grain)

pub told_on : {E : Type 0} (grid : Cut) (side grain : ℕ) (told : Result ℤ E) (P : Type 0) (g : ℤ) → IsGrainOf grid side grain → OkIff told P (pos grain)
    → (grain ≤ 9223372036854775807 → P) → result_unwrap_or told (pos 9223372036854775807) ≡ g → IsToldGrain grid side g
told_on grid side grain told P g is ok fits same k x four at here =
    subst (λ n. (g ≡ pos n) ⊎ ((g ≡ pos 9223372036854775807) × (9223372036854775807 < n))) (is k x four at here)
    (subst (λ z. (z ≡ pos grain) ⊎ ((z ≡ pos 9223372036854775807) × (9223372036854775807 < grain))) same (told_as told P grain ok fits))

-- what stands in the front of a list stands in the list
front_at : {A : Type 0} (n : ℕ) (xs : List A) (i : ℕ) (x : A) → At (take n xs) i x → At xs i x
front_at zero xs i x at = absurd (none-some x at)
front_at (suc n) [] i x at = absurd (none-some x at)
front_at (suc n) (y ∷ ys) zero x at = at
front_at (suc n) (y ∷ ys) (suc i) x at = front_at n ys i x at

-- all sides
pub all_told : (grid : Cut) (grains told : List ℤ) → TellGrains grid grid.width grains → grid.width ≤ length grains → told ≡ take grid.width grains
    → AreToldGrains grid told
all_told grid grains told tell long is = record {
  count = count;
  each = λ side g at. tell side g (let l = slice_get_within told side g at in omega (arith, l, count))
      (front_at grid.width grains side g (subst (λ l. At l side g) is at));
}
  where
    count : length told ≡ grid.width
    count = ap length is ∙ length-take-le grid.width grains long

-- of grains that are all 1 each one is
unit_at : (grains : List ℤ) (side : ℕ) (g : ℤ) → IsUnitGrain grains → At grains side g → g ≡ pos 1
unit_at [] side g unit at = absurd (none-some g at)
unit_at (d ∷ ds) zero g unit at = sym (same_Some d g at) ∙ unit zero d (omega arith)
unit_at (d ∷ ds) (suc side) g unit at = unit_at ds side g (λ k e there. unit (suc k) e (omega (arith, there))) at

-- so each atom is one point
pub unit_finest : (grid : Cut) (grains : List ℤ) → IsCut grid.width grid.last grid.axes → AreToldGrains grid grains → IsUnitGrain grains → IsFinest grid
unit_finest grid grains cut told unit k x four at =
    let g = at_below grains x.side (let l = (cut.each k x at).1 in let c = told.count in omega (arith, l, c)) in
    let one = unit_at grains x.side g.0 unit g.1 in
    ⊎_elim (λ is. no_shift x.shift (pos_one x.shift (sym one ∙ is))) (λ great. absurd (let e = sym one ∙ great.0 in cc)) (told.each x.side g.0 g.1 k x four at refl)
  where
    pos_one : (n : ℕ) → pos 1 ≡ pos (2 ^ n) → 1 ≡ 2 ^ n
    pos_one n e = cc

module _ (p : Tables) (jitter m : ℕ) (q : Asked) (a info : ModuleInfo) (grid : Cut) (set : List ℕ) (hull : List Side) (program : q.program ≡ p)
    (is_jitter : q.jitter ≡ jitter) (at_q : At p.modules m q.info) (at_a : At p.modules m a) (at : At p.modules m info) (is : IsHull a.safe.boxes hull)
    (cuts : CutsHull grid hull) (width : grid.width ≡ length hull) (none : (k : ℕ) → 0 ≤ k → slice_index set k ≡ 1 → ⊥) where
  -- what is known of the question is known of the program and the module
  here : (P : Tables → ℕ → ModuleInfo → Type 0) → P q.program q.jitter q.info → P p jitter info
  here P known =
      subst (λ (x : ModuleInfo). P p jitter x) (at_same p.modules m q.info info at_q at)
      (subst (λ (n : ℕ). P p n q.info) is_jitter (subst (λ (t : Tables). P t q.jitter q.info) program known))

  is_hull : IsHull info.safe.boxes hull
  is_hull = subst (λ (x : ModuleInfo). IsHull x.safe.boxes hull) (at_same p.modules m a info at_a at) is

  -- where nothing is left on a grid of one unit of the safe region's hull, no held region lies in it
  pub nothing_left : IsFinest grid → TellsNone q.program q.jitter q.info grid set → HasNoHeldRegion p jitter info
  nothing_left finest tells =
      here (λ t n x. TellsNone t n x grid set) tells
      (record { hull = hull; is = is_hull; cuts = cuts; width = sym width; finest = finest })
      (λ k. none k (omega arith))

  -- at each grain no closed set of atoms does
  pub none_closed : (grains : List ℤ) → IsCut grid.width grid.last grid.axes → AreToldGrains grid grains
      → HasClosedSets q.program q.jitter q.info grid set → HasNoClosedSetAt p jitter info grains
  none_closed grains cut told has = (
    grid,
    record { hull = hull; is = is_hull; cut = cut; cuts = cuts; width = sym width; grains = told },
    λ closed at_closed is_closed lies atom member.
        none _ (omega arith) (here (λ t n x. HasClosedSets t n x grid set) has closed is_closed lies at_closed atom member),
  )
