-- Ranges, scalars, initial values, periods and regions: their lists of faults have exactly the rules that fail in them.
use Rattle.std.proofs.Common.{◌≡◌, List, map, Option, Bool, true, false, ◌&&◌, refl}
use Rattle.std.specs.Prelude.{flat_map}
use Rattle.sot_text.specs.declared.token.Span.{Span}
use Rattle.sot_syntax_tree.specs.declared.tree.Lit.{Lit}
use Rattle.sot_syntax_tree.specs.declared.tree.Bounds.{Bounds}
use Rattle.sot_syntax_tree.specs.declared.tree.Scalar.{Scalar}
use Rattle.sot_syntax_tree.specs.declared.tree.Scalar.TheVariants.{Int, Fix, Bool as BoolScalar}
use Rattle.sot_syntax_tree.specs.declared.tree.Const.{Const}
use Rattle.sot_syntax_tree.specs.Trees.{Area}
use Rattle.sot_rules.specs.declared.fault.TypeKind.{TypeKind}
use Rattle.sot_rules.specs.declared.fault.TypeKind.TheVariants.{ScaleDiffers, KindDiffers, RangeEmpty, InitOutside, RangeWide, PeriodOutside}
use Rattle.sot_rules.specs.declared.expressions.sort.Sort.{Sort}
use Rattle.sot_rules.specs.declared.expressions.sort.Sort.TheVariants.{Scaled}
use Rattle.sot_rules.specs.Sorts.{scale_sort, scalar_sort, const_sort, differ}
use Rattle.sot_rules.specs.Names.{gives}
use Rattle.sot_rules.specs.TreeSorts.{has_decimals, is_no_scale}
use Rattle.sot_rules.specs.Tests.{is_empty, is_wide, starts_outside, const_place, is_off, is_late, has_other_width, sides_of}
use Rattle.sot_rules.specs.Fails.{BoundsFail, low_scale, high_scale, empty, wide, ScalarFails, no_scale, int_bounds, fix_bounds, StartFails, start_misfit}
use Rattle.sot_rules.specs.Fails.{start_outside, TimesFail, period_decimals, offset_decimals, period_off, offset_late, RegionFails, other_width, side}
use Rattle.sot_rules.specs.Fails.{many_boxes}
use Rattle.sot_rules.specs.Faults.{fault, when, bounds_lists, bounds_faults, scalar_faults, start_faults, times_lists, times_faults, target_faults, area_faults}
use Rattle.sot_rules.specs.Faults.{region_faults}
use Rattle.sot_rules.proofs.Members.{In, before, after, split, in_when, of_when, in_together, of_together, in_each, of_each}
use Rattle.sot_rules.proofs.ListFaults.{past_in, of_past}
use Rattle.sot_rules.proofs.TreeFaults.{target_in, of_target}

pub both_hold : (a b : Bool) → a ≡ true → b ≡ true → (a && b) ≡ true
both_hold true b p q = q
both_hold false b p q = p

pub one_holds : (a b : Bool) → (a && b) ≡ true → a ≡ true
one_holds true b h = refl
one_holds false b h = h

pub other_holds : (a b : Bool) → (a && b) ≡ true → b ≡ true
other_holds true b h = h
other_holds false b h = cc

pub bounds_in : (limited : Bool) (s : Sort) (b : Bounds) {at : Span} {k : TypeKind} → BoundsFail limited s b at k → In (fault at k) (bounds_faults limited s b)
bounds_in limited s b (low_scale h) = in_together _ (bounds_lists limited s b) 0 (in_when (differ s (Scaled b.lo.scale)) b.lo.at ScaleDiffers h)
bounds_in limited s b (high_scale h) = in_together _ (bounds_lists limited s b) 1 (in_when (differ s (Scaled b.hi.scale)) b.hi.at ScaleDiffers h)
bounds_in limited s b (empty h) = in_together _ (bounds_lists limited s b) 2 (in_when (is_empty b) b.lo.at RangeEmpty h)
bounds_in limited s b (wide l h) =
    in_together _ (bounds_lists limited s b) 3 (in_when (limited && is_wide b) b.lo.at RangeWide (both_hold limited (is_wide b) l h))

pub of_bounds : (limited : Bool) (s : Sort) (b : Bounds) (at : Span) (k : TypeKind) → In (fault at k) (bounds_faults limited s b) → BoundsFail limited s b at k
of_bounds limited s b at k h =
    of_together (BoundsFail limited s b at k) (fault at k) (bounds_lists limited s b) (
      of_when (BoundsFail limited s b) (differ s (Scaled b.lo.scale)) b.lo.at ScaleDiffers (λ q. low_scale q) at k,
      (
        of_when (BoundsFail limited s b) (differ s (Scaled b.hi.scale)) b.hi.at ScaleDiffers (λ q. high_scale q) at k,
        (
          of_when (BoundsFail limited s b) (is_empty b) b.lo.at RangeEmpty (λ q. empty q) at k,
          (
            of_when (BoundsFail limited s b) (limited && is_wide b) b.lo.at RangeWide
                (λ q. wide (one_holds limited (is_wide b) q) (other_holds limited (is_wide b) q)) at k,
            tt,
          ),
        ),
      ),
    )
    h

pub scalar_in : (limited : Bool) {s : Scalar} {at : Span} {k : TypeKind} → ScalarFails limited s at k → In (fault at k) (scalar_faults limited s)
scalar_in limited (no_scale {d = d} {b = b} h) = before _ (when (is_no_scale d) d.at ScaleDiffers) _ (in_when (is_no_scale d) d.at ScaleDiffers h)
scalar_in limited (int_bounds {b = b} h) = bounds_in limited (Scaled 0) b h
scalar_in limited (fix_bounds {d = d} {b = b} h) = after _ (when (is_no_scale d) d.at ScaleDiffers) _ (bounds_in limited (scale_sort d) b h)

pub of_scalar : (limited : Bool) (s : Scalar) (at : Span) (k : TypeKind) → In (fault at k) (scalar_faults limited s) → ScalarFails limited s at k
of_scalar limited (Int b) at k h = int_bounds (of_bounds limited (Scaled 0) b at k h)
of_scalar limited (Fix d b) at k h =
    split (fault at k) (when (is_no_scale d) d.at ScaleDiffers) _ h
    (of_when (ScalarFails limited (Fix d b)) (is_no_scale d) d.at ScaleDiffers (λ q. no_scale q) at k)
    (λ x. fix_bounds (of_bounds limited (scale_sort d) b at k x))
of_scalar limited (BoolScalar w) at k h = absurd h

pub start_in : (s : Scalar) (c : Const) {at : Span} {k : TypeKind} → StartFails s c at k → In (fault at k) (start_faults s c)
start_in s c (start_misfit h) =
    before _ (target_faults (gives (scalar_sort s)) (const_sort c) (const_place c)) _ (target_in (gives (scalar_sort s)) (const_sort c) (const_place c) h)
start_in s c (start_outside h) =
    after _ (target_faults (gives (scalar_sort s)) (const_sort c) (const_place c)) _ (in_when (starts_outside s c) (const_place c) InitOutside h)

pub of_start : (s : Scalar) (c : Const) (at : Span) (k : TypeKind) → In (fault at k) (start_faults s c) → StartFails s c at k
of_start s c at k h =
    split (fault at k) (target_faults (gives (scalar_sort s)) (const_sort c) (const_place c)) _ h
    (λ x. start_misfit (of_target (gives (scalar_sort s)) (const_sort c) (const_place c) at k x))
    (of_when (StartFails s c) (starts_outside s c) (const_place c) InitOutside (λ q. start_outside q) at k)

pub times_in : (period offset : Lit) {at : Span} {k : TypeKind} → TimesFail period offset at k → In (fault at k) (times_faults period offset)
times_in period offset (period_decimals h) = in_together _ (times_lists period offset) 0 (in_when (has_decimals period) period.at ScaleDiffers h)
times_in period offset (offset_decimals h) = in_together _ (times_lists period offset) 1 (in_when (has_decimals offset) offset.at ScaleDiffers h)
times_in period offset (period_off h) = in_together _ (times_lists period offset) 2 (in_when (is_off period) period.at PeriodOutside h)
times_in period offset (offset_late h) = in_together _ (times_lists period offset) 3 (in_when (is_late period offset) offset.at PeriodOutside h)

pub of_times : (period offset : Lit) (at : Span) (k : TypeKind) → In (fault at k) (times_faults period offset) → TimesFail period offset at k
of_times period offset at k h =
    of_together (TimesFail period offset at k) (fault at k) (times_lists period offset) (
      of_when (TimesFail period offset) (has_decimals period) period.at ScaleDiffers (λ q. period_decimals q) at k,
      (
        of_when (TimesFail period offset) (has_decimals offset) offset.at ScaleDiffers (λ q. offset_decimals q) at k,
        (
          of_when (TimesFail period offset) (is_off period) period.at PeriodOutside (λ q. period_off q) at k,
          (
            of_when (TimesFail period offset) (is_late period offset) offset.at PeriodOutside (λ q. offset_late q) at k,
            tt,
          ),
        ),
      ),
    )
    h

pub region_in : (width : Option (List Sort)) (boxes : List Area) {at : Span} {k : TypeKind} → RegionFails width boxes at k
    → In (fault at k) (region_faults width boxes)
region_in width boxes (other_width {b = b} m h) =
    before _ (flat_map (area_faults width) boxes) _ (in_each _ (area_faults width) boxes b m
    (before _ (when (has_other_width width b) b.at KindDiffers) _ (in_when (has_other_width width b) b.at KindDiffers h)))
region_in width boxes (side {b = b} {s = s} {r = r} m n h) =
    before _ (flat_map (area_faults width) boxes) _ (in_each _ (area_faults width) boxes b m
    (after _ (when (has_other_width width b) b.at KindDiffers) _
    (in_each _ (λ x. bounds_faults false x.0 x.1) (sides_of width b) (s, r) n (bounds_in false s r h))))
region_in width boxes (many_boxes {at = at} h) = after _ (flat_map (area_faults width) boxes) _ (past_in 256 (map (λ b. b.at) boxes) at h)

pub of_region : (width : Option (List Sort)) (boxes : List Area) (at : Span) (k : TypeKind) → In (fault at k) (region_faults width boxes)
    → RegionFails width boxes at k
of_region width boxes at k h =
    split (fault at k) (flat_map (area_faults width) boxes) _ h
    (λ x. of_each (fault at k) (area_faults width) boxes x
    (λ b m y. split (fault at k) (when (has_other_width width b) b.at KindDiffers) _ y
    (of_when (RegionFails width boxes) (has_other_width width b) b.at KindDiffers (λ q. other_width m q) at k)
    (λ z. of_each (fault at k) (λ x. bounds_faults false x.0 x.1) (sides_of width b) z (λ s n w. side m n (of_bounds false s.0 s.1 at k w)))))
    (of_past (RegionFails width boxes) 256 (map (λ b. b.at) boxes) (λ w q. many_boxes q) at k)
