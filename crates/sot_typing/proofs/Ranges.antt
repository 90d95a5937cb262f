-- Scalars in which no rule fails: their scales, their ranges and their initial values.
use Rattle.std.proofs.Common.{List, [], ◌∷◌, map, ◌≡◌, ◌∙◌, ℕ, suc, ◌≤◌, ◌^◌, ◌==◌, nat_lt, ℤ, pos, ◌≤ℤ◌, ◌-ℤ◌, ◌+ℤ◌, nat_abs, int_lt, refl, sym, ap, subst}
use Rattle.std.proofs.Common.{true, false, Bool, not, ◌&&◌, ◌||◌, if◌then◌else◌, arith}
use Rattle.std.proofs.lemmas.Int.{ints}
use Rattle.std.proofs.lemmas.Bool.{false_from_ne_true}
use Rattle.sot_box.specs.Boxes.{IsWithin}
use Rattle.sot_lists.specs.Places.{At}
use Rattle.sot_text.specs.declared.token.Span.{Span}
use Rattle.sot_syntax_tree.specs.declared.tree.Lit.{Lit}
use Rattle.sot_syntax_tree.specs.declared.tree.Bounds.{Bounds}
use Rattle.sot_syntax_tree.specs.declared.tree.Scalar.{Scalar}
use Rattle.sot_syntax_tree.specs.declared.tree.Scalar.TheVariants.{Int, Fix, Bool as BoolScalar}
use Rattle.sot_syntax_tree.specs.declared.tree.Const.{Const}
use Rattle.sot_syntax_tree.specs.declared.tree.Const.TheVariants.{Number, Truth}
use Rattle.sot_lang.specs.TableRules.{IsNarrow}
use Rattle.sot_rules.specs.declared.fault.TypeKind.{TypeKind}
use Rattle.sot_rules.specs.declared.fault.TypeKind.TheVariants.{ScaleDiffers, KindDiffers, RangeEmpty, InitOutside, RangeWide}
use Rattle.sot_rules.specs.declared.expressions.sort.Sort.{Sort}
use Rattle.sot_rules.specs.declared.expressions.sort.Sort.TheVariants.{Scaled, Truthful, Anything}
use Rattle.sot_rules.specs.Sorts.{scale_sort, scalar_sort, differ, are_mixed, is_truthful}
use Rattle.sot_rules.specs.TreeSorts.{is_no_scale}
use Rattle.sot_rules.specs.Tests.{is_outside, sort_is}
use Rattle.sot_rules.specs.Fails.{BoundsFail, low_scale, high_scale, empty, wide, ScalarFails, no_scale, int_bounds, fix_bounds, StartFails, start_misfit}
use Rattle.sot_rules.specs.Fails.{start_outside, target_kind, target_scale}
use Rattle.sot_typing.proofs.Tests.{and_tail, same_number}
use Rattle.sot_typing.specs.Terms.{sort_scale}
use Rattle.sot_typing.specs.Resolved.{lowest, greatest, const_number, scalar_scale, is_truth}

-- a sort of an expression in which no rule fails: a truth value, or a number of at most 6 decimals
abbrev pub IsKnown : Sort → Type 0
IsKnown (Scaled s) = s ≤ 6
IsKnown Truthful = Unit {0}
IsKnown Anything = ⊥

pub scale_known : (d : Lit) → is_no_scale d ≡ false → (scale_sort d ≡ Scaled (nat_abs d.mantissa)) × (nat_abs d.mantissa ≤ 6)
scale_known d e = by (d.scale == 0) refl e
  where
    by : (b : Bool) → (d.scale == 0) ≡ b → (not b || nat_lt 6 (nat_abs d.mantissa)) ≡ false
        → (scale_sort d ≡ Scaled (nat_abs d.mantissa)) × (nat_abs d.mantissa ≤ 6)
    by true q e = (ap (λ b. if b then Scaled (nat_abs d.mantissa) else Anything) q, grind arith)
    by false q e = cc

-- a range of numbers
pub record IsRange (limited : Bool) (scale : ℕ) (b : Bounds) : Type 0 where
  pub low : b.lo.scale ≡ scale
  pub high : b.hi.scale ≡ scale
  pub ordered : b.lo.mantissa ≤ℤ b.hi.mantissa
  pub narrow : limited ≡ true → ((b.hi.mantissa -ℤ b.lo.mantissa) +ℤ pos 1) ≤ℤ pos (2 ^ 32)

not_empty : (s t : ℕ) (lo hi : ℤ) → s ≡ t → ((s == t) && int_lt hi lo) ≡ false → lo ≤ℤ hi
not_empty s t lo hi e h = grind (arith, ints)

not_wide : (s t : ℕ) (w limit : ℤ) → s ≡ t → ((s == t) && int_lt limit w) ≡ false → w ≤ℤ limit
not_wide s t w limit e h = not_empty s t w limit e h

pub range_is : (limited : Bool) (scale : ℕ) (b : Bounds) → ((at : Span) (k : TypeKind) → BoundsFail limited (Scaled scale) b at k → ⊥) → IsRange limited scale b
range_is limited scale b none =
    let low = same_number scale b.lo.scale (false_from_ne_true _ (λ e. none b.lo.at ScaleDiffers (low_scale e))) in
    let high = same_number scale b.hi.scale (false_from_ne_true _ (λ e. none b.hi.at ScaleDiffers (high_scale e))) in
    record {
      low = sym low;
      high = sym high;
      ordered = not_empty b.lo.scale b.hi.scale b.lo.mantissa b.hi.mantissa (sym low ∙ high) (false_from_ne_true _ (λ e. none b.lo.at RangeEmpty (empty e)));
      narrow =
          λ l. not_wide b.lo.scale b.hi.scale ((b.hi.mantissa -ℤ b.lo.mantissa) +ℤ pos 1) (pos (2 ^ 32)) (sym low ∙ high)
          (false_from_ne_true _ (λ e. none b.lo.at RangeWide (wide l e)));
    }

-- the type of a scalar
pub record IsTyping (limited : Bool) (s : Scalar) : Type 0 where
  pub scale : scalar_scale s ≤ 6
  pub known : IsKnown (scalar_sort s)
  pub ordered : lowest s ≤ℤ greatest s
  pub narrow : limited ≡ true → IsNarrow (lowest s) (greatest s)
  pub truth : is_truth s ≡ true → (lowest s ≡ pos 0) × (greatest s ≡ pos 1)

pub scalar_is : (limited : Bool) (s : Scalar) → ((at : Span) (k : TypeKind) → ScalarFails limited s at k → ⊥) → IsTyping limited s
scalar_is limited (Int b) none =
    let r = range_is limited 0 b (λ at k h. none at k (int_bounds h)) in
    record { scale = omega arith; known = omega arith; ordered = r.ordered; narrow = λ l. (r.ordered, r.narrow l); truth = λ e. cc }
scalar_is limited (Fix d b) none =
    let e = scale_known d (false_from_ne_true _ (λ e. none d.at ScaleDiffers (no_scale e))) in
    let r = range_is limited (nat_abs d.mantissa) b (λ at k h. none at k (fix_bounds (subst (λ s. BoundsFail limited s b at k) (sym e.0) h))) in
    record {
      scale = subst (λ s. sort_scale s ≤ 6) (sym e.0) e.1;
      known = subst IsKnown (sym e.0) e.1;
      ordered = r.ordered;
      narrow = λ l. (r.ordered, r.narrow l);
      truth = λ t. (let q : is_truthful (Scaled (nat_abs d.mantissa)) ≡ true = ap is_truthful (sym e.0) ∙ t in cc);
    }
scalar_is limited (BoolScalar at) none =
    record {
      scale = omega arith;
      known = tt;
      ordered = omega (arith, ints);
      narrow = λ l. (omega (arith, ints), omega (arith, ints));
      truth = λ e. (refl, refl);
    }

-- its initial value
inside : (s t u : ℕ) (lo hi z : ℤ) → s ≡ u → t ≡ u → (((s == u) && (t == u)) && (int_lt z lo || int_lt hi z)) ≡ false → (lo ≤ℤ z) × (z ≤ℤ hi)
inside s t u lo hi z p q h = (grind (arith, ints), grind (arith, ints))

starts : (n : ℕ) (b : Bounds) (l : Lit) (limited : Bool) → IsRange limited n b → n ≡ l.scale → ((n == l.scale) && is_outside b l) ≡ false
    → (b.lo.mantissa ≤ℤ l.mantissa) × (l.mantissa ≤ℤ b.hi.mantissa)
starts n b l limited r e h =
    inside b.lo.scale b.hi.scale l.scale b.lo.mantissa b.hi.mantissa l.mantissa (r.low ∙ e) (r.high ∙ e)
    (and_tail (n == l.scale) (is_outside b l) (grind arith) h)

pub start_is : (limited : Bool) (s : Scalar) (c : Const) → ((at : Span) (k : TypeKind) → ScalarFails limited s at k → ⊥)
    → ((at : Span) (k : TypeKind) → StartFails s c at k → ⊥) → (lowest s ≤ℤ const_number c) × (const_number c ≤ℤ greatest s)
start_is limited (Int b) (Number l) none never =
    starts 0 b l limited (range_is limited 0 b (λ at k h. none at k (int_bounds h)))
    (same_number 0 l.scale (false_from_ne_true _ (λ e. never l.at ScaleDiffers (start_misfit (target_scale e)))))
    (false_from_ne_true _ (λ e. never l.at InitOutside (start_outside e)))
start_is limited (Int b) (Truth v at) none never = absurd (never at KindDiffers (start_misfit (target_kind refl)))
start_is limited (Fix d b) (Number l) none never =
    let e = scale_known d (false_from_ne_true _ (λ e. none d.at ScaleDiffers (no_scale e))) in
    starts (nat_abs d.mantissa) b l limited
    (range_is limited (nat_abs d.mantissa) b (λ at k h. none at k (fix_bounds (subst (λ s. BoundsFail limited s b at k) (sym e.0) h))))
    (same_number (nat_abs d.mantissa) l.scale (ap (λ s. differ s (Scaled l.scale)) (sym e.0)
    ∙ false_from_ne_true _ (λ e. never l.at ScaleDiffers (start_misfit (target_scale e)))))
    (ap (λ s. sort_is s l.scale && is_outside b l) (sym e.0) ∙ false_from_ne_true _ (λ e. never l.at InitOutside (start_outside e)))
start_is limited (Fix d b) (Truth v at) none never =
    let e = scale_known d (false_from_ne_true _ (λ e. none d.at ScaleDiffers (no_scale e))) in
    absurd (never at KindDiffers (start_misfit (target_kind (ap (λ s. are_mixed s Truthful) e.0))))
start_is limited (BoolScalar w) (Number l) none never = absurd (never l.at KindDiffers (start_misfit (target_kind refl)))
start_is limited (BoolScalar w) (Truth true at) none never = (omega (arith, ints), omega (arith, ints))
start_is limited (BoolScalar w) (Truth false at) none never = (omega (arith, ints), omega (arith, ints))

-- all initial values are in their ranges
pub within_each : {A : Type 0} (lo hi init : A → ℤ) (xs : List A) → ((k : ℕ) (x : A) → At xs k x → (lo x ≤ℤ init x) × (init x ≤ℤ hi x))
    → IsWithin (map (λ x. record { lo = lo x; hi = hi x }) xs) (map init xs)
within_each lo hi init [] h = tt
within_each lo hi init (x ∷ xs) h = (let r = h 0 x refl in (r.0, r.1, within_each lo hi init xs (λ k y a. h (suc k) y a)))
