-- The truth values that comparisons and connectives can have.
use Rattle.std.proofs.Common.{◌≡◌, ℤ, pos, ◌≤ℤ◌, Bool, true, false, ⊎_elim, refl, sym, ap, ap₂, ◌∙◌, subst, arith}
use Rattle.std.specs.Prelude.{int_lt, int_le, ◌&&◌, ◌||◌, not}
use Rattle.std.specs.Int.{int_max}
use Rattle.std.proofs.lemmas.Bool.{cases_Bool, and_parts, and_from, or_from, or_parts, not-true, not-false, and_cases, or_cases, or_right, and_left, and_right}
use Rattle.std.proofs.lemmas.Bool.{or_left}
use Rattle.std.proofs.lemmas.Int.{ints, clamps}
use Rattle.sot_box.specs.Sides.{Side, IsIn}
use Rattle.sot_syntax_tree.specs.declared.operator.Op.{Op}
use Rattle.sot_lang.specs.Values.{truth, is_true}
use Rattle.sot_iv.specs.TermIntervals.{IsLeast, IsResult, CanBe, result}
use Rattle.sot_iv.specs.Ends.{truths, holds_zero, is_always, is_ever}
use Rattle.sot_iv.proofs.Least.{IsOrdered, low_in, high_in}
use Rattle.sot_lang.proofs.Owners.{true_of_ne}

pub truth_between : (u v w : Bool) → (u ≡ true → v ≡ true) → (w ≡ false → v ≡ false) → IsIn (truths u w) (truth v)
truth_between true true true a b = (omega (arith, ints), omega (arith, ints))
truth_between true true false a b = absurd (let e = b refl in cc)
truth_between true false w a b = absurd (let e = a refl in cc)
truth_between false true true a b = (omega (arith, ints), omega (arith, ints))
truth_between false true false a b = absurd (let e = b refl in cc)
truth_between false false true a b = (omega (arith, ints), omega (arith, ints))
truth_between false false false a b = (omega (arith, ints), omega (arith, ints))

-- whether a test holds of all pairs from two intervals, and whether of some
pub record Decides (t : ℤ → ℤ → Bool) (x y : Side) (always ever : Bool) : Type 0 where
  pub low : (a : ℤ) × (b : ℤ) × IsIn x a × IsIn y b × (t a b ≡ always)
  pub high : (a : ℤ) × (b : ℤ) × IsIn x a × IsIn y b × (t a b ≡ ever)
  pub all : (a b : ℤ) → IsIn x a → IsIn y b → always ≡ true → t a b ≡ true
  pub none : (a b : ℤ) → IsIn x a → IsIn y b → ever ≡ false → t a b ≡ false

pub decides_least : (op : Op) (t : ℤ → ℤ → Bool) (x y : Side) (u w : Bool) → ((a b : ℤ) → result op a b ≡ truth (t a b)) → Decides t x y u w
    → IsLeast (IsResult op x y) (truths u w)
decides_least op t x y u w is d = record {
  holds =
      λ z r. subst (IsIn (truths u w)) (sym (r.is ∙ is r.a r.b)) (truth_between u (t r.a r.b) w (d.all r.a r.b r.a_in r.b_in) (d.none r.a r.b r.a_in r.b_in));
  low = record { a = d.low.0; b = d.low.1; a_in = d.low.2; b_in = d.low.3; is = ap truth (sym d.low.4) ∙ sym (is d.low.0 d.low.1) };
  high = record { a = d.high.0; b = d.high.1; a_in = d.high.2; b_in = d.high.3; is = ap truth (sym d.high.4) ∙ sym (is d.high.0 d.high.1) };
}

decides_not : (t : ℤ → ℤ → Bool) (x y : Side) (u w : Bool) → Decides t x y u w → Decides (λ a b. not (t a b)) x y (not w) (not u)
decides_not t x y u w d = record {
  low = (d.high.0, d.high.1, d.high.2, d.high.3, ap not d.high.4);
  high = (d.low.0, d.low.1, d.low.2, d.low.3, ap not d.low.4);
  all = λ a b i j e. ap not (d.none a b i j (not-true w e));
  none = λ a b i j e. ap not (d.all a b i j (not-false u e));
}

pub less_decides : (x y : Side) → IsOrdered x → IsOrdered y → Decides (λ a b. int_lt a b) x y (int_lt x.hi y.lo) (int_lt x.lo y.hi)
less_decides x y xo yo = record {
  low = (x.hi, y.lo, high_in x xo, low_in y yo, refl);
  high = (x.lo, y.hi, low_in x xo, high_in y yo, refl);
  all = λ a b i j e. grind (arith, ints, i.1, j.0, e);
  none = λ a b i j e. grind (arith, ints, i.0, j.1, e);
}

pub at_most_decides : (x y : Side) → IsOrdered x → IsOrdered y → Decides (λ a b. int_le a b) x y (int_le x.hi y.lo) (int_le x.lo y.hi)
at_most_decides x y xo yo = record {
  low = (x.hi, y.lo, high_in x xo, low_in y yo, refl);
  high = (x.lo, y.hi, low_in x xo, high_in y yo, refl);
  all = λ a b i j e. grind (arith, ints, i.1, j.0, e);
  none = λ a b i j e. grind (arith, ints, i.0, j.1, e);
}

-- the operands change places
pub decides_swap : (t : ℤ → ℤ → Bool) (x y : Side) (u w : Bool) → Decides t y x u w → Decides (λ a b. t b a) x y u w
decides_swap t x y u w d = record {
  low = (d.low.1, d.low.0, d.low.3, d.low.2, d.low.4);
  high = (d.high.1, d.high.0, d.high.3, d.high.2, d.high.4);
  all = λ a b i j e. d.all b a j i e;
  none = λ a b i j e. d.none b a j i e;
}

module _ (x y : Side) (xo : IsOrdered x) (yo : IsOrdered y) where
  all_equal : (a b : ℤ) → IsIn x a → IsIn y b → (int_le x.hi y.lo && int_le y.hi x.lo) ≡ true → (int_le a b && int_le b a) ≡ true
  all_equal a b i j e =
      let p = and_parts (int_le x.hi y.lo) (int_le y.hi x.lo) e in
      let p0 = p.0 in
      let p1 = p.1 in
      let u : int_le a b ≡ true = grind (arith, ints, i.1, j.0, p0) in
      let v : int_le b a ≡ true = grind (arith, ints, i.0, j.1, p1) in
      and_from _ _ u v

  none_equal : (a b : ℤ) → IsIn x a → IsIn y b → (int_le x.lo y.hi && int_le y.lo x.hi) ≡ false → (int_le a b && int_le b a) ≡ false
  none_equal a b i j e =
      ⊎_elim
      (λ f. let u : int_le a b ≡ false = grind (arith, ints, i.0, j.1, f) in and_left (int_le a b) (int_le b a) u)
      (λ f. let u : int_le b a ≡ false = grind (arith, ints, i.1, j.0, f) in and_right (int_le a b) (int_le b a) u)
      (and_cases (int_le x.lo y.hi) (int_le y.lo x.hi) e)

  common : ℤ
  common = int_max x.lo y.lo

  pub equal_decides : Decides (λ a b. int_le a b && int_le b a) x y (int_le x.hi y.lo && int_le y.hi x.lo) (int_le x.lo y.hi && int_le y.lo x.hi)
  equal_decides = record {
    low = ⊎_elim
        (λ t. (x.lo, y.lo, low_in x xo, low_in y yo, all_equal x.lo y.lo (low_in x xo) (low_in y yo) t ∙ sym t))
        (λ f. ⊎_elim
        (λ g. (x.hi, y.lo, high_in x xo, low_in y yo, and_left (int_le x.hi y.lo) (int_le y.lo x.hi) g ∙ sym f))
        (λ g. (x.lo, y.hi, low_in x xo, high_in y yo, and_right (int_le x.lo y.hi) (int_le y.hi x.lo) g ∙ sym f))
        (and_cases (int_le x.hi y.lo) (int_le y.hi x.lo) f))
        (cases_Bool (int_le x.hi y.lo && int_le y.hi x.lo));
    high = ⊎_elim
        (λ t.
        let p = and_parts (int_le x.lo y.hi) (int_le y.lo x.hi) t in
        let p0 : x.lo ≤ℤ y.hi = (let h = p.0 in grind (arith, ints, h)) in
        let p1 : y.lo ≤ℤ x.hi = (let h = p.1 in grind (arith, ints, h)) in
        let m : ℤ = int_max x.lo y.lo in
        let same : int_le m m ≡ true = grind (arith, ints) in (
          m,
          m,
          (omega (arith, ints, clamps), omega (arith, ints, clamps, xo, p1)),
          (omega (arith, ints, clamps), omega (arith, ints, clamps, yo, p0)),
          and_from _ _ same same ∙ sym t,
        ))
        (λ f. (x.lo, y.lo, low_in x xo, low_in y yo, none_equal x.lo y.lo (low_in x xo) (low_in y yo) f ∙ sym f))
        (cases_Bool (int_le x.lo y.hi && int_le y.lo x.hi));
    all = all_equal;
    none = none_equal;
  }

  pub unequal_decides : Decides (λ a b. not (int_le a b && int_le b a)) x y (not (int_le x.lo y.hi && int_le y.lo x.hi))
      (not (int_le x.hi y.lo && int_le y.hi x.lo))
  unequal_decides = decides_not _ x y _ _ equal_decides

false_of_zero : (z : ℤ) → z ≡ pos 0 → is_true z ≡ false
false_of_zero z e = ap is_true e

-- the truth values of the numbers of an interval
pub record Sees (x : Side) : Type 0 where
  pub low : (a : ℤ) × IsIn x a × (is_true a ≡ is_always x)
  pub high : (a : ℤ) × IsIn x a × (is_true a ≡ is_ever x)
  pub all : (a : ℤ) → IsIn x a → is_always x ≡ true → is_true a ≡ true
  pub none : (a : ℤ) → IsIn x a → is_ever x ≡ false → is_true a ≡ false

not_both : true ≡ false → ⊥
not_both e = cc

no_zero : (x : Side) (a : ℤ) → IsIn x a → holds_zero x ≡ false → a ≡ pos 0 → ⊥
no_zero x a i f e =
    ⊎_elim
    (λ g. let n : int_le x.lo (pos 0) ≡ true = grind (arith, ints, i.0, e) in not_both (sym n ∙ g))
    (λ g. let n : int_le (pos 0) x.hi ≡ true = grind (arith, ints, i.1, e) in not_both (sym n ∙ g))
    (and_cases (int_le x.lo (pos 0)) (int_le (pos 0) x.hi) f)

only_zero : (x : Side) (a : ℤ) → IsIn x a → (int_le (pos 0) x.lo && int_le x.hi (pos 0)) ≡ true → a ≡ pos 0
only_zero x a i t =
    let p = and_parts (int_le (pos 0) x.lo) (int_le x.hi (pos 0)) t in
    let p0 : pos 0 ≤ℤ x.lo = (let h = p.0 in grind (arith, ints, h)) in
    let p1 : x.hi ≤ℤ pos 0 = (let h = p.1 in grind (arith, ints, h)) in
    omega (arith, ints, p0, p1, i.0, i.1)

pub sees : (x : Side) → IsOrdered x → Sees x
sees x o = record {
  low = ⊎_elim
      (λ t.
      let p = and_parts (int_le x.lo (pos 0)) (int_le (pos 0) x.hi) t in
      let p0 : x.lo ≤ℤ pos 0 = (let h = p.0 in grind (arith, ints, h)) in
      let p1 : pos 0 ≤ℤ x.hi = (let h = p.1 in grind (arith, ints, h)) in
      (pos 0, (p0, p1), ap not (sym t)))
      (λ f. (x.lo, low_in x o, true_of_ne x.lo (no_zero x x.lo (low_in x o) f) ∙ ap not (sym f)))
      (cases_Bool (holds_zero x));
  high = ⊎_elim
      (λ t. (x.lo, low_in x o, false_of_zero x.lo (only_zero x x.lo (low_in x o) t) ∙ ap not (sym t)))
      (λ f. ⊎_elim
      (λ g. (x.lo, low_in x o, true_of_ne x.lo (λ e. let n : int_le (pos 0) x.lo ≡ true = grind (arith, ints, e) in not_both (sym n ∙ g)) ∙ ap not (sym f)))
      (λ g. (x.hi, high_in x o, true_of_ne x.hi (λ e. let n : int_le x.hi (pos 0) ≡ true = grind (arith, ints, e) in not_both (sym n ∙ g)) ∙ ap not (sym f)))
      (and_cases (int_le (pos 0) x.lo) (int_le x.hi (pos 0)) f))
      (cases_Bool (int_le (pos 0) x.lo && int_le x.hi (pos 0)));
  all = λ a i e. true_of_ne a (no_zero x a i (not-true _ e));
  none = λ a i e. false_of_zero a (only_zero x a i (not-false _ e));
}

pub and_decides : (x y : Side) → Sees x → Sees y → Decides (λ a b. is_true a && is_true b) x y (is_always x && is_always y) (is_ever x && is_ever y)
and_decides x y s t = record {
  low = (s.low.0, t.low.0, s.low.1, t.low.1, ap₂ (λ a b. a && b) s.low.2 t.low.2);
  high = (s.high.0, t.high.0, s.high.1, t.high.1, ap₂ (λ a b. a && b) s.high.2 t.high.2);
  all = λ a b i j e. let p = and_parts (is_always x) (is_always y) e in and_from _ _ (s.all a i p.0) (t.all b j p.1);
  none =
      λ a b i j e. ⊎_elim (λ f. and_left (is_true a) (is_true b) (s.none a i f)) (λ f. and_right (is_true a) (is_true b) (t.none b j f))
      (and_cases (is_ever x) (is_ever y) e);
}

pub or_decides : (x y : Side) → Sees x → Sees y → Decides (λ a b. is_true a || is_true b) x y (is_always x || is_always y) (is_ever x || is_ever y)
or_decides x y s t = record {
  low = (s.low.0, t.low.0, s.low.1, t.low.1, ap₂ (λ a b. a || b) s.low.2 t.low.2);
  high = (s.high.0, t.high.0, s.high.1, t.high.1, ap₂ (λ a b. a || b) s.high.2 t.high.2);
  all =
      λ a b i j e. ⊎_elim (λ f. or_left (is_true a) (is_true b) (s.all a i f)) (λ f. or_right (is_true a) (is_true b) (t.all b j f))
      (or_cases (is_always x) (is_always y) e);
  none = λ a b i j e. let p = or_parts (is_ever x) (is_ever y) e in or_from _ _ (s.none a i p.0) (t.none b j p.1);
}

-- what a condition can be
pub can_be_true : (x : Side) → Sees x → is_ever x ≡ true → CanBe true x
can_be_true x s e = (s.high.0, s.high.1, s.high.2 ∙ e)

pub can_be_false : (x : Side) → Sees x → is_always x ≡ false → CanBe false x
can_be_false x s e = (s.low.0, s.low.1, s.low.2 ∙ e)

pub never_true : (x : Side) → Sees x → is_ever x ≡ false → CanBe true x → ⊥
never_true x s e c = (let f = s.none c.0 c.1 e in let t = c.2 in cc)

pub never_false : (x : Side) → Sees x → is_always x ≡ true → CanBe false x → ⊥
never_false x s e c = (let f = s.all c.0 c.1 e in let t = c.2 in cc)

-- what is not even once true is not always true
pub not_ever : (x : Side) → IsOrdered x → is_ever x ≡ false → is_always x ≡ false
not_ever x o e = (let s = sees x o in sym s.low.2 ∙ s.none s.low.0 s.low.1 e)
