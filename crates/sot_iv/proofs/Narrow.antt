-- Narrower ranges give narrower intervals, and no new trap.
use Rattle.std.proofs.Common.{◌≡◌, ℕ, zero, suc, ℤ, pos, ◌≤ℤ◌, true, false, ◌⊎◌, inl, inr, ⊎_elim, List, [], ◌∷◌, ◌++◌, Ok, Err, refl, sym, subst, ap, ◌∙◌}
use Rattle.std.proofs.Common.{arith}
use Rattle.std.specs.Prelude.{slice_index_or}
use Rattle.std.proofs.lemmas.Int.{ints}
use Rattle.sot_text.specs.declared.token.Span.{Span}
use Rattle.sot_box.specs.Sides.{Side, IsIn, nought}
use Rattle.sot_box.specs.Boxes.{IsWithin}
use Rattle.sot_syntax_tree.specs.declared.operator.Op.{Op}
use Rattle.sot_syntax_tree.specs.declared.operator.Op.TheVariants.{Add, Sub, Mul, Div, Less, LessEqual, Greater, GreaterEqual, Equal, NotEqual, And, Or}
use Rattle.sot_lang.specs.declared.term.Term.{Term, Row_of-Term, end_of-Term, more_of-Term}
use Rattle.sot_lang.specs.declared.term.Term.TheVariants.{Number, Place, Binary', Rest', Neg', Not', Call', Rescale', If'}
use Rattle.sot_iv.specs.TermIntervals.{OrMayTrap, After, Joins, consed, IsLeast, IsFitted, IsLeastResult, IsImage, IsIntervalHull, MayDivideByZero, IsWordRange}
use Rattle.sot_iv.specs.TermIntervals.{CanBe, Chooses, rest_result, neg_result, not_result, rescale_result, called_result, IsTermInterval, ArePartIntervals}
use Rattle.sot_iv.specs.TermIntervals.{AreTermIntervals}
use Rattle.sot_iv.specs.Monotony.{IsNarrower, AreNarrower}
use Rattle.sot_iv.proofs.Sound.{between, after_ok, joins_ok}

pub le_refl_ℤ : (z : ℤ) → z ≤ℤ z
le_refl_ℤ z = omega (arith, ints)

narrow_trans : (r s t : Side) → IsNarrower r s → IsNarrower s t → IsNarrower r t
narrow_trans r s t x y = (omega (arith, ints, x.0, y.0), x.1, omega (arith, ints, x.2, y.2))

pub narrow_in : (r s : Side) (z : ℤ) → IsNarrower r s → IsIn r z → IsIn s z
narrow_in r s z n i = (omega (arith, ints, n.0, i.0), omega (arith, ints, n.2, i.1))

pub narrow_read : (rs ss : List Side) (k : ℕ) → AreNarrower rs ss → IsNarrower (slice_index_or rs k nought) (slice_index_or ss k nought)
narrow_read [] [] k n = (le_refl_ℤ (pos 0), le_refl_ℤ (pos 0), le_refl_ℤ (pos 0))
narrow_read (r ∷ rs) (s ∷ ss) zero n = n.0
narrow_read (r ∷ rs) (s ∷ ss) (suc k) n = narrow_read rs ss k n.1
narrow_read [] (s ∷ ss) k n = absurd n
narrow_read (r ∷ rs) [] k n = absurd n

pub narrow_append : (as' bs rs ss : List Side) → AreNarrower as' rs → AreNarrower bs ss → AreNarrower (as' ++ bs) (rs ++ ss)
narrow_append [] bs [] ss x y = y
narrow_append (a ∷ as') bs (r ∷ rs) ss x y = (x.0, narrow_append as' bs rs ss x.1 y)
narrow_append [] bs (r ∷ rs) ss x y = absurd x
narrow_append (a ∷ as') bs [] ss x y = absurd x

-- the least interval of fewer numbers is narrower
pub least_narrow : (few many : ℤ → Type 0) (r s : Side) → ((z : ℤ) → few z → many z) → IsLeast few r → IsLeast many s → IsNarrower r s
least_narrow few many r s sub x y = ((y.holds r.lo (sub r.lo x.low)).0, (x.holds r.lo x.low).1, (y.holds r.hi (sub r.hi x.high)).1)

-- and in 64 bits where that of more numbers is
fitted_narrow : (at : Span) (r s : Side) (o : OrMayTrap Side) → IsNarrower r s → IsWordRange s → IsFitted at r o → (q : Side) × (o ≡ Ok q) × IsNarrower q s
fitted_narrow at r s (Ok q) n w f = (q, refl, subst (λ x. IsNarrower x s) (sym f.0) n)
fitted_narrow at r s (Err t) n w f =
    absurd (f.0 (between s r.lo w (narrow_in r s r.lo n (le_refl_ℤ r.lo, n.1)), between s r.hi w (narrow_in r s r.hi n (n.1, le_refl_ℤ r.hi))))

zero_narrow : (op : Op) (x y : Side) → IsNarrower x y → MayDivideByZero op x → MayDivideByZero op y
zero_narrow Add x y n m = absurd m
zero_narrow Sub x y n m = absurd m
zero_narrow Mul x y n m = absurd m
zero_narrow Div x y n m = narrow_in x y (pos 0) n m
zero_narrow Less x y n m = absurd m
zero_narrow LessEqual x y n m = absurd m
zero_narrow Greater x y n m = absurd m
zero_narrow GreaterEqual x y n m = absurd m
zero_narrow Equal x y n m = absurd m
zero_narrow NotEqual x y n m = absurd m
zero_narrow And x y n m = absurd m
zero_narrow Or x y n m = absurd m

pub within_narrow : (rs ss : List Side) (zs : List ℤ) → AreNarrower rs ss → IsWithin rs zs → IsWithin ss zs
within_narrow [] [] [] n w = tt
within_narrow (r ∷ rs) (s ∷ ss) (z ∷ zs) n w = (let i = narrow_in r s z n.0 (w.0, w.1) in (i.0, i.1, within_narrow rs ss zs n.1 w.2))
within_narrow [] (s ∷ ss) zs n w = absurd n
within_narrow (r ∷ rs) [] zs n w = absurd n
within_narrow [] [] (z ∷ zs) n w = absurd w
within_narrow (r ∷ rs) (s ∷ ss) [] n w = absurd w

image_narrow : (f : List ℤ → ℤ) (at : Span) (xs ys : List Side) (s : Side) (o : OrMayTrap Side) → AreNarrower xs ys → IsImage f at ys (Ok s) → IsImage f at xs o
    → (r : Side) × (o ≡ Ok r) × IsNarrower r s
image_narrow f at xs ys s o n y x =
    let i = least_narrow _ _ x.0 y.0 (λ z h. (h.0, within_narrow xs ys h.0 n h.1, h.2)) x.1 y.1 in
    let e = fitted_narrow at x.0 y.0 o i y.2.1 x.2 in
    (e.0, e.1, subst (λ q. IsNarrower e.0 q) (sym y.2.0) e.2)

result_narrow : (op : Op) (at : Span) (a b c d s : Side) (o : OrMayTrap Side) → IsNarrower a c → IsNarrower b d → IsLeastResult op at c d (Ok s)
    → IsLeastResult op at a b o → (r : Side) × (o ≡ Ok r) × IsNarrower r s
result_narrow op at a b c d s o m n y x =
    ⊎_elim
    (λ yz. absurd (let e = yz.1 in cc))
    (λ y'. ⊎_elim
    (λ xz. absurd (y'.0 (zero_narrow op b d n xz.0)))
    (λ x'.
    let i = least_narrow _ _ x'.1.0 y'.1.0 (λ z h. record { a = h.a; b = h.b; a_in = narrow_in a c h.a m h.a_in; b_in = narrow_in b d h.b n h.b_in; is = h.is })
    x'.1.1 y'.1.1 in
    let e = fitted_narrow at x'.1.0 y'.1.0 o i y'.1.2.1 x'.1.2 in
    (e.0, e.1, subst (λ q. IsNarrower e.0 q) (sym y'.1.2.0) e.2))
    x)
    y

-- a narrower interval is inside the hull, and the hull of two that are inside is inside
pub hull_left : (q a b r : Side) → IsNarrower q a → IsIntervalHull a b r → IsNarrower q r
hull_left q a b r n h =
    ((h.holds q.lo (inl (narrow_in q a q.lo n (le_refl_ℤ q.lo, n.1)))).0, n.1, (h.holds q.hi (inl (narrow_in q a q.hi n (n.1, le_refl_ℤ q.hi)))).1)

pub hull_right : (q a b r : Side) → IsNarrower q b → IsIntervalHull a b r → IsNarrower q r
hull_right q a b r n h =
    ((h.holds q.lo (inr (narrow_in q b q.lo n (le_refl_ℤ q.lo, n.1)))).0, n.1, (h.holds q.hi (inr (narrow_in q b q.hi n (n.1, le_refl_ℤ q.hi)))).1)

pub hull_least : (a b r s : Side) → IsNarrower a s → IsNarrower b s → IsIntervalHull a b r → IsNarrower r s
hull_least a b r s m n h =
    let each : (z : ℤ) → (IsIn a z ⊎ IsIn b z) → IsIn s z = λ z u. ⊎_elim (λ i. narrow_in a s z m i) (λ i. narrow_in b s z n i) u in
    ((each r.lo h.low).0, (h.holds r.lo h.low).1, (each r.hi h.high).1)

-- goes on with the narrower value
pub goes_on : {A B : Type 0} (x : OrMayTrap A) (a : A) (o : OrMayTrap B) (go : A → Type 0) → x ≡ Ok a → After x o go → go a
goes_on (Ok b) a o go e h = (let same : b ≡ a = cc in subst go same h)
goes_on (Err t) a o go e h = cc

pub joins_on : (x : OrMayTrap Side) (a : Side) (o : OrMayTrap (List Side)) (rest : OrMayTrap (List Side) → Type 0) → x ≡ Ok a → Joins x rest o
    → (os : OrMayTrap (List Side)) × rest os × (o ≡ consed a os)
joins_on (Ok b) a o rest e h = (let same : b ≡ a = cc in (h.0, h.1, h.2 ∙ ap (λ z. consed z h.0) same))
joins_on (Err t) a o rest e h = cc

-- a condition that is decided over some interval is decided so over a narrower one
can_wide : (b : _) (x y : Side) → IsNarrower x y → CanBe b x → CanBe b y
can_wide b x y n c = (c.0, narrow_in x y c.0 n c.1, c.2)

pub chooses_narrow : (x y : Side) (C first first' second second' both both' : Type 0) → IsNarrower x y →
    (first → first' → C) → (second → second' → C) → (first → both' → C) → (second → both' → C) → (both → both' → C) →
    Chooses x first second both → Chooses y first' second' both' → C
chooses_narrow x y C first first' second second' both both' n f s fb sb b l r =
    ⊎_elim
    (λ r1. ⊎_elim
    (λ l1. f l1.2 r1.2)
    (λ l2. ⊎_elim (λ l3. absurd (r1.1 (can_wide false x y n l3.0))) (λ l4. absurd (r1.1 (can_wide false x y n l4.0))) l2)
    l)
    (λ r2. ⊎_elim
    (λ r3. ⊎_elim
    (λ l1. absurd (r3.1 (can_wide true x y n l1.0)))
    (λ l2. ⊎_elim (λ l3. s l3.2 r3.2) (λ l4. absurd (r3.1 (can_wide true x y n l4.1))) l2)
    l)
    (λ r4. ⊎_elim (λ l1. fb l1.2 r4.2) (λ l2. ⊎_elim (λ l3. sb l3.2 r4.2) (λ l4. b l4.2 r4.2) l2) l)
    r2)
    r

-- what each evaluation gives
abbrev pub Narrows : Side → OrMayTrap Side → Type 0
Narrows s o = (r : Side) × (o ≡ Ok r) × IsNarrower r s

abbrev HullIs : Side → Side → OrMayTrap Side → Type 0
HullIs a b o = (r : Side) × IsIntervalHull a b r × (o ≡ Ok r)

first_narrow : (q a b s : Side) → IsNarrower q a → HullIs a b (Ok s) → IsNarrower q s
first_narrow q a b s n h = (let e : h.0 ≡ s = (let is = h.2 in cc) in subst (IsNarrower q) e (hull_left q a b h.0 n h.1))

second_narrow : (q a b s : Side) → IsNarrower q b → HullIs a b (Ok s) → IsNarrower q s
second_narrow q a b s n h = (let e : h.0 ≡ s = (let is = h.2 in cc) in subst (IsNarrower q) e (hull_right q a b h.0 n h.1))

both_narrow : (p q a b s : Side) (o : OrMayTrap Side) → IsNarrower p a → IsNarrower q b → HullIs a b (Ok s) → HullIs p q o → Narrows s o
both_narrow p q a b s o m n y x = (x.0, x.2, hull_least p q x.0 s (first_narrow p a b s m y) (second_narrow q a b s n y) x.1)

mutual
  pub term_narrow : (t : Term) (rs ss : List Side) (s : Side) (o : OrMayTrap Side) → AreNarrower rs ss → IsTermInterval t ss (Ok s) → IsTermInterval t rs o
      → Narrows s o
  term_narrow (Number z) rs ss s o n y x =
      (let e : s ≡ record { lo = z; hi = z } = cc in (s, x ∙ ap Ok (sym e), subst (λ q. IsNarrower q q) (sym e) (le_refl_ℤ z, le_refl_ℤ z, le_refl_ℤ z)))
  term_narrow (Place k) rs ss s o n y x =
      (let e : s ≡ slice_index_or ss k nought = cc in (
        slice_index_or rs k nought,
        x,
        subst (λ q. IsNarrower (slice_index_or rs k nought) q) (sym e) (narrow_read rs ss k n),
      ))
  term_narrow (Binary' op p a q b at) rs ss s o n y x =
      let ya = after_ok y.0 s _ y.2 in
      let a' = term_narrow a rs ss ya.0 x.0 n (subst (IsTermInterval a ss) ya.1 y.1) x.1 in
      let xa = goes_on x.0 a'.0 o _ a'.1 x.2 in
      let yb = after_ok ya.2.0 s _ ya.2.2 in
      let b' = term_narrow b rs ss yb.0 xa.0 n (subst (IsTermInterval b ss) yb.1 ya.2.1) xa.1 in
      let xb = goes_on xa.0 b'.0 o _ b'.1 xa.2 in
      result_narrow op at a'.0 b'.0 ya.0 yb.0 s o a'.2 b'.2 yb.2 xb
  term_narrow (Rest' p a by at) rs ss s o n y x =
      let ya = after_ok y.0 s _ y.2 in
      let a' = term_narrow a rs ss ya.0 x.0 n (subst (IsTermInterval a ss) ya.1 y.1) x.1 in
      image_narrow (rest_result by) at (a'.0 ∷ []) (ya.0 ∷ []) s o (a'.2, tt) ya.2 (goes_on x.0 a'.0 o _ a'.1 x.2)
  term_narrow (Neg' p a at) rs ss s o n y x =
      let ya = after_ok y.0 s _ y.2 in
      let a' = term_narrow a rs ss ya.0 x.0 n (subst (IsTermInterval a ss) ya.1 y.1) x.1 in
      image_narrow neg_result at (a'.0 ∷ []) (ya.0 ∷ []) s o (a'.2, tt) ya.2 (goes_on x.0 a'.0 o _ a'.1 x.2)
  term_narrow (Not' p a at) rs ss s o n y x =
      let ya = after_ok y.0 s _ y.2 in
      let a' = term_narrow a rs ss ya.0 x.0 n (subst (IsTermInterval a ss) ya.1 y.1) x.1 in
      image_narrow not_result at (a'.0 ∷ []) (ya.0 ∷ []) s o (a'.2, tt) ya.2 (goes_on x.0 a'.0 o _ a'.1 x.2)
  term_narrow (Call' f shape parts at) rs ss s o n y x =
      let ya = after_ok y.0 s _ y.2 in
      let a' = row_narrow parts rs ss ya.0 x.0 n (subst (ArePartIntervals parts ss) ya.1 y.1) x.1 in
      image_narrow (called_result f) at a'.0 ya.0 s o a'.2 ya.2 (goes_on x.0 a'.0 o _ a'.1 x.2)
  term_narrow (Rescale' p a from to at) rs ss s o n y x =
      let ya = after_ok y.0 s _ y.2 in
      let a' = term_narrow a rs ss ya.0 x.0 n (subst (IsTermInterval a ss) ya.1 y.1) x.1 in
      image_narrow (rescale_result from to) at (a'.0 ∷ []) (ya.0 ∷ []) s o (a'.2, tt) ya.2 (goes_on x.0 a'.0 o _ a'.1 x.2)
  term_narrow (If' p c q a r b at) rs ss s o n y x =
      let yc = after_ok y.0 s _ y.2 in
      let c' = term_narrow c rs ss yc.0 x.0 n (subst (IsTermInterval c ss) yc.1 y.1) x.1 in
      chooses_narrow c'.0 yc.0 (Narrows s o) _ _ _ _ _ _ c'.2
      (λ l m. term_narrow a rs ss s o n m l)
      (λ l m. term_narrow b rs ss s o n m l)
      (λ l m.
      let ya = after_ok m.0 s _ m.2 in
      let yb = after_ok ya.2.0 s _ ya.2.2 in
      let a' = term_narrow a rs ss ya.0 o n (subst (IsTermInterval a ss) ya.1 m.1) l in
      (a'.0, a'.1, first_narrow a'.0 ya.0 yb.0 s a'.2 yb.2))
      (λ l m.
      let ya = after_ok m.0 s _ m.2 in
      let yb = after_ok ya.2.0 s _ ya.2.2 in
      let b' = term_narrow b rs ss yb.0 o n (subst (IsTermInterval b ss) yb.1 ya.2.1) l in
      (b'.0, b'.1, second_narrow b'.0 ya.0 yb.0 s b'.2 yb.2))
      (λ l m.
      let ya = after_ok m.0 s _ m.2 in
      let yb = after_ok ya.2.0 s _ ya.2.2 in
      let a' = term_narrow a rs ss ya.0 l.0 n (subst (IsTermInterval a ss) ya.1 m.1) l.1 in
      let xa = goes_on l.0 a'.0 o _ a'.1 l.2 in
      let b' = term_narrow b rs ss yb.0 xa.0 n (subst (IsTermInterval b ss) yb.1 ya.2.1) xa.1 in
      both_narrow a'.0 b'.0 ya.0 yb.0 s o a'.2 b'.2 yb.2 (goes_on xa.0 b'.0 o _ b'.1 xa.2))
      (goes_on x.0 c'.0 o _ c'.1 x.2)
      yc.2

  pub row_narrow : {m : _} (ts : Row_of-Term m) (rs ss ys : List Side) (o : OrMayTrap (List Side)) → AreNarrower rs ss → ArePartIntervals ts ss (Ok ys)
      → ArePartIntervals ts rs o → (xs : List Side) × (o ≡ Ok xs) × AreNarrower xs ys
  row_narrow end_of-Term rs ss ys o n y x = (let e : ys ≡ [] = cc in ([], x, subst (AreNarrower []) (sym e) tt))
  row_narrow (more_of-Term t rest) rs ss ys o n y x =
      let yt = joins_ok y.0 ys _ y.2 in
      let t' = term_narrow t rs ss yt.0 x.0 n (subst (IsTermInterval t ss) yt.2 y.1) x.1 in
      let xr = joins_on x.0 t'.0 o _ t'.1 x.2 in
      let r' = row_narrow rest rs ss yt.1 xr.0 n yt.3 xr.1 in
      (t'.0 ∷ r'.0, xr.2 ∙ ap (consed t'.0) r'.1, subst (AreNarrower (t'.0 ∷ r'.0)) (sym yt.4) (t'.2, r'.2))

pub terms_narrow : (ts : List Term) (rs ss ys : List Side) (o : OrMayTrap (List Side)) → AreNarrower rs ss → AreTermIntervals ts ss (Ok ys)
    → AreTermIntervals ts rs o → (xs : List Side) × (o ≡ Ok xs) × AreNarrower xs ys
terms_narrow [] rs ss ys o n y x = (let e : ys ≡ [] = cc in ([], x, subst (AreNarrower []) (sym e) tt))
terms_narrow (t ∷ rest) rs ss ys o n y x =
    let yt = joins_ok y.0 ys _ y.2 in
    let t' = term_narrow t rs ss yt.0 x.0 n (subst (IsTermInterval t ss) yt.2 y.1) x.1 in
    let xr = joins_on x.0 t'.0 o _ t'.1 x.2 in
    let r' = terms_narrow rest rs ss yt.1 xr.0 n yt.3 xr.1 in
    (t'.0 ∷ r'.0, xr.2 ∙ ap (consed t'.0) r'.1, subst (AreNarrower (t'.0 ∷ r'.0)) (sym yt.4) (t'.2, r'.2))
