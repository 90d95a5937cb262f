-- An expression has one interval, or one trap.
use Rattle.std.proofs.Common.{◌≡◌, ℤ, ◌≤ℤ◌, ⊎_elim, List, [], ◌∷◌, Ok, Err, sym, ap, ◌∙◌, subst, arith}
use Rattle.std.proofs.lemmas.Int.{ints}
use Rattle.sot_text.specs.declared.token.Span.{Span}
use Rattle.sot_box.specs.Sides.{Side}
use Rattle.sot_syntax_tree.specs.declared.operator.Op.{Op}
use Rattle.sot_lang.specs.declared.term.Term.{Term, Row_of-Term, end_of-Term, more_of-Term}
use Rattle.sot_lang.specs.declared.term.Term.TheVariants.{Number, Place, Binary', Rest', Neg', Not', Call', Rescale', If'}
use Rattle.sot_iv.specs.TermIntervals.{OrMayTrap, After, Joins, consed, IsLeast, IsFitted, IsLeastResult, IsImage, IsIntervalHull, Chooses, rest_result}
use Rattle.sot_iv.specs.TermIntervals.{neg_result, not_result, rescale_result, called_result, IsTermInterval, ArePartIntervals, AreTermIntervals}

pub same_number : (a b : ℤ) → a ≤ℤ b → b ≤ℤ a → a ≡ b
same_number a b p q = omega (arith, ints)

-- a set has one least interval
pub least_same : (set : ℤ → Type 0) (r s : Side) → IsLeast set r → IsLeast set s → r ≡ s
least_same set r s a b =
    let x = a.holds s.lo b.low in
    let y = b.holds r.lo a.low in
    let u = a.holds s.hi b.high in
    let v = b.holds r.hi a.high in
    let lo : r.lo ≡ s.lo = same_number r.lo s.lo x.0 y.0 in
    let hi : r.hi ≡ s.hi = same_number r.hi s.hi v.1 u.1 in
    λ i. record { lo = lo i; hi = hi i }

fitted_same : (at : Span) (r : Side) (o p : OrMayTrap Side) → IsFitted at r o → IsFitted at r p → o ≡ p
fitted_same at r (Ok a) (Ok b) x y = ap Ok (x.0 ∙ sym y.0)
fitted_same at r (Ok a) (Err t) x y = absurd (y.0 x.1)
fitted_same at r (Err t) (Ok b) x y = absurd (x.0 y.1)
fitted_same at r (Err t) (Err u) x y = ap Err (x.1 ∙ sym y.1)

image_same : (f : List ℤ → ℤ) (at : Span) (xs : List Side) (o p : OrMayTrap Side) → IsImage f at xs o → IsImage f at xs p → o ≡ p
image_same f at xs o p x y =
    let e = least_same _ x.0 y.0 x.1 y.1 in
    fitted_same at y.0 o p (subst (λ r. IsFitted at r o) e x.2) y.2

applied_same : (op : Op) (at : Span) (x y : Side) (o p : OrMayTrap Side) → IsLeastResult op at x y o → IsLeastResult op at x y p → o ≡ p
applied_same op at x y o p a b =
    ⊎_elim
    (λ za. ⊎_elim (λ zb. za.1 ∙ sym zb.1) (λ nb. absurd (nb.0 za.0)) b)
    (λ na. ⊎_elim
    (λ zb. absurd (na.0 zb.0))
    (λ nb. let e = least_same _ na.1.0 nb.1.0 na.1.1 nb.1.1 in fitted_same at nb.1.0 o p (subst (λ r. IsFitted at r o) e na.1.2) nb.1.2)
    b)
    a

hull_same : (x y : Side) (o p : OrMayTrap Side) → (r : Side) × IsIntervalHull x y r × (o ≡ Ok r) → (r : Side) × IsIntervalHull x y r × (p ≡ Ok r) → o ≡ p
hull_same x y o p a b = (let e = least_same _ a.0 b.0 a.1 b.1 in a.2 ∙ ap Ok e ∙ sym b.2)

pub after_same : {A B : Type 0} (x y : OrMayTrap A) (o p : OrMayTrap B) (go : A → OrMayTrap B → Type 0) → x ≡ y → After x o (λ a. go a o)
    → After y p (λ a. go a p) → ((a : A) → go a o → go a p → o ≡ p) → o ≡ p
after_same (Err t) (Err u) o p go e a b same = a ∙ (let h : t ≡ u = cc in ap Err h) ∙ sym b
after_same (Err t) (Ok u) o p go e a b same = cc
after_same (Ok t) (Err u) o p go e a b same = cc
after_same (Ok t) (Ok u) o p go e a b same = (let h : t ≡ u = cc in same u (subst (λ z. go z o) h a) b)

pub joins_same : (x y : OrMayTrap Side) (o p : OrMayTrap (List Side)) (rest : OrMayTrap (List Side) → Type 0) → x ≡ y → Joins x rest o → Joins y rest p
    → ((a b : OrMayTrap (List Side)) → rest a → rest b → a ≡ b) → o ≡ p
joins_same (Err t) (Err u) o p rest e a b same = a ∙ (let h : t ≡ u = cc in ap Err h) ∙ sym b
joins_same (Err t) (Ok u) o p rest e a b same = cc
joins_same (Ok t) (Err u) o p rest e a b same = cc
joins_same (Ok t) (Ok u) o p rest e a b same = (let h : t ≡ u = cc in a.2 ∙ ap (consed t) (same a.0 b.0 a.1 b.1) ∙ ap (λ z. consed z b.0) h ∙ sym b.2)

-- two choices by one condition are of the same branch
pub chooses_same : (x : Side) (C first first' second second' both both' : Type 0) → (first → first' → C) → (second → second' → C) → (both → both' → C)
    → Chooses x first second both → Chooses x first' second' both' → C
chooses_same x C first first' second second' both both' f s b l r =
    ⊎_elim
    (λ l1. ⊎_elim (λ r1. f l1.2 r1.2) (λ r2. ⊎_elim (λ r3. absurd (r3.1 l1.0)) (λ r4. absurd (l1.1 r4.0)) r2) r)
    (λ l2. ⊎_elim
    (λ l3. ⊎_elim (λ r1. absurd (l3.1 r1.0)) (λ r2. ⊎_elim (λ r3. s l3.2 r3.2) (λ r4. absurd (l3.1 r4.1)) r2) r)
    (λ l4. ⊎_elim
    (λ r1. absurd (r1.1 l4.0))
    (λ r2. ⊎_elim (λ r3. absurd (r3.1 l4.1)) (λ r4. b l4.2 r4.2) r2)
    r)
    l2)
    l

mutual
  pub term_same : (t : Term) (rs : List Side) (o p : OrMayTrap Side) → IsTermInterval t rs o → IsTermInterval t rs p → o ≡ p
  term_same (Number z) rs o p a b = a ∙ sym b
  term_same (Place n) rs o p a b = a ∙ sym b
  term_same (Binary' op p1 t q u at) rs o p a b =
      after_same a.0 b.0 o p (λ x z. (y : OrMayTrap Side) × IsTermInterval u rs y × After y z (λ y. IsLeastResult op at x y z)) (term_same t rs a.0 b.0 a.1 b.1)
      a.2 b.2
      (λ x c d. after_same c.0 d.0 o p (λ y z. IsLeastResult op at x y z) (term_same u rs c.0 d.0 c.1 d.1) c.2 d.2 (λ y e f. applied_same op at x y o p e f))
  term_same (Rest' p1 t by at) rs o p a b =
      after_same a.0 b.0 o p (λ x z. IsImage (rest_result by) at (x ∷ []) z) (term_same t rs a.0 b.0 a.1 b.1) a.2 b.2
      (λ x c d. image_same (rest_result by) at (x ∷ []) o p c d)
  term_same (Neg' p1 t at) rs o p a b =
      after_same a.0 b.0 o p (λ x z. IsImage neg_result at (x ∷ []) z) (term_same t rs a.0 b.0 a.1 b.1) a.2 b.2
      (λ x c d. image_same neg_result at (x ∷ []) o p c d)
  term_same (Not' p1 t at) rs o p a b =
      after_same a.0 b.0 o p (λ x z. IsImage not_result at (x ∷ []) z) (term_same t rs a.0 b.0 a.1 b.1) a.2 b.2
      (λ x c d. image_same not_result at (x ∷ []) o p c d)
  term_same (Call' f shape ts at) rs o p a b =
      after_same a.0 b.0 o p (λ xs z. IsImage (called_result f) at xs z) (row_same ts rs a.0 b.0 a.1 b.1) a.2 b.2
      (λ xs c d. image_same (called_result f) at xs o p c d)
  term_same (Rescale' p1 t from to at) rs o p a b =
      after_same a.0 b.0 o p (λ x z. IsImage (rescale_result from to) at (x ∷ []) z) (term_same t rs a.0 b.0 a.1 b.1) a.2 b.2
      (λ x c d. image_same (rescale_result from to) at (x ∷ []) o p c d)
  term_same (If' p1 c q t s u at) rs o p a b =
      let hulls : Side → OrMayTrap Side → Type 0 = λ y z. (w : OrMayTrap Side) × IsTermInterval u rs w
      × After w z (λ w. (r : Side) × IsIntervalHull y w r × (z ≡ Ok r)) in
      let both : OrMayTrap Side → Type 0 = λ z. (y : OrMayTrap Side) × IsTermInterval t rs y × After y z (λ y. hulls y z) in
      after_same a.0 b.0 o p (λ x z. Chooses x (IsTermInterval t rs z) (IsTermInterval u rs z) (both z)) (term_same c rs a.0 b.0 a.1 b.1) a.2 b.2
      (λ x l r. chooses_same x (o ≡ p) (IsTermInterval t rs o) (IsTermInterval t rs p) (IsTermInterval u rs o) (IsTermInterval u rs p) (both o) (both p)
      (λ d e. term_same t rs o p d e)
      (λ d e. term_same u rs o p d e)
      (λ d e. after_same d.0 e.0 o p hulls (term_same t rs d.0 e.0 d.1 e.1) d.2 e.2
      (λ y v w. after_same v.0 w.0 o p (λ k z. (r : Side) × IsIntervalHull y k r × (z ≡ Ok r)) (term_same u rs v.0 w.0 v.1 w.1) v.2 w.2
      (λ k m n. hull_same y k o p m n)))
      l r)

  pub row_same : {m : _} (ts : Row_of-Term m) (rs : List Side) (o p : OrMayTrap (List Side)) → ArePartIntervals ts rs o → ArePartIntervals ts rs p → o ≡ p
  row_same end_of-Term rs o p a b = a ∙ sym b
  row_same (more_of-Term t rest) rs o p a b =
      joins_same a.0 b.0 o p (λ os. ArePartIntervals rest rs os) (term_same t rs a.0 b.0 a.1 b.1) a.2 b.2 (λ x y c d. row_same rest rs x y c d)

-- and so has each of a list of expressions
pub terms_same : (ts : List Term) (rs : List Side) (o p : OrMayTrap (List Side)) → AreTermIntervals ts rs o → AreTermIntervals ts rs p → o ≡ p
terms_same [] rs o p a b = a ∙ sym b
terms_same (t ∷ ts) rs o p a b =
    joins_same a.0 b.0 o p (λ os. AreTermIntervals ts rs os) (term_same t rs a.0 b.0 a.1 b.1) a.2 b.2 (λ x y c d. terms_same ts rs x y c d)
