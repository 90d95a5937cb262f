-- Where the interval evaluation of a body succeeds, the body does not trap, and what it leaves lies in the intervals.
use Rattle.std.proofs.Common.{◌≡◌, ℕ, zero, suc, ℤ, true, false, inl, inr, ⊎_elim, List, [], ◌∷◌, ◌++◌, Option, Some, None, Ok, length, replicate, refl, sym}
use Rattle.std.proofs.Common.{subst, arith}
use Rattle.std.specs.Prelude.{slice_set, int_le, ◌&&◌, if◌then◌else◌}
use Rattle.std.proofs.lemmas.Bool.{cases_Bool, and_parts, and_from}
use Rattle.std.proofs.lemmas.Int.{ints}
use Rattle.sot_box.specs.Sides.{Side, IsIn}
use Rattle.sot_text.specs.declared.token.Span.{Span}
use Rattle.sot_lang.specs.declared.act.Act.{Act, Row_of-Act, end_of-Act, more_of-Act}
use Rattle.sot_lang.specs.declared.act.Act.TheVariants.{Assign, Publish, If', Repeat'}
use Rattle.sot_lang.specs.Values.{Outcome, value_of, then_with, is_true}
use Rattle.sot_box.specs.Boxes.{IsWithin}
use Rattle.sot_lang.specs.Bodies.{Fired, in_range, times, act, acts, body, execution}
use Rattle.sot_iv.specs.TermIntervals.{OrMayTrap, IsTermInterval, CanBe}
use Rattle.sot_iv.specs.declared.drafted.Drafted.{Drafted}
use Rattle.sot_iv.specs.declared.drafted.Drafted.TheVariants.{Absent, Maybe, Sure}
use Rattle.sot_iv.specs.BodyIntervals.{Intervals, IsPut, AreIntervalHulls, IsDraftJoin, AreDraftJoins, IsTimes, IsActIntervals, AreActIntervals}
use Rattle.sot_iv.specs.BodyIntervals.{IsBodyIntervals, IsExecutionIntervals}
pub use Rattle.sot_iv.specs.Soundness.{IsDrafted, AreDrafted, Lies}
use Rattle.sot_iv.proofs.Sound.{sound, after_ok}
use Rattle.sot_box.proofs.Ranges.{within_append}

abbrev Ends : Intervals → Outcome Fired → Type 0
Ends f o = (g : Fired) × (o ≡ Ok g) × Lies f g

ends_then : (f g : Intervals) (o : Outcome Fired) (h : Fired → Outcome Fired) → Ends f o → ((x : Fired) → Lies f x → Ends g (h x)) → Ends g (then_with o h)
ends_then f g o h e next_state = let n = next_state e.0 e.2 in (n.0, rw e.1 n.1, n.2)

inside_is : (r : Side) (x : Side) (z : ℤ) → int_le r.lo x.lo && int_le x.hi r.hi ≡ true → IsIn x z → int_le r.lo z && int_le z r.hi ≡ true
inside_is r x z e i =
    let p = and_parts (int_le r.lo x.lo) (int_le x.hi r.hi) e in
    let lo = p.0 in
    let hi = p.1 in
    let a : int_le r.lo z ≡ true = grind (arith, ints) in
    let b : int_le z r.hi ≡ true = grind (arith, ints) in
    and_from _ _ a b

-- a value in the interval is in the target's range too
put_ok : (rs : List Side) (k : ℕ) (at : Span) (x y : Side) (z : ℤ) → IsPut rs k at x (Ok y) → IsIn x z → (in_range rs k at z ≡ Ok z) × IsIn y z
put_ok [] k at x y z h i = cc
put_ok (r ∷ rs) zero at x y z h i =
    ⊎_elim
    (λ t.
    let same : ◌≡◌ {A = OrMayTrap Side} (Ok y) (Ok x) = rw t at h in
    let e : y ≡ x = cc in
    (rw (inside_is r x z t i) refl, subst (λ q. IsIn q z) (sym e) i))
    (λ f. absurd (let bad = rw f at h in cc))
    (cases_Bool (int_le r.lo x.lo && int_le x.hi r.hi))
put_ok (r ∷ rs) (suc k) at x y z h i = put_ok rs k at x y z h i

drafted_set : (ds : List Drafted) (os : List (Option ℤ)) (k : ℕ) (y : Side) (z : ℤ) → AreDrafted ds os → IsIn y z
    → AreDrafted (slice_set ds k (Sure y)) (slice_set os k (Some z))
drafted_set [] [] k y z a i = tt
drafted_set (d ∷ ds) (o ∷ os) zero y z a i = (i, a.1)
drafted_set (d ∷ ds) (o ∷ os) (suc k) y z a i = (a.0, drafted_set ds os k y z a.1 i)
drafted_set [] (o ∷ os) k y z a i = absurd a
drafted_set (d ∷ ds) [] k y z a i = absurd a

locals_set : (rs : List Side) (xs : List ℤ) (k : ℕ) (y : Side) (z : ℤ) → IsWithin rs xs → IsIn y z → IsWithin (slice_set rs k y) (slice_set xs k z)
locals_set [] [] k y z w i = tt
locals_set (r ∷ rs) (x ∷ xs) zero y z w i = (i.0, i.1, w.2)
locals_set (r ∷ rs) (x ∷ xs) (suc k) y z w i = (w.0, w.1, locals_set rs xs k y z w.2 i)
locals_set [] (x ∷ xs) k y z w i = absurd w
locals_set (r ∷ rs) [] k y z w i = absurd w

-- what lies in one of two branches lies in both together
union_left : (as' bs rs : List Side) (xs : List ℤ) → AreIntervalHulls as' bs rs → IsWithin as' xs → IsWithin rs xs
union_left [] [] rs [] u w = subst (λ q. IsWithin q []) (sym u) tt
union_left (a ∷ as') (b ∷ bs) (r ∷ rs) (x ∷ xs) u w = let i = u.0.holds x (inl (w.0, w.1)) in (i.0, i.1, union_left as' bs rs xs u.1 w.2)
union_left [] bs rs (x ∷ xs) u w = absurd w
union_left (a ∷ as') bs rs [] u w = absurd w
union_left (a ∷ as') (b ∷ bs) [] (x ∷ xs) u w = absurd u
union_left [] (b ∷ bs) rs [] u w = absurd u
union_left (a ∷ as') [] rs (x ∷ xs) u w = absurd u

union_right : (as' bs rs : List Side) (xs : List ℤ) → AreIntervalHulls as' bs rs → IsWithin bs xs → IsWithin rs xs
union_right [] [] rs [] u w = subst (λ q. IsWithin q []) (sym u) tt
union_right (a ∷ as') (b ∷ bs) (r ∷ rs) (x ∷ xs) u w = let i = u.0.holds x (inr (w.0, w.1)) in (i.0, i.1, union_right as' bs rs xs u.1 w.2)
union_right as' [] rs (x ∷ xs) u w = absurd w
union_right as' (b ∷ bs) rs [] u w = absurd w
union_right (a ∷ as') (b ∷ bs) [] (x ∷ xs) u w = absurd u
union_right [] (b ∷ bs) rs (x ∷ xs) u w = absurd u
union_right (a ∷ as') [] rs [] u w = absurd u

either_left : (a b d : Drafted) (o : Option ℤ) → IsDraftJoin a b d → IsDrafted a o → IsDrafted d o
either_left Absent Absent d o e i = subst (λ q. IsDrafted q o) (sym e) i
either_left Absent (Maybe b) d None e i = subst (λ q. IsDrafted q None) (sym e) tt
either_left Absent (Sure b) d None e i = subst (λ q. IsDrafted q None) (sym e) tt
either_left Absent (Maybe b) d (Some z) e i = absurd i
either_left Absent (Sure b) d (Some z) e i = absurd i
either_left (Maybe a) Absent d o e i = subst (λ q. IsDrafted q o) (sym e) i
either_left (Sure a) Absent d (Some z) e i = subst (λ q. IsDrafted q (Some z)) (sym e) i
either_left (Sure a) b d None e i = absurd i
either_left (Maybe a) (Maybe b) d None e i = subst (λ q. IsDrafted q None) (sym e.2) tt
either_left (Maybe a) (Sure b) d None e i = subst (λ q. IsDrafted q None) (sym e.2) tt
either_left (Maybe a) (Maybe b) d (Some z) e i = subst (λ q. IsDrafted q (Some z)) (sym e.2) (e.1.holds z (inl i))
either_left (Maybe a) (Sure b) d (Some z) e i = subst (λ q. IsDrafted q (Some z)) (sym e.2) (e.1.holds z (inl i))
either_left (Sure a) (Maybe b) d (Some z) e i = subst (λ q. IsDrafted q (Some z)) (sym e.2) (e.1.holds z (inl i))
either_left (Sure a) (Sure b) d (Some z) e i = subst (λ q. IsDrafted q (Some z)) (sym e.2) (e.1.holds z (inl i))

either_right : (a b d : Drafted) (o : Option ℤ) → IsDraftJoin a b d → IsDrafted b o → IsDrafted d o
either_right Absent Absent d o e i = subst (λ q. IsDrafted q o) (sym e) i
either_right Absent (Maybe b) d o e i = subst (λ q. IsDrafted q o) (sym e) i
either_right Absent (Sure b) d (Some z) e i = subst (λ q. IsDrafted q (Some z)) (sym e) i
either_right (Maybe a) Absent d None e i = subst (λ q. IsDrafted q None) (sym e) tt
either_right (Sure a) Absent d None e i = subst (λ q. IsDrafted q None) (sym e) tt
either_right (Maybe a) Absent d (Some z) e i = absurd i
either_right (Sure a) Absent d (Some z) e i = absurd i
either_right a (Sure b) d None e i = absurd i
either_right (Maybe a) (Maybe b) d None e i = subst (λ q. IsDrafted q None) (sym e.2) tt
either_right (Sure a) (Maybe b) d None e i = subst (λ q. IsDrafted q None) (sym e.2) tt
either_right (Maybe a) (Maybe b) d (Some z) e i = subst (λ q. IsDrafted q (Some z)) (sym e.2) (e.1.holds z (inr i))
either_right (Maybe a) (Sure b) d (Some z) e i = subst (λ q. IsDrafted q (Some z)) (sym e.2) (e.1.holds z (inr i))
either_right (Sure a) (Maybe b) d (Some z) e i = subst (λ q. IsDrafted q (Some z)) (sym e.2) (e.1.holds z (inr i))
either_right (Sure a) (Sure b) d (Some z) e i = subst (λ q. IsDrafted q (Some z)) (sym e.2) (e.1.holds z (inr i))

eithers_left : (as' bs ds : List Drafted) (os : List (Option ℤ)) → AreDraftJoins as' bs ds → AreDrafted as' os → AreDrafted ds os
eithers_left [] [] ds [] e a = subst (λ q. AreDrafted q []) (sym e) tt
eithers_left (a ∷ as') (b ∷ bs) (d ∷ ds) (o ∷ os) e w = (either_left a b d o e.0 w.0, eithers_left as' bs ds os e.1 w.1)
eithers_left [] bs ds (o ∷ os) e w = absurd w
eithers_left (a ∷ as') bs ds [] e w = absurd w
eithers_left (a ∷ as') (b ∷ bs) [] (o ∷ os) e w = absurd e
eithers_left [] (b ∷ bs) ds [] e w = absurd e
eithers_left (a ∷ as') [] ds (o ∷ os) e w = absurd e

eithers_right : (as' bs ds : List Drafted) (os : List (Option ℤ)) → AreDraftJoins as' bs ds → AreDrafted bs os → AreDrafted ds os
eithers_right [] [] ds [] e a = subst (λ q. AreDrafted q []) (sym e) tt
eithers_right (a ∷ as') (b ∷ bs) (d ∷ ds) (o ∷ os) e w = (either_right a b d o e.0 w.0, eithers_right as' bs ds os e.1 w.1)
eithers_right as' [] ds (o ∷ os) e w = absurd w
eithers_right as' (b ∷ bs) ds [] e w = absurd w
eithers_right (a ∷ as') (b ∷ bs) [] (o ∷ os) e w = absurd e
eithers_right [] (b ∷ bs) ds (o ∷ os) e w = absurd e
eithers_right (a ∷ as') [] ds [] e w = absurd e

branch_ends : (c : Outcome ℤ) (a b : Outcome Fired) (x : Side) (f : Intervals) → (z : ℤ) × (c ≡ Ok z) × IsIn x z → (CanBe true x → Ends f a)
    → (CanBe false x → Ends f b) → Ends f (then_with c (λ z. if is_true z then a else b))
branch_ends c a b x f l ha hb =
    ⊎_elim
    (λ t. let h = ha (l.0, l.2, t) in (h.0, rw (l.1, t) h.1, h.2))
    (λ f'. let h = hb (l.0, l.2, f') in (h.0, rw (l.1, f') h.1, h.2))
    (cases_Bool (is_true l.0))

times_end : (n : ℕ) (block : Intervals → OrMayTrap Intervals → Type 0) (run : Fired → Outcome Fired) (f r : Intervals) (g : Fired)
    → ((f r : Intervals) (g : Fired) → Lies f g → block f (Ok r) → Ends r (run g)) → Lies f g → IsTimes n block f (Ok r) → Ends r (times n run g)
times_end zero block run f r g step l h = (let e : r ≡ f = cc in (g, refl, subst (λ q. Lies q g) (sym e) l))
times_end (suc n) block run f r g step l h =
    let x = after_ok h.0 r _ h.2 in
    ends_then x.0 r (run g) (times n run) (step f x.0 g l (subst (block f) x.1 h.1)) (λ g' l'. times_end n block run x.0 r g' step l' x.2)

mutual
  act_ends : (seen : List Side) (env : List ℤ) (locals writes : List Side) (a : Act) (f r : Intervals) (g : Fired) → IsWithin seen env → Lies f g
      → IsActIntervals seen locals writes a f (Ok r) → Ends r (act env locals writes a g)
  act_ends seen env locals writes (Assign k t at) f r g w l h =
      let x = after_ok h.0 r _ h.2 in
      let z = sound t (seen ++ f.locals) (env ++ g.locals) x.0 (within_append seen f.locals env g.locals w l.locals)
      (subst (IsTermInterval t (seen ++ f.locals)) x.1 h.1) in
      let y = after_ok x.2.0 r _ x.2.2 in
      let q = put_ok locals k at x.0 y.0 z.0 (subst (IsPut locals k at x.0) y.1 x.2.1) z.2 in
      let e : r ≡ record { locals = slice_set f.locals k y.0; draft = f.draft } = (let h' = y.2 in cc) in (
        record { locals = slice_set g.locals k z.0; draft = g.draft },
        rw (z.1, q.0) refl,
        subst (λ s. Lies s (record { locals = slice_set g.locals k z.0; draft = g.draft })) (sym e)
            (record { locals = locals_set f.locals g.locals k y.0 z.0 l.locals q.1; draft = l.draft }),
      )
  act_ends seen env locals writes (Publish k t at) f r g w l h =
      let x = after_ok h.0 r _ h.2 in
      let z = sound t (seen ++ f.locals) (env ++ g.locals) x.0 (within_append seen f.locals env g.locals w l.locals)
      (subst (IsTermInterval t (seen ++ f.locals)) x.1 h.1) in
      let y = after_ok x.2.0 r _ x.2.2 in
      let q = put_ok writes k at x.0 y.0 z.0 (subst (IsPut writes k at x.0) y.1 x.2.1) z.2 in
      let e : r ≡ record { locals = f.locals; draft = slice_set f.draft k (Sure y.0) } = (let h' = y.2 in cc) in (
        record { locals = g.locals; draft = slice_set g.draft k (Some z.0) },
        rw (z.1, q.0) refl,
        subst (λ s. Lies s (record { locals = g.locals; draft = slice_set g.draft k (Some z.0) })) (sym e)
            (record { locals = l.locals; draft = drafted_set f.draft g.draft k y.0 z.0 l.draft q.1 }),
      )
  act_ends seen env locals writes (If' t s1 us s2 vs) f r g w l h =
      let x = after_ok h.0 r _ h.2 in
      let z = sound t (seen ++ f.locals) (env ++ g.locals) x.0 (within_append seen f.locals env g.locals w l.locals)
      (subst (IsTermInterval t (seen ++ f.locals)) x.1 h.1) in
      let c = value_of t (env ++ g.locals) in
      let a = acts env locals writes us g in
      let b = acts env locals writes vs g in
      ⊎_elim
      (λ only. branch_ends c a b x.0 r z (λ t'. acts_end seen env locals writes us f r g w l only.2) (λ f'. absurd (only.1 f')))
      (λ more. ⊎_elim
      (λ only. branch_ends c a b x.0 r z (λ t'. absurd (only.1 t')) (λ f'. acts_end seen env locals writes vs f r g w l only.2))
      (λ two.
      let y = after_ok two.2.0 r _ two.2.2 in
      let v = after_ok y.2.0 r _ y.2.2 in
      let e : r ≡ v.2.0 = (let h' = v.2.3 in cc) in
      branch_ends c a b x.0 r z
      (λ t'. let n = acts_end seen env locals writes us f y.0 g w l (subst (λ q. AreActIntervals seen locals writes us f q) y.1 two.2.1) in (
        n.0,
        n.1,
        subst (λ q. Lies q n.0) (sym e) (record {
          locals = union_left y.0.locals v.0.locals v.2.0.locals n.0.locals v.2.1 n.2.locals;
          draft = eithers_left y.0.draft v.0.draft v.2.0.draft n.0.draft v.2.2 n.2.draft;
        }),
      ))
      (λ f'. let n = acts_end seen env locals writes vs f v.0 g w l (subst (λ q. AreActIntervals seen locals writes vs f q) v.1 y.2.1) in (
        n.0,
        n.1,
        subst (λ q. Lies q n.0) (sym e) (record {
          locals = union_right y.0.locals v.0.locals v.2.0.locals n.0.locals v.2.1 n.2.locals;
          draft = eithers_right y.0.draft v.0.draft v.2.0.draft n.0.draft v.2.2 n.2.draft;
        }),
      )))
      more)
      x.2
  act_ends seen env locals writes (Repeat' n s us) f r g w l h =
      times_end n (λ g x. AreActIntervals seen locals writes us g x) (acts env locals writes us) f r g
      (λ f' r' g' l' h'. acts_end seen env locals writes us f' r' g' w l' h') l h

  acts_end : {m : _} (seen : List Side) (env : List ℤ) (locals writes : List Side) (us : Row_of-Act m) (f r : Intervals) (g : Fired) → IsWithin seen env
      → Lies f g → AreActIntervals seen locals writes us f (Ok r) → Ends r (acts env locals writes us g)
  acts_end seen env locals writes end_of-Act f r g w l h = (let e : r ≡ f = cc in (g, refl, subst (λ q. Lies q g) (sym e) l))
  acts_end seen env locals writes (more_of-Act a rest) f r g w l h =
      let x = after_ok h.0 r _ h.2 in
      ends_then x.0 r (act env locals writes a g) (acts env locals writes rest)
      (act_ends seen env locals writes a f x.0 g w l (subst (IsActIntervals seen locals writes a f) x.1 h.1))
      (λ g' l'. acts_end seen env locals writes rest x.0 r g' w l' x.2)

body_ends : (seen : List Side) (env : List ℤ) (locals writes : List Side) (us : List Act) (f r : Intervals) (g : Fired) → IsWithin seen env → Lies f g
    → IsBodyIntervals seen locals writes us f (Ok r) → Ends r (body env locals writes us g)
body_ends seen env locals writes [] f r g w l h = (let e : r ≡ f = cc in (g, refl, subst (λ q. Lies q g) (sym e) l))
body_ends seen env locals writes (a ∷ rest) f r g w l h =
    let x = after_ok h.0 r _ h.2 in
    ends_then x.0 r (act env locals writes a g) (body env locals writes rest)
    (act_ends seen env locals writes a f x.0 g w l (subst (IsActIntervals seen locals writes a f) x.1 h.1))
    (λ g' l'. body_ends seen env locals writes rest x.0 r g' w l' x.2)

no_drafts : (n : ℕ) → AreDrafted (replicate n Absent) (replicate n None)
no_drafts zero = tt
no_drafts (suc n) = (tt, no_drafts n)

pub exec_sound : (us : List Act) (locals writes seen at_start : List Side) (env start : List ℤ) (r : Intervals) → IsWithin seen env → IsWithin at_start start
    → IsExecutionIntervals us locals writes seen at_start (Ok r) → (g : Fired) × (execution us locals writes env start ≡ Ok g) × Lies r g
unfolding execution
exec_sound us locals writes seen at_start env start r w ws h =
    body_ends seen env locals writes us _ r _ w (record { locals = ws; draft = no_drafts (length writes) }) h
