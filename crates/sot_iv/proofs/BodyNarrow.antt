-- From narrower intervals a body leaves what is narrower, and has no new trap.
use Rattle.std.proofs.Common.{◌≡◌, ℕ, zero, suc, true, ⊎_elim, List, [], ◌∷◌, ◌++◌, Ok, sym, subst, length, replicate, arith}
use Rattle.std.specs.Prelude.{slice_set, int_le, ◌&&◌}
use Rattle.std.proofs.lemmas.Bool.{cases_Bool, and_parts, and_from}
use Rattle.std.proofs.lemmas.Int.{ints}
use Rattle.sot_text.specs.declared.token.Span.{Span}
use Rattle.sot_box.specs.Sides.{Side}
use Rattle.sot_lang.specs.declared.act.Act.{Act, Row_of-Act, end_of-Act, more_of-Act}
use Rattle.sot_lang.specs.declared.act.Act.TheVariants.{Assign, Publish, If', Repeat'}
use Rattle.sot_iv.specs.TermIntervals.{OrMayTrap, IsTermInterval}
use Rattle.sot_iv.specs.declared.drafted.Drafted.{Drafted}
use Rattle.sot_iv.specs.declared.drafted.Drafted.TheVariants.{Absent, Maybe, Sure}
use Rattle.sot_iv.specs.BodyIntervals.{Intervals, IsPut, AreIntervalHulls, IsDraftJoin, AreDraftJoins, IsJoin, IsTimes, IsActIntervals, AreActIntervals}
use Rattle.sot_iv.specs.BodyIntervals.{IsBodyIntervals, IsExecutionIntervals}
use Rattle.sot_iv.specs.Monotony.{IsNarrower, AreNarrower, IsNarrowerDraft, AreNarrowerDrafts, IsNarrowerEnd}
use Rattle.sot_iv.proofs.Sound.{after_ok}
use Rattle.sot_iv.proofs.Narrow.{term_narrow, goes_on, chooses_narrow, hull_left, hull_right, hull_least, narrow_append}

inside_target : (r x y : Side) → IsNarrower x y → int_le r.lo y.lo && int_le y.hi r.hi ≡ true → int_le r.lo x.lo && int_le x.hi r.hi ≡ true
inside_target r x y n e =
    let p = and_parts (int_le r.lo y.lo) (int_le y.hi r.hi) e in
    let lo = p.0 in
    let hi = p.1 in
    let a : int_le r.lo x.lo ≡ true = grind (arith, ints, n.0) in
    let b : int_le x.hi r.hi ≡ true = grind (arith, ints, n.2) in
    and_from _ _ a b

put_narrow : (rs : List Side) (k : ℕ) (at : Span) (x y s : Side) (o : OrMayTrap Side) → IsNarrower x y → IsPut rs k at y (Ok s) → IsPut rs k at x o
    → (r : Side) × (o ≡ Ok r) × IsNarrower r s
put_narrow [] k at x y s o n hy hx = cc
put_narrow (r ∷ rs) zero at x y s o n hy hx =
    ⊎_elim
    (λ t.
    let same : ◌≡◌ {A = OrMayTrap Side} (Ok s) (Ok y) = rw t at hy in
    let e : s ≡ y = cc in
    (x, rw (inside_target r x y n t) at hx, subst (IsNarrower x) (sym e) n))
    (λ f. absurd (let bad = rw f at hy in cc))
    (cases_Bool (int_le r.lo y.lo && int_le y.hi r.hi))
put_narrow (r ∷ rs) (suc k) at x y s o n hy hx = put_narrow rs k at x y s o n hy hx

locals_set : (rs ss : List Side) (k : ℕ) (x y : Side) → AreNarrower rs ss → IsNarrower x y → AreNarrower (slice_set rs k x) (slice_set ss k y)
locals_set [] [] k x y n m = tt
locals_set (r ∷ rs) (s ∷ ss) zero x y n m = (m, n.1)
locals_set (r ∷ rs) (s ∷ ss) (suc k) x y n m = (n.0, locals_set rs ss k x y n.1 m)
locals_set [] (s ∷ ss) k x y n m = absurd n
locals_set (r ∷ rs) [] k x y n m = absurd n

drafts_set : (ds es : List Drafted) (k : ℕ) (x y : Side) → AreNarrowerDrafts ds es → IsNarrower x y
    → AreNarrowerDrafts (slice_set ds k (Sure x)) (slice_set es k (Sure y))
drafts_set [] [] k x y n m = tt
drafts_set (d ∷ ds) (e ∷ es) zero x y n m = (m, n.1)
drafts_set (d ∷ ds) (e ∷ es) (suc k) x y n m = (n.0, drafts_set ds es k x y n.1 m)
drafts_set [] (e ∷ es) k x y n m = absurd n
drafts_set (d ∷ ds) [] k x y n m = absurd n

-- what is narrower than one branch is narrower than both together
hulls_left : (qs as' bs rs : List Side) → AreNarrower qs as' → AreIntervalHulls as' bs rs → AreNarrower qs rs
hulls_left [] [] [] rs n h = subst (AreNarrower []) (sym h) tt
hulls_left (q ∷ qs) (a ∷ as') (b ∷ bs) (r ∷ rs) n h = (hull_left q a b r n.0 h.0, hulls_left qs as' bs rs n.1 h.1)
hulls_left [] (a ∷ as') bs rs n h = absurd n
hulls_left (q ∷ qs) [] bs rs n h = absurd n
hulls_left [] [] (b ∷ bs) rs n h = absurd h
hulls_left (q ∷ qs) (a ∷ as') [] rs n h = absurd h
hulls_left (q ∷ qs) (a ∷ as') (b ∷ bs) [] n h = absurd h

hulls_right : (qs as' bs rs : List Side) → AreNarrower qs bs → AreIntervalHulls as' bs rs → AreNarrower qs rs
hulls_right [] [] [] rs n h = subst (AreNarrower []) (sym h) tt
hulls_right (q ∷ qs) (a ∷ as') (b ∷ bs) (r ∷ rs) n h = (hull_right q a b r n.0 h.0, hulls_right qs as' bs rs n.1 h.1)
hulls_right [] as' (b ∷ bs) rs n h = absurd n
hulls_right (q ∷ qs) as' [] rs n h = absurd n
hulls_right [] (a ∷ as') [] rs n h = absurd h
hulls_right (q ∷ qs) [] (b ∷ bs) rs n h = absurd h
hulls_right (q ∷ qs) (a ∷ as') (b ∷ bs) [] n h = absurd h

-- the hulls of what is narrower are narrower
hulls_least : (as' bs rs ss : List Side) → AreNarrower as' ss → AreNarrower bs ss → AreIntervalHulls as' bs rs → AreNarrower rs ss
hulls_least [] [] rs [] m n h = subst (λ q. AreNarrower q []) (sym h) tt
hulls_least (a ∷ as') (b ∷ bs) (r ∷ rs) (s ∷ ss) m n h = (hull_least a b r s m.0 n.0 h.0, hulls_least as' bs rs ss m.1 n.1 h.1)
hulls_least [] bs rs (s ∷ ss) m n h = absurd m
hulls_least (a ∷ as') bs rs [] m n h = absurd m
hulls_least [] (b ∷ bs) rs [] m n h = absurd h
hulls_least (a ∷ as') [] rs (s ∷ ss) m n h = absurd n
hulls_least (a ∷ as') (b ∷ bs) [] (s ∷ ss) m n h = absurd h

draft_left : (q a b d : Drafted) → IsNarrowerDraft q a → IsDraftJoin a b d → IsNarrowerDraft q d
draft_left Absent Absent Absent d n j = subst (IsNarrowerDraft Absent) (sym j) tt
draft_left Absent Absent (Maybe b) d n j = subst (IsNarrowerDraft Absent) (sym j) tt
draft_left Absent Absent (Sure b) d n j = subst (IsNarrowerDraft Absent) (sym j) tt
draft_left Absent (Maybe a) Absent d n j = subst (IsNarrowerDraft Absent) (sym j) tt
draft_left Absent (Maybe a) (Maybe b) d n j = subst (IsNarrowerDraft Absent) (sym j.2) tt
draft_left Absent (Maybe a) (Sure b) d n j = subst (IsNarrowerDraft Absent) (sym j.2) tt
draft_left Absent (Sure a) b d n j = absurd n
draft_left (Maybe q) Absent b d n j = absurd n
draft_left (Maybe q) (Maybe a) Absent d n j = subst (IsNarrowerDraft (Maybe q)) (sym j) n
draft_left (Maybe q) (Maybe a) (Maybe b) d n j = subst (IsNarrowerDraft (Maybe q)) (sym j.2) (hull_left q a b j.0 n j.1)
draft_left (Maybe q) (Maybe a) (Sure b) d n j = subst (IsNarrowerDraft (Maybe q)) (sym j.2) (hull_left q a b j.0 n j.1)
draft_left (Maybe q) (Sure a) b d n j = absurd n
draft_left (Sure q) Absent b d n j = absurd n
draft_left (Sure q) (Maybe a) Absent d n j = subst (IsNarrowerDraft (Sure q)) (sym j) n
draft_left (Sure q) (Maybe a) (Maybe b) d n j = subst (IsNarrowerDraft (Sure q)) (sym j.2) (hull_left q a b j.0 n j.1)
draft_left (Sure q) (Maybe a) (Sure b) d n j = subst (IsNarrowerDraft (Sure q)) (sym j.2) (hull_left q a b j.0 n j.1)
draft_left (Sure q) (Sure a) Absent d n j = subst (IsNarrowerDraft (Sure q)) (sym j) n
draft_left (Sure q) (Sure a) (Maybe b) d n j = subst (IsNarrowerDraft (Sure q)) (sym j.2) (hull_left q a b j.0 n j.1)
draft_left (Sure q) (Sure a) (Sure b) d n j = subst (IsNarrowerDraft (Sure q)) (sym j.2) (hull_left q a b j.0 n j.1)

draft_right : (q a b d : Drafted) → IsNarrowerDraft q b → IsDraftJoin a b d → IsNarrowerDraft q d
draft_right Absent Absent Absent d n j = subst (IsNarrowerDraft Absent) (sym j) tt
draft_right Absent (Maybe a) Absent d n j = subst (IsNarrowerDraft Absent) (sym j) tt
draft_right Absent (Sure a) Absent d n j = subst (IsNarrowerDraft Absent) (sym j) tt
draft_right Absent Absent (Maybe b) d n j = subst (IsNarrowerDraft Absent) (sym j) tt
draft_right Absent (Maybe a) (Maybe b) d n j = subst (IsNarrowerDraft Absent) (sym j.2) tt
draft_right Absent (Sure a) (Maybe b) d n j = subst (IsNarrowerDraft Absent) (sym j.2) tt
draft_right Absent a (Sure b) d n j = absurd n
draft_right (Maybe q) a Absent d n j = absurd n
draft_right (Maybe q) Absent (Maybe b) d n j = subst (IsNarrowerDraft (Maybe q)) (sym j) n
draft_right (Maybe q) (Maybe a) (Maybe b) d n j = subst (IsNarrowerDraft (Maybe q)) (sym j.2) (hull_right q a b j.0 n j.1)
draft_right (Maybe q) (Sure a) (Maybe b) d n j = subst (IsNarrowerDraft (Maybe q)) (sym j.2) (hull_right q a b j.0 n j.1)
draft_right (Maybe q) a (Sure b) d n j = absurd n
draft_right (Sure q) a Absent d n j = absurd n
draft_right (Sure q) Absent (Maybe b) d n j = subst (IsNarrowerDraft (Sure q)) (sym j) n
draft_right (Sure q) (Maybe a) (Maybe b) d n j = subst (IsNarrowerDraft (Sure q)) (sym j.2) (hull_right q a b j.0 n j.1)
draft_right (Sure q) (Sure a) (Maybe b) d n j = subst (IsNarrowerDraft (Sure q)) (sym j.2) (hull_right q a b j.0 n j.1)
draft_right (Sure q) Absent (Sure b) d n j = subst (IsNarrowerDraft (Sure q)) (sym j) n
draft_right (Sure q) (Maybe a) (Sure b) d n j = subst (IsNarrowerDraft (Sure q)) (sym j.2) (hull_right q a b j.0 n j.1)
draft_right (Sure q) (Sure a) (Sure b) d n j = subst (IsNarrowerDraft (Sure q)) (sym j.2) (hull_right q a b j.0 n j.1)

-- the join of two drafts that one allows is allowed by it
draft_least : (a b d e : Drafted) → IsNarrowerDraft a e → IsNarrowerDraft b e → IsDraftJoin a b d → IsNarrowerDraft d e
draft_least Absent Absent d e m n j = subst (λ q. IsNarrowerDraft q e) (sym j) m
draft_least Absent (Maybe b) d e m n j = subst (λ q. IsNarrowerDraft q e) (sym j) n
draft_least (Maybe a) Absent d e m n j = subst (λ q. IsNarrowerDraft q e) (sym j) m
draft_least Absent (Sure b) d Absent m n j = absurd n
draft_least Absent (Sure b) d (Maybe s) m n j = subst (λ q. IsNarrowerDraft q (Maybe s)) (sym j) n
draft_least Absent (Sure b) d (Sure s) m n j = absurd m
draft_least (Sure a) Absent d Absent m n j = absurd m
draft_least (Sure a) Absent d (Maybe s) m n j = subst (λ q. IsNarrowerDraft q (Maybe s)) (sym j) m
draft_least (Sure a) Absent d (Sure s) m n j = absurd n
draft_least (Maybe a) b d Absent m n j = absurd m
draft_least (Maybe a) b d (Sure s) m n j = absurd m
draft_least (Maybe a) (Maybe b) d (Maybe s) m n j = subst (λ q. IsNarrowerDraft q (Maybe s)) (sym j.2) (hull_least a b j.0 s m n j.1)
draft_least (Maybe a) (Sure b) d (Maybe s) m n j = subst (λ q. IsNarrowerDraft q (Maybe s)) (sym j.2) (hull_least a b j.0 s m n j.1)
draft_least (Sure a) b d Absent m n j = absurd m
draft_least (Sure a) (Maybe b) d (Maybe s) m n j = subst (λ q. IsNarrowerDraft q (Maybe s)) (sym j.2) (hull_least a b j.0 s m n j.1)
draft_least (Sure a) (Maybe b) d (Sure s) m n j = absurd n
draft_least (Sure a) (Sure b) d (Maybe s) m n j = subst (λ q. IsNarrowerDraft q (Maybe s)) (sym j.2) (hull_least a b j.0 s m n j.1)
draft_least (Sure a) (Sure b) d (Sure s) m n j = subst (λ q. IsNarrowerDraft q (Sure s)) (sym j.2) (hull_least a b j.0 s m n j.1)

drafts_left : (qs as' bs ds : List Drafted) → AreNarrowerDrafts qs as' → AreDraftJoins as' bs ds → AreNarrowerDrafts qs ds
drafts_left [] [] [] ds n h = subst (AreNarrowerDrafts []) (sym h) tt
drafts_left (q ∷ qs) (a ∷ as') (b ∷ bs) (d ∷ ds) n h = (draft_left q a b d n.0 h.0, drafts_left qs as' bs ds n.1 h.1)
drafts_left [] (a ∷ as') bs ds n h = absurd n
drafts_left (q ∷ qs) [] bs ds n h = absurd n
drafts_left [] [] (b ∷ bs) ds n h = absurd h
drafts_left (q ∷ qs) (a ∷ as') [] ds n h = absurd h
drafts_left (q ∷ qs) (a ∷ as') (b ∷ bs) [] n h = absurd h

drafts_right : (qs as' bs ds : List Drafted) → AreNarrowerDrafts qs bs → AreDraftJoins as' bs ds → AreNarrowerDrafts qs ds
drafts_right [] [] [] ds n h = subst (AreNarrowerDrafts []) (sym h) tt
drafts_right (q ∷ qs) (a ∷ as') (b ∷ bs) (d ∷ ds) n h = (draft_right q a b d n.0 h.0, drafts_right qs as' bs ds n.1 h.1)
drafts_right [] as' (b ∷ bs) ds n h = absurd n
drafts_right (q ∷ qs) as' [] ds n h = absurd n
drafts_right [] (a ∷ as') [] ds n h = absurd h
drafts_right (q ∷ qs) [] (b ∷ bs) ds n h = absurd h
drafts_right (q ∷ qs) (a ∷ as') (b ∷ bs) [] n h = absurd h

drafts_least : (as' bs ds es : List Drafted) → AreNarrowerDrafts as' es → AreNarrowerDrafts bs es → AreDraftJoins as' bs ds → AreNarrowerDrafts ds es
drafts_least [] [] ds [] m n h = subst (λ q. AreNarrowerDrafts q []) (sym h) tt
drafts_least (a ∷ as') (b ∷ bs) (d ∷ ds) (e ∷ es) m n h = (draft_least a b d e m.0 n.0 h.0, drafts_least as' bs ds es m.1 n.1 h.1)
drafts_least [] bs ds (e ∷ es) m n h = absurd m
drafts_least (a ∷ as') bs ds [] m n h = absurd m
drafts_least [] (b ∷ bs) ds [] m n h = absurd h
drafts_least (a ∷ as') [] ds (e ∷ es) m n h = absurd n
drafts_least (a ∷ as') (b ∷ bs) [] (e ∷ es) m n h = absurd h

-- what is narrower than what one branch leaves is narrower than what both leave together
join_left : (q f g h : Intervals) → IsNarrowerEnd q f → IsJoin f g (Ok h) → IsNarrowerEnd q h
join_left q f g h n j =
    let e : j.0 ≡ h = (let is = j.3 in cc) in
    subst (IsNarrowerEnd q) e (record {
      locals = hulls_left q.locals f.locals g.locals j.0.locals n.locals j.1;
      draft = drafts_left q.draft f.draft g.draft j.0.draft n.draft j.2;
    })

join_right : (q f g h : Intervals) → IsNarrowerEnd q g → IsJoin f g (Ok h) → IsNarrowerEnd q h
join_right q f g h n j =
    let e : j.0 ≡ h = (let is = j.3 in cc) in
    subst (IsNarrowerEnd q) e (record {
      locals = hulls_right q.locals f.locals g.locals j.0.locals n.locals j.1;
      draft = drafts_right q.draft f.draft g.draft j.0.draft n.draft j.2;
    })

-- what each evaluation leaves
abbrev Narrows : Intervals → OrMayTrap Intervals → Type 0
Narrows g o = (f : Intervals) × (o ≡ Ok f) × IsNarrowerEnd f g

join_narrow : (a b f g h : Intervals) (o : OrMayTrap Intervals) → IsNarrowerEnd a f → IsNarrowerEnd b g → IsJoin f g (Ok h) → IsJoin a b o → Narrows h o
join_narrow a b f g h o m n y x =
    let p = join_left a f g h m y in
    let q = join_right b f g h n y in (
      x.0,
      x.3,
      record {
        locals = hulls_least a.locals b.locals x.0.locals h.locals p.locals q.locals x.1;
        draft = drafts_least a.draft b.draft x.0.draft h.draft p.draft q.draft x.2;
      },
    )

times_narrow : (n : ℕ) (small large : Intervals → OrMayTrap Intervals → Type 0) →
    ((f g h : Intervals) (o : OrMayTrap Intervals) → IsNarrowerEnd f g → large g (Ok h) → small f o → Narrows h o) →
    (f g h : Intervals) (o : OrMayTrap Intervals) → IsNarrowerEnd f g → IsTimes n large g (Ok h) → IsTimes n small f o → Narrows h o
times_narrow zero small large step f g h o n y x = (let e : h ≡ g = cc in (f, x, subst (IsNarrowerEnd f) (sym e) n))
times_narrow (suc n) small large step f g h o m y x =
    let yb = after_ok y.0 h _ y.2 in
    let b = step f g yb.0 x.0 m (subst (large g) yb.1 y.1) x.1 in
    times_narrow n small large step b.0 yb.0 h o b.2 yb.2 (goes_on x.0 b.0 o _ b.1 x.2)

mutual
  act_narrow : (seen wide locals writes : List Side) (a : Act) (f g h : Intervals) (o : OrMayTrap Intervals) → AreNarrower seen wide → IsNarrowerEnd f g
      → IsActIntervals wide locals writes a g (Ok h) → IsActIntervals seen locals writes a f o → Narrows h o
  act_narrow seen wide locals writes (Assign k t at) f g h o n m y x =
      let yt = after_ok y.0 h _ y.2 in
      let t' = term_narrow t (seen ++ f.locals) (wide ++ g.locals) yt.0 x.0 (narrow_append seen f.locals wide g.locals n m.locals)
      (subst (IsTermInterval t (wide ++ g.locals)) yt.1 y.1) x.1 in
      let xt = goes_on x.0 t'.0 o _ t'.1 x.2 in
      let yp = after_ok yt.2.0 h _ yt.2.2 in
      let p' = put_narrow locals k at t'.0 yt.0 yp.0 xt.0 t'.2 (subst (IsPut locals k at yt.0) yp.1 yt.2.1) xt.1 in
      let xp = goes_on xt.0 p'.0 o _ p'.1 xt.2 in
      let e : h ≡ record { locals = slice_set g.locals k yp.0; draft = g.draft } = (let h' = yp.2 in cc) in (
        record { locals = slice_set f.locals k p'.0; draft = f.draft },
        xp,
        subst (IsNarrowerEnd (record { locals = slice_set f.locals k p'.0; draft = f.draft })) (sym e)
            (record { locals = locals_set f.locals g.locals k p'.0 yp.0 m.locals p'.2; draft = m.draft }),
      )
  act_narrow seen wide locals writes (Publish k t at) f g h o n m y x =
      let yt = after_ok y.0 h _ y.2 in
      let t' = term_narrow t (seen ++ f.locals) (wide ++ g.locals) yt.0 x.0 (narrow_append seen f.locals wide g.locals n m.locals)
      (subst (IsTermInterval t (wide ++ g.locals)) yt.1 y.1) x.1 in
      let xt = goes_on x.0 t'.0 o _ t'.1 x.2 in
      let yp = after_ok yt.2.0 h _ yt.2.2 in
      let p' = put_narrow writes k at t'.0 yt.0 yp.0 xt.0 t'.2 (subst (IsPut writes k at yt.0) yp.1 yt.2.1) xt.1 in
      let xp = goes_on xt.0 p'.0 o _ p'.1 xt.2 in
      let e : h ≡ record { locals = g.locals; draft = slice_set g.draft k (Sure yp.0) } = (let h' = yp.2 in cc) in (
        record { locals = f.locals; draft = slice_set f.draft k (Sure p'.0) },
        xp,
        subst (IsNarrowerEnd (record { locals = f.locals; draft = slice_set f.draft k (Sure p'.0) })) (sym e)
            (record { locals = m.locals; draft = drafts_set f.draft g.draft k p'.0 yp.0 m.draft p'.2 }),
      )
  act_narrow seen wide locals writes (If' t s1 us s2 vs) f g h o n m y x =
      let yt = after_ok y.0 h _ y.2 in
      let t' = term_narrow t (seen ++ f.locals) (wide ++ g.locals) yt.0 x.0 (narrow_append seen f.locals wide g.locals n m.locals)
      (subst (IsTermInterval t (wide ++ g.locals)) yt.1 y.1) x.1 in
      chooses_narrow t'.0 yt.0 (Narrows h o) _ _ _ _ _ _ t'.2
      (λ l r. acts_narrow seen wide locals writes us f g h o n m r l)
      (λ l r. acts_narrow seen wide locals writes vs f g h o n m r l)
      (λ l r.
      let ya = after_ok r.0 h _ r.2 in
      let yb = after_ok ya.2.0 h _ ya.2.2 in
      let a' = acts_narrow seen wide locals writes us f g ya.0 o n m (subst (AreActIntervals wide locals writes us g) ya.1 r.1) l in
      (a'.0, a'.1, join_left a'.0 ya.0 yb.0 h a'.2 yb.2))
      (λ l r.
      let ya = after_ok r.0 h _ r.2 in
      let yb = after_ok ya.2.0 h _ ya.2.2 in
      let b' = acts_narrow seen wide locals writes vs f g yb.0 o n m (subst (AreActIntervals wide locals writes vs g) yb.1 ya.2.1) l in
      (b'.0, b'.1, join_right b'.0 ya.0 yb.0 h b'.2 yb.2))
      (λ l r.
      let ya = after_ok r.0 h _ r.2 in
      let yb = after_ok ya.2.0 h _ ya.2.2 in
      let a' = acts_narrow seen wide locals writes us f g ya.0 l.0 n m (subst (AreActIntervals wide locals writes us g) ya.1 r.1) l.1 in
      let xa = goes_on l.0 a'.0 o _ a'.1 l.2 in
      let b' = acts_narrow seen wide locals writes vs f g yb.0 xa.0 n m (subst (AreActIntervals wide locals writes vs g) yb.1 ya.2.1) xa.1 in
      join_narrow a'.0 b'.0 ya.0 yb.0 h o a'.2 b'.2 yb.2 (goes_on xa.0 b'.0 o _ b'.1 xa.2))
      (goes_on x.0 t'.0 o _ t'.1 x.2)
      yt.2
  act_narrow seen wide locals writes (Repeat' k s us) f g h o n m y x =
      times_narrow k (λ u z. AreActIntervals seen locals writes us u z) (λ u z. AreActIntervals wide locals writes us u z)
      (λ u v w z i a b. acts_narrow seen wide locals writes us u v w z n i a b) f g h o m y x

  acts_narrow : {m : _} (seen wide locals writes : List Side) (us : Row_of-Act m) (f g h : Intervals) (o : OrMayTrap Intervals) → AreNarrower seen wide
      → IsNarrowerEnd f g → AreActIntervals wide locals writes us g (Ok h) → AreActIntervals seen locals writes us f o → Narrows h o
  acts_narrow seen wide locals writes end_of-Act f g h o n m y x = (let e : h ≡ g = cc in (f, x, subst (IsNarrowerEnd f) (sym e) m))
  acts_narrow seen wide locals writes (more_of-Act a rest) f g h o n m y x =
      let ya = after_ok y.0 h _ y.2 in
      let a' = act_narrow seen wide locals writes a f g ya.0 x.0 n m (subst (IsActIntervals wide locals writes a g) ya.1 y.1) x.1 in
      acts_narrow seen wide locals writes rest a'.0 ya.0 h o n a'.2 ya.2 (goes_on x.0 a'.0 o _ a'.1 x.2)

body_narrow : (seen wide locals writes : List Side) (us : List Act) (f g h : Intervals) (o : OrMayTrap Intervals) → AreNarrower seen wide → IsNarrowerEnd f g
    → IsBodyIntervals wide locals writes us g (Ok h) → IsBodyIntervals seen locals writes us f o → Narrows h o
body_narrow seen wide locals writes [] f g h o n m y x = (let e : h ≡ g = cc in (f, x, subst (IsNarrowerEnd f) (sym e) m))
body_narrow seen wide locals writes (a ∷ rest) f g h o n m y x =
    let ya = after_ok y.0 h _ y.2 in
    let a' = act_narrow seen wide locals writes a f g ya.0 x.0 n m (subst (IsActIntervals wide locals writes a g) ya.1 y.1) x.1 in
    body_narrow seen wide locals writes rest a'.0 ya.0 h o n a'.2 ya.2 (goes_on x.0 a'.0 o _ a'.1 x.2)

no_drafts : (n : ℕ) → AreNarrowerDrafts (replicate n Absent) (replicate n Absent)
no_drafts zero = tt
no_drafts (suc n) = (tt, no_drafts n)

pub execution_narrow : (us : List Act) (locals writes seen at_start seen_wide start_wide : List Side) (g : Intervals) (o : OrMayTrap Intervals)
    → AreNarrower seen seen_wide → AreNarrower at_start start_wide → IsExecutionIntervals us locals writes seen_wide start_wide (Ok g)
    → IsExecutionIntervals us locals writes seen at_start o → Narrows g o
execution_narrow us locals writes seen at_start seen_wide start_wide g o n m y x =
    body_narrow seen seen_wide locals writes us _ _ g o n (record { locals = m; draft = no_drafts (length writes) }) y x
