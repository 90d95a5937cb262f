-- What a part's number says of now, and what it is afterwards.
use Rattle.std.proofs.Common.{◌≡◌, ℕ, zero, suc, ◌+◌, ◌<◌, ◌≤◌, ◌↔◌, ◌⊎◌, inl, inr, ⊎_elim, Bool}
use Rattle.std.proofs.Common.{true, false, List, [], ◌∷◌, ◌++◌, length, refl, sym, ap, ◌∙◌, subst, arith}
use Rattle.std.specs.Prelude.{slice_set, MatchBool, IsTrue}
use Rattle.std.proofs.lemmas.Bool.{cases_eq, false≢true}
use Rattle.std.proofs.lemmas.List.{get_or-set_same, get_or-set_other}
use Rattle.std.proofs.lemmas.Option.{slice_get_within}
use Rattle.sot_lists.specs.Places.{At}
use Rattle.sot_lists.proofs.Places.{at_same}
use Rattle.sot_formula.specs.declared.what.What.{What}
use Rattle.sot_formula.specs.declared.what.What.TheVariants as whats
use Rattle.sot_formula.specs.Formulas.{Formula, Truth, Compared, Against, Paired, Not, And, Or, Implies, Once, Always, Since, Within}
use Rattle.sot_formula.specs.Parts.{IsPart}
use Rattle.sot_monitor.specs.Holding.{Moment, Compares, together, Holds}
use Rattle.sot_monitor.specs.Standing.{IsLast, NowBy, last_of}
use Rattle.sot_monitor.proofs.Before.{before, at_end, length_end}

-- the last of two moments
later : (a b : ℕ) → (a < b) ⊎ (b ≤ a)
later zero zero = inr (omega arith)
later zero (suc b) = inl (omega arith)
later (suc a) zero = inr (omega arith)
later (suc a) (suc b) = ⊎_elim (λ l. inl (omega (arith, l))) (λ l. inr (omega (arith, l))) (later a b)

module _ (Ms : List Moment) (s : Moment) where
  abbrev pub more : List Moment
  more = Ms ++ s ∷ []

  abbrev pub n : ℕ
  n = length Ms

  inside : n < length more
  inside = let e = length_end Ms s in omega (arith, e)

  -- a number is that of now exactly where the formula holds now
  pub now_is : (f : Formula) (l : ℕ) → IsLast more f l → Holds more f n ↔ (l ≡ suc n)
  now_is f zero last = (λ h. absurd (last n inside h), λ e. absurd (omega (arith, e)))
  now_is f (suc l) last = (
    λ h. ⊎_elim
        (λ (lt : l < n). absurd (last.2 n lt inside h))
        (λ (ge : n ≤ l). let e = length_end Ms s in omega (arith, ge, last.0, e))
        (later l n),
    λ e. (let same : l ≡ n = omega (arith, e) in subst (Holds more f) same last.1),
  )

  -- afterwards
  pub set_now : (f : Formula) → Holds more f n → IsLast more f (suc n)
  set_now f h = (inside, h, λ j after lt held. let e = length_end Ms s in absurd (omega (arith, after, lt, e)))

  pub kept : (f : Formula) (l : ℕ) → IsLast Ms f l → (Holds more f n → ⊥) → IsLast more f l
  kept f zero last none' = λ j lt h. ⊎_elim
      (λ (early : j < n). last j early ((before Ms (s ∷ []) f j early).0 h))
      (λ (late : n ≤ j). let e = length_end Ms s in let same : j ≡ n = omega (arith, late, lt, e) in none' (subst (Holds more f) same h))
      (later j n)
  kept f (suc l) last none' = (
    let e = length_end Ms s in omega (arith, last.0, e),
    (before Ms (s ∷ []) f l last.0).1 last.1,
    λ j after lt h. ⊎_elim
        (λ (early : j < n). last.2 j after early ((before Ms (s ∷ []) f j early).0 h))
        (λ (late : n ≤ j). let e = length_end Ms s in let same : j ≡ n = omega (arith, late, lt, e) in none' (subst (Holds more f) same h))
        (later j n),
  )

  module _ (ws : List What) (lasts : List ℕ) (i : ℕ) (own : ℕ) (parts : (k : ℕ) (g : Formula) → k < i → IsPart ws k g → IsLast more g (last_of lasts k)) where
    once_now : (f : Formula) (l : ℕ) → IsLast more f l → (0 < l) ↔ Holds more (Once f) n
    once_now f zero last = (λ lt. absurd (omega (arith, lt)), λ h. (let e = length_end Ms s in absurd (last h.0 (omega (arith, h.1, e)) h.2)))
    once_now f (suc l) last = (λ lt. (l, (let e = length_end Ms s in omega (arith, last.0, e)), last.1), λ h. omega arith)

    -- always held the moment before exactly where its own number is that moment's, and before the first moment it is 0
    always_before : (f : Formula) (o : ℕ) → IsLast Ms (Always f) o → o ≡ n → Holds more f n → Holds more (Always f) n
    always_before f zero last is now j le = (let same : n ≡ j = omega (arith, le, is) in subst (Holds more f) same now)
    always_before f (suc m) last is now j le = ⊎_elim
        (λ (lt : m < j). (let same : n ≡ j = omega (arith, le, lt, is) in subst (Holds more f) same now))
        (λ (ge : j ≤ m). (before Ms (s ∷ []) f j (omega (arith, ge, last.0))).1 (last.1 j ge))
        (later m j)

    always_is : (f : Formula) (o m : ℕ) → IsLast Ms (Always f) o → n ≡ m → Holds more (Always f) n → o ≡ n
    always_is f zero zero last e h = sym e
    always_is f zero (suc m) last e h =
        absurd (last m (omega (arith, e)) (λ j le. (before Ms (s ∷ []) f j (omega (arith, le, e))).0 (h j (omega (arith, le, e)))))
    always_is f (suc o) zero last e h = (let low = last.0 in absurd (omega (arith, low, e)))
    always_is f (suc o) (suc m) last e h = ⊎_elim
        (λ (lt : o < m). absurd (last.2 m lt (omega (arith, e)) (λ j le. (before Ms (s ∷ []) f j (omega (arith, le, e))).0 (h j (omega (arith, le, e))))))
        (λ (ge : m ≤ o). (let low = last.0 in omega (arith, ge, low, e)))
        (later o m)

    always_now : (f : Formula) (l : ℕ) → IsLast Ms (Always f) own → IsLast more f l → ((l ≡ suc n) × (own ≡ n)) ↔ Holds more (Always f) n
    always_now f l last last_f =
        (λ h. always_before f own last h.1 ((now_is f l last_f).1 h.0), λ h. ((now_is f l last_f).0 (h n (omega arith)), always_is f own n last refl h))

    within_now : (ticks : ℕ) (f : Formula) (l : ℕ) → IsLast more f l → ((0 < l) × (suc n ≤ l + ticks)) ↔ Holds more (Within ticks f) n
    within_now ticks f zero last = (λ h. absurd (omega (arith, h.0)), λ h. (let e = length_end Ms s in absurd (last h.0 (omega (arith, h.1, e)) h.3)))
    within_now ticks f (suc l) last = (
      λ h. (l, (let e = length_end Ms s in omega (arith, last.0, e)), omega (arith, h.1), last.1),
      λ h. ⊎_elim
          (λ (lt : l < h.0). (let e = length_end Ms s in absurd (last.2 h.0 lt (omega (arith, h.1, e)) h.3)))
          (λ (ge : h.0 ≤ l). (omega arith, omega (arith, ge, h.2)))
          (later l h.0),
    )

    -- since held the moment before exactly where its own number is that moment's
    since_before : (f g : Formula) → IsLast Ms (Since f g) own → Holds more f n → ((0 < own) × (own ≡ n)) → Holds more (Since f g) n
    since_before f g last now is = by_number own last is
      where
        by_number : (o : ℕ) → IsLast Ms (Since f g) o → ((0 < o) × (o ≡ n)) → Holds more (Since f g) n
        by_number zero last is = absurd (omega (arith, is.0))
        by_number (suc m) last is =
            let h = last.1 in (
              h.0,
              omega (arith, h.1, is.1),
              (before Ms (s ∷ []) g h.0 (omega (arith, h.1, last.0))).1 h.2,
              λ k after le. ⊎_elim
                  (λ (lt : m < k). let same : n ≡ k = omega (arith, lt, le, is.1) in subst (Holds more f) same now)
                  (λ (ge : k ≤ m). (before Ms (s ∷ []) f k (omega (arith, ge, last.0))).1 (h.3 k after ge))
                  (later m k),
            )

    since_now : (f g : Formula) (lf lg : ℕ) → IsLast Ms (Since f g) own → IsLast more f lf → IsLast more g lg
        → ((lg ≡ suc n) ⊎ ((lf ≡ suc n) × (0 < own) × (own ≡ n))) ↔ Holds more (Since f g) n
    since_now f g lf lg last last_f last_g = (forth, back)
      where
        forth : (lg ≡ suc n) ⊎ ((lf ≡ suc n) × (0 < own) × (own ≡ n)) → Holds more (Since f g) n
        forth h = ⊎_elim
            (λ e. (n, omega arith, (now_is g lg last_g).1 e, λ k after le. absurd (omega (arith, after, le))))
            (λ e. since_before f g last ((now_is f lf last_f).1 e.0) (e.1, e.2)) h

        own_is : (m o : ℕ) → n ≡ suc m → IsLast Ms (Since f g) o → Holds Ms (Since f g) m → (0 < o) × (o ≡ n)
        own_is m zero e last h = absurd (last m (omega (arith, e)) h)
        own_is m (suc o) e last h = ⊎_elim
            (λ (lt : o < m). absurd (last.2 m lt (omega (arith, e)) h))
            (λ (ge : m ≤ o). (omega arith, omega (arith, ge, last.0, e)))
            (later o m)

        back : Holds more (Since f g) n → (lg ≡ suc n) ⊎ ((lf ≡ suc n) × (0 < own) × (own ≡ n))
        back h = ⊎_elim
            (λ (lt : h.0 < n). earlier n refl lt)
            (λ (ge : n ≤ h.0). let same : h.0 ≡ n = omega (arith, ge, h.1) in inl ((now_is g lg last_g).0 (subst (Holds more g) same h.2)))
            (later h.0 n)
          where
            earlier : (k : ℕ) → k ≡ n → h.0 < k → (lg ≡ suc n) ⊎ ((lf ≡ suc n) × (0 < own) × (own ≡ n))
            earlier zero e lt = absurd (omega (arith, lt))
            earlier (suc m) e lt =
                let there : Holds Ms (Since f g) m = (
                  h.0,
                  omega (arith, lt),
                  (before Ms (s ∷ []) g h.0 (omega (arith, lt, e))).0 h.2,
                  λ k after le.
                      (before Ms (s ∷ []) f k (omega (arith, le, e))).0 (h.3 k after (omega (arith, le, e))),
                ) in
                inr (
                  (now_is f lf last_f).0 (h.3 n (omega (arith, lt, e)) (omega arith)),
                  (own_is m own (sym e) last there).0,
                  (own_is m own (sym e) last there).1,
                )

    -- a part holds now where its parts' numbers say so
    pub now_by : (w : What) (f : Formula) → At ws i w → IsPart ws i f → IsLast Ms f own → NowBy w own lasts n s ↔ Holds more f n
    now_by w (Truth value) at part last = (let e : w ≡ whats.Truth value = at_same ws i w (whats.Truth value) at part in rw e (λ h. h, λ h. h))
    now_by w (Compared of by number) at part last =
        (let e : w ≡ whats.Compared of by number = at_same ws i w (whats.Compared of by number) at part in
        rw e (
          λ h. (s, at_end Ms s, h),
          λ h. (let same : h.0 ≡ s = at_same more n h.0 s h.1 (at_end Ms s)
              in subst (λ (x : Moment). Compares by (x of) number) same h.2),
        ))
    now_by w (Against of by other) at part last =
        (let e : w ≡ whats.Against of by other = at_same ws i w (whats.Against of by other) at part in
        rw e (
          λ h. (s, at_end Ms s, h),
          λ h. (let same : h.0 ≡ s = at_same more n h.0 s h.1 (at_end Ms s)
              in subst (λ (x : Moment). Compares by (x of) (x other)) same h.2),
        ))
    now_by w (Paired first pairing second by number) at part last =
        (let e : w ≡ whats.Paired first pairing second by number = at_same ws i w (whats.Paired first pairing second by number) at part in
        rw e (
          λ h. (s, at_end Ms s, h),
          λ h. (let same : h.0 ≡ s = at_same more n h.0 s h.1 (at_end Ms s)
              in subst (λ (x : Moment). Compares by (together pairing (x first) (x second)) number) same h.2),
        ))
    now_by w (Not f) at part last =
        (let e : w ≡ whats.Not part.0 = at_same ws i w (whats.Not part.0) at part.1 in
        let is = now_is f (last_of lasts part.0) (parts part.0 f part.2 part.3) in
        rw e (λ h x. h (is.0 x), λ h x. h (is.1 x)))
    now_by w (And f g) at part last =
        (let e : w ≡ whats.And part.0 part.1 = at_same ws i w (whats.And part.0 part.1) at part.2 in
        let a = now_is f (last_of lasts part.0) (parts part.0 f part.3 part.5) in
        let b = now_is g (last_of lasts part.1) (parts part.1 g part.4 part.6) in
        rw e (λ h. (a.1 h.0, b.1 h.1), λ h. (a.0 h.0, b.0 h.1)))
    now_by w (Or f g) at part last =
        (let e : w ≡ whats.Or part.0 part.1 = at_same ws i w (whats.Or part.0 part.1) at part.2 in
        let a = now_is f (last_of lasts part.0) (parts part.0 f part.3 part.5) in
        let b = now_is g (last_of lasts part.1) (parts part.1 g part.4 part.6) in
        rw e (λ h. ⊎_elim (λ x. inl (a.1 x)) (λ x. inr (b.1 x)) h, λ h. ⊎_elim (λ x. inl (a.0 x)) (λ x. inr (b.0 x)) h))
    now_by w (Implies f g) at part last =
        (let e : w ≡ whats.Implies part.0 part.1 = at_same ws i w (whats.Implies part.0 part.1) at part.2 in
        let a = now_is f (last_of lasts part.0) (parts part.0 f part.3 part.5) in
        let b = now_is g (last_of lasts part.1) (parts part.1 g part.4 part.6) in
        rw e (λ h x. b.1 (h (a.0 x)), λ h x. b.0 (h (a.1 x))))
    now_by w (Always f) at part last =
        (let e : w ≡ whats.Always part.0 = at_same ws i w (whats.Always part.0) at part.1 in
        rw e (always_now f (last_of lasts part.0) last (parts part.0 f part.2 part.3)))
    now_by w (Once f) at part last =
        (let e : w ≡ whats.Once part.0 = at_same ws i w (whats.Once part.0) at part.1 in
        rw e (once_now f (last_of lasts part.0) (parts part.0 f part.2 part.3)))
    now_by w (Since f g) at part last =
        (let e : w ≡ whats.Since part.0 part.1 = at_same ws i w (whats.Since part.0 part.1) at part.2 in
        rw e (since_now f g (last_of lasts part.0) (last_of lasts part.1) last (parts part.0 f part.3 part.5) (parts part.1 g part.4 part.6)))
    now_by w (Within ticks f) at part last =
        (let e : w ≡ whats.Within ticks part.0 = at_same ws i w (whats.Within ticks part.0) at part.1 in
        rw e (within_now ticks f (last_of lasts part.0) (parts part.0 f part.2 part.3)))

  -- the number of the part at place i is set where it holds now: so the parts up to it have those of one moment more
  pub one_more : (ws : List What) (lasts lasts' : List ℕ) (i : ℕ) (w : What) → At ws i w → i < length lasts
      → ((f : Formula) → IsPart ws i f → IsLast Ms f (last_of lasts i))
      → ((k : ℕ) (g : Formula) → k < i → IsPart ws k g → IsLast more g (last_of lasts k))
      → ((NowBy w (last_of lasts i) lasts n s × (lasts' ≡ slice_set lasts i (suc n))) ⊎ ((NowBy w (last_of lasts i) lasts n s → ⊥) × (lasts' ≡ lasts)))
      → (k : ℕ) (f : Formula) → k < suc i → IsPart ws k f → IsLast more f (last_of lasts' k)
  one_more ws lasts lasts' i w at room own done set k f lt part =
      ⊎_elim
      (λ (holds : NowBy w (last_of lasts i) lasts n s × (lasts' ≡ slice_set lasts i (suc n))). ⊎_elim
      (λ (here : k ≡ i). (let e : last_of lasts' k ≡ suc n = ap (λ xs. last_of xs k) holds.1 ∙ ap (λ j. last_of (slice_set lasts i (suc n)) j) here
      ∙ get_or-set_same lasts i (suc n) 0 room in
      subst (IsLast more f) (sym e) (set_now f ((now_by ws lasts i (last_of lasts i) done w f at (subst (λ j. IsPart ws j f) here part)
      (own f (subst (λ j. IsPart ws j f) here part))).0 holds.0))))
      (λ (other : k ≡ i → ⊥). (let e : last_of lasts' k ≡ last_of lasts k = ap (λ xs. last_of xs k) holds.1 ∙ get_or-set_other lasts i k (suc n) 0 other in
      subst (IsLast more f) (sym e) (done k f (omega (arith, lt, other)) part)))
      (cases_eq k i))
      (λ (misses : (NowBy w (last_of lasts i) lasts n s → ⊥) × (lasts' ≡ lasts)). ⊎_elim
      (λ (here : k ≡ i). (let e : last_of lasts' k ≡ last_of lasts i = ap (λ xs. last_of xs k) misses.1 ∙ ap (last_of lasts) here in
      let part' = subst (λ j. IsPart ws j f) here part in
      subst (IsLast more f) (sym e) (kept f (last_of lasts i) (own f part')
      (λ h. misses.0 ((now_by ws lasts i (last_of lasts i) done w f at part' (own f part')).1 h)))))
      (λ (other : k ≡ i → ⊥). (let e : last_of lasts' k ≡ last_of lasts k = ap (λ xs. last_of xs k) misses.1 in
      subst (IsLast more f) (sym e) (done k f (omega (arith, lt, other)) part)))
      (cases_eq k i))
      set

  -- the same, where the new number is told by a flag
  pub noted_more : (ws : List What) (lasts : List ℕ) (i x : ℕ) (b : Bool) (w : What) → At ws i w → i < length lasts
      → ((f : Formula) → IsPart ws i f → IsLast Ms f (last_of lasts i))
      → ((k : ℕ) (g : Formula) → k < i → IsPart ws k g → IsLast more g (last_of lasts k))
      → IsTrue b ↔ NowBy w (last_of lasts i) lasts n s → MatchBool b (x ≡ suc n) (x ≡ last_of lasts i)
      → (k : ℕ) (f : Formula) → k < suc i → IsPart ws k f → IsLast more f (last_of (slice_set lasts i x) k)
  noted_more ws lasts i x true w at room own done iff set = one_more ws lasts (slice_set lasts i x) i w at room own done
      (inl (iff.0 refl, ap (slice_set lasts i) set))
  noted_more ws lasts i x false w at room own done iff set = one_more ws lasts (slice_set lasts i x) i w at room own done
      (inr ((λ h. false≢true (iff.1 h)), ap (slice_set lasts i) set ∙ set_own lasts i))
    where
      set_own : (xs : List ℕ) (j : ℕ) → slice_set xs j (last_of xs j) ≡ xs
      set_own [] j = refl
      set_own (y ∷ ys) zero = refl
      set_own (y ∷ ys) (suc j) = ap (λ zs. y ∷ zs) (set_own ys j)

-- a part is one of them
pub part_inside : (ws : List What) (i : ℕ) (f : Formula) → IsPart ws i f → i < length ws
part_inside ws i (Truth value) part = slice_get_within ws i (whats.Truth value) part
part_inside ws i (Compared of by number) part = slice_get_within ws i (whats.Compared of by number) part
part_inside ws i (Against of by other) part = slice_get_within ws i (whats.Against of by other) part
part_inside ws i (Paired first pairing second by number) part = slice_get_within ws i (whats.Paired first pairing second by number) part
part_inside ws i (Not f) part = slice_get_within ws i (whats.Not part.0) part.1
part_inside ws i (And f g) part = slice_get_within ws i (whats.And part.0 part.1) part.2
part_inside ws i (Or f g) part = slice_get_within ws i (whats.Or part.0 part.1) part.2
part_inside ws i (Implies f g) part = slice_get_within ws i (whats.Implies part.0 part.1) part.2
part_inside ws i (Once f) part = slice_get_within ws i (whats.Once part.0) part.1
part_inside ws i (Always f) part = slice_get_within ws i (whats.Always part.0) part.1
part_inside ws i (Since f g) part = slice_get_within ws i (whats.Since part.0 part.1) part.2
part_inside ws i (Within ticks f) part = slice_get_within ws i (whats.Within ticks part.0) part.1
