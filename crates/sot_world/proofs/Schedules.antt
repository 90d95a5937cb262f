-- What is due next, and what a tick leaves.
use Rattle.std.specs.Prelude.{◌==◌, if◌then◌else◌, slice_index_or, slice_get, slice_set}
use Rattle.std.proofs.Common.{◌≡◌, ◌≢◌, ℕ, zero, suc, ◌+◌, ◌-◌, ◌%◌, ◌<◌, ◌≤◌, Bool, true, false, ◌⊎◌, ◌↔◌, inl, inr, ⊎_elim, List, [], ◌∷◌, ◌++◌, map, take}
use Rattle.std.proofs.Common.{length, refl, sym, ap, ap₂, ◌∙◌, subst, arith}
use Rattle.std.proofs.lemmas.Bool.{cases_lt, eqb-true, eq-eqb, false≢true}
use Rattle.std.proofs.lemmas.List.{length-map, take_more_set, map_more, get_or-set_other, set-get_or}
use Rattle.std.proofs.lemmas.Option.{slice_get_within, get_or_from_slice_get}
use Rattle.std.proofs.Math.Nat.{add-mod_right}
use Rattle.sot_lists.specs.Places.{At}
use Rattle.sot_lists.proofs.Places.{at_same, at_map, at_below}
use Rattle.sot_calendar.specs.Due.{IsDue, IsNextDue}
use Rattle.sot_calendar.proofs.Clock.{due_gap, next_first}
use Rattle.sot_world.specs.declared.schedule.Schedule.{Schedule}
use Rattle.sot_world.specs.Schedules.{first, after, IsScheduled, AreScheduled}
use Rattle.sot_world.proofs.Starting.{due_at_0}
use Rattle.sot_world.proofs.Parts.{set_more}

-- what is due now is due next a period later
next_behind : (p o t : ℕ) → o < p → IsDue p o t → IsNextDue p o (t + 1) (t + p)
next_behind p o t lt due = record {
  later = omega arith;
  due = (omega (arith, due.0), (let e : t + p - o ≡ (t - o) + p = omega (arith, due.0) in ap (λ n. n % p) e ∙ add-mod_right (t - o) p ∙ due.1));
  least = λ u from is. due_gap p o t u lt due is (omega (arith, from));
}

-- what is not due now is due next as it was
next_stays : (p o t d : ℕ) → IsNextDue p o t d → d ≢ t → IsNextDue p o (t + 1) d
next_stays p o t d next ne = record {
  later = omega (arith, next.later, ne);
  due = next.due;
  least = λ u from is. next.least u (omega (arith, from)) is;
}

-- it is due now where the next due time is now
next_is_now : (p o t d : ℕ) → IsNextDue p o t d → (d ≡ t) ↔ IsDue p o t
next_is_now p o t d next = (
  (λ e. subst (λ n. IsDue p o n) e next.due),
  (λ is. let least = next.least t (omega arith) is in omega (arith, least, next.later)),
)

first_by : (p o : ℕ) (b : Bool) → (o == 0) ≡ b → o < p → IsScheduled p o 1 (record { next = (if b then p else o); period = p })
first_by p o true is lt =
    let next = next_behind p o 0 lt ((due_at_0 p o).0 is) in
    let e : 0 + p ≡ p = omega arith in
    record { every = refl; next = subst (λ d. IsNextDue p o 1 d) e next }
first_by p o false is lt =
    record {
      every = refl;
      next = next_first p o 1 (⊎_elim (λ (none : o < 1). let e : o ≡ 0 = omega arith in absurd (false≢true (sym is ∙ eq-eqb o 0 e)))
          (λ some. some) (cases_lt o 1));
    }

-- the first time after 0
first_scheduled : (p o : ℕ) → o < p → IsScheduled p o 1 (first p o)
first_scheduled p o lt = first_by p o (o == 0) refl lt

after_by : (p o t : ℕ) (s : Schedule) (b : Bool) → (s.next == t) ≡ b → o < p → IsScheduled p o t s
    → IsScheduled p o (t + 1) (record { next = (if b then t + s.period else s.next); period = s.period })
after_by p o t s true is lt was =
    let due = subst (λ n. IsDue p o n) (eqb-true s.next t is) was.next.due in
    record { every = was.every; next = subst (λ n. IsNextDue p o (t + 1) (t + n)) (sym was.every) (next_behind p o t lt due) }
after_by p o t s false is lt was =
    record { every = was.every; next = next_stays p o t s.next was.next (λ e. false≢true (sym is ∙ eq-eqb s.next t e)) }

-- .. and a tick later
after_scheduled : (p o t : ℕ) (s : Schedule) → o < p → IsScheduled p o t s → IsScheduled p o (t + 1) (after t s)
after_scheduled p o t s lt was = after_by p o t s (s.next == t) refl lt was

module _ {A : Type 0} (period offset : A → ℕ) (of : List A) where
  pub all_first : (xs : List Schedule) → xs ≡ map (λ x. first (period x) (offset x)) of → ((k : ℕ) (x : A) → At of k x → offset x < period x)
      → AreScheduled period offset of 1 xs
  all_first xs same short =
      let f : A → Schedule = λ x. first (period x) (offset x) in
      record {
        each = ap length same ∙ length-map of f;
        are = λ k x at. (f x, subst (λ l. At l k (f x)) (sym same) (at_map f of k x at), first_scheduled (period x) (offset x) (short k x at));
      }

  pub all_after : (t : ℕ) (xs ys : List Schedule) → ys ≡ map (after t) xs → ((k : ℕ) (x : A) → At of k x → offset x < period x)
      → AreScheduled period offset of t xs → AreScheduled period offset of (t + 1) ys
  all_after t xs ys same short was = record {
    each = ap length same ∙ length-map xs (after t) ∙ was.each;
    are = λ k x at.
        let s = was.are k x at in (
          after t s.0,
          subst (λ l. At l k (after t s.0)) (sym same) (at_map (after t) xs k s.0 s.1),
          after_scheduled (period x) (offset x) t s.0 (short k x at) s.2,
        );
  }

  -- a bound of all periods
  pub periods_below : (t most : ℕ) (xs ys : List Schedule) → ys ≡ xs → ((k : ℕ) (x : A) → At of k x → period x ≤ most) → AreScheduled period offset of t xs
      → (k : ℕ) (s : Schedule) → At ys k s → s.period ≤ most
  periods_below t most xs ys same bound was k s at_y =
      let at = subst (λ l. At l k s) same at_y in
      let below : k < length of = omega (arith, slice_get_within xs k s at, was.each) in
      let x = at_below of k below in
      let its = was.are k x.0 x.1 in
      let e = ap (λ z. z.period) (at_same xs k its.0 s its.1 at) in
      omega (arith, bound k x.0 x.1, its.2.every, e)

  -- what falls due is what is due by the calendar
  pub left_due :
      (t : ℕ) (xs ys : List Schedule) (before was flags kept : List Bool) → xs ≡ ys → before ≡ was → kept ≡ flags → AreScheduled period offset of t ys
      → ((k : ℕ) (s : Schedule) → At xs k s → (slice_index_or flags k false ≡ true) ↔ ((slice_index_or before k false ≡ true) ⊎ (s.next ≡ t)))
      → (n : ℕ) (x : A) → At of n x → (slice_index_or kept n false ≡ true) ↔ ((slice_index_or was n false ≡ true) ⊎ IsDue (period x) (offset x) t)
  left_due t xs ys before was flags kept a e b scheduled told n x at =
      let s = scheduled.are n x at in
      let here = told n s.0 (subst (λ l. At l n s.0) (sym a) s.1) in
      let now = next_is_now (period x) (offset x) t s.0.next s.2.next in
      subst (λ q. (slice_index_or kept n false ≡ true) ↔ ((slice_index_or q n false ≡ true) ⊎ IsDue (period x) (offset x) t)) e
      (subst (λ l. (slice_index_or l n false ≡ true) ↔ ((slice_index_or before n false ≡ true) ⊎ IsDue (period x) (offset x) t)) (sym b)
      ((λ is. ⊎_elim (λ old. inl old) (λ next. inr (now.0 next)) (here.0 is)), (λ o. here.1 (⊎_elim (λ old. inl old) (λ due. inr (now.1 due)) o))))

-- a write behind a place
get_set_before : {A : Type 0} (xs : List A) (k j : ℕ) (y : A) → k < j → slice_get (slice_set xs k y) j ≡ slice_get xs j
get_set_before [] k j y lt = refl
get_set_before (x ∷ xs) zero zero y lt = absurd (omega arith)
get_set_before (x ∷ xs) zero (suc j) y lt = refl
get_set_before (x ∷ xs) (suc k) zero y lt = absurd (omega arith)
get_set_before (x ∷ xs) (suc k) (suc j) y lt = get_set_before xs k j y (omega arith)

-- a flag is up where it was, or where what stands at its place falls due
abbrev pub IsFlag : ℕ → List Schedule → List Bool → ℕ → Bool → Type 0
IsFlag t xs flags j b = (s : Schedule) → At xs j s → (b ≡ true) ↔ ((slice_index_or flags j false ≡ true) ⊎ (s.next ≡ t))

-- one more place has its turn
module _ (t k : ℕ) (was xs : List Schedule) (x : Schedule) (at : At xs k x) (to_come : (j : ℕ) → k ≤ j → slice_get xs j ≡ slice_get was j) where
  here : At was k x
  here = sym (to_come k (omega arith)) ∙ at

  pub done_more : (y : Schedule) → y ≡ after t x → take k xs ≡ map (after t) (take k was) → take (k + 1) (slice_set xs k y) ≡ map (after t) (take (k + 1) was)
  done_more y is done =
      take_more_set xs k y (slice_get_within xs k x at) ∙ ap₂ (λ l z. l ++ z ∷ []) done is
      ∙ ap (λ z. map (after t) (take k was) ++ after t z ∷ []) (sym (get_or_from_slice_get was k x x here))
      ∙ sym (map_more (after t) was k x (slice_get_within was k x here))

  pub to_come_more : (y : Schedule) (j : ℕ) → k + 1 ≤ j → slice_get (slice_set xs k y) j ≡ slice_get was j
  to_come_more y j le = get_set_before xs k j y (omega (arith, le)) ∙ to_come j (omega (arith, le))

  -- .. and falls due
  pub flag_up : (flags left : List Bool) → k < length left → x.next ≡ t → ((j : ℕ) → j < k → IsFlag t was flags j (slice_index_or left j false)) → (j : ℕ)
      → j < k + 1 → IsFlag t was flags j (slice_index_or (slice_set left k true) j false)
  flag_up flags left lt due before =
      set_more false (IsFlag t was flags) left k true lt (λ s at_s. let e : x ≡ s = at_same was k x s here at_s in
      (λ is. inr (sym (ap (λ z. z.next) e) ∙ due), λ o. refl)) before

  pub flags_behind : (flags left : List Bool) → ((j : ℕ) → k ≤ j → slice_index_or left j false ≡ slice_index_or flags j false) → (j : ℕ) → k + 1 ≤ j
      → slice_index_or (slice_set left k true) j false ≡ slice_index_or flags j false
  flags_behind flags left behind j le = get_or-set_other left k j true false (λ e. omega (arith, le, e)) ∙ behind j (omega (arith, le))

  -- .. and does not
  pub flag_stays : (flags left : List Bool) → k < length left → (x.next ≡ t → ⊥) → slice_index_or left k false ≡ slice_index_or flags k false
      → ((j : ℕ) → j < k → IsFlag t was flags j (slice_index_or left j false)) → (j : ℕ) → j < k + 1 → IsFlag t was flags j (slice_index_or left j false)
  flag_stays flags left lt not_due same before j le =
      subst (λ l. IsFlag t was flags j (slice_index_or l j false)) (set-get_or left k false)
      (set_more false (IsFlag t was flags) left k (slice_index_or left k false) lt
      (λ s at_s. let e : x ≡ s = at_same was k x s here at_s in
      (λ is. inl (sym same ∙ is), λ o. ⊎_elim (λ old. same ∙ old) (λ due. absurd (not_due (ap (λ z. z.next) e ∙ due))) o)) before j le)
