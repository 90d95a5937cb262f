-- What stands before each level.
use Rattle.std.proofs.Common.{◌≡◌, ℕ, zero, suc, ◌+◌, ◌-◌, ◌<◌, ◌≤◌, Bool, true, false, ◌⊎◌, ◌↔◌, inl, inr, ⊎_elim, List, [], ◌∷◌, length, sym}
use Rattle.std.proofs.Common.{◌∙◌, subst, arith}
use Rattle.std.specs.Prelude.{slice_index_or, slice_set, MatchBool, if◌then◌else◌}
use Rattle.std.proofs.lemmas.Bool.{cases_eq, false≢true, leb-true, le-leb}
use Rattle.sot_recover.specs.Sets.{IsSet, at_most, IsMonotone, IsHanging, AreRanks}
use Rattle.sot_recover.specs.Entered.{MayEnter, RanksAfter}
use Rattle.sot_recover.proofs.Sets.{taken, taken_other, flag_cases, set_below, has_first, has_later, has_split}
use Rattle.sot_lists.specs.Places.{Has}
use Rattle.sot_lists.proofs.Places.{has_cases}
use Rattle.std.proofs.lemmas.Option.{none-some}

abbrev rank_of : List ℕ → ℕ → ℕ
rank_of ranks i = slice_index_or ranks i 0

-- the places of rank k at most
pub at_set : (k : ℕ) (ranks : List ℕ) (i : ℕ) → IsSet (at_most k ranks) i → (i < length ranks) × (slice_index_or ranks i 0 ≤ k)
at_set k [] i e = absurd (false≢true e)
at_set k (r ∷ rs) zero e = (omega arith, leb-true r k e)
at_set k (r ∷ rs) (suc i) e = (let h = at_set k rs i e in let a = h.0 in (omega (arith, a), h.1))

pub set_at : (k : ℕ) (ranks : List ℕ) (i : ℕ) → i < length ranks → slice_index_or ranks i 0 ≤ k → IsSet (at_most k ranks) i
set_at k [] i lt le = absurd (omega (arith, lt))
set_at k (r ∷ rs) zero lt le = le-leb r k le
set_at k (r ∷ rs) (suc i) lt le = set_at k rs i (omega (arith, lt)) le

-- a set without the places of a list
cut : List Bool → List ℕ → List Bool
cut xs [] = xs
cut xs (j ∷ js) = slice_set (cut xs js) j false

cut_lands : (lands : List Bool → ℕ → Type 0) (hangs : ℕ → ℕ → Type 0) → IsHanging lands hangs → (xs : List Bool) (js : List ℕ) (i : ℕ) → lands xs i
    → ((j : ℕ) → Has js j → hangs j i → ⊥) → lands (cut xs js) i
unfolding cut
cut_lands lands hangs hanging xs [] i l none = l
cut_lands lands hangs hanging xs (j ∷ js) i l none =
    hanging (cut xs js) j i (cut_lands lands hangs hanging xs js i l (λ q h. none q (has_later js q j h))) (none j (has_first js j))

cut_set : (xs : List Bool) (js : List ℕ) (q : ℕ) → IsSet (cut xs js) q → IsSet xs q × (Has js q → ⊥)
unfolding cut
cut_set xs [] q e = (e, λ h. none-some q h.1)
cut_set xs (j ∷ js) q e =
    (let h = cut_set xs js q (taken (cut xs js) j q e) in (h.0, λ has. ⊎_elim (λ same. taken_other (cut xs js) j q e same) (λ r. h.1 r) (has_split js q j has)))

-- before level k: the set has the places of rank k at most, the others have no rank yet, and what lands in it is in it or near
pub record Level (lands : List Bool → ℕ → Type 0) (start set : List Bool) (near ranks : List ℕ) (k : ℕ) : Type 0 where
  pub set_size : length set ≡ length ranks
  pub set_is : (i : ℕ) → i < length ranks → IsSet set i ↔ (slice_index_or ranks i 0 ≤ k)
  pub none_between : (i : ℕ) → i < length ranks → (slice_index_or ranks i 0 ≤ k) ⊎ (slice_index_or ranks i 0 ≡ 4294967295)
  pub zero_are : (i : ℕ) → i < length ranks → (slice_index_or ranks i 0 ≡ 0) ↔ IsSet start i
  pub next_are : (n i : ℕ) → n < k → i < length ranks → IsSet (at_most (suc n) ranks) i ↔ (IsSet (at_most n ranks) i ⊎ lands (at_most n ranks) i)
  pub all_near : (i : ℕ) → i < length ranks → lands set i → IsSet set i ⊎ Has near i

-- the first level: every place is near
pub first_level : (lands : List Bool → ℕ → Type 0) (set : List Bool) (near ranks : List ℕ) → length ranks ≡ length set
    → ((i : ℕ) → i < length set → MatchBool (slice_index_or set i false) (slice_index_or ranks i 0 ≡ 0) (slice_index_or ranks i 0 ≡ 4294967295))
    → ((i : ℕ) → i < length set → Has near i) → Level lands set set near ranks 0
first_level lands set near ranks size is all = record {
  set_size = sym size;
  set_is =
      λ i lt. (let h = is i (omega (arith, lt, size)) in ⊎_elim (λ y. yes i y (says true i y h)) (λ n. no' i n (says false i n h))
      (flag_cases (slice_index_or set i false)));
  none_between =
      λ i lt. (let h = is i (omega (arith, lt, size)) in ⊎_elim (λ y. let e = says true i y h in inl (omega (arith, e))) (λ n. inr (says false i n h))
      (flag_cases (slice_index_or set i false)));
  zero_are =
      λ i lt. (let h = is i (omega (arith, lt, size)) in ⊎_elim (λ y. (λ e. y, λ e. says true i y h))
      (λ n. let m = says false i n h in (λ e. absurd (omega (arith, e, m)), λ e. absurd (false≢true (sym n ∙ e)))) (flag_cases (slice_index_or set i false)));
  next_are = λ n i lt. absurd (omega (arith, lt));
  all_near = λ i lt l. inr (all i (omega (arith, lt, size)));
}
  where
    says : (b : Bool) (i : ℕ) → slice_index_or set i false ≡ b
        → MatchBool (slice_index_or set i false) (slice_index_or ranks i 0 ≡ 0) (slice_index_or ranks i 0 ≡ 4294967295)
        → MatchBool b (slice_index_or ranks i 0 ≡ 0) (slice_index_or ranks i 0 ≡ 4294967295)
    says b i e h = subst (λ x. MatchBool x (slice_index_or ranks i 0 ≡ 0) (slice_index_or ranks i 0 ≡ 4294967295)) e h

    yes : (i : ℕ) → IsSet set i → slice_index_or ranks i 0 ≡ 0 → IsSet set i ↔ (slice_index_or ranks i 0 ≤ 0)
    yes i y e = (λ x. omega (arith, e), λ x. y)

    no' : (i : ℕ) → slice_index_or set i false ≡ false → slice_index_or ranks i 0 ≡ 4294967295 → IsSet set i ↔ (slice_index_or ranks i 0 ≤ 0)
    no' i n e = (λ x. absurd (false≢true (sym n ∙ x)), λ x. absurd (omega (arith, e, x)))

module _ (lands : List Bool → ℕ → Type 0) (hangs : ℕ → ℕ → Type 0) (more : IsMonotone lands) (hanging : IsHanging lands hangs) where
  -- one level more
  pub next_level :
      (start set set' : List Bool) (near fresh near' ranks ranks' : List ℕ) (k : ℕ) → Level lands start set near ranks k → k + 1 < 4294967295 →
      length set' ≡ length set → length ranks' ≡ length set →
      ((i : ℕ) → Has fresh i ↔ (Has near i × MayEnter lands set i)) →
      ((i : ℕ) → IsSet set' i ↔ (IsSet set i ⊎ Has fresh i)) →
      ((i : ℕ) → RanksAfter fresh ranks ranks' (k + 1) i) →
      ((j i : ℕ) → Has fresh j → hangs j i → i < length set → Has near' i) →
      Level lands start set' near' ranks' (k + 1)
  next_level start set set' near fresh near' ranks ranks' k h room size size' fresh_are set_are ranks_are near_are = record {
    set_size = size ∙ sym size';
    set_is = λ i lt. (λ e. upto i (in_old i lt) e, λ le. into i (in_old i lt) le);
    none_between = λ i lt. between i (in_old i lt);
    zero_are = λ i lt. zeros i (in_old i lt);
    next_are =
        λ n i lt there. ⊎_elim (λ (before : n < k). earlier n i before (in_old i there))
        (λ (now : n ≡ k). subst (λ m. IsSet (at_most (suc m) ranks') i ↔ (IsSet (at_most m ranks') i ⊎ lands (at_most m ranks') i)) (sym now)
        (this i (in_old i there))) (last n lt);
    all_near = λ i lt l. near_or i (in_old i lt) l;
  }
    where
      in_old : (i : ℕ) → i < length ranks' → i < length ranks
      in_old i lt = (let a = h.set_size in omega (arith, lt, size', a))

      in_set : (i : ℕ) → i < length ranks → i < length set
      in_set i lt = (let a = h.set_size in omega (arith, lt, a))

      in_new : (i : ℕ) → i < length ranks → i < length ranks'
      in_new i lt = (let a = h.set_size in omega (arith, lt, size', a))

      last : (n : ℕ) → n < k + 1 → (n < k) ⊎ (n ≡ k)
      last n lt = ⊎_elim (λ e. inr e) (λ (ne : n ≡ k → ⊥). inl (omega (arith, lt, ne))) (cases_eq n k)

      -- a fresh place had no rank
      none_yet : (i : ℕ) → i < length ranks → Has fresh i → slice_index_or ranks i 0 ≡ 4294967295
      none_yet i lt f = ⊎_elim (λ le. absurd (((fresh_are i).0 f).1.1 ((h.set_is i lt).1 le))) (λ e. e) (h.none_between i lt)

      upto : (i : ℕ) → i < length ranks → IsSet set' i → slice_index_or ranks' i 0 ≤ k + 1
      upto i lt e = ⊎_elim
          (λ y. let r = (ranks_are i).0 y in omega (arith, r))
          (λ n. let r = (ranks_are i).1 n in ⊎_elim (λ s. let le = (h.set_is i lt).0 s in omega (arith, r, le)) (λ f. absurd (n f)) ((set_are i).0 e))
          (has_cases fresh i)

      into : (i : ℕ) → i < length ranks → slice_index_or ranks' i 0 ≤ k + 1 → IsSet set' i
      into i lt le = ⊎_elim
          (λ y. (set_are i).1 (inr y))
          (λ n. let r = (ranks_are i).1 n in ⊎_elim (λ below. (set_are i).1 (inl ((h.set_is i lt).1 below))) (λ e. absurd (omega (arith, r, e, le, room)))
          (h.none_between i lt))
          (has_cases fresh i)

      between : (i : ℕ) → i < length ranks → (slice_index_or ranks' i 0 ≤ k + 1) ⊎ (slice_index_or ranks' i 0 ≡ 4294967295)
      between i lt = ⊎_elim
          (λ y. let r = (ranks_are i).0 y in inl (omega (arith, r)))
          (λ n. let r = (ranks_are i).1 n in ⊎_elim (λ below. inl (omega (arith, r, below))) (λ e. inr (r ∙ e)) (h.none_between i lt))
          (has_cases fresh i)

      zeros : (i : ℕ) → i < length ranks → (slice_index_or ranks' i 0 ≡ 0) ↔ IsSet start i
      zeros i lt = ⊎_elim
          (λ y. let r = (ranks_are i).0 y in let was = none_yet i lt y in
          (λ e. absurd (omega (arith, r, e)), λ s. let z = (h.zero_are i lt).1 s in absurd (omega (arith, z, was))))
          (λ n. let r = (ranks_are i).1 n in let z = h.zero_are i lt in (λ e. z.0 (sym r ∙ e), λ s. r ∙ z.1 s))
          (has_cases fresh i)

      -- ranks up to k are as before
      same_low : (n i : ℕ) → n ≤ k → i < length ranks → IsSet (at_most n ranks') i ↔ IsSet (at_most n ranks) i
      same_low n i le lt = ⊎_elim
          (λ y. let r = (ranks_are i).0 y in let was = none_yet i lt y in (
            λ e. let a = (at_set n ranks' i e).1 in absurd (omega (arith, r, a, le)),
            λ e. let a = (at_set n ranks i e).1 in
                absurd (omega (arith, was, a, le, room)),
          ))
          (λ f. let r = (ranks_are i).1 f in (
            λ e. let a = (at_set n ranks' i e).1 in set_at n ranks i lt (omega (arith, a, r)),
            λ e. let a = (at_set n ranks i e).1 in
                set_at n ranks' i (in_new i lt) (omega (arith, a, r)),
          ))
          (has_cases fresh i)

      old_to_new : (n : ℕ) → n ≤ k → (q : ℕ) → IsSet (at_most n ranks) q → IsSet (at_most n ranks') q
      old_to_new n le q e = (same_low n q le (at_set n ranks q e).0).1 e

      new_to_old : (n : ℕ) → n ≤ k → (q : ℕ) → IsSet (at_most n ranks') q → IsSet (at_most n ranks) q
      new_to_old n le q e = (same_low n q le (in_old q (at_set n ranks' q e).0)).0 e

      earlier : (n i : ℕ) → n < k → i < length ranks → IsSet (at_most (suc n) ranks') i ↔ (IsSet (at_most n ranks') i ⊎ lands (at_most n ranks') i)
      earlier n i lt there =
          let le : n ≤ k = omega (arith, lt) in
          let old = h.next_are n i lt there in (
            λ e. ⊎_elim (λ s. inl (old_to_new n le i s)) (λ l. inr (more (at_most n ranks) (at_most n ranks') i (old_to_new n le) l))
                (old.0 (new_to_old (suc n) (omega (arith, lt)) i e)),
            λ a. old_to_new (suc n) (omega (arith, lt)) i (old.1
                (⊎_elim (λ s. inl (new_to_old n le i s)) (λ l. inr (more (at_most n ranks') (at_most n ranks) i (new_to_old n le) l)) a)),
          )

      -- the set is what has rank k at most
      set_to_most : (q : ℕ) → IsSet set q → IsSet (at_most k ranks') q
      set_to_most q e =
          let lt : q < length ranks = (let a = set_below set q e in let b = h.set_size in omega (arith, a, b)) in
          old_to_new k (omega arith) q (set_at k ranks q lt ((h.set_is q lt).0 e))

      most_to_set : (q : ℕ) → IsSet (at_most k ranks') q → IsSet set q
      most_to_set q e = (let a = at_set k ranks q (new_to_old k (omega arith) q e) in (h.set_is q a.0).1 a.1)

      enters : (i : ℕ) → i < length ranks → lands set i → IsSet set' i
      enters i lt l = ⊎_elim
          (λ s. (set_are i).1 (inl s))
          (λ n. ⊎_elim
          (λ s. (set_are i).1 (inl s))
          (λ out. (set_are i).1 (inr ((fresh_are i).1 (n, (in_set i lt, (λ s. false≢true (sym out ∙ s)), l)))))
          (flag_cases (slice_index_or set i false)))
          (h.all_near i lt l)

      this : (i : ℕ) → i < length ranks → IsSet (at_most (suc k) ranks') i ↔ (IsSet (at_most k ranks') i ⊎ lands (at_most k ranks') i)
      this i lt = (
        λ e. (let a = (at_set (suc k) ranks' i e).1 in ⊎_elim (λ s. inl (set_to_most i s))
            (λ f. inr (more set (at_most k ranks') i set_to_most ((fresh_are i).0 f).1.2)) ((set_are i).0 (into i lt (omega (arith, a))))),
        λ a. (let s : IsSet set' i = ⊎_elim (λ m. (set_are i).1 (inl (most_to_set i m))) (λ l. enters i lt (more (at_most k ranks') set i most_to_set l)) a in
            let b = upto i lt s in set_at (suc k) ranks' i (in_new i lt) (omega (arith, b))),
      )

      near_or : (i : ℕ) → i < length ranks → lands set' i → IsSet set' i ⊎ Has near' i
      near_or i lt l = ⊎_elim
          (λ y. inr y)
          (λ (n : Has near' i → ⊥).
          let c = cut_lands lands hangs hanging set' fresh i l (λ j f hang. n (near_are j i f hang (in_set i lt))) in
          inl (enters i lt (more (cut set' fresh) set i (λ q e. let s = cut_set set' fresh q e in ⊎_elim (λ x. x) (λ f. absurd (s.1 f)) ((set_are q).0 s.0))
          c)))
          (has_cases near' i)

  -- where nothing entered, ranks are whole
  pub are_ranks :
      (start set : List Bool) (near ranks : List ℕ) (k most : ℕ) → Level lands start set near ranks k
      → ((i : ℕ) → i < length ranks → lands set i → IsSet set i) →
      k < 4294967295 → most ≤ length ranks → length ranks < 4294967295
      → ((i : ℕ) → i < length ranks → (slice_index_or ranks i 0 ≤ most) ⊎ (slice_index_or ranks i 0 ≡ 4294967295)) → AreRanks lands start ranks
  are_ranks start set near ranks k most h whole room fits small low_all = record {
    zero_are = h.zero_are;
    next_are = λ n i below lt. ⊎_elim (λ (b : n < k). h.next_are n i b lt) (λ (a : k ≤ n). above n i a below lt) (order n k);
    few = λ i lt. ⊎_elim (λ a. inl (omega (arith, a, fits))) (λ b. inr b) (low_all i lt);
    last_are = λ i lt l.
        let all = length ranks in
        let s = whole i lt (more (at_most all ranks) set i (λ q e. let a = at_set all ranks q e in
        (h.set_is q a.0).1 (⊎_elim (λ x. x) (λ m. let b = a.1 in absurd (omega (arith, m, b, small))) (h.none_between q a.0))) l) in
        let r = (h.set_is i lt).0 s in
        set_at all ranks i lt (⊎_elim (λ a. omega (arith, a, fits)) (λ m. absurd (omega (arith, m, r, room))) (low_all i lt));
  }
    where
      order : (a b : ℕ) → (a < b) ⊎ (b ≤ a)
      order zero zero = inr (omega arith)
      order zero (suc b) = inl (omega arith)
      order (suc a) zero = inr (omega arith)
      order (suc a) (suc b) = ⊎_elim (λ l. inl (omega (arith, l))) (λ l. inr (omega (arith, l))) (order a b)

      above : (n i : ℕ) → k ≤ n → n < 4294967294 → i < length ranks → IsSet (at_most (suc n) ranks) i ↔ (IsSet (at_most n ranks) i ⊎ lands (at_most n ranks) i)
      above n i le below lt = (
        λ e. inl (set_at n ranks i lt (low i lt (suc n) (omega (arith, below)) (at_set (suc n) ranks i e).1)),
        λ a. ⊎_elim (λ s. let r = (at_set n ranks i s).1 in set_at (suc n) ranks i lt (omega (arith, r)))
            (λ l. let s = whole i lt (more (at_most n ranks) set i
            (λ q e. let a = at_set n ranks q e in (h.set_is q a.0).1 (under q a.0 n (omega (arith, below)) a.1)) l) in let r = (h.set_is i lt).0 s in
            set_at (suc n) ranks i lt (omega (arith, r, le))) a,
      )
        where
          under : (q : ℕ) → q < length ranks → (r : ℕ) → r < 4294967295 → slice_index_or ranks q 0 ≤ r → slice_index_or ranks q 0 ≤ k
          under q there r small is = ⊎_elim (λ x. x) (λ e. absurd (omega (arith, e, small, is))) (h.none_between q there)

          low : (q : ℕ) → q < length ranks → (r : ℕ) → r < 4294967295 → slice_index_or ranks q 0 ≤ r → slice_index_or ranks q 0 ≤ n
          low q there r small is = (let u = under q there r small is in omega (arith, u, le))

-- while places enter, a rank is at most the count of the set
pub going_on : (b : Bool) (k old new : ℕ) (P Q : Type 0) → k ≤ old → MatchBool b (old < new) P → (P → Q) → MatchBool b (k + 1 ≤ new) Q
going_on true k old new P Q le h so = omega (arith, le, h)
going_on false k old new P Q le h so = so h

-- a place that entered has a rank of at most the count
pub entered_low : (b : Bool) (k old new : ℕ) (fresh : List ℕ) (i : ℕ) → k ≤ old → MatchBool b (old < new) ((q : ℕ) → Has fresh q → ⊥) → Has fresh i
    → k + 1 ≤ new
entered_low true k old new fresh i le h f = omega (arith, le, h)
entered_low false k old new fresh i le h f = absurd (h i f)

pub smaller : (b : Bool) (size old new : ℕ) (P : Type 0) → new ≤ size → MatchBool b (old < new) P → suc (if b then suc (size - new) else 0) ≤ suc (size - old)
smaller true size old new P room h = omega (arith, room, h)
smaller false size old new P room h = omega arith
