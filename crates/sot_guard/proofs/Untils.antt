-- How long it is until a node fires, where exactly what is due is left.
use Rattle.std.proofs.Common.{◌≡◌, ◌≢◌, ℕ, zero, suc, ◌+◌, ◌-◌, ◌%◌, ◌<◌, ◌≤◌, Bool, true, false, ◌↔◌, ⊎_elim, List, [], ◌∷◌, length, refl, sym, ap, ◌∙◌, subst, arith}
use Rattle.std.specs.Prelude.{slice_index_or, slice_set}
use Rattle.std.proofs.lemmas.Bool.{false≢true, cases_eq}
use Rattle.std.proofs.lemmas.List.{get_or-set_same, get_or-set_other}
use Rattle.std.proofs.lemmas.Option.{same_Some}
use Rattle.std.proofs.Math.Nat.{zero-mod, mod-lt}
use Rattle.sot_lists.specs.Places.{At}
use Rattle.sot_lists.proofs.Places.{at_same}
use Rattle.sot_calendar.specs.Due.{IsDue, IsDueIn, IsUntil}
use Rattle.sot_calendar.proofs.Clock.{last_now, last_same, next_after, cases_due}
use Rattle.sot_guard.specs.HeldParts.{IsUntilFrom}

-- there is one number of ticks
pub until_same : (j : ℕ) (left : Bool) (p o t q r : ℕ) → IsUntil j left p o t q → IsUntil j left p o t r → q ≡ r
until_same j true p o t q r u v =
    let same = last_same p o t u.0 v.0 u.1 v.1 in
    omega (arith, same, u.2, v.2)
until_same j false p o t q r u v =
    let less = u.1.least v.0 v.1.later v.1.due in
    let more = v.1.least u.0 u.1.later u.1.due in
    omega (arith, less, more, u.2, v.2)

-- before the offset
pub until_early : (j p o t r : ℕ) → t < o → r ≡ o - t + j → IsUntilFrom j p o t r
until_early j p o t r early is true due = absurd (let late = (due.0 refl).0 in omega (arith, early, late))
until_early j p o t r early is false due =
    let none : t + (o - t) - o ≡ 0 = omega (arith, early) in
    let next : IsDueIn p o t (o - t) = record {
      later = omega (arith, early);
      due = (omega (arith, early), ap (λ n. n % p) none ∙ zero-mod p);
      least = λ e one later. omega (arith, later.0);
    } in
    (o - t, next, is)

-- where it is due
pub until_now : (j p o t r : ℕ) → IsDue p o t → r ≡ j → IsUntilFrom j p o t r
until_now j p o t r now is true due = (t, last_now p o t now, ap (λ n. t + n) is)
until_now j p o t r now is false due = absurd (false≢true (due.1 now))

-- within a period
pub until_after : (j p o t r : ℕ) → o < p → o ≤ t → (t - o) % p ≢ 0 → r ≡ p - (t - o) % p + j → IsUntilFrom j p o t r
until_after j p o t r lt late other is true due = absurd (other (due.0 refl).1)
until_after j p o t r lt late other is false due =
    let d : ℕ = p - (t - o) % p in
    let below : (t - o) % p < p = mod-lt (t - o) (omega (arith, lt)) in
    let next = next_after p o t lt late other in
    let in_d : IsDueIn p o t d = record {
      later = omega (arith, below);
      due = next.due;
      least = λ e one later. (let first = next.least (t + e) (omega arith) later in omega (arith, first));
    } in
    (d, in_d, is)

-- flags of what is due
module _ {A : Type 0} (period offset : A → ℕ) (t : ℕ) where
  abbrev AreFlags : List A → List Bool → Type 0
  AreFlags xs flags = (n : ℕ) (x : A) → At xs n x → (slice_index_or flags n false ≡ true) ↔ IsDue (period x) (offset x) t

  one_flag : (b : Bool) (x : A) (xs : List A) (flags : List Bool) → (b ≡ true) ↔ IsDue (period x) (offset x) t → AreFlags xs flags
      → AreFlags (x ∷ xs) (b ∷ flags)
  one_flag b x xs flags here rest zero y at = subst (λ z. (b ≡ true) ↔ IsDue (period z) (offset z) t) (same_Some x y at) here
  one_flag b x xs flags here rest (suc n) y at = rest n y at

  pub due_flags : (xs : List A) → (flags : List Bool) × (length flags ≡ length xs) × AreFlags xs flags
  due_flags [] = ([], refl, λ n x at. absurd cc)
  due_flags (x ∷ xs) =
      let rest = due_flags xs in
      ⊎_elim
      (λ (now : IsDue (period x) (offset x) t).
      let r : (flags : List Bool) × (length flags ≡ length (x ∷ xs)) × AreFlags (x ∷ xs) flags =
      (true ∷ rest.0, ap suc rest.1, one_flag true x xs rest.0 ((λ e. now), (λ d. refl)) rest.2) in r)
      (λ (later : IsDue (period x) (offset x) t → ⊥). (
        false ∷ rest.0,
        ap suc rest.1,
        one_flag false x xs rest.0 ((λ e. absurd (false≢true e)), (λ d. absurd (later d))) rest.2,
      ))
      (cases_due (period x) (offset x) t)

-- flags of what is due, up to some place
module _ {A : Type 0} (period offset : A → ℕ) (t : ℕ) (xs : List A) where
  abbrev pub AreFlagsBelow : ℕ → List Bool → Type 0
  AreFlagsBelow n flags = (k : ℕ) (x : A) → k < n → At xs k x → (slice_index_or flags k false ≡ true) ↔ IsDue (period x) (offset x) t

  pub flag_more : (n : ℕ) (flags : List Bool) (a : A) (b : Bool) → At xs n a → n < length flags → (b ≡ true) ↔ IsDue (period a) (offset a) t
      → AreFlagsBelow n flags → AreFlagsBelow (n + 1) (slice_set flags n b)
  flag_more n flags a b at inside here before k x lt at_k =
      ⊎_elim
      (λ (e : k ≡ n).
      let same : a ≡ x = at_same xs n a x at (subst (λ i. At xs i x) e at_k) in
      let new : slice_index_or (slice_set flags n b) k false ≡ b = ap (λ i. slice_index_or (slice_set flags n b) i false) e ∙ get_or-set_same flags n b false inside in
      subst (λ z. (z ≡ true) ↔ IsDue (period x) (offset x) t) (sym new) (subst (λ y. (b ≡ true) ↔ IsDue (period y) (offset y) t) same here))
      (λ (other : k ≡ n → ⊥). subst (λ z. (z ≡ true) ↔ IsDue (period x) (offset x) t) (sym (get_or-set_other flags n k b false other))
      (before k x (omega (arith, lt, other)) at_k))
      (cases_eq k n)
