-- What is still to come gets less with each event.
use Rattle.std.proofs.Common.{◌≡◌, ℕ, zero, suc, ◌+◌, ◌≤◌, ◌<◌, ◌⊎◌, ⊎_elim, inr, Bool, true, false, List, [], ◌∷◌, length, refl, ap, arith}
use Rattle.std.specs.Prelude.{slice_index_or, slice_set, if◌then◌else◌}
use Rattle.std.proofs.lemmas.Bool.{and_from, le-leb, eq-eqb}
use Rattle.sot_calendar.specs.Due.{IsDue}
use Rattle.sot_flight.specs.Counts.{due_once, due_count}
use Rattle.sot_board.specs.Room.{due_after, one_if, to_come}

-- a due time counts once
pub once_due : (period offset t : ℕ) → IsDue period offset t → due_once period offset t ≡ 1
once_due period offset t due = ap (λ b. if b then 1 else 0) (and_from _ _ (le-leb offset t due.0) (eq-eqb _ 0 due.1))

-- what is left now was left before, or is due now
fewer : (b b' : Bool) (n : ℕ) → (b' ≡ true → (b ≡ true) ⊎ (n ≡ 1)) → one_if b' ≤ one_if b + n
fewer b false n h = omega arith
fewer true true n h = omega arith
fewer false true n h = ⊎_elim (λ e. cc) (λ e. omega (arith, e)) (h refl)

-- a tick: what is left after it was left before it or is due then
pub after_tick :
    (t k : ℕ) (xs : List (ℕ × ℕ)) (left left' : List Bool) → length left ≡ length xs → length left' ≡ length xs
    → ((i : ℕ) → i < length xs → slice_index_or left' i false ≡ true
    → (slice_index_or left i false ≡ true) ⊎ (due_once (slice_index_or xs i (0, 0)).0 (slice_index_or xs i (0, 0)).1 (suc t) ≡ 1))
    → to_come (suc t) k xs left' ≤ to_come t (suc k) xs left
after_tick t k [] left left' size size' each = omega arith
after_tick t k (x ∷ xs) [] left' size size' each = cc
after_tick t k (x ∷ xs) (b ∷ left) [] size size' each = cc
after_tick t k (x ∷ xs) (b ∷ left) (b' ∷ left') size size' each =
    let here = fewer b b' (due_once x.0 x.1 (suc t)) (each 0 (omega arith)) in
    let rest = after_tick t k xs left left' (omega (arith, size)) (omega (arith, size')) (λ i lt. each (suc i) (omega (arith, lt))) in
    omega (arith, here, rest)

-- what was left is so no longer
pub after_one :
    (t k : ℕ) (xs : List (ℕ × ℕ)) (left : List Bool) (i : ℕ) → i < length xs → slice_index_or left i false ≡ true
    → to_come t k xs (slice_set left i false) + 1 ≡ to_come t k xs left
after_one t k [] left i lt was = absurd (omega (arith, lt))
after_one t k (x ∷ xs) [] i lt was = cc
after_one t k (x ∷ xs) (b ∷ left) zero lt was = (let on : one_if b ≡ 1 = ap one_if was in omega (arith, on))
after_one t k (x ∷ xs) (b ∷ left) (suc i) lt was = (let rest = after_one t k xs left i (omega (arith, lt)) was in omega (arith, rest))

-- the calendar's count from the first tick on
last_tick : (period offset t k : ℕ) → due_after period offset t (suc k) ≡ due_after period offset t k + due_once period offset (suc (t + k))
last_tick period offset t zero =
    let at : due_once period offset (suc t) ≡ due_once period offset (suc (t + 0)) =
    ap (λ n. due_once period offset n) (let e : suc t ≡ suc (t + 0) = omega arith in e) in
    omega (arith, at)
last_tick period offset t (suc k) =
    let rest = last_tick period offset (suc t) k in
    let at : due_once period offset (suc (suc t + k)) ≡ due_once period offset (suc (t + suc k)) =
    ap (λ n. due_once period offset n) (let e : suc (suc t + k) ≡ suc (t + suc k) = omega arith in e) in
    omega (arith, rest, at)

pub count_from_0 : (period offset h : ℕ) → due_once period offset 0 + due_after period offset 0 h ≡ due_count period offset h
count_from_0 period offset zero = omega arith
count_from_0 period offset (suc h) =
    let rest = count_from_0 period offset h in
    let last = last_tick period offset 0 h in
    let at : due_once period offset (suc (0 + h)) ≡ due_once period offset (suc h) =
    ap (λ n. due_once period offset n) (let e : suc (0 + h) ≡ suc h = omega arith in e) in
    omega (arith, rest, last, at)

-- the sum of the counts
abbrev pub counts : ℕ → List (ℕ × ℕ) → ℕ
counts h [] = 0
counts h (x ∷ xs) = due_count x.0 x.1 h + counts h xs

-- the opening: what is left is due at 0
pub at_opening :
    (h : ℕ) (xs : List (ℕ × ℕ)) (left : List Bool) → length left ≡ length xs
    → ((i : ℕ) → i < length xs → slice_index_or left i false ≡ true → due_once (slice_index_or xs i (0, 0)).0 (slice_index_or xs i (0, 0)).1 0 ≡ 1)
    → to_come 0 h xs left ≤ counts h xs
at_opening h [] left size each = omega arith
at_opening h (x ∷ xs) [] size each = cc
at_opening h (x ∷ xs) (b ∷ left) size each =
    let here = fewer false b (due_once x.0 x.1 0) (λ e. inr (each 0 (omega arith) e)) in
    let rest = at_opening h xs left (omega (arith, size)) (λ i lt. each (suc i) (omega (arith, lt))) in
    let count = count_from_0 x.0 x.1 h in
    omega (arith, here, rest, count)
