-- Due times of one period and offset, and how many ticks are left until they are met.
use Rattle.std.proofs.Common.{◌≡◌, ◌≢◌, ℕ, suc, ◌+◌, ◌-◌, ◌*◌, ◌/◌, ◌%◌, ◌<◌, ◌≤◌, Bool, true, false, ◌⊎◌, ◌↔◌, inl, inr, ⊎_elim, refl, sym, ap, ◌∙◌, arith}
use Rattle.std.proofs.lemmas.Bool.{cases_lt, cases_eq, false≢true}
use Rattle.std.proofs.Math.Nat.{zero-mod, mul-add-mod_self_left, mod-lt, div-add-mod, mod-eq_of_lt, mul-mod_right}
use Rattle.sot_calendar.specs.Due.{IsDue, IsNextDue, IsLastDue, IsDueIn, IsStillDue, IsUntil}

-- the rest of x + e, where e is more than nothing and does not reach the next multiple
pub rest_of : (p x e : ℕ) → 0 < p → x % p + e < p → (x + e) % p ≡ x % p + e
rest_of p x e pos below =
    let split : x + e ≡ p * (x / p) + (x % p + e) = omega (arith, div-add-mod x p) in
    ap (λ n. n % p) split ∙ mul-add-mod_self_left p (x / p) (x % p + e) ∙ mod-eq_of_lt below

-- the next multiple
pub at_next : (p x : ℕ) → 0 < p → (x + (p - x % p)) % p ≡ 0
at_next p x pos =
    let low : x % p < p = mod-lt x pos in
    let split : x + (p - x % p) ≡ p * (x / p + 1) = omega (arith, div-add-mod x p) in
    ap (λ n. n % p) split ∙ mul-mod_right p (x / p + 1)

-- there is a next due time, within a period
pub next_exists : (p o t : ℕ) → o < p → (d : ℕ) × IsDueIn p o t d × (d ≤ p)
next_exists p o t lt = ⊎_elim early late (cases_lt t o)
  where
    early : t < o → (d : ℕ) × IsDueIn p o t d × (d ≤ p)
    early h =
        let e : t + (o - t) ≡ o = omega arith in
        let z : t + (o - t) - o ≡ 0 = omega arith in (
          o - t,
          record {
            later = omega arith;
            due = (omega arith, ap (λ n. n % p) z ∙ zero-mod p);
            least = λ e one due. omega (arith, due.0);
          },
          omega arith,
        )

    late : o ≤ t → (d : ℕ) × IsDueIn p o t d × (d ≤ p)
    late h =
        let pos : 0 < p = omega arith in
        let low : (t - o) % p < p = mod-lt (t - o) pos in
        let d : ℕ = p - (t - o) % p in
        let z : t + d - o ≡ (t - o) + d = omega arith in (
          d,
          record {
            later = omega arith;
            due = (omega arith, ap (λ n. n % p) z ∙ at_next p (t - o) pos);
            least = λ e one due. ⊎_elim
                (λ below.
                let y : t + e - o ≡ (t - o) + e = omega arith in
                let below' : (t - o) % p + e < p = omega arith in
                let r = rest_of p (t - o) e pos below' in
                let zero' : (t - o) % p + e ≡ 0 = sym r ∙ sym (ap (λ n. n % p) y) ∙ due.1 in
                absurd (omega arith))
                (λ up. up)
                (cases_lt e d);
          },
          omega arith,
        )

-- two due times are a period apart
pub due_gap : (p o a b : ℕ) → o < p → IsDue p o a → IsDue p o b → a < b → a + p ≤ b
due_gap p o a b lt da db ab = ⊎_elim close (λ far. far) (cases_lt b (a + p))
  where
    close : b < a + p → a + p ≤ b
    close h =
        let pos : 0 < p = omega arith in
        let y : b - o ≡ (a - o) + (b - a) = omega (arith, da.0, db.0) in
        let below : (a - o) % p + (b - a) < p = omega (arith, da.1) in
        let r = rest_of p (a - o) (b - a) pos below in
        let zero' : (a - o) % p + (b - a) ≡ 0 = sym r ∙ sym (ap (λ n. n % p) y) ∙ db.1 in
        absurd (omega arith)

-- there is one last due time
pub last_same : (p o t d e : ℕ) → IsLastDue p o t d → IsLastDue p o t e → d ≡ e
last_same p o t d e a b = omega (arith, a.greatest e b.past b.due, b.greatest d a.past a.due)

-- it is due or it is not
pub cases_due : (p o t : ℕ) → IsDue p o t ⊎ (IsDue p o t → ⊥)
cases_due p o t =
    ⊎_elim
    (λ early. inr (λ d. omega (arith, d.0)))
    (λ late. ⊎_elim (λ e. inl (late, e)) (λ ne. inr (λ d. ne d.1)) (cases_eq ((t - o) % p) 0))
    (cases_lt t o)

-- what is due now was due last now
pub last_now : (p o t : ℕ) → IsDue p o t → IsLastDue p o t t
last_now p o t d = record { past = omega arith; due = d; greatest = λ u le e. le }

-- at the offset it is due for the first time
pub next_first : (p o t : ℕ) → t ≤ o → IsNextDue p o t o
next_first p o t early = record {
  later = early;
  due = (omega arith, (let none : o - o ≡ 0 = omega arith in ap (λ n. n % p) none ∙ zero-mod p));
  least = λ u from due. due.0;
}

-- what is due now is due next now
pub next_now : (p o t : ℕ) → IsDue p o t → IsNextDue p o t t
next_now p o t due = record { later = omega arith; due = due; least = λ u from later. from }

-- after the offset it is due next at the end of the period that runs
pub next_after : (p o t : ℕ) → o < p → o ≤ t → (t - o) % p ≢ 0 → IsNextDue p o t (t + (p - (t - o) % p))
next_after p o t lt late not_now =
    let pos : 0 < p = omega arith in
    let low : (t - o) % p < p = mod-lt (t - o) pos in
    let d : ℕ = p - (t - o) % p in
    let there : t + d - o ≡ (t - o) + d = omega arith in record {
      later = omega arith;
      due = (omega arith, ap (λ n. n % p) there ∙ at_next p (t - o) pos);
      least = λ u from due. ⊎_elim
          (λ (sooner : u < t + d).
          let e : ℕ = u - t in
          let y : u - o ≡ (t - o) + (u - t) = omega arith in
          let below : (t - o) % p + (u - t) < p = omega arith in
          let rest = rest_of p (t - o) (u - t) pos below in
          let none : (t - o) % p + (u - t) ≡ 0 = sym rest ∙ sym (ap (λ n. n % p) y) ∙ due.1 in
          absurd (not_now (omega arith)))
          (λ up. up)
          (cases_lt u (t + d));
    }

-- there is one next due time
pub next_same : (p o t d e : ℕ) → IsNextDue p o t d → IsNextDue p o t e → d ≡ e
next_same p o t d e a b = omega (arith, a.least e b.later b.due, b.least d a.later a.due)

-- the number of ticks until it fires exists
pub until_exists : (j : ℕ) (left : Bool) (p o t : ℕ) → o < p → (left ≡ true → IsStillDue j p o t) → (r : ℕ) × IsUntil j left p o t r
until_exists j true p o t lt due =
    let d = due refl in (d.0 + j - t, (d.0, d.1, omega (arith, d.2)))
until_exists j false p o t lt due = let d = next_exists p o t lt in (d.0 + j, (d.0, d.1, refl))

-- it is at most a period and the jitter
pub until_bound : (j : ℕ) (left : Bool) (p o t r : ℕ) → o < p → IsUntil j left p o t r → r ≤ p + j
until_bound j true p o t r lt u = omega (arith, u.1.past, u.2)
until_bound j false p o t r lt u =
    let d = next_exists p o t lt in
    let h = u.1.least d.0 d.1.later d.1.due in
    omega (arith, d.2, u.2)

-- a tick takes one from it
pub until_tick : (j : ℕ) (left left' : Bool) (p o t r : ℕ) → o < p → j < p → (left ≡ true → IsStillDue j p o t)
    → ((d : ℕ) → left ≡ true → IsLastDue p o t d → d + j ≢ t) → ((left' ≡ true) ↔ ((left ≡ true) ⊎ IsDue p o (suc t))) → IsUntil j left' p o (suc t) r
    → IsUntil j left p o t (suc r)
until_tick j true false p o t r lt jp due may sets u = absurd (false≢true (sets.1 (inl refl)))
until_tick j true true p o t r lt jp due may sets u =
    let d = due refl in
    let ne = may d.0 refl d.1 in
    let le : d.0 ≤ u.0 = u.1.greatest d.0 (omega (arith, d.1.past)) d.1.due in
    let same : d.0 ≡ u.0 = ⊎_elim
    (λ (less : d.0 < u.0). let gap = due_gap p o d.0 u.0 lt d.1.due u.1.due less in absurd (omega (arith, ne, d.2, u.1.past)))
    (λ (more : u.0 ≤ d.0). omega arith)
    (cases_lt d.0 u.0) in
    (d.0, d.1, omega (arith, u.2))
until_tick j false true p o t r lt jp due may sets u =
    ⊎_elim
    (λ e. absurd (false≢true e))
    (λ now.
    let next : IsDueIn p o t 1 = record { later = omega arith; due = rw Rattle.std.proofs.Math.Numerals.add-one now; least = λ e one d. one } in
    let here : suc t ≤ u.0 = u.1.greatest (suc t) (omega arith) now in
    (1, next, omega (arith, u.1.past, u.2)))
    (sets.0 refl)
until_tick j false false p o t r lt jp due may sets u = (
  suc u.0,
  record {
    later = omega arith;
    due = (let e : t + suc u.0 ≡ suc t + u.0 = omega arith in rw e u.1.due);
    least = λ e one d. ⊎_elim
        (λ (first : e < 2).
        let is : t + e ≡ suc t = omega arith in
        absurd (false≢true (sets.1 (inr (rw is at d)))))
        (λ (more : 2 ≤ e).
        let is : t + e ≡ suc t + (e - 1) = omega arith in
        let h = u.1.least (e - 1) (omega arith) (rw is at d) in
        omega arith)
        (cases_lt e 2);
  },
  omega (arith, u.2),
)

-- what is left after a tick is due, and not yet late
pub still_due_tick : (j : ℕ) (left left' : Bool) (p o t : ℕ) → (left ≡ true → IsStillDue j p o t) → ((d : ℕ) → left ≡ true → IsLastDue p o t d → d + j ≢ t)
    → ((left' ≡ true) ↔ ((left ≡ true) ⊎ IsDue p o (suc t))) → left' ≡ true → IsStillDue j p o (suc t)
still_due_tick j left left' p o t due may sets is =
    ⊎_elim
    (λ now. (suc t, last_now p o (suc t) now, omega arith))
    (λ later. ⊎_elim
    (λ was.
    let d = due was in
    let ne = may d.0 was d.1 in (
      d.0,
      record {
        past = omega (arith, d.1.past);
        due = d.1.due;
        greatest = λ u le e. ⊎_elim
            (λ (old : u < suc t). d.1.greatest u (omega arith) e)
            (λ (new : suc t ≤ u). let same : u ≡ suc t = omega arith in absurd (later (rw same at e)))
            (cases_lt u (suc t));
      },
      omega (arith, ne, d.2),
    ))
    (λ now. absurd (later now))
    (sets.0 is))
    (cases_due p o (suc t))

-- before a tick it is at least 1
pub until_later : (j : ℕ) (left : Bool) (p o t r : ℕ) → (left ≡ true → IsStillDue j p o t) → ((d : ℕ) → left ≡ true → IsLastDue p o t d → d + j ≢ t)
    → IsUntil j left p o t r → 1 ≤ r
until_later j true p o t r due may u =
    let d = due refl in
    let ne = may u.0 refl u.1 in
    let same = last_same p o t d.0 u.0 d.1 u.1 in
    omega (arith, ne, d.2, u.2)
until_later j false p o t r due may u = omega (arith, u.1.later, u.2)
