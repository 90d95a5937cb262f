-- What two evaluations that meet no trap have in common, step by step.
use Rattle.std.proofs.Common.{◌≡◌, ◌↔◌, inl, inr, ⊎_elim, Ok, Err, List}
use Rattle.sot_box.specs.Sides.{Side}
use Rattle.sot_iv.specs.TermIntervals.{OrMayTrap, After, Chooses, Joins, consed}

pub same_fact : {P : Type 0} → P ↔ P
same_fact = (λ h. h, λ h. h)

-- a value is no trap
pub no_trap : {A B : Type 0} (v : A) (t : B) → Ok v ≡ Err t → ⊥
no_trap v t e = cc

step_there : {A B : Type 0} (P Q : OrMayTrap A → Type 0) (go went : A → Type 0) (v : B) → ((s : A) → P (Ok s) → Q (Ok s)) → ((s : A) → go s → went s)
    → ((x : OrMayTrap A) × P x × After x (Ok v) go) → (x : OrMayTrap A) × Q x × After x (Ok v) went
step_there {A = A} P Q go went v here there h = from h.0 h.1 h.2
  where
    from : (x : OrMayTrap A) → P x → After x (Ok v) go → (x : OrMayTrap A) × Q x × After x (Ok v) went
    from (Ok s) at_x on = (Ok s, here s at_x, there s on)
    from (Err t) at_x on = absurd (no_trap v t on)

-- a step that gives the same, and goes on to the same
pub step : {A B : Type 0} (P Q : OrMayTrap A → Type 0) (go went : A → Type 0) (v : B) → ((s : A) → P (Ok s) ↔ Q (Ok s)) → ((s : A) → go s ↔ went s)
    → ((x : OrMayTrap A) × P x × After x (Ok v) go) ↔ ((x : OrMayTrap A) × Q x × After x (Ok v) went)
step P Q go went v here there =
    (step_there P Q go went v (λ s. (here s).0) (λ s. (there s).0), step_there Q P went go v (λ s. (here s).1) (λ s. (there s).1))

join_there : (P Q : OrMayTrap Side → Type 0) (R S : OrMayTrap (List Side) → Type 0) (v : List Side) → ((s : Side) → P (Ok s) → Q (Ok s))
    → ((ss : List Side) → R (Ok ss) → S (Ok ss)) → ((x : OrMayTrap Side) × P x × Joins x R (Ok v)) → (x : OrMayTrap Side) × Q x × Joins x S (Ok v)
join_there P Q R S v here there h = from h.0 h.1 h.2
  where
    with_rest : (s : Side) (os : OrMayTrap (List Side)) → R os → Ok v ≡ consed s os → (os : OrMayTrap (List Side)) × S os × (Ok v ≡ consed s os)
    with_rest s (Ok ss) at_os e = (Ok ss, there ss at_os, e)
    with_rest s (Err t) at_os e = absurd (no_trap v t e)

    from : (x : OrMayTrap Side) → P x → Joins x R (Ok v) → (x : OrMayTrap Side) × Q x × Joins x S (Ok v)
    from (Ok s) at_x on = (Ok s, here s at_x, with_rest s on.0 on.1 on.2)
    from (Err t) at_x on = absurd (no_trap v t on)

-- one more of a list
pub join : (P Q : OrMayTrap Side → Type 0) (R S : OrMayTrap (List Side) → Type 0) (v : List Side) → ((s : Side) → P (Ok s) ↔ Q (Ok s))
    → ((ss : List Side) → R (Ok ss) ↔ S (Ok ss)) → ((x : OrMayTrap Side) × P x × Joins x R (Ok v)) ↔ ((x : OrMayTrap Side) × Q x × Joins x S (Ok v))
join P Q R S v here there =
    (join_there P Q R S v (λ s. (here s).0) (λ ss. (there ss).0), join_there Q P S R v (λ s. (here s).1) (λ ss. (there ss).1))

choose_there : (x : Side) (first second both first' second' both' : Type 0) → (first → first') → (second → second') → (both → both')
    → Chooses x first second both → Chooses x first' second' both'
choose_there x first second both first' second' both' f s b =
    ⊎_elim (λ l. inl (l.0, l.1, f l.2)) (λ r. inr (⊎_elim (λ l. inl (l.0, l.1, s l.2)) (λ l. inr (l.0, l.1, b l.2)) r))

-- a choice between the same
pub choose : (x : Side) (first second both first' second' both' : Type 0) → (first ↔ first') → (second ↔ second') → (both ↔ both')
    → Chooses x first second both ↔ Chooses x first' second' both'
choose x first second both first' second' both' f s b =
    (choose_there x first second both first' second' both' f.0 s.0 b.0, choose_there x first' second' both' first second both f.1 s.1 b.1)
