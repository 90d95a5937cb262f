-- What a call changes, from a state that is another one's.
use Rattle.std.proofs.Common.{◌≡◌, ℕ, ℤ, Bool, true, List, Option, length, sym, subst}
use Rattle.std.specs.Prelude.{MatchOption}
use Rattle.sot_lang.specs.Tables.{Tables}
use Rattle.sot_world.specs.Configurations.{Configuration}
use Rattle.sot_world.specs.Steps.{Inputs, CodeFires, GuestFires}
use Rattle.sot_world.specs.declared.outcome.Firing.{Firing}
use Rattle.sot_guard.specs.declared.outside.Outside.{Outside}
use Rattle.sot_guard.specs.Outside.{AreInBoxes, IsFirstOutside}
use Rattle.sot_guard.specs.Guarding.{Guarding}
use Rattle.sot_guard.specs.Running.{MayRunOn, RunsTo}
use Rattle.sot_guard.specs.Changes.{DecidesWhere, FiresCode, MovesTo, GoesOn, Withdraws}

pub inputs_along : (s t : Guarding) (topic : ℕ) (value : List ℤ) (D : Configuration) → s ≡ t → Inputs s.accepted.program topic value s.at D
    → Inputs t.accepted.program topic value t.at D
inputs_along s t topic value D same step = subst (λ x. Inputs x.accepted.program topic value x.at D) same step

pub decides_along : (s t : Guarding) (m : ℕ) (D : Configuration) → s ≡ t → DecidesWhere s.trusted s.accepted.program s.accepted.cert.jitter m s.at D
    → DecidesWhere t.trusted t.accepted.program t.accepted.cert.jitter m t.at D
decides_along s t m D same step = subst (λ x. DecidesWhere x.trusted x.accepted.program x.accepted.cert.jitter m x.at D) same step

pub fires_along : (s t : Guarding) (n : ℕ) (D : Configuration) (f : Firing) → s ≡ t → FiresCode s.accepted.program n s.at D f
    → FiresCode t.accepted.program n t.at D f
fires_along s t n D f same step = subst (λ x. FiresCode x.accepted.program n x.at D f) same step

pub code_along : (s t : Guarding) (n : ℕ) (D : Configuration) → s ≡ t → (s.trusted ≡ true → CodeFires s.accepted.program n s.at D)
    → t.trusted ≡ true → CodeFires t.accepted.program n t.at D
code_along s t n D same step = subst (λ x. x.trusted ≡ true → CodeFires x.accepted.program n x.at D) same step

pub guest_along : (s t : Guarding) (n : ℕ) (draft : Guarding → List (Option ℤ)) (D : Configuration) → s ≡ t
    → GuestFires s.accepted.program n (draft s) s.at D → GuestFires t.accepted.program n (draft t) t.at D
guest_along s t n draft D same step = subst (λ x. GuestFires x.accepted.program n (draft x) x.at D) same step

pub moves_along : (s t : Guarding) (next : List (List ℤ)) (D : Configuration) → s ≡ t → MovesTo s.accepted.program next s.at D
    → MovesTo t.accepted.program next t.at D
moves_along s t next D same step = subst (λ x. MovesTo x.accepted.program next x.at D) same step

-- .. of the same program, numbers and points
pub may_run_along : (p q : Tables) (n : ℕ) (s t : List ℤ) (x y : List (List ℤ)) (k l : List ℤ) → p ≡ q → s ≡ t → x ≡ y → k ≡ l → MayRunOn q n t y l
    → MayRunOn p n s x k
may_run_along p q n s t x y k l a b d e may =
    subst (λ z. MayRunOn z n s x k) (sym a) (subst (λ z. MayRunOn q n z x k) (sym b) (subst (λ z. MayRunOn q n t z k) (sym d)
    (subst (λ z. MayRunOn q n t y z) (sym e) may)))

pub runs_to_along : (p q : Tables) (n : ℕ) (s t : List ℤ) (x y : List (List ℤ)) (k l after : List ℤ) (draft : List (Option ℤ)) → p ≡ q → s ≡ t → x ≡ y
    → k ≡ l → RunsTo p n s x k after draft → RunsTo q n t y l after draft
runs_to_along p q n s t x y k l after draft a b d e runs =
    subst (λ z. RunsTo q n t y z after draft) e (subst (λ z. RunsTo q n t z k after draft) d (subst (λ z. RunsTo q n z x k after draft) b
    (subst (λ z. RunsTo z n s x k after draft) a runs)))

-- what is told of observations
abbrev pub IsTold : Option Outside → Bool → Tables → List ℤ → List (List ℤ) → List (List ℤ) → Type 0
IsTold o t p scalars points next =
    MatchOption o (t ≡ true → AreInBoxes p scalars points next (length p.plants))
    (λ x. (t ≡ true) × IsFirstOutside p scalars points next x)

pub told_along : (o : Option Outside) (t : Bool) (p q : Tables) (s u : List ℤ) (x y next : List (List ℤ)) → p ≡ q → s ≡ u → x ≡ y
    → IsTold o t p s x next → IsTold o t q u y next
told_along o t p q s u x y next a b d told =
    subst (λ z. IsTold o t q u z next) d (subst (λ z. IsTold o t q z x next) b (subst (λ z. IsTold o t z s x next) a told))

pub watch_along : (s t new : Guarding) (next : List (List ℤ)) (o : Option Outside) → s ≡ t → MatchOption o (GoesOn s new) (λ x. Withdraws s new next x)
    → MatchOption o (GoesOn t new) (λ x. Withdraws t new next x)
watch_along s t new next o same told = subst (λ z. MatchOption o (GoesOn z new) (λ x. Withdraws z new next x)) same told
