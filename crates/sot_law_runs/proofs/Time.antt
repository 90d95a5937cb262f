-- From a configuration that satisfies the invariant, runs come to each later time.
use Rattle.std.proofs.Common.{◌≡◌, ℕ, zero, suc, ◌+◌, ◌-◌, ◌≤◌, true, ◌⊎◌, inl, inr, ⊎_elim, [], ◌∷◌, refl, ap, subst, arith}
use Rattle.sot_lang.specs.Tables.{Tables}
use Rattle.sot_lang.specs.TableRules.{MeetsTableRules}
use Rattle.sot_tube.specs.WellFormed.{IsWellFormed}
use Rattle.sot_world.specs.Configurations.{Configuration, is_left, is_left_dm}
use Rattle.sot_world.specs.Steps.{Event, Code, Guest, Decide, Tick, MayTick, Step, Fires}
use Rattle.sot_world.specs.Invariant.{KeepsInvariant}
use Rattle.sot_world.specs.Progress.{Happens}
use Rattle.sot_world.proofs.Main.{steps_keep_invariant}
use Rattle.sot_world.proofs.Progress.{some_flag}
use Rattle.sot_law_runs.specs.GoingOn.{ComesToTime, TimeGoesOn}
use Rattle.sot_law_runs.proofs.Lists.{set_count, set_less}
use Rattle.sot_law_runs.proofs.GoingOn.{goes_on, ticks, lowest}

-- how much is left to fire and to decide
left_count : Configuration → ℕ
left_count C = set_count C.left + set_count C.left_dm

module _ (p : Tables) (j : ℕ) (rules : MeetsTableRules p) (well : IsWellFormed p j) where
  -- a run with one step before it
  one_more : (C D : Configuration) (e : Event) (time : ℕ) → Step p j C e D → ComesToTime p j D time → ComesToTime p j C time
  one_more C D e time s r = record { events = e ∷ r.events; Ds = D ∷ r.Ds; run = (s, r.run); place = suc r.place; D = r.D; there = r.there; is = r.is }

  -- a firing leaves less, at the same time
  fires_less : (C D : Configuration) (n : ℕ) (node : _) (locals : _) (draft : _) → Fires p n node locals draft C D
      → (suc (left_count D) ≡ left_count C) × (D.time ≡ C.time)
  unfolding left_count
  fires_less C D n node locals draft f =
      let less = set_less C.left n f.was_left in
      let left = ap set_count f.left in
      let left_dm = ap set_count f.left_dm in
      (omega (arith, less, left, left_dm), f.time)

  decides_less : (C D : Configuration) (m : ℕ) → Step p j C (Decide m) D → (suc (left_count D) ≡ left_count C) × (D.time ≡ C.time)
  unfolding left_count
  decides_less C D m s =
      let less = set_less C.left_dm m s.was_left in
      let left : set_count D.left ≡ set_count C.left = ap (λ (E : Configuration). set_count E.left) s.rest in
      let left_dm = ap set_count s.left_dm in
      (omega (arith, less, left, left_dm), ap (λ (E : Configuration). E.time) s.rest)

  -- the step from C to D by this event leaves less, at the same time
  record Settles (C : Configuration) : Type 0 where
    pub e : Event
    pub D : Configuration
    pub step : Step p j C e D
    pub less : suc (left_count D) ≡ left_count C
    pub time : D.time ≡ C.time

  settled_node : (C : Configuration) (n : ℕ) → Happens p j C (Code n) ⊎ ((draft : _) × Happens p j C (Guest n draft)) → Settles C
  settled_node C n happens =
      ⊎_elim
      (λ (code : Happens p j C (Code n)).
      let f = fires_less C code.0 n _ _ _ code.2.fires in
      record { e = Code n; D = code.0; step = code.2; less = f.0; time = f.1 })
      (λ (guest : (draft : _) × Happens p j C (Guest n draft)).
      let f = fires_less C guest.1.0 n _ _ _ guest.1.2.fires in
      record { e = Guest n guest.0; D = guest.1.0; step = guest.1.2; less = f.0; time = f.1 })
      happens

  settled_decision : (C : Configuration) (m : ℕ) → Happens p j C (Decide m) → Settles C
  settled_decision C m happens =
      (let f = decides_less C happens.0 m happens.2 in record { e = Decide m; D = happens.0; step = happens.2; less = f.0; time = f.1 })

  -- something is left, and then it is not so that nothing settles; or a tick may come
  settles_or_ticks : (C : Configuration) → KeepsInvariant p j C → ((Settles C → ⊥) → ⊥) ⊎ MayTick p j C
  settles_or_ticks C h =
      let on = goes_on p j rules well C h in
      ⊎_elim
      (λ (node : (n : ℕ) × (is_left C n ≡ true)). inl (λ no'. no' (settled_node C node.0 (on.node node.0 node.1))))
      (λ no_node. ⊎_elim
      (λ (decision : (m : ℕ) × (is_left_dm C m ≡ true)). inl
      (λ no'. on.decision decision.0 decision.1 (λ happens. no' (settled_decision C decision.0 happens))))
      (λ no_module. inr (record { nodes = λ n node d at is last. absurd (no_node n is); modules = λ m a d at is last. absurd (no_module m is) }))
      (some_flag C.left_dm))
      (some_flag C.left)

  -- what is left fires or is decided, one after another, and then a tick comes
  module _ (u : ℕ) (next : (D : Configuration) → KeepsInvariant p j D → (ComesToTime p j D (D.time + u) → ⊥) → ⊥) where
    tick_on : (C : Configuration) → KeepsInvariant p j C → MayTick p j C → (ComesToTime p j C (C.time + suc u) → ⊥) → ⊥
    tick_on C h may no' =
        let low = lowest p j rules well in
        let tick = ticks p j rules well C h may low.0 low.1 in
        let later : tick.0.time + u ≡ C.time + suc u = omega (arith, tick.2.time) in
        next tick.0 (steps_keep_invariant p j C tick.0 (Tick low.0) rules.typed well h tick.2)
        (λ r. no' (one_more C tick.0 (Tick low.0) (C.time + suc u) tick.2 (subst (ComesToTime p j tick.0) later r)))

    settles : (k : ℕ) (C : Configuration) → left_count C ≤ k → KeepsInvariant p j C → (ComesToTime p j C (C.time + suc u) → ⊥) → ⊥
    settles zero C le h no' =
        ⊎_elim
        (λ (some : (Settles C → ⊥) → ⊥). some (λ s. omega (arith, s.less, le)))
        (λ may. tick_on C h may no')
        (settles_or_ticks C h)
    settles (suc k) C le h no' =
        ⊎_elim
        (λ (some : (Settles C → ⊥) → ⊥). some (λ s.
        let same : s.D.time + suc u ≡ C.time + suc u = ap (λ t. t + suc u) s.time in
        settles k s.D (omega (arith, s.less, le)) (steps_keep_invariant p j C s.D s.e rules.typed well h s.step)
        (λ r. no' (one_more C s.D s.e (C.time + suc u) s.step (subst (ComesToTime p j s.D) same r)))))
        (λ may. tick_on C h may no')
        (settles_or_ticks C h)

  -- so each number of ticks comes
  comes : (u : ℕ) (C : Configuration) → KeepsInvariant p j C → (ComesToTime p j C (C.time + u) → ⊥) → ⊥
  comes zero C h no' = no' (record { events = []; Ds = []; run = tt; place = 0; D = C; there = refl; is = (let e : C.time ≡ C.time + 0 = omega arith in e) })
  comes (suc u) C h no' = settles u (comes u) (left_count C) C (omega arith) h no'

pub time_goes_on : TimeGoesOn
time_goes_on p j C time rules well h le no' =
    let e : C.time + (time - C.time) ≡ time = omega (arith, le) in
    comes p j rules well (time - C.time) C h (λ r. no' (subst (ComesToTime p j C) e r))
