-- Configurations, programs and runs that are not safe.
use Rattle.std.proofs.Common.{◌≡◌, pos, ◌⊎◌, ⊎_elim, ◌↔◌, true, false, inl, inr, refl, sym, ◌∙◌, Ok, Err, [], ◌∷◌, length, arith}
use Rattle.std.specs.Prelude.{slice_index_or, Result}
use Rattle.std.proofs.lemmas.Bool.{false≢true}
use Rattle.std.proofs.lemmas.Int.{ints}
use Rattle.std.specs.Global.{Global}
use Rattle.sot_lang.specs.declared.trap.Trap.{Trap}
use Rattle.sot_lang.specs.Line.{line, nav, pos_plant}
use Rattle.sot_lang.specs.Bodies.{execution}
use Rattle.sot_lang.specs.Ticks.{next_state, joined}
use Rattle.sot_lang.specs.Ranges.{bounds}
use Rattle.sot_lists.proofs.ShortLists.{at_one, at_two}
use Rattle.sot_box.specs.Boxes.{IsWithin}
use Rattle.sot_box.specs.Regions.{IsInRegion}
use Rattle.sot_calendar.specs.Due.{IsDue}
use Rattle.sot_world.specs.Configurations.{IsOpening, IsSafer, is_left, is_left_dm, point_of, commands, seen_points}
use Rattle.sot_world.specs.Steps.{Step, Tick}
use Rattle.sot_world.specs.Headline.{IsSafeNow, EveryRunIsSafe}
use Rattle.sot_world.specs.Examples.{ticked, settled, relaying, narrow, drifting, dividing, divided_plant, far_relay, far_copy, far_acts, opening_at, drift_0}
use Rattle.sot_world.specs.Examples.{drift_1}
use Rattle.sot_world.proofs.LineSteps.{opens, none_left}

pub no_value : {A : Type 0} (o : Result A Trap) (t : Trap) (x : A) → o ≡ Err t → o ≡ Ok x → ⊥
no_value o t x a b = (let e : Err t ≡ Ok x = sym a ∙ b in cc)

module _ (g : Global) where
  pub outside : IsSafeNow (line g) 0 (record ticked { points = (pos 41 ∷ []) ∷ [] }) → ⊥
  outside s = ⊎_elim (λ w. omega (arith, ints, w.1)) (λ no'. no') (s.modules 0 (nav g) refl)

  -- the node is neither left nor due
  pub code_traps : IsSafeNow (far_relay g) 0 (record (relaying (pos 5) (pos 0)) { time = 1; left = false ∷ [] }) → ⊥
  unfolding execution
  code_traps s = (let fired = s.bodies 0 (far_copy g) (far_acts g) refl (_, refl, refl) in no_value _ _ fired.0 refl fired.1)

  pub tick_traps : IsSafeNow (dividing g) 0 settled → ⊥
  unfolding next_state
  tick_traps s =
      let none = none_left g settled refl refl in
      let moved = s.ticks (record { nodes = none.nodes; modules = none.modules }) 0 (divided_plant g) (pos 0 ∷ []) refl
      (omega (arith, ints), omega (arith, ints), tt) in
      no_value _ _ moved.0 refl moved.1

  opens_narrow : IsOpening (narrow g) ((pos 7 ∷ []) ∷ []) (opening_at (pos 7))
  opens_narrow = (let o = opens g in record {
    time = refl;
    left = o.left;
    left_dm = at_one (λ m a. (is_left_dm (opening_at (pos 7)) m ≡ true) ↔ IsDue a.period a.offset 0) _ ((λ e. (omega arith, refl)), (λ d. refl));
    modes = refl;
    scalars = refl;
    locals = refl;
    points = refl;
    sizes = record { left = refl; left_dm = refl; modes = refl; scalars = refl; locals = refl; points = refl };
    widths = at_one (λ k plant. length (point_of (opening_at (pos 7)) k) ≡ length plant.states.items) (pos_plant g) refl;
  })

  -- the opening belongs to the run
  pub unsafe_opening : EveryRunIsSafe (narrow g) 0 → ⊥
  unsafe_opening every =
      let safer : IsSafer (narrow g) (opening_at (pos 7)) = at_one (λ m a. IsInRegion a.safer.boxes (point_of (opening_at (pos 7)) a.plant)) _
      (inl (omega (arith, ints), omega (arith, ints), tt)) in
      let s = every ((pos 7 ∷ []) ∷ []) (opening_at (pos 7)) [] [] opens_narrow safer tt 0 (opening_at (pos 7)) refl in
      ⊎_elim (λ w. omega (arith, ints, w.1)) (λ no'. no') (s.modules 0 _ refl)

  opens_drift : IsOpening (drifting g) ((pos 0 ∷ []) ∷ []) drift_0
  opens_drift = record {
    time = refl;
    left =
        at_two (λ n node. (is_left drift_0 n ≡ true) ↔ IsDue node.period node.offset 0) _ _ ((λ e. absurd (false≢true e)), (λ d. absurd (omega (arith, d.0))))
        ((λ e. absurd (false≢true e)), (λ d. absurd (omega (arith, d.0))));
    left_dm = at_one (λ m a. (is_left_dm drift_0 m ≡ true) ↔ IsDue a.period a.offset 0) _ ((λ e. absurd (false≢true e)), (λ d. absurd (omega (arith, d.0))));
    modes = refl;
    scalars = refl;
    locals = refl;
    points = refl;
    sizes = record { left = refl; left_dm = refl; modes = refl; scalars = refl; locals = refl; points = refl };
    widths = at_one (λ k plant. length (point_of drift_0 k) ≡ length plant.states.items) (pos_plant g) refl;
  }

  drifts : Step (drifting g) 0 drift_0 (Tick ((pos 1 ∷ []) ∷ [])) drift_1
  unfolding next_state
  drifts = record {
    may = record {
      nodes = λ n node d at is. absurd (at_two (λ n node. is_left drift_0 n ≡ true → ⊥) _ _ (λ e. false≢true e) (λ e. false≢true e) n node at is);
      modules = λ m a d at is. absurd (at_one (λ m a. is_left_dm drift_0 m ≡ true → ⊥) _ (λ e. false≢true e) m a at is);
    };
    each = refl;
    bounded =
        at_one (λ k plant. IsWithin (bounds plant) (slice_index_or ((pos 1 ∷ []) ∷ []) k [])) (pos_plant g) (omega (arith, ints), omega (arith, ints), tt);
    moves =
        at_one (λ k plant. next_state plant (point_of drift_0 k) (commands plant drift_0) (joined (seen_points plant drift_0))
        (slice_index_or ((pos 1 ∷ []) ∷ []) k []) ≡ Ok (point_of drift_1 k)) (pos_plant g) refl;
    time = refl;
    left = at_two (λ n node. (is_left drift_1 n ≡ true) ↔ ((is_left drift_0 n ≡ true) ⊎ IsDue node.period node.offset 1)) _ _
        ((λ e. absurd (false≢true e)), (λ o. ⊎_elim (λ e. e) (λ d. absurd (omega (arith, d.0))) o))
        ((λ e. inr (omega arith, refl)), (λ o. refl));
    left_dm =
        at_one (λ m a. (is_left_dm drift_1 m ≡ true) ↔ ((is_left_dm drift_0 m ≡ true) ⊎ IsDue a.period a.offset 1)) _
        ((λ e. inr (omega arith, refl)), (λ o. refl));
    sizes = record { left = refl; left_dm = refl; modes = refl; scalars = refl; locals = refl; points = refl };
    rest = refl;
  }

  pub unsafe_run : EveryRunIsSafe (drifting g) 0 → ⊥
  unsafe_run every =
      let safer : IsSafer (drifting g) drift_0 = at_one (λ m a. IsInRegion a.safer.boxes (point_of drift_0 a.plant)) _
      (inl (omega (arith, ints), omega (arith, ints), tt)) in
      let s = every ((pos 0 ∷ []) ∷ []) drift_0 (Tick ((pos 1 ∷ []) ∷ []) ∷ []) (drift_1 ∷ []) opens_drift safer (drifts, tt) 1 drift_1 refl in
      ⊎_elim (λ w. omega (arith, ints, w.1)) (λ no'. no') (s.modules 0 _ refl)
