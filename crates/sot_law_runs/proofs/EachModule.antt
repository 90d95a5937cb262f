-- What is safe where there are two of each thing.
use Rattle.std.proofs.Common.{◌≡◌, pos, negsuc, ⊎_elim, true, inl, refl, [], ◌∷◌, arith}
use Rattle.std.proofs.lemmas.Bool.{false≢true}
use Rattle.std.proofs.lemmas.Int.{ints}
use Rattle.std.specs.Global.{Global}
use Rattle.sot_lang.specs.Line.{nav}
use Rattle.sot_lang.specs.Bodies.{execution}
use Rattle.sot_lang.specs.Ticks.{next_state}
use Rattle.sot_lists.proofs.ShortLists.{at_none, at_two}
use Rattle.sot_box.specs.Regions.{IsInRegion}
use Rattle.sot_calendar.proofs.Clock.{last_now}
use Rattle.sot_world.specs.Configurations.{IsSafer, is_left_dm, point_of}
use Rattle.sot_world.specs.Headline.{IsSafeNow}
use Rattle.sot_world.specs.Examples.{twins, far_copy, far_acts, divided_plant}
use Rattle.sot_world.proofs.Unsafe.{no_value}
use Rattle.sot_law_runs.specs.Examples.{twins_in, twins_rest, second_divides, second_far, two_nodes_at}

module _ (g : Global) where
  -- the decisions are left, so no tick may come
  pub inside : IsSafeNow (twins g) 0 (twins_in (pos 20) (pos 3))
  inside = record {
    modules =
        at_two (λ m a. IsInRegion a.safe.boxes (point_of (twins_in (pos 20) (pos 3)) a.plant)) _ _ (inl (omega (arith, ints), omega (arith, ints), tt))
        (inl (omega (arith, ints), omega (arith, ints), tt));
    bodies = λ n node acts at. absurd (at_none (λ n node. ⊥) n node at);
    ticks = λ may. absurd (may.modules 0 (nav g) 0 refl refl (last_now 4 0 0 (omega arith, refl)) refl);
  }

  pub second_outside : IsSafeNow (twins g) 0 (twins_in (pos 3) (pos 41)) → ⊥
  second_outside s = ⊎_elim (λ w. omega (arith, ints, w.1)) (λ no'. no') (s.modules 1 _ refl)

  pub first_outside : IsSafeNow (twins g) 0 (twins_in (pos 41) (pos 3)) → ⊥
  first_outside s = ⊎_elim (λ w. omega (arith, ints, w.1)) (λ no'. no') (s.modules 0 _ refl)

  -- 5 + 9 is not in 0..9
  pub second_body : IsSafeNow (second_far g) 0 (two_nodes_at (pos 5)) → ⊥
  unfolding execution
  second_body s = (let fired = s.bodies 1 (far_copy g) (far_acts g) refl (_, refl, refl) in no_value _ _ fired.0 refl fired.1)

  -- 10 / 0
  pub second_tick : IsSafeNow (second_divides g) 0 (twins_rest (pos 3) (pos 0)) → ⊥
  unfolding next_state
  second_tick s =
      let moved = s.ticks (record {
        nodes = λ n node d at is. absurd (false≢true is);
        modules =
            λ m a d at is. absurd (at_two (λ m a. is_left_dm (twins_rest (pos 3) (pos 0)) m ≡ true → ⊥) _ _ (λ e. false≢true e) (λ e. false≢true e) m a at is);
      }) 1 (divided_plant g) (pos 0 ∷ []) refl (omega (arith, ints), omega (arith, ints), tt) in
      no_value _ _ moved.0 refl moved.1

  pub safer : IsSafer (twins g) (twins_in (pos 10) (negsuc 9))
  safer =
      at_two (λ m a. IsInRegion a.safer.boxes (point_of (twins_in (pos 10) (negsuc 9)) a.plant)) _ _ (inl (omega (arith, ints), omega (arith, ints), tt))
      (inl (omega (arith, ints), omega (arith, ints), tt))

  pub second_not_safer : IsSafer (twins g) (twins_in (pos 3) (pos 11)) → ⊥
  second_not_safer s = ⊎_elim (λ w. omega (arith, ints, w.1)) (λ no'. no') (s 1 _ refl)

  pub first_not_safer : IsSafer (twins g) (twins_in (pos 11) (pos 3)) → ⊥
  first_not_safer s = ⊎_elim (λ w. omega (arith, ints, w.1)) (λ no'. no') (s 0 _ refl)
