-- Steps where there are two of each thing.
use Rattle.std.proofs.Common.{◌≡◌, ℕ, ◌+◌, pos, negsuc, ◌⊎◌, ⊎_elim, ◌↔◌, true, false, inl, refl, Ok, [], ◌∷◌, arith}
use Rattle.std.specs.Prelude.{slice_index_or}
use Rattle.std.proofs.lemmas.Bool.{false≢true}
use Rattle.std.proofs.lemmas.Int.{ints}
use Rattle.std.specs.Global.{Global}
use Rattle.sot_lang.specs.Line.{nav}
use Rattle.sot_lang.specs.Ticks.{next_state, joined}
use Rattle.sot_lang.specs.Ranges.{bounds, range_of}
use Rattle.sot_lists.proofs.ShortLists.{at_none, at_two}
use Rattle.sot_box.specs.Sides.{IsIn}
use Rattle.sot_box.specs.Boxes.{IsWithin}
use Rattle.sot_calendar.specs.Due.{IsDue}
use Rattle.sot_world.specs.Configurations.{is_left_dm, point_of, commands, seen_points, Ac, Sc}
use Rattle.sot_world.specs.Steps.{Step, Input, Decide, Tick}
use Rattle.sot_world.specs.Examples.{twins, twins_at, twins_idle, pair_topic, swapping}

module _ (g : Global) where
  pub both_numbers : Step (twins g) 0 (twins_at 0) (Input 0 (pos 5 ∷ pos 6 ∷ [])) (record (twins_at 0) { scalars = pos 5 ∷ pos 6 ∷ [] })
  both_numbers = record {
    info = pair_topic g;
    is = refl;
    outside = refl;
    size = refl;
    typed =
        at_two (λ i z. IsIn (range_of (twins g).scalars (0 + i)) z) (pos 5) (pos 6) (omega (arith, ints), omega (arith, ints))
        (omega (arith, ints), omega (arith, ints));
    scalars = refl;
    rest = refl;
  }

  pub second_decides : Step (twins g) 0 (twins_at 0) (Decide 1) (record (twins_at 0) { left_dm = true ∷ false ∷ []; modes = Sc ∷ Ac ∷ [] })
  second_decides = record {
    module_info = record (nav g) { plant = 1 };
    is = refl;
    was_left = refl;
    left_dm = refl;
    modes = refl;
    mode = ((λ e. inl (refl, inl (omega (arith, ints), omega (arith, ints), tt))), (λ e. refl));
    rest = refl;
  }

  pub swap : Step (twins g) 0 (twins_idle 1) (Tick ((pos 1 ∷ []) ∷ (negsuc 0 ∷ []) ∷ [])) (record (twins_idle 2) { points = (pos 4 ∷ []) ∷ (pos 19 ∷ []) ∷ [] })
  unfolding next_state
  swap = record {
    may = record {
      nodes = λ n node d at is. absurd (false≢true is);
      modules = λ m a d at is. absurd (at_two (λ m a. is_left_dm (twins_idle 1) m ≡ true → ⊥) _ _ (λ e. false≢true e) (λ e. false≢true e) m a at is);
    };
    each = refl;
    bounded =
        at_two (λ k plant. IsWithin (bounds plant) (slice_index_or ((pos 1 ∷ []) ∷ (negsuc 0 ∷ []) ∷ []) k [])) (swapping g 1) (swapping g 0)
        (omega (arith, ints), omega (arith, ints), tt) (omega (arith, ints), omega (arith, ints), tt);
    moves =
        at_two (λ k plant. next_state plant (point_of (twins_idle 1) k) (commands plant (twins_idle 1)) (joined (seen_points plant (twins_idle 1)))
        (slice_index_or ((pos 1 ∷ []) ∷ (negsuc 0 ∷ []) ∷ []) k []) ≡ Ok (slice_index_or ((pos 4 ∷ []) ∷ (pos 19 ∷ []) ∷ []) k [])) (swapping g 1)
        (swapping g 0) refl refl;
    time = refl;
    left = at_none _;
    left_dm = at_two (λ m a. (is_left_dm (twins_idle 2) m ≡ true) ↔ ((is_left_dm (twins_idle 1) m ≡ true) ⊎ IsDue a.period a.offset 2)) _ _
        ((λ e. absurd (false≢true e)), (λ o. ⊎_elim (λ e. e) (λ d. absurd (no_two d.1)) o))
        ((λ e. absurd (false≢true e)), (λ o. ⊎_elim (λ e. e) (λ d. absurd (no_two d.1)) o));
    sizes = record { left = refl; left_dm = refl; modes = refl; scalars = refl; locals = refl; points = refl };
    rest = refl;
  }
    where
      no_two : ◌≡◌ {A = ℕ} 2 0 → ⊥
      no_two e = omega (arith, e)
