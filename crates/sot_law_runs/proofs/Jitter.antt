-- Ticks of the running example under jitter.
use Rattle.std.proofs.Common.{◌≡◌, ℕ, suc, ◌<◌, ℤ, pos, negsuc, ◌⊎◌, ⊎_elim, ◌↔◌, true, false, Bool, inl, refl, Ok, List, [], ◌∷◌, arith}
use Rattle.std.specs.Prelude.{slice_index_or}
use Rattle.std.proofs.lemmas.Int.{ints}
use Rattle.std.specs.Global.{Global}
use Rattle.sot_lang.specs.Line.{line, fast, slow, nav, pos_plant}
use Rattle.sot_lang.specs.Ticks.{next_state, joined}
use Rattle.sot_lang.specs.Ranges.{bounds}
use Rattle.sot_box.specs.Boxes.{IsWithin}
use Rattle.sot_lists.proofs.ShortLists.{at_one, at_two}
use Rattle.sot_calendar.specs.Due.{IsDue}
use Rattle.sot_calendar.proofs.Clock.{last_now}
use Rattle.sot_world.specs.Configurations.{Configuration, is_left, is_left_dm, point_of, commands, seen_points}
use Rattle.sot_world.specs.Steps.{Step, Tick}
use Rattle.sot_world.proofs.Deadlines.{last_before}
use Rattle.sot_law_runs.specs.Examples.{line_at}

module _ (g : Global) where
  -- at its deadline what is left holds the tick back
  pub node_deadline : (w : List (List ℤ)) (D : Configuration) → Step (line g) 1 (line_at 1 (false ∷ true ∷ []) false (pos 3)) (Tick w) D → ⊥
  node_deadline w D s = s.may.nodes 1 (slow g) 0 refl refl (last_before 1 2 0 1 (omega arith) (omega arith) (omega arith) (omega arith, refl)) refl

  pub node_at_once : (w : List (List ℤ)) (D : Configuration) → Step (line g) 0 (line_at 0 (false ∷ true ∷ []) false (pos 0)) (Tick w) D → ⊥
  node_at_once w D s = s.may.nodes 1 (slow g) 0 refl refl (last_now 2 0 0 (omega arith, refl)) refl

  pub node_three : (w : List (List ℤ)) (D : Configuration) → Step (line g) 3 (line_at 3 (true ∷ false ∷ []) false (pos 5)) (Tick w) D → ⊥
  node_three w D s = s.may.nodes 0 (fast g) 0 refl refl (last_before 3 4 0 3 (omega arith) (omega arith) (omega arith) (omega arith, refl)) refl

  pub decision_deadline : (w : List (List ℤ)) (D : Configuration) → Step (line g) 1 (line_at 1 (false ∷ false ∷ []) true (pos 3)) (Tick w) D → ⊥
  decision_deadline w D s = s.may.modules 0 (nav g) 0 refl refl (last_before 1 4 0 1 (omega arith) (omega arith) (omega arith) (omega arith, refl)) refl

  pub decision_at_once : (w : List (List ℤ)) (D : Configuration) → Step (line g) 0 (line_at 0 (false ∷ false ∷ []) true (pos 0)) (Tick w) D → ⊥
  decision_at_once w D s = s.may.modules 0 (nav g) 0 refl refl (last_now 4 0 0 (omega arith, refl)) refl

  pub decision_three : (w : List (List ℤ)) (D : Configuration) → Step (line g) 3 (line_at 3 (false ∷ false ∷ []) true (pos 5)) (Tick w) D → ⊥
  decision_three w D s = s.may.modules 0 (nav g) 0 refl refl (last_before 3 4 0 3 (omega arith) (omega arith) (omega arith) (omega arith, refl)) refl

  -- a tick before any deadline to a time at which nothing is due: what was left stays left
  ticks_quietly :
      (jitter t : ℕ) (a b m : Bool) (x z w : ℤ) → t < jitter → (IsDue 2 0 (suc t) → ⊥) → (IsDue 4 0 (suc t) → ⊥) → IsWithin (bounds (pos_plant g)) (w ∷ [])
      → next_state (pos_plant g) (x ∷ []) (pos 2 ∷ []) [] (w ∷ []) ≡ Ok (z ∷ []) →
      Step (line g) jitter (line_at t (a ∷ b ∷ []) m x) (Tick ((w ∷ []) ∷ [])) (line_at (suc t) (a ∷ b ∷ []) m z)
  ticks_quietly jitter t a b m x z w early no_two no_four in_bounds next = record {
    may = record { nodes = λ n node d at is last e. omega (arith, e, early); modules = λ k info d at is last e. omega (arith, e, early) };
    each = refl;
    bounded = at_one (λ k plant. IsWithin (bounds plant) (slice_index_or ((w ∷ []) ∷ []) k [])) (pos_plant g) in_bounds;
    moves =
        at_one (λ k plant. next_state plant (point_of (line_at t (a ∷ b ∷ []) m x) k) (commands plant (line_at t (a ∷ b ∷ []) m x))
        (joined (seen_points plant (line_at t (a ∷ b ∷ []) m x))) (slice_index_or ((w ∷ []) ∷ []) k []) ≡ Ok (point_of (line_at (suc t) (a ∷ b ∷ []) m z) k))
        (pos_plant g) next;
    time = refl;
    left =
        at_two (λ n node. (is_left (line_at (suc t) (a ∷ b ∷ []) m z) n ≡ true)
        ↔ ((is_left (line_at t (a ∷ b ∷ []) m x) n ≡ true) ⊎ IsDue node.period node.offset (suc t))) (fast g) (slow g)
        ((λ e. inl e), (λ o. ⊎_elim (λ e. e) (λ d. absurd (no_four d)) o))
        ((λ e. inl e), (λ o. ⊎_elim (λ e. e) (λ d. absurd (no_two d)) o));
    left_dm =
        at_one (λ k info. (is_left_dm (line_at (suc t) (a ∷ b ∷ []) m z) k ≡ true)
        ↔ ((is_left_dm (line_at t (a ∷ b ∷ []) m x) k ≡ true) ⊎ IsDue info.period info.offset (suc t))) (nav g)
        ((λ e. inl e), (λ o. ⊎_elim (λ e. e) (λ d. absurd (no_four d)) o));
    sizes = record { left = refl; left_dm = refl; modes = refl; scalars = refl; locals = refl; points = refl };
    rest = refl;
  }

  -- 1 and 3 are odd
  one_alone : ◌≡◌ {A = ℕ} 1 0 → ⊥
  one_alone e = omega (arith, e)

  three_alone : ◌≡◌ {A = ℕ} 3 0 → ⊥
  three_alone e = omega (arith, e)

  pub node : Step (line g) 1 (line_at 0 (false ∷ true ∷ []) false (pos 0)) (Tick ((pos 1 ∷ []) ∷ [])) (line_at 1 (false ∷ true ∷ []) false (pos 3))
  unfolding next_state
  node =
      ticks_quietly 1 0 false true false (pos 0) (pos 3) (pos 1) (omega arith) (λ d. one_alone d.1) (λ d. one_alone d.1)
      (omega (arith, ints), omega (arith, ints), tt) refl

  pub decision : Step (line g) 1 (line_at 0 (false ∷ false ∷ []) true (pos 0)) (Tick ((pos 1 ∷ []) ∷ [])) (line_at 1 (false ∷ false ∷ []) true (pos 3))
  unfolding next_state
  decision =
      ticks_quietly 1 0 false false true (pos 0) (pos 3) (pos 1) (omega arith) (λ d. one_alone d.1) (λ d. one_alone d.1)
      (omega (arith, ints), omega (arith, ints), tt) refl

  pub three : Step (line g) 3 (line_at 2 (true ∷ false ∷ []) true (pos 4)) (Tick ((negsuc 0 ∷ []) ∷ [])) (line_at 3 (true ∷ false ∷ []) true (pos 5))
  unfolding next_state
  three =
      ticks_quietly 3 2 true false true (pos 4) (pos 5) (negsuc 0) (omega arith) (λ d. one_alone d.1) (λ d. three_alone d.1)
      (omega (arith, ints), omega (arith, ints), tt) refl
