-- A run of the spring, in which its module decides before a whole hold.
use Rattle.std.proofs.Common.{◌≡◌, ℕ, zero, suc, ◌≤◌, ℤ, pos, ◌⊎◌, inl, inr, ⊎_elim, true, false, [], ◌∷◌, ◌++◌, Ok, Some, refl, sym, ap, ◌∙◌}
use Rattle.std.proofs.Common.{length, arith}
use Rattle.std.specs.Prelude.{◌↔◌, slice_index_or, ◌+◌}
use Rattle.std.proofs.lemmas.Int.{ints}
use Rattle.std.proofs.lemmas.Bool.{false≢true}
use Rattle.std.proofs.lemmas.Option.{same_Some}
use Rattle.std.specs.Global.{Global}
use Rattle.sot_lists.specs.Places.{At}
use Rattle.sot_lists.proofs.ShortLists.{at_one, at_two}
use Rattle.sot_box.specs.Boxes.{IsWithin}
use Rattle.sot_box.specs.Regions.{IsInRegion}
use Rattle.sot_calendar.specs.Due.{IsDue}
use Rattle.sot_lang.specs.Bodies.{execution}
use Rattle.sot_lang.specs.Ticks.{next_state, joined}
use Rattle.sot_lang.specs.Ranges.{bounds}
use Rattle.sot_tube.specs.Tubes.{Keeps}
use Rattle.sot_tube.proofs.Tubes.{keeps_inside}
use Rattle.sot_world.specs.declared.mode.Mode.{Mode}
use Rattle.sot_world.specs.declared.mode.Mode.TheVariants.{Ac, Sc}
use Rattle.sot_world.specs.Configurations.{Configuration, IsOpening, IsSafer, is_left, is_left_dm, mode_of, point_of, commands, seen_points}
use Rattle.sot_world.specs.Steps.{Step, Code, Guest, Decide, MayTick}
use Rattle.sot_world.specs.Runs.{Run}
use Rattle.sot_law_runs.specs.RunHolds.{IsStretch, TrustsAfter}
use Rattle.sot_law_runs.specs.Spring.{spring, spring_plant, pulls, lets_go, let_go_acts, spring_module, spring_parts, tick, spring_at, both, neither}
use Rattle.sot_law_runs.specs.Spring.{pulling, pulled, letting_go, let_go}

sc_not_ac : Sc ≡ Ac → ⊥
sc_not_ac e = cc

module _ (g : Global) where
  pub opens : IsOpening (spring g) ((pos 0 ∷ []) ∷ []) (spring_at 0 both true Sc (pos 0) (pos 0))
  opens = record {
    time = refl;
    left =
        at_two (λ n node. (is_left (spring_at 0 both true Sc (pos 0) (pos 0)) n ≡ true) ↔ IsDue node.period node.offset 0) (pulls g) (lets_go g)
        ((λ e. (omega arith, refl)), (λ d. refl)) ((λ e. (omega arith, refl)), (λ d. refl));
    left_dm =
        at_one (λ m a. (is_left_dm (spring_at 0 both true Sc (pos 0) (pos 0)) m ≡ true) ↔ IsDue a.period a.offset 0) (spring_module g)
        ((λ e. (omega arith, refl)), (λ d. refl));
    modes = refl;
    scalars = refl;
    locals = refl;
    points = refl;
    sizes = record { left = refl; left_dm = refl; modes = refl; scalars = refl; locals = refl; points = refl };
    widths =
        at_one (λ k plant. length (point_of (spring_at 0 both true Sc (pos 0) (pos 0)) k) ≡ length plant.states.items) (spring_plant g)
        refl;
  }

  pub safer : IsSafer (spring g) (spring_at 0 both true Sc (pos 0) (pos 0))
  safer =
      at_one (λ m a. IsInRegion a.safer.boxes (point_of (spring_at 0 both true Sc (pos 0) (pos 0)) a.plant)) (spring_module g)
      (inl (omega (arith, ints), omega (arith, ints), tt))

  none_left : (C : Configuration) → C.left ≡ neither → C.left_dm ≡ false ∷ [] → MayTick (spring g) 0 C
  none_left C l m = record {
    nodes =
        λ n node d at is. absurd (at_two (λ n node. slice_index_or C.left n false ≡ true → ⊥) (pulls g) (lets_go g)
        (λ e. false≢true (sym (ap (λ x. slice_index_or x 0 false) l) ∙ e)) (λ e. false≢true (sym (ap (λ x. slice_index_or x 1 false) l) ∙ e)) n node at is);
    modules =
        λ k a d at is. absurd (at_one (λ k a. slice_index_or C.left_dm k false ≡ true → ⊥) (spring_module g)
        (λ e. false≢true (sym (ap (λ x. slice_index_or x 0 false) m) ∙ e)) k a at is);
  }

  -- a tick, after which all is due again
  ticks : (t : ℕ) (mode : Mode) (c x y : ℤ) → IsDue 1 0 (suc t) → next_state (spring_plant g) (x ∷ []) (c ∷ []) [] [] ≡ Ok (y ∷ [])
      → Step (spring g) 0 (spring_at t neither false mode c x) tick (spring_at (suc t) both true mode c y)
  ticks t mode c x y due next = record {
    may = none_left (spring_at t neither false mode c x) refl refl;
    each = refl;
    bounded = at_one (λ k plant. IsWithin (bounds plant) (slice_index_or ([] ∷ []) k [])) (spring_plant g) tt;
    moves =
        at_one (λ k plant. next_state plant (point_of (spring_at t neither false mode c x) k) (commands plant (spring_at t neither false mode c x))
        (joined (seen_points plant (spring_at t neither false mode c x))) (slice_index_or ([] ∷ []) k [])
        ≡ Ok (point_of (spring_at (suc t) both true mode c y) k)) (spring_plant g) next;
    time = refl;
    left =
        at_two (λ n node. (is_left (spring_at (suc t) both true mode c y) n ≡ true)
        ↔ ((is_left (spring_at t neither false mode c x) n ≡ true) ⊎ IsDue node.period node.offset (suc t))) (pulls g) (lets_go g)
        ((λ e. inr due), (λ o. refl)) ((λ e. inr due), (λ o. refl));
    left_dm =
        at_one (λ m a. (is_left_dm (spring_at (suc t) both true mode c y) m ≡ true)
        ↔ ((is_left_dm (spring_at t neither false mode c x) m ≡ true) ⊎ IsDue a.period a.offset (suc t))) (spring_module g)
        ((λ e. inr due), (λ o. refl));
    sizes = record { left = refl; left_dm = refl; modes = refl; scalars = refl; locals = refl; points = refl };
    rest = refl;
  }

  ticks_0 : Step (spring g) 0 (spring_at 0 neither false Ac (pos 1) (pos 0)) tick (spring_at 1 both true Ac (pos 1) (pos 1))
  unfolding next_state
  ticks_0 = ticks 0 Ac (pos 1) (pos 0) (pos 1) (omega arith, refl) refl

  ticks_1 : Step (spring g) 0 (spring_at 1 neither false Sc (pos 1) (pos 1)) tick (spring_at 2 both true Sc (pos 1) (pos 2))
  unfolding next_state
  ticks_1 = ticks 1 Sc (pos 1) (pos 1) (pos 2) (omega arith, refl) refl

  -- the decisions: trusted at 0, not at 1, where two ticks more can come to 3, and not at 2
  trusts_0 : Step (spring g) 0 (spring_at 0 both true Sc (pos 0) (pos 0)) (Decide 0) (spring_at 0 both false Ac (pos 0) (pos 0))
  trusts_0 = record {
    module_info = spring_module g;
    is = refl;
    was_left = refl;
    left_dm = refl;
    modes = refl;
    mode = ((λ e. inl (refl, inl (omega (arith, ints), omega (arith, ints), tt))), (λ e. refl));
    rest = refl;
  }

  leaves_1 : Keeps (spring g) 0 (spring_module g) (pos 1 ∷ []) → ⊥
  unfolding next_state
  leaves_1 k =
      let is : IsInRegion (spring_module g).safe.boxes (pos 3 ∷ []) = keeps_inside (spring g) 0 (spring_module g) (spring_plant g) (pos 1 ∷ []) refl k
      (Ok (pos 3 ∷ [])) (
        2,
        omega arith,
        (
          pos 2 ∷ [],
          (
            pos 1 ∷ [],
            refl,
            record {
              c = pos 1 ∷ [];
              seen = [];
              w = [];
              allowed = (omega (arith, ints), omega (arith, ints), tt);
              safe = tt;
              bounded = tt;
              is = refl;
            },
          ),
          record {
            c = pos 1 ∷ [];
            seen = [];
            w = [];
            allowed = (omega (arith, ints), omega (arith, ints), tt);
            safe = tt;
            bounded = tt;
            is = refl;
          },
        ),
      ) in
      ⊎_elim (λ w. absurd (omega (arith, ints, w.1))) (λ no'. no') is

  switches_1 : Step (spring g) 0 (spring_at 1 neither true Ac (pos 1) (pos 1)) (Decide 0) (spring_at 1 neither false Sc (pos 1) (pos 1))
  switches_1 = record {
    module_info = spring_module g;
    is = refl;
    was_left = refl;
    left_dm = refl;
    modes = refl;
    mode = ((λ e. absurd (sc_not_ac e)), (λ o. ⊎_elim (λ s. absurd (sc_not_ac (sym s.0))) (λ k. absurd (leaves_1 k.1)) o));
    rest = refl;
  }

  stays_2 : Step (spring g) 0 (spring_at 2 (true ∷ false ∷ []) true Sc (pos 0) (pos 2)) (Decide 0)
      (spring_at 2 (true ∷ false ∷ []) false Sc (pos 0) (pos 2))
  stays_2 = record {
    module_info = spring_module g;
    is = refl;
    was_left = refl;
    left_dm = refl;
    modes = refl;
    mode = (
      (λ e. absurd (sc_not_ac e)),
      (λ o. ⊎_elim (λ s. ⊎_elim (λ w. absurd (omega (arith, ints, w.1))) (λ no'. absurd no') s.1) (λ k. absurd (sc_not_ac k.0))
          o),
    );
    rest = refl;
  }

  -- the firings
  pulls_1 : (t : ℕ) (left_dm c x : _) → Step (spring g) 0 (spring_at t both left_dm Ac c x) (Guest 0 (Some (pos 1) ∷ []))
      (spring_at t (false ∷ true ∷ []) left_dm Ac (pos 1) x)
  pulls_1 t left_dm c x =
      record {
        node = pulls g;
        is = refl;
        external = refl;
        slots = refl;
        fires = record { was_left = refl; time = refl; left = refl; left_dm = refl; modes = refl; points = refl; locals_set = refl; scalars = refl };
      }

  idle : (t : ℕ) (left_dm c x : _) → Step (spring g) 0 (spring_at t (false ∷ true ∷ []) left_dm Ac c x) (Code 1) (spring_at t neither left_dm Ac c x)
  unfolding execution
  idle t left_dm c x = record {
    node = lets_go g;
    is = refl;
    acts = let_go_acts g;
    coded = (_, refl, refl);
    fired = record { locals = []; draft = Some (pos 0) ∷ [] };
    runs = refl;
    fires = record { was_left = refl; time = refl; left = refl; left_dm = refl; modes = refl; points = refl; locals_set = refl; scalars = refl };
  }

  lets : Step (spring g) 0 (spring_at 2 both true Sc (pos 1) (pos 2)) (Code 1) (spring_at 2 (true ∷ false ∷ []) true Sc (pos 0) (pos 2))
  unfolding execution
  lets = record {
    node = lets_go g;
    is = refl;
    acts = let_go_acts g;
    coded = (_, refl, refl);
    fired = record { locals = []; draft = Some (pos 0) ∷ [] };
    runs = refl;
    fires = record { was_left = refl; time = refl; left = refl; left_dm = refl; modes = refl; points = refl; locals_set = refl; scalars = refl };
  }

  run : Run (spring g) 0 (spring_at 0 both true Sc (pos 0) (pos 0)) (pulling ++ (letting_go ++ Decide 0 ∷ [])) (pulled ++ let_go)
  run = (
    trusts_0,
    (
      pulls_1 0 false (pos 0) (pos 0),
      (
        idle 0 false (pos 1) (pos 0),
        (ticks_0, (pulls_1 1 true (pos 1) (pos 1), (idle 1 true (pos 1) (pos 1), (switches_1, (ticks_1, (lets, (stays_2, tt))))))),
      ),
    ),
  )

  pub stretch : IsStretch (spring_parts g) ((pos 0 ∷ []) ∷ []) (spring_at 0 both true Sc (pos 0) (pos 0)) pulling letting_go (Decide 0 ∷ [])
      (pulled ++ let_go)
  stretch = record { opening = opens; safer = safer; run = run; mode = modes }
    where
      modes : (i : ℕ) (D : Configuration) → i ≤ 2 → At (spring_at 0 both true Sc (pos 0) (pos 0) ∷ (pulled ++ let_go)) (7 + i) D → mode_of D 0 ≡ Sc
      modes zero D le at = ap (λ C. mode_of C 0) (sym (same_Some _ D at))
      modes (suc zero) D le at = ap (λ C. mode_of C 0) (sym (same_Some _ D at))
      modes (suc (suc zero)) D le at = ap (λ C. mode_of C 0) (sym (same_Some _ D at))
      modes (suc (suc (suc i))) D le at = absurd (omega (arith, le))

  pub not_trusted_at_once : TrustsAfter (spring_parts g) 0 → ⊥
  not_trusted_at_once after =
      sc_not_ac (after ((pos 0 ∷ []) ∷ []) (spring_at 0 both true Sc (pos 0) (pos 0)) (spring_at 2 (true ∷ false ∷ []) false Sc (pos 0) (pos 2)) pulling
      letting_go [] (pulled ++ let_go) stretch (inl (omega arith)) refl)
