-- A guard's decisions and observations: what they keep.
use Rattle.std.proofs.Common.{◌≡◌, ℕ, zero, suc, ◌<◌, ◌≤◌, ℤ, Bool, true, false, ◌⊎◌, ◌↔◌, List, [], ◌∷◌, Option, Some, None, length, refl, sym, ap, ◌∙◌}
use Rattle.std.proofs.Common.{subst, arith}
use Rattle.std.specs.Prelude.{slice_index_or, slice_set, MatchOption, is_some, not}
use Rattle.std.proofs.lemmas.Bool.{false≢true, not-true, not-false}
use Rattle.std.proofs.lemmas.List.{length-set}
use Rattle.std.proofs.lemmas.Option.{slice_get_within}
use Rattle.sot_lists.specs.Places.{At}
use Rattle.sot_box.specs.Boxes.{IsWithin}
use Rattle.sot_calendar.specs.Due.{IsDue}
use Rattle.sot_lang.specs.declared.tables.NodeInfo.{NodeInfo}
use Rattle.sot_lang.specs.declared.tables.ModuleInfo.{ModuleInfo}
use Rattle.sot_lang.specs.Tables.{Tables}
use Rattle.sot_lang.specs.Ranges.{local_ranges, scalar_ranges}
use Rattle.sot_tube.specs.Admitted.{Admitted}
use Rattle.sot_world.specs.declared.mode.Mode.{Mode}
use Rattle.sot_world.specs.declared.mode.Mode.TheVariants.{Sc}
use Rattle.sot_world.specs.Configurations.{Configuration, is_left, is_left_dm, mode_of, point_of}
use Rattle.sot_world.specs.Steps.{Decide}
use Rattle.sot_world.specs.Calendar.{NothingLeft}
use Rattle.sot_world.specs.Changes.{ArePoints}
use Rattle.sot_law_observed_runs.specs.Observed.{ObservedTick}
use Rattle.sot_law_observed_runs.specs.Tubes.{KeepsTubes}
use Rattle.sot_law_observed_runs.proofs.Steps.{step_keeps}
use Rattle.sot_law_observed_runs.proofs.Ticking.{tick_keeps}
use Rattle.sot_world.proofs.Stepping.{decides_so}
use Rattle.sot_guard.specs.Guarding.{Guarding, IsGuarding, last_time}
use Rattle.sot_guard.proofs.Guards.{well}
use Rattle.sot_guard.specs.declared.outside.Outside.{Outside}
use Rattle.sot_guard.specs.Outside.{AreInBoxes, IsFirstOutside}
use Rattle.sot_guard.specs.Running.{IsModeWhere}
use Rattle.sot_guard.specs.Changes.{DecidesWhere, MovesTo, GoesOn, Withdraws}

-- what is kept after a decision
pub decide_guards : (a : Admitted) (t : Bool) (C D : Configuration) (m : ℕ) → IsGuarding a t C → DecidesWhere t a.program a.cert.jitter m C D
    → IsGuarding a t D
decide_guards a true C D m g s = record {
  rules = g.rules;
  certified = g.certified;
  time = subst (λ x. x ≤ last_time) (ap (λ x. x.time) (sym s.rest)) g.time;
  scalars = subst (IsWithin (scalar_ranges a.program)) (ap (λ x. x.scalars) (sym s.rest)) g.scalars;
  locals = λ n node at. subst (λ l. IsWithin (local_ranges node) (slice_index_or l n [])) (ap (λ x. x.locals) (sym s.rest)) (g.locals n node at);
  sizes = record {
    left = ap (λ x. length x.left) s.rest ∙ g.sizes.left;
    left_dm = ap length s.left_dm ∙ length-set C.left_dm m false ∙ g.sizes.left_dm;
    modes = ap length s.modes ∙ length-set C.modes m (mode_of D m) ∙ g.sizes.modes;
    scalars = ap (λ x. length x.scalars) s.rest ∙ g.sizes.scalars;
    locals = ap (λ x. length x.locals) s.rest ∙ g.sizes.locals;
    points = ap (λ x. length x.points) s.rest ∙ g.sizes.points;
  };
  points = subst (ArePoints a.program) (ap (λ x. x.points) (sym s.rest)) g.points;
  tubes = λ on. step_keeps a.program a.cert g.rules g.certified C D (Decide m) (g.tubes refl) s;
  safe = λ off. absurd (false≢true (sym off));
}
decide_guards a false C D m g s = record {
  rules = g.rules;
  certified = g.certified;
  time = subst (λ x. x ≤ last_time) (ap (λ x. x.time) (sym s.rest)) g.time;
  scalars = subst (IsWithin (scalar_ranges a.program)) (ap (λ x. x.scalars) (sym s.rest)) g.scalars;
  locals = λ n node at. subst (λ l. IsWithin (local_ranges node) (slice_index_or l n [])) (ap (λ x. x.locals) (sym s.rest)) (g.locals n node at);
  sizes = record {
    left = ap (λ x. length x.left) s.rest ∙ g.sizes.left;
    left_dm = ap length s.left_dm ∙ length-set C.left_dm m false ∙ g.sizes.left_dm;
    modes = ap (λ x. length x.modes) s.rest ∙ g.sizes.modes;
    scalars = ap (λ x. length x.scalars) s.rest ∙ g.sizes.scalars;
    locals = ap (λ x. length x.locals) s.rest ∙ g.sizes.locals;
    points = ap (λ x. length x.points) s.rest ∙ g.sizes.points;
  };
  points = subst (ArePoints a.program) (ap (λ x. x.points) (sym s.rest)) g.points;
  tubes = λ on. absurd (false≢true on);
  safe = λ off i. ap (λ x. mode_of x i) s.rest ∙ g.safe refl i;
}

module _ (a : Admitted) (C : Configuration) (time : ℕ) (left left_dm : List Bool) (next points : List (List ℤ))
    (sizes : length left ≡ length a.program.nodes) (sizes_dm : length left_dm ≡ length a.program.modules) (is : points ≡ next)
    (are : ArePoints a.program next) (one : time ≡ suc C.time)
    (nodes : (n : ℕ) (node : NodeInfo) → At a.program.nodes n node
    → (slice_index_or left n false ≡ true) ↔ ((is_left C n ≡ true) ⊎ IsDue node.period node.offset time))
    (modules : (m : ℕ) (info : ModuleInfo) → At a.program.modules m info
    → (slice_index_or left_dm m false ≡ true) ↔ ((is_left_dm C m ≡ true) ⊎ IsDue info.period info.offset time)) where
  abbrev after : List Mode → Configuration
  after modes = record C { time = time; left = left; left_dm = left_dm; modes = modes; points = points }

  -- what is kept after an observation, whatever the modes
  moved_guards : (t s : Bool) (modes : List Mode) → IsGuarding a t C → C.time < last_time → length modes ≡ length a.program.modules
      → (s ≡ true → KeepsTubes a.program a.cert.jitter (after modes)) → (s ≡ false → (m : ℕ) → slice_index_or modes m Sc ≡ Sc)
      → IsGuarding a s (after modes)
  moved_guards t s modes g below many tubes safe = record {
    rules = g.rules;
    certified = g.certified;
    time = omega (arith, one, below);
    scalars = g.scalars;
    locals = g.locals;
    sizes = record {
      left = sizes;
      left_dm = sizes_dm;
      modes = many;
      scalars = g.sizes.scalars;
      locals = g.sizes.locals;
      points = ap length is ∙ are.each;
    };
    points = subst (ArePoints a.program) (sym is) are;
    tubes = tubes;
    safe = safe;
  }

  -- where all plants are in their boxes, the tick is an observed one
  observed_so : (t : Bool) → IsGuarding a t C → NothingLeft a.program C → AreInBoxes a.program C.scalars C.points next (length a.program.plants)
      → ObservedTick a.program a.cert.jitter C (after C.modes)
  observed_so t g none inside = record {
    may = record {
      nodes = λ n node d at was last. absurd (false≢true (sym (none.nodes n node at) ∙ was));
      modules = λ m info d at was last. absurd (false≢true (sym (none.modules m info at) ∙ was));
    };
    allowed = λ k plant at.
        let here = inside k plant (slice_get_within a.program.plants k plant at) at in
        (here.0, here.1, subst (λ ps. IsWithin here.0 (slice_index_or ps k [])) (sym is) here.2);
    time = one;
    left = nodes;
    left_dm = modules;
    sizes = record {
      left = sizes;
      left_dm = sizes_dm;
      modes = g.sizes.modes;
      scalars = g.sizes.scalars;
      locals = g.sizes.locals;
      points = ap length is ∙ are.each;
    };
    rest = refl;
  }

  abbrev old : Bool → Guarding
  old t = record { accepted = a; trusted = t; at = C }

  abbrev new : Bool → List Mode → Guarding
  new s modes = record { accepted = a; trusted = s; at = record C { time = time; left = left; left_dm = left_dm; modes = modes; points = points } }

  -- what an observation keeps and tells
  pub record Observed (t s : Bool) (modes : List Mode) (o : Option Outside) : Type 0 where
    pub kept : IsGuarding a s (record C { time = time; left = left; left_dm = left_dm; modes = modes; points = points })
    pub told : MatchOption o (GoesOn (old t) (new s modes)) (λ x. Withdraws (old t) (new s modes) next x)

  pub observed : (t s inside : Bool) (modes : List Mode) (o : Option Outside) → IsGuarding a t C → C.time < last_time → NothingLeft a.program C
      → is_some o ≡ not inside → (inside ≡ true → s ≡ t) → (inside ≡ false → s ≡ false) → (inside ≡ true → modes ≡ C.modes)
      → (inside ≡ false → (m : ℕ) → slice_index_or modes m Sc ≡ Sc) → length modes ≡ length C.modes
      → MatchOption o (t ≡ true → AreInBoxes a.program C.scalars C.points next (length a.program.plants))
      (λ x. (t ≡ true) × IsFirstOutside a.program C.scalars C.points next x)
      → Observed t s modes o
  observed t s inside modes None g below none is still ended same safe many told =
      let here : inside ≡ true = not-false inside (sym is) in
      let trusted = still here in
      let modes_are = same here in
      let tick : t ≡ true → ObservedTick a.program a.cert.jitter C
      (record C { time = time; left = left; left_dm = left_dm; modes = modes; points = points }) =
      λ on. subst (λ x. ObservedTick a.program a.cert.jitter C (record C { time = time; left = left; left_dm = left_dm; modes = x; points = points }))
      (sym modes_are) (observed_so t g none (told on)) in
      record {
        kept = moved_guards t s modes g below (many ∙ g.sizes.modes)
            (λ on. tick_keeps a.program a.cert.jitter g.rules (well a t C g) C _ (g.tubes (sym trusted ∙ on)) (tick (sym trusted ∙ on)))
            (λ off m. ap (λ l. slice_index_or l m Sc) modes_are ∙ g.safe (sym trusted ∙ off) m);
        told = record { trusted = trusted; modes = modes_are; observed = tick };
      }
  observed t s inside modes (Some x) g below none is still ended same safe many told =
      let gone : inside ≡ false = not-true inside (sym is) in
      record {
        kept = moved_guards t s modes g below (many ∙ g.sizes.modes) (λ on. absurd (false≢true (sym (ended gone) ∙ on))) (λ off m. safe gone m);
        told = record { was = told.0; is = ended gone; outside = told.1; modes = safe gone };
      }

  pub moves_so : (modes : List Mode) → MovesTo a.program next C (record C { time = time; left = left; left_dm = left_dm; modes = modes; points = points })
  moves_so modes = record { time = one; left = nodes; left_dm = modules; scalars = refl; locals = refl; points = is }

set_back : {A : Type 0} (xs : List A) (i : ℕ) (d : A) → slice_set xs i (slice_index_or xs i d) ≡ xs
set_back [] i d = refl
set_back (x ∷ xs) zero d = refl
set_back (x ∷ xs) (suc i) d = ap (λ ys. x ∷ ys) (set_back xs i d)

-- a decision, where models are trusted and where they are not
pub decided_so :
    (t : Bool) (p : Tables) (j : ℕ) (C : Configuration) (m : ℕ) (info : ModuleInfo) (next : Mode) (left_dm : List Bool) (modes : List Mode)
    → length C.modes ≡ length p.modules → At p.modules m info → is_left_dm C m ≡ true
    → IsModeWhere t p j info (mode_of C m) (point_of C info.plant) next → left_dm ≡ slice_set C.left_dm m false → modes ≡ slice_set C.modes m next
    → DecidesWhere t p j m C (record C { left_dm = left_dm; modes = modes })
decided_so true p j C m info next left_dm modes size at left is d e = decides_so p j C m info next left_dm modes size at left is d e
decided_so false p j C m info next left_dm modes size at left is d e =
    let same : modes ≡ C.modes = e ∙ ap (slice_set C.modes m) is ∙ set_back C.modes m Sc in
    record {
      module_info = info;
      is = at;
      was_left = left;
      left_dm = d;
      rest = ap (λ x. let D : Configuration = record C { left_dm = left_dm; modes = x } in D) same;
    }
