-- Something can happen wherever the invariant holds.
use Rattle.sot_lang.specs.declared.tables.TopicInfo.{TopicInfo}
use Rattle.sot_lang.specs.Ranges.{range_of, bounds}
use Rattle.sot_world.specs.Steps.{Input, write_at, Code, Guest, Decide, Tick, is_enabled, published, Fires, MayTick}
use Rattle.sot_world.specs.Outcomes.{InputTaken, NodeFired, ModuleDecided, PlantsTicked}
use Rattle.std.proofs.Common.{◌+◌, ◌≡◌, ℕ, zero, suc, ◌<◌, ℤ, Bool, true, false, ◌⊎◌, ◌↔◌, inl, inr, ⊎_elim, List, [], ◌∷◌, Option, None, Ok, length, refl, sym}
use Rattle.std.proofs.Common.{ap, subst, arith}
use Rattle.std.specs.Prelude.{slice_index_or, slice_set}
use Rattle.std.proofs.lemmas.Bool.{false≢true}
use Rattle.std.proofs.lemmas.List.{get_or-set_same}
use Rattle.std.proofs.lemmas.Option.{slice_get_within, none-some, same_Some}
use Rattle.sot_box.specs.Sides.{Side, IsIn}
use Rattle.sot_lang.specs.declared.act.Act.{Act}
use Rattle.sot_lang.specs.declared.tables.PlantInfo.{PlantInfo}
use Rattle.sot_lang.specs.declared.tables.NodeInfo.{NodeInfo}
use Rattle.sot_lang.specs.declared.tables.ModuleInfo.{ModuleInfo}
use Rattle.sot_lang.specs.Tables.{Tables}
use Rattle.sot_lists.specs.Places.{At}
use Rattle.sot_box.specs.Boxes.{IsWithin}
use Rattle.sot_box.specs.Regions.{IsInRegion}
use Rattle.sot_lang.specs.Ticks.{next_state, joined}
use Rattle.sot_lang.specs.TableRules.{IsCoded, IsTyped}
use Rattle.sot_calendar.specs.Due.{IsDue}
use Rattle.sot_calendar.proofs.Clock.{cases_due}
use Rattle.sot_tube.specs.Tubes.{Keeps}
use Rattle.sot_tube.specs.WellFormed.{IsWellFormed}
use Rattle.sot_world.specs.Configurations.{Configuration, Mode, Ac, Sc, is_left, is_left_dm, mode_of, locals_of, point_of, commands, seen_points}
use Rattle.sot_world.specs.Invariant.{KeepsInvariant}
use Rattle.sot_world.specs.Progress.{Happens, SomethingCanHappen}
use Rattle.sot_world.proofs.Publishes.{in_range_cases}
use Rattle.sot_world.proofs.Safety.{code_runs, tick_runs}

-- where each element of a list has its part, there is the list of the parts
pub list_of : {A B : Type 0} (d : B) (xs : List A) (P : ℕ → A → B → Type 0) → ((k : ℕ) (x : A) → At xs k x → (b : B) × P k x b)
    → (bs : List B) × (length bs ≡ length xs) × ((k : ℕ) (x : A) → At xs k x → P k x (slice_index_or bs k d))
list_of d [] P h = ([], refl, λ k x at. absurd (none-some x at))
list_of d (y ∷ ys) P h =
    let first = h 0 y refl in
    let rest = list_of d ys (λ k. P (suc k)) (λ k x at. h (suc k) x at) in
    (first.0 ∷ rest.0, ap suc rest.1, each first rest.0 rest.2)
  where
    each : (first : (b : _) × P 0 y b) (bs : List _) → ((k : ℕ) (x : _) → At ys k x → P (suc k) x (slice_index_or bs k d)) → (k : ℕ) (x : _) → At (y ∷ ys) k x
        → P k x (slice_index_or (first.0 ∷ bs) k d)
    each first bs h zero x at = subst (λ z. P 0 z first.0) (same_Some y x at) first.1
    each first bs h (suc k) x at = h k x at

-- some flag is set, or none is
pub some_flag : (xs : List Bool) → ((n : ℕ) × (slice_index_or xs n false ≡ true)) ⊎ ((n : ℕ) → slice_index_or xs n false ≡ true → ⊥)
some_flag [] = inr (λ n e. false≢true e)
some_flag (true ∷ xs) = inl (0, refl)
some_flag (false ∷ xs) = ⊎_elim (λ here. inl (suc here.0, here.1)) (λ none. inr (λ n e. later none n e)) (some_flag xs)
  where
    later : ((n : ℕ) → slice_index_or xs n false ≡ true → ⊥) → (n : ℕ) → slice_index_or (false ∷ xs) n false ≡ true → ⊥
    later none zero e = false≢true e
    later none (suc n) e = none n e

pub within_cases : (rs : List Side) (xs : List ℤ) → IsWithin rs xs ⊎ (IsWithin rs xs → ⊥)
within_cases [] [] = inl tt
within_cases [] (x ∷ xs) = inr (λ w. w)
within_cases (r ∷ rs) [] = inr (λ w. w)
within_cases (r ∷ rs) (x ∷ xs) =
    ⊎_elim
    (λ here. ⊎_elim (λ more. inl (here.0, here.1, more)) (λ none. inr (λ w. none w.2)) (within_cases rs xs))
    (λ out. inr (λ w. out (w.0, w.1)))
    (in_range_cases r x)

pub region_cases : (region : List (List Side)) (s : List ℤ) → IsInRegion region s ⊎ (IsInRegion region s → ⊥)
region_cases [] s = inr (λ i. i)
region_cases (b ∷ bs) s =
    ⊎_elim
    (λ here. inl (inl here))
    (λ out. ⊎_elim (λ more. inl (inr more)) (λ none. inr (λ i. ⊎_elim out none i)) (region_cases bs s))
    (within_cases b s)

-- left to fire already, or due
due_flag : (b : Bool) (period offset t : ℕ) → (x : Bool) × ((x ≡ true) ↔ ((b ≡ true) ⊎ IsDue period offset t))
due_flag true period offset t = (true, ((λ e. inl refl), (λ h. refl)))
due_flag false period offset t =
    ⊎_elim
    (λ due. (true, ((λ e. inr due), (λ h. refl))))
    (λ not_due. (false, ((λ e. absurd (false≢true e)), (λ h. absurd (⊎_elim (λ e. false≢true e) not_due h)))))
    (cases_due period offset t)

sc_not_ac : Sc ≡ Ac → ⊥
sc_not_ac e = cc

-- the mode after a decision
decision : (x : Mode) (In Keep : Type 0) → (In ⊎ (In → ⊥)) → (Keep ⊎ (Keep → ⊥)) → (y : Mode) × ((y ≡ Ac) ↔ (((x ≡ Sc) × In) ⊎ ((x ≡ Ac) × Keep)))
decision Sc In Keep (inl h) keep = (Ac, ((λ e. inl (refl, h)), (λ o. refl)))
decision Sc In Keep (inr no') keep = (Sc, ((λ e. absurd (sc_not_ac e)), (λ o. absurd (⊎_elim (λ a. no' a.1) (λ b. sc_not_ac b.0) o))))
decision Ac In Keep region (inl h) = (Ac, ((λ e. inr (refl, h)), (λ o. refl)))
decision Ac In Keep region (inr no') = (Sc, ((λ e. absurd (sc_not_ac e)), (λ o. absurd (⊎_elim (λ a. sc_not_ac (sym a.0)) (λ b. no' b.1) o))))

module _ (p : Tables) (j : ℕ) where
  fires : (C : Configuration) (n : ℕ) (node : NodeInfo) (locals : List ℤ) (draft : List (Option ℤ)) → is_left C n ≡ true
      → Fires p n node locals draft C (record C {
        left = slice_set C.left n false;
        locals = slice_set C.locals n locals;
        scalars = published (is_enabled p C n) p node.writes.items draft C.scalars;
      })
  fires C n node locals draft left =
      record { was_left = left; time = refl; left = refl; left_dm = refl; modes = refl; points = refl; locals_set = refl; scalars = refl }

  input_happens : (C : Configuration) (t : ℕ) (info : TopicInfo) (value : List ℤ) → At p.topics t info → info.outside ≡ true → length value ≡ info.count
      → ((i : ℕ) (z : ℤ) → At value i z → IsIn (range_of p.scalars (info.first + i)) z) → Happens p j C (Input t value)
  input_happens C t info value at outside size typed = (
    record C { scalars = write_at info.first value C.scalars },
    InputTaken,
    record { info = info; is = at; outside = outside; size = size; typed = typed; scalars = refl; rest = refl },
    refl,
  )

  guest_happens : (C : Configuration) (n : ℕ) (node : NodeInfo) (draft : List (Option ℤ)) → At p.nodes n node → node.body ≡ None
      → length draft ≡ length node.writes.items → is_left C n ≡ true → Happens p j C (Guest n draft)
  guest_happens C n node draft at external slots left = (
    _,
    NodeFired draft (is_enabled p C n),
    record {
      node = node;
      is = at;
      external = external;
      slots = slots;
      fires = fires C n node (locals_of C n) draft left;
    },
    refl,
  )

  decide_happens : (C : Configuration) (m : ℕ) (a : ModuleInfo) → length C.modes ≡ length p.modules → At p.modules m a → is_left_dm C m ≡ true
      → (Keeps p j a (point_of C a.plant) ⊎ (Keeps p j a (point_of C a.plant) → ⊥)) → Happens p j C (Decide m)
  decide_happens C m a size at left keep =
      let after = decision (mode_of C m) (IsInRegion a.safer.boxes (point_of C a.plant)) (Keeps p j a (point_of C a.plant))
      (region_cases a.safer.boxes (point_of C a.plant)) keep in
      let lt : m < length C.modes = omega (arith, slice_get_within p.modules m a at, size) in
      let set : slice_index_or (slice_set C.modes m after.0) m Sc ≡ after.0 = get_or-set_same C.modes m after.0 Sc lt in (
        record C { left_dm = slice_set C.left_dm m false; modes = slice_set C.modes m after.0 },
        ModuleDecided (slice_index_or (slice_set C.modes m after.0) m Sc),
        record {
          module_info = a;
          is = at;
          was_left = left;
          left_dm = refl;
          modes = ap (slice_set C.modes m) (sym set);
          mode =
              subst (λ y. (y ≡ Ac) ↔ (((mode_of C m ≡ Sc) × IsInRegion a.safer.boxes (point_of C a.plant))
              ⊎ ((mode_of C m ≡ Ac) × Keeps p j a (point_of C a.plant)))) (sym set) after.1;
          rest = refl;
        },
        refl,
      )

  tick_happens :
      (C : Configuration) → KeepsInvariant p j C → (noise : List (List ℤ)) → MayTick p j C → length noise ≡ length p.plants
      → ((k : ℕ) (plant : PlantInfo) → At p.plants k plant → IsWithin (bounds plant) (slice_index_or noise k [])) →
      ((k : ℕ) (plant : PlantInfo) → At p.plants k plant → (s : List ℤ)
      × (next_state plant (point_of C k) (commands plant C) (joined (seen_points plant C)) (slice_index_or noise k []) ≡ Ok s)) → Happens p j C (Tick noise)
  tick_happens C h noise may each bounded moves =
      let left = list_of false p.nodes (λ n node x. (x ≡ true) ↔ ((is_left C n ≡ true) ⊎ IsDue node.period node.offset (suc C.time)))
      (λ n node at. due_flag (is_left C n) node.period node.offset (suc C.time)) in
      let left_dm = list_of false p.modules (λ m a x. (x ≡ true) ↔ ((is_left_dm C m ≡ true) ⊎ IsDue a.period a.offset (suc C.time)))
      (λ m a at. due_flag (is_left_dm C m) a.period a.offset (suc C.time)) in
      let points = list_of [] p.plants (λ k plant s. next_state plant (point_of C k) (commands plant C) (joined (seen_points plant C))
      (slice_index_or noise k []) ≡ Ok s) moves in (
        record C { time = suc C.time; left = left.0; left_dm = left_dm.0; points = points.0 },
        PlantsTicked,
        record {
          may = may;
          each = each;
          bounded = bounded;
          moves = points.2;
          time = refl;
          left = left.2;
          left_dm = left_dm.2;
          sizes = record { left = left.1; left_dm = left_dm.1; modes = h.sizes.modes; scalars = h.sizes.scalars; locals = h.sizes.locals; points = points.1 };
          rest = refl;
        },
        refl,
      )

  something : (C : Configuration) → MayTick p j C ⊎ ((n : ℕ) × (is_left C n ≡ true)) ⊎ ((m : ℕ) × (is_left_dm C m ≡ true))
  something C =
      ⊎_elim
      (λ node. inr (inl node))
      (λ no_node. ⊎_elim
      (λ module_info. inr (inr module_info))
      (λ no_module. inl (record { nodes = λ n node d at is last. absurd (no_node n is); modules = λ m a d at is last. absurd (no_module m is) }))
      (some_flag C.left_dm))
      (some_flag C.left)

  module _ (typed : IsTyped p) (well : IsWellFormed p j) where
    code_happens : (C : Configuration) → KeepsInvariant p j C → (n : ℕ) (node : NodeInfo) (acts : List Act) → At p.nodes n node → IsCoded node acts
        → is_left C n ≡ true → Happens p j C (Code n)
    code_happens C h n node acts at coded left =
        let run = code_runs p j typed well C n node acts h at coded in (
          _,
          NodeFired run.0.draft (is_enabled p C n),
          record { node = node; is = at; acts = acts; coded = coded; fired = run.0; runs = run.1; fires = fires C n node run.0.locals run.0.draft left },
          record { node = node; is = at; acts = acts; coded = coded; fired = run.0; runs = run.1; recorded = refl },
        )

pub something_can_happen : SomethingCanHappen
something_can_happen p j C typed well h = record {
  input = input_happens p j C;
  code = code_happens p j typed well C h;
  guest = guest_happens p j C;
  decide = λ m a at left keep. decide_happens p j C m a h.sizes.modes at left keep;
  tick =
      λ noise may each bounded. tick_happens p j C h noise may each bounded
      (λ k plant at. tick_runs p j typed well C h may k plant (slice_index_or noise k []) at (bounded k plant at));
  some = something p j C;
}
