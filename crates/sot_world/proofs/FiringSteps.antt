-- A world's firings are steps of the semantics.
use Rattle.std.proofs.Common.{◌≡◌, ℕ, zero, suc, ◌-◌, ◌≤◌, ℤ, Bool, true, false, List, [], ◌∷◌, ◌++◌, Option, None, Ok, take, replicate, length, refl, sym, ap}
use Rattle.std.proofs.Common.{◌∙◌, subst, arith, length-take-le}
use Rattle.std.specs.Prelude.{slice_index_or, slice_set}
use Rattle.std.proofs.lemmas.List.{length-map}
use Rattle.std.proofs.lemmas.Option.{slice_get_within}
use Rattle.sot_box.specs.Sides.{Side}
use Rattle.sot_lists.specs.Places.{At, Has}
use Rattle.sot_lang.specs.declared.act.Act.{Act}
use Rattle.sot_lang.specs.declared.tables.Slot.{Slot}
use Rattle.sot_lang.specs.declared.tables.Slot.TheVariants.{Scalar, State}
use Rattle.sot_lang.specs.declared.tables.NodeInfo.{NodeInfo}
use Rattle.sot_lang.specs.Tables.{Tables}
use Rattle.sot_lang.specs.TableRules.{IsCoded}
use Rattle.sot_lang.specs.Ranges.{local_ranges, write_ranges}
use Rattle.sot_lang.specs.Bodies.{Fired, execution}
use Rattle.sot_lang.specs.Readings.{reading}
use Rattle.sot_box.proofs.Ranges.{within_length}
use Rattle.sot_code.specs.Recorded.{in_slots}
use Rattle.sot_tube.specs.Admitted.{Admitted}
use Rattle.sot_world.specs.Configurations.{Configuration, is_left, locals_of}
use Rattle.sot_world.specs.Steps.{Fires, CodeFires, GuestFires, is_enabled, published}
use Rattle.sot_world.specs.Events.{slot_count, outcome_of}
use Rattle.sot_world.specs.Outcomes.{Recorded, RecordsCode, NodeFired}
use Rattle.sot_world.specs.declared.outcome.Outcome.{Outcome}
use Rattle.sot_world.specs.declared.outcome.Outcome.TheVariants as outcome
use Rattle.sot_world.specs.declared.outcome.Firing.{Firing}
use Rattle.sot_world.specs.StepOutcomes.{IsFiring}
use Rattle.sot_code.specs.declared.fired.Fired as code
use Rattle.sot_world.specs.State.{IsKept}
use Rattle.sot_world.specs.State as worlds
use Rattle.sot_world.specs.Changes.{IsThere, AreThere, Runs, IsRun}
use Rattle.sot_world.proofs.Safety.{code_runs}
use Rattle.sot_lang.proofs.Owners.{width_at}
use Rattle.sot_world.proofs.Parts.{published_padded, published_taken}
use Rattle.sot_world.proofs.Possible.{slots_of}
use Rattle.sot_world.proofs.Stepping.{well_formed, are_points}

module _ (a : Admitted) (C : Configuration) (kept : IsKept a C) where
  -- there is a number in each slot that a node reads
  pub reads_there : (n : ℕ) (node : NodeInfo) → At a.program.nodes n node → AreThere C.scalars C.points node.reads.items
  reads_there n node at i slot at_slot = there slot (i, at_slot)
    where
      there : (slot : Slot) → Has node.reads.items slot → IsThere C.scalars C.points slot
      there (Scalar k) has = omega (arith, (kept.rules.nodes n node at).reads_scalars k has, kept.holds.sizes.scalars)
      there (State k v) has =
          let other = kept.rules.typed.reads_are n node k v at has in
          let below = (kept.rules.nodes n node at).reads_states k v has in
          let wide = (are_points a C kept).widths k other.0 other.1 in (
            omega (arith, slice_get_within a.program.plants k other.0 other.1, kept.holds.sizes.points),
            omega (arith, below, wide, width_at a.program.plants k other.0 other.1),
          )

  -- a coded node can be run
  pub may_run : (n : ℕ) (node : NodeInfo) (acts : List Act) → At a.program.nodes n node → IsCoded node acts
      → Runs a.program n C.scalars C.points (locals_of C n)
  may_run n node acts at coded =
      let run = code_runs a.program a.cert.jitter kept.rules.typed (well_formed a C kept) C n node acts kept.holds at coded in
      record {
        node = node;
        acts = acts;
        is = at;
        coded = coded;
        there = reads_there n node at;
        locals_are =
            within_length (local_ranges node) (locals_of C n) (kept.holds.locals n node at)
            ∙ length-map node.locals.items (λ l. let r : Side = record { lo = l.lo; hi = l.hi } in r);
        fired = run.0;
        runs = run.1;
      }

module _ (p : Tables) (C : Configuration) (n : ℕ) (node : NodeInfo) where
  fires_so :
      (locals : List ℤ) (draft : List (Option ℤ)) (on : Bool) (left : List Bool) (all : List (List ℤ)) (scalars : List ℤ) → is_left C n ≡ true
      → on ≡ is_enabled p C n
      → left ≡ slice_set C.left n false → all ≡ slice_set C.locals n locals → scalars ≡ published on p node.writes.items draft C.scalars
      → Fires p n node locals draft C (record C { left = left; locals = all; scalars = scalars })
  fires_so locals draft on left all scalars was on_is l k s = record {
    was_left = was;
    time = refl;
    left = l;
    left_dm = refl;
    modes = refl;
    points = refl;
    locals_set = k;
    scalars = s ∙ ap (λ b. published b p node.writes.items draft C.scalars) on_is;
  }

  -- a coded node's firing, with its draft in eight slots
  pub code_so :
      (acts : List Act) (fired : Fired) (slots : List (Option ℤ)) (on : Bool) (left : List Bool) (all : List (List ℤ)) (scalars : List ℤ) → At p.nodes n node
      → IsCoded node acts
      → execution acts (local_ranges node) (write_ranges p node) (reading node C.scalars C.points) (locals_of C n) ≡ Ok fired
      → slots ≡ in_slots fired.draft → is_left C n ≡ true → on ≡ is_enabled p C n
      → left ≡ slice_set C.left n false → all ≡ slice_set C.locals n fired.locals → scalars ≡ published on p node.writes.items slots C.scalars
      → CodeFires p n C (record C { left = left; locals = all; scalars = scalars })
  code_so acts fired slots on left all scalars at coded runs same was on_is l k s = record {
    node = node;
    is = at;
    acts = acts;
    coded = coded;
    fired = fired;
    runs = runs;
    fires = fires_so fired.locals fired.draft on left all scalars was on_is l k
        (s ∙ ap (λ d. published on p node.writes.items d C.scalars) same
        ∙ published_padded on p node.writes.items fired.draft (8 - length fired.draft) C.scalars);
  }

  set_same : (xs : List (List ℤ)) (i : ℕ) → xs ≡ slice_set xs i (slice_index_or xs i [])
  set_same [] i = refl
  set_same (x ∷ xs) zero = refl
  set_same (x ∷ xs) (suc i) = ap (λ ys. x ∷ ys) (set_same xs i)

  -- an external node's firing, of which its own slots alone are published
  pub guest_so :
      (draft : List (Option ℤ)) (on : Bool) (left : List Bool) (scalars : List ℤ) → At p.nodes n node → node.body ≡ None
      → length node.writes.items ≤ length draft → is_left C n ≡ true → on ≡ is_enabled p C n
      → left ≡ slice_set C.left n false → scalars ≡ published on p node.writes.items draft C.scalars
      → GuestFires p n (take (slot_count p n) draft) C (record C { left = left; scalars = scalars })
  guest_so draft on left scalars at external room was on_is l s =
      let slots = slots_of p n node at in record {
        node = node;
        is = at;
        external = external;
        slots = length-take-le (slot_count p n) draft (omega (arith, slots, room)) ∙ slots;
        fires = fires_so (locals_of C n) (take (slot_count p n) draft) on left C.locals scalars was on_is l (set_same C.locals n)
            (s ∙ published_taken on p node.writes.items draft C.scalars ∙ ap (λ k. published on p node.writes.items (take k draft) C.scalars) (sym slots));
      }

-- what is recorded of a coded node's firing
pub code_recorded :
    (p : Tables) (C : Configuration) (n : ℕ) (node : NodeInfo) (acts : List Act) (fired : Fired) (slots : List (Option ℤ)) (on : Bool) → At p.nodes n node
    → IsCoded node acts
    → execution acts (local_ranges node) (write_ranges p node) (reading node C.scalars C.points) (locals_of C n) ≡ Ok fired
    → slots ≡ in_slots fired.draft → on ≡ is_enabled p C n
    → (r : Recorded) × RecordsCode p n C r × IsFiring (record { draft = slots; enabled = on }) r
code_recorded p C n node acts fired slots on at coded runs same on_is = (
  NodeFired fired.draft (is_enabled p C n),
  record { node = node; is = at; acts = acts; coded = coded; fired = fired; runs = runs; recorded = refl },
  (fired.draft, ap (NodeFired fired.draft) (sym on_is), same),
)

-- .. and of an external node's
pub guest_recorded :
    (p : Tables) (C : Configuration) (n : ℕ) (node : NodeInfo) (draft slots : List (Option ℤ)) (on : Bool) (count : ℕ) → At p.nodes n node
    → length node.writes.items ≤ length draft
    → count ≡ length node.writes.items → slots ≡ take count draft ++ replicate (8 - count) None → on ≡ is_enabled p C n
    → IsFiring (record { draft = slots; enabled = on }) (NodeFired (take (slot_count p n) draft) (is_enabled p C n))
guest_recorded p C n node draft slots on count at room counts same on_is =
    let k : slot_count p n ≡ count = slots_of p n node at ∙ sym counts in
    let size : length (take (slot_count p n) draft) ≡ count = length-take-le (slot_count p n) draft (omega (arith, k, counts, room)) ∙ k in
    let own : slots ≡ take (slot_count p n) draft ++ replicate (8 - length (take (slot_count p n) draft)) None =
    same ∙ ap (λ i. take i draft ++ replicate (8 - count) None) (sym k) ∙ ap (λ i. take (slot_count p n) draft ++ replicate (8 - i) None) (sym size) in
    (take (slot_count p n) draft, ap (NodeFired (take (slot_count p n) draft)) (sym on_is), own)

-- the outcome that has the parts of a firing
pub firing_outcome : (firing : Firing) (r : Recorded) (o : Outcome) → o ≡ outcome.Fired firing.draft firing.enabled → IsFiring firing r → o ≡ outcome_of r
firing_outcome firing r o is (draft, recorded, slots) = is ∙ ap (λ d. outcome.Fired d firing.enabled) slots ∙ sym (ap outcome_of recorded)

-- the same numbers and points, and the same program
pub runs_along : (p q : Tables) (n : ℕ) (s t : List ℤ) (x y : List (List ℤ)) (k l : List ℤ) → p ≡ q → s ≡ t → x ≡ y → k ≡ l → Runs q n t y l → Runs p n s x k
runs_along p q n s t x y k l a b d e runs =
    subst (λ z. Runs z n s x k) (sym a) (subst (λ z. Runs q n z x k) (sym b) (subst (λ z. Runs q n t z k) (sym d) (subst (λ z. Runs q n t y z) (sym e) runs)))

pub run_along : (p q : Tables) (n : ℕ) (s t : List ℤ) (x y : List (List ℤ)) (k l : List ℤ) (f : code.Fired) → p ≡ q → s ≡ t → x ≡ y → k ≡ l → IsRun p n s x k f
    → IsRun q n t y l f
run_along p q n s t x y k l f a b d e run =
    subst (λ z. IsRun q n t y z f) e (subst (λ z. IsRun q n t z k f) d (subst (λ z. IsRun q n z x k f) b (subst (λ z. IsRun z n s x k f) a run)))

-- what is published, of the same program, scalars and numbers
pub published_along : (on : Bool) (p q : Tables) (ws vs : List ℕ) (draft : List (Option ℤ)) (s t r : List ℤ) → p ≡ q → ws ≡ vs → s ≡ t
    → r ≡ published on p ws draft s → r ≡ published on q vs draft t
published_along on p q ws vs draft s t r a b d is =
    is ∙ ap (λ z. published on z ws draft s) a ∙ ap (λ z. published on q z draft s) b ∙ ap (published on q vs draft) d

-- an external node's firing from a state that is another one's
pub guest_along :
    (s t : worlds.State) (n : ℕ) (draft : List (Option ℤ)) (D : Configuration) → s ≡ t
    → GuestFires s.accepted.program n (take (slot_count s.accepted.program n) draft) s.at D
    → GuestFires t.accepted.program n (take (slot_count t.accepted.program n) draft) t.at D
guest_along s t n draft D same step = subst (λ x. GuestFires x.accepted.program n (take (slot_count x.accepted.program n) draft) x.at D) same step
