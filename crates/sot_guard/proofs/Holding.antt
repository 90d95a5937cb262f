-- Plants that are held safe: their modules keep tubes, at an opening and where trust comes back.
use Rattle.std.proofs.Common.{◌≡◌, ℕ, ◌+◌, ◌*◌, ◌≤◌, ℤ, Bool, true, false, ◌↔◌, inr, List, [], length, map, refl, sym, ap, ◌∙◌, subst, arith}
use Rattle.std.specs.Prelude.{slice_index_or}
use Rattle.std.proofs.lemmas.Bool.{false≢true}
use Rattle.std.proofs.lemmas.List.{length-map}
use Rattle.std.proofs.lemmas.Option.{get_or_from_slice_get}
use Rattle.sot_lists.specs.Places.{At}
use Rattle.sot_lists.proofs.Places.{at_map}
use Rattle.sot_box.specs.Boxes.{IsWithin, point_box}
use Rattle.sot_box.proofs.Ranges.{within_picked}
use Rattle.sot_calendar.specs.Due.{IsDue}
use Rattle.sot_calendar.proofs.Clock.{last_now, until_bound}
use Rattle.sot_lang.specs.declared.tables.NodeInfo.{NodeInfo}
use Rattle.sot_lang.specs.declared.tables.ModuleInfo.{ModuleInfo}
use Rattle.sot_lang.specs.Tables.{Tables}
use Rattle.sot_lang.specs.TableRules.{MeetsTableRules}
use Rattle.sot_lang.specs.Ranges.{input_ranges, local_ranges, scalar_ranges}
use Rattle.sot_iv.proofs.NarrowBoxes.{point_narrower}
use Rattle.sot_tube.proofs.Tubes.{tube_inside, within_box_of}
use Rattle.sot_tube.proofs.Certificate.{certified_well, in_some_box}
use Rattle.sot_world.specs.declared.mode.Mode.{Mode}
use Rattle.sot_world.specs.declared.mode.Mode.TheVariants.{Ac, Sc}
use Rattle.sot_world.specs.Configurations.{Configuration, IsSized, is_left, is_left_dm, mode_of, locals_of, point_of, commands}
use Rattle.sot_world.specs.Opens.{AreStarts}
use Rattle.sot_world.proofs.Modes.{every_sc}
use Rattle.sot_law_observed_runs.specs.Tubes.{KeepsTubes}
use Rattle.sot_law_observed_runs.proofs.Follows.{tube_fewer, tube_narrower}
use Rattle.sot_guard.specs.Guarding.{Guarding}
use Rattle.sot_guard.specs.HeldParts.{AnswersAt, IsFirstAnswer, AreAnswered}
use Rattle.sot_guard.specs.Resuming.{HoldsFor, IsHeldSafe, IsFirstUnsafe, AreHeldSafe, StaysUnsafe}
use Rattle.sot_guard.specs.Beginning.{IsOpeningAt, AtOpening, IsStartUnsafe, OpensRunsAtZero, SaferStartsAreHeldSafe, HeldStartsKeepTubes}
use Rattle.sot_guard.proofs.Untils.{until_same, due_flags}

-- the nodes that are left are those that are due
abbrev pub LeftIsDueNow : Tables → Configuration → Type 0
LeftIsDueNow p C = (n : ℕ) (node : NodeInfo) → At p.nodes n node → (is_left C n ≡ true) ↔ IsDue node.period node.offset C.time

abbrev pub DecisionsAreDueNow : Tables → Configuration → Type 0
DecisionsAreDueNow p C = (m : ℕ) (a : ModuleInfo) → At p.modules m a → (is_left_dm C m ≡ true) ↔ IsDue a.period a.offset C.time

-- where every module is in mode Sc with its plant held safe, and what is left is due, tubes are kept
pub held_keeps : (p : Tables) (j : ℕ) (C : Configuration) → IsWithin (scalar_ranges p) C.scalars
    → ((n : ℕ) (node : NodeInfo) → At p.nodes n node → IsWithin (local_ranges node) (locals_of C n)) → IsSized p C → LeftIsDueNow p C
    → DecisionsAreDueNow p C → ((m : ℕ) → mode_of C m ≡ Sc) → AreHeldSafe p j C → KeepsTubes p j C
held_keeps p j C scalars locals sizes left left_dm modes held = record {
  keeps = record {
    scalars = scalars;
    locals = locals;
    sizes = sizes;
    due = λ n node at is. (C.time, last_now node.period node.offset C.time ((left n node at).0 is), omega arith);
    due_dm = λ m a at is. (C.time, last_now a.period a.offset C.time ((left_dm m a at).0 is), omega arith);
    ac = λ m a plant r at_m at_p mode u. (let clash : Sc ≡ Ac = sym (modes m) ∙ mode in cc);
    sc = λ m a plant sc q at_m at_p at_s mode u.
        let c = commands plant C in
        tube_inside p plant (λ d. d ≡ c) (point_box c) a.safe.boxes (point_box (point_of C a.plant)) q (point_of C a.plant)
        (λ d e. subst (IsWithin (point_box c)) (sym e) (within_box_of c)) (within_box_of (point_of C a.plant)) (held m a plant q at_m at_p (sc, at_s, u));
  };
  ac = λ m a plant r at_m at_p mode u. (let clash : Sc ≡ Ac = sym (modes m) ∙ mode in cc);
  sc = λ m a plant sc q at_m at_p at_s mode u. held m a plant q at_m at_p (sc, at_s, u);
}

opening_sc : (p : Tables) (t : ℕ) (start : List (List ℤ)) (C : Configuration) → IsOpeningAt p t start C → (m : ℕ) → mode_of C m ≡ Sc
opening_sc p t start C o m = ap (λ l. slice_index_or l m Sc) o.modes ∙ every_sc p.modules m

-- scalars lie in their ranges at the opening
opening_scalars : (p : Tables) (t : ℕ) (start : List (List ℤ)) (C : Configuration) → MeetsTableRules p → IsOpeningAt p t start C
    → IsWithin (scalar_ranges p) C.scalars
opening_scalars p t start C rules o = subst (IsWithin (scalar_ranges p)) (sym o.scalars) rules.typed.inits

pub opens_runs_at_zero : OpensRunsAtZero
opens_runs_at_zero p start C = (
  (λ o. record {
    time = o.time_is;
    left = o.left;
    left_dm = o.left_dm;
    modes = o.modes;
    scalars = o.scalars;
    locals = o.locals;
    points = o.points;
    sizes = o.sizes;
    widths = o.widths;
  }),
  (λ o. record {
    time_is = o.time;
    left = o.left;
    left_dm = o.left_dm;
    modes = o.modes;
    scalars = o.scalars;
    locals = o.locals;
    points = o.points;
    sizes = o.sizes;
    widths = o.widths;
  }),
)

pub held_starts_keep_tubes : HeldStartsKeepTubes
held_starts_keep_tubes p cert t start C rules certified o held =
    held_keeps p cert.jitter C (opening_scalars p t start C rules o) locals o.sizes left left_dm (opening_sc p t start C o) held
  where
    locals : (n : ℕ) (node : NodeInfo) → At p.nodes n node → IsWithin (local_ranges node) (locals_of C n)
    locals n node at = subst (λ l. IsWithin (local_ranges node) (slice_index_or l n [])) (sym o.locals)
        (subst (IsWithin (local_ranges node)) (sym (get_or_from_slice_get (map (λ k. map (λ l. l.init) k.locals.items) p.nodes) n _ []
        (at_map (λ k. map (λ l. l.init) k.locals.items) p.nodes n node at))) (rules.typed.local_inits n node at))

    left : LeftIsDueNow p C
    left n node at = subst (λ k. (is_left C n ≡ true) ↔ IsDue node.period node.offset k) (sym o.time_is) (o.left n node at)

    left_dm : DecisionsAreDueNow p C
    left_dm m a at = subst (λ k. (is_left_dm C m ≡ true) ↔ IsDue a.period a.offset k) (sym o.time_is) (o.left_dm m a at)

-- the tube of any commands from a point of the safer region stays inside for longer than the safe node may take
pub safer_starts_are_held_safe : SaferStartsAreHeldSafe
safer_starts_are_held_safe p cert t start C rules certified o safer m a plant q at_m at_p (sc, at_s, u) =
    let s = point_of C a.plant in
    let c = commands plant C in
    let e = certified.entries m a at_m in
    let box = in_some_box e.0.reach.boxes s (certified.reach_cover m a e.0 at_m e.1 s (safer m a at_m)) in
    let bound : q ≤ sc.period + cert.jitter = until_bound cert.jitter (is_left C a.sc) sc.period sc.offset C.time q (rules.typed.node_times a.sc sc at_s) u in
    let per : sc.period ≤ a.period = (certified_well p cert.jitter cert rules.typed certified).periods m a at_m sc (inr at_s) in
    let types : IsWithin (input_ranges p plant) c = within_picked (scalar_ranges p) C.scalars plant.inputs.items (opening_scalars p t start C rules o) in
    tube_fewer p plant (point_box c) a.safe.boxes (point_box s) q (2 * (a.period + cert.jitter)) (omega (arith, bound, per))
    (tube_narrower p rules a.plant plant at_p (point_box c) (input_ranges p plant) a.safe.boxes (point_box s) box.1 (2 * (a.period + cert.jitter))
    (point_narrower (input_ranges p plant) c types) (point_narrower box.1 s box.3) (certified.reach_cells m a plant e.0 box.0 box.1 at_m at_p e.1 box.2))

-- what the test of each module answers, where exactly what is due is left
module _ (p : Tables) (j : ℕ) (C : Configuration) (left : LeftIsDueNow p C) where
  pub held_at : (m : ℕ) → AnswersAt p j C.time C.scalars C.points m true → IsHeldSafe p j C m
  held_at m answers a plant q at_m at_p fires =
      let x = answers a plant fires.0 at_m at_p fires.1 in
      let same : x.0 ≡ q = until_same j (is_left C a.sc) fires.0.period fires.0.offset C.time x.0 q (x.1 (is_left C a.sc) (left a.sc fires.0 fires.1)) fires.2 in
      subst (HoldsFor p C a plant) same (x.2.0 refl)

  pub first_at : (m : ℕ) → IsFirstAnswer p j C.time C.scalars C.points m → IsFirstUnsafe p j C m
  first_at m first =
      let a = first.module_info in
      let x = first.unheld a first.plant first.node first.is first.plant_is first.node_is in
      record {
        unheld = record {
          module_info = a;
          plant = first.plant;
          ticks = x.0;
          is = first.is;
          plant_is = first.plant_is;
          fires = (first.node, first.node_is, x.1 (is_left C a.sc) (left a.sc first.node first.node_is));
          leaves = λ holds. false≢true (x.2.1 holds);
        };
        before = λ k lt. held_at k (first.before k lt);
      }

-- an opening at a time
pub opens_at : (p : Tables) (t : ℕ) (start : List (List ℤ)) (left left_dm : List Bool) (modes : List Mode) (scalars : List ℤ) (locals points : List (List ℤ))
    → AreStarts p start
    → ((n : ℕ) (node : NodeInfo) → At p.nodes n node → (slice_index_or left n false ≡ true) ↔ IsDue node.period node.offset t)
    → ((m : ℕ) (a : ModuleInfo) → At p.modules m a → (slice_index_or left_dm m false ≡ true) ↔ IsDue a.period a.offset t)
    → length left ≡ length p.nodes → length left_dm ≡ length p.modules → modes ≡ map (λ m. Sc) p.modules → scalars ≡ map (λ i. i.init) p.scalars
    → locals ≡ map (λ n. map (λ l. l.init) n.locals.items) p.nodes → points ≡ start
    → IsOpeningAt p t start (record { time = t; left = left; left_dm = left_dm; modes = modes; scalars = scalars; locals = locals; points = points })
opens_at p t start left left_dm modes scalars locals points starts due due_dm many many_dm m s k q = record {
  time_is = refl;
  left = due;
  left_dm = due_dm;
  modes = m;
  scalars = s;
  locals = k;
  points = q;
  sizes = record {
    left = many;
    left_dm = many_dm;
    modes = ap length m ∙ length-map p.modules (λ x. Sc);
    scalars = ap length s ∙ length-map p.scalars (λ i. i.init);
    locals = ap length k ∙ length-map p.nodes (λ n. map (λ l. l.init) n.locals.items);
    points = ap length q ∙ starts.each;
  };
  widths = λ i plant at. ap (λ ps. length (slice_index_or ps i [])) q ∙ starts.widths i plant at;
}

-- an opening whose modules all pass the test, or of which one is the first that does not
module _ (p : Tables) (j t : ℕ) (start : List (List ℤ)) (C : Configuration) (o : IsOpeningAt p t start C) where
  left_now : LeftIsDueNow p C
  left_now n node at = subst (λ k. (is_left C n ≡ true) ↔ IsDue node.period node.offset k) (sym o.time_is) (o.left n node at)

  pub opening_held : AreAnswered p j t start → AreHeldSafe p j C
  opening_held answers m =
      held_at p j C left_now m
      (subst (λ k. AnswersAt p j k C.scalars C.points m true) (sym o.time_is)
      (subst (λ s. AnswersAt p j t s C.points m true) (sym o.scalars)
      (subst (λ ps. AnswersAt p j t (map (λ i. i.init) p.scalars) ps m true) (sym o.points) (answers m))))

  pub opening_unheld : (m : ℕ) → IsFirstAnswer p j t (map (λ i. i.init) p.scalars) start m → IsFirstUnsafe p j C m
  opening_unheld m first =
      first_at p j C left_now m
      (subst (λ k. IsFirstAnswer p j k C.scalars C.points m) (sym o.time_is)
      (subst (λ s. IsFirstAnswer p j t s C.points m) (sym o.scalars)
      (subst (λ ps. IsFirstAnswer p j t (map (λ i. i.init) p.scalars) ps m) (sym o.points) first)))

module _ (p : Tables) (j t : ℕ) (start : List (List ℤ)) (starts : AreStarts p start) where
  opens : AtOpening p t start (λ C. Unit {0})
  opens =
      let nodes = due_flags (λ (n : NodeInfo). n.period) (λ n. n.offset) t p.nodes in
      let modules = due_flags (λ (a : ModuleInfo). a.period) (λ a. a.offset) t p.modules in (
        record {
          time = t;
          left = nodes.0;
          left_dm = modules.0;
          modes = map (λ m. Sc) p.modules;
          scalars = map (λ i. i.init) p.scalars;
          locals = map (λ n. map (λ l. l.init) n.locals.items) p.nodes;
          points = start;
        },
        opens_at p t start _ _ _ _ _ _ starts nodes.2 modules.2 nodes.1 modules.1 refl refl refl refl,
        tt,
      )

  pub start_held : AreAnswered p j t start → AtOpening p t start (λ C. AreHeldSafe p j C)
  start_held answers = (opens.0, opens.1, opening_held p j t start opens.0 opens.1 answers)

  pub start_unsafe : (m : ℕ) → IsFirstAnswer p j t (map (λ i. i.init) p.scalars) start m → IsStartUnsafe p j t start m
  start_unsafe m first = (opens.0, opens.1, opening_unheld p j t start opens.0 opens.1 m first)

-- with what is due left, a module does not pass the test
pub stays_unsafe : (g : Guarding) (m : ℕ) → IsSized g.accepted.program g.at
    → IsFirstAnswer g.accepted.program g.accepted.cert.jitter g.at.time g.at.scalars g.at.points m → StaysUnsafe g m
stays_unsafe g m sizes first =
    let p = g.accepted.program in
    let nodes = due_flags (λ (n : NodeInfo). n.period) (λ n. n.offset) g.at.time p.nodes in
    let modules = due_flags (λ (a : ModuleInfo). a.period) (λ a. a.offset) g.at.time p.modules in
    let D : Configuration = record g.at { left = nodes.0; left_dm = modules.0 } in
    record {
      due = D;
      leaves = record {
        left = nodes.2;
        left_dm = modules.2;
        sizes = record {
          left = nodes.1;
          left_dm = modules.1;
          modes = sizes.modes;
          scalars = sizes.scalars;
          locals = sizes.locals;
          points = sizes.points;
        };
        rest = refl;
      };
      first = first_at p g.accepted.cert.jitter D nodes.2 m first;
    }
