-- Tubes are kept over each step, and stand in a safer opening.
use Rattle.std.proofs.Common.{◌≡◌, ℕ, ◌+◌, ◌*◌, ◌≤◌, ℤ, false, inr, ⊎_elim, List, [], Option, Some, map, sym, ap, ◌∙◌, subst, arith}
use Rattle.std.specs.Prelude.{slice_index_or}
use Rattle.std.proofs.lemmas.Bool.{cases_eq}
use Rattle.std.proofs.lemmas.List.{get_or-set_other}
use Rattle.std.proofs.lemmas.Option.{none-some}
use Rattle.sot_lists.specs.Places.{At}
use Rattle.sot_lists.proofs.Places.{at_same}
use Rattle.sot_box.specs.Sides.{Side}
use Rattle.sot_box.specs.Boxes.{IsWithin, point_box}
use Rattle.sot_box.specs.Regions.{IsInRegion}
use Rattle.sot_box.proofs.Ranges.{within_picked}
use Rattle.sot_calendar.specs.Due.{IsUntil}
use Rattle.sot_calendar.proofs.Clock.{until_exists, until_bound}
use Rattle.sot_lang.specs.declared.cert.Cert.{Cert}
use Rattle.sot_lang.specs.declared.tables.PlantInfo.{PlantInfo}
use Rattle.sot_lang.specs.declared.tables.NodeInfo.{NodeInfo}
use Rattle.sot_lang.specs.declared.tables.ModuleInfo.{ModuleInfo}
use Rattle.sot_lang.specs.Tables.{Tables}
use Rattle.sot_lang.specs.TableRules.{IsTyped, MeetsTableRules, IsCoded}
use Rattle.sot_lang.specs.Ranges.{input_ranges, scalar_ranges}
use Rattle.sot_iv.specs.Monotony.{AreNarrower}
use Rattle.sot_iv.proofs.Plants.{narrow_self}
use Rattle.sot_tube.specs.Tubes.{TubeInside, AnyTubeInside, Keeps}
use Rattle.sot_tube.specs.Certified.{IsWellCertified, command_intervals}
use Rattle.sot_tube.specs.WellFormed.{IsWellFormed}
use Rattle.sot_tube.proofs.Certificate.{certified_well, in_some_box}
use Rattle.sot_tube.proofs.Tubes.{within_box_of}
use Rattle.sot_world.specs.declared.mode.Mode.TheVariants.{Ac, Sc}
use Rattle.sot_world.specs.Configurations.{Configuration, IsOpening, IsSafer, is_left, is_left_dm, mode_of, point_of, commands}
use Rattle.sot_world.specs.Steps.{Event, Input, Code, Guest, Decide, Tick, Inputs, Fires, CodeFires, GuestFires, Decides}
use Rattle.sot_world.specs.Invariant.{KeepsInvariant}
use Rattle.sot_world.proofs.Induction.{step_holds}
use Rattle.sot_world.proofs.Opening.{opening_holds}
use Rattle.sot_world.proofs.Modes.{cases_mode, every_sc, same_module, left_same}
use Rattle.sot_world.proofs.Safety.{in_safe}
use Rattle.sot_law_runs.specs.Holds.{Guarded}
use Rattle.sot_law_runs.proofs.Commands.{commands_lie}
use Rattle.sot_law_runs.proofs.Stays.{begins}
use Rattle.sot_iv.proofs.NarrowBoxes.{point_narrower}
use Rattle.sot_law_observed_runs.specs.Observed.{ObservedStep}
use Rattle.sot_law_observed_runs.specs.Tubes.{KeepsTubes}
use Rattle.sot_law_observed_runs.proofs.Follows.{tube_fewer, tube_narrower}
use Rattle.sot_law_observed_runs.proofs.Kept.{firing_leaves, input_leaves}
use Rattle.sot_law_observed_runs.proofs.Ticking.{tick_keeps}

module _ (p : Tables) (cert : Cert) (rules : MeetsTableRules p) (c : IsWellCertified p cert.jitter cert) where
  typed : IsTyped p
  typed = rules.typed

  pub well : IsWellFormed p cert.jitter
  well = certified_well p cert.jitter cert rules.typed c

  types_self : (plant : PlantInfo) → AreNarrower (input_ranges p plant) (input_ranges p plant)
  types_self plant = narrow_self (input_ranges p plant) _ (within_picked (scalar_ranges p) (map (λ i. i.init) p.scalars) plant.inputs.items rules.typed.inits)

  -- the tube of any commands from a point of the safer region
  safer_tube : (m : ℕ) (a : ModuleInfo) (plant : PlantInfo) (s : List ℤ) → At p.modules m a → At p.plants a.plant plant → IsInRegion a.safer.boxes s
      → AnyTubeInside p plant a.safe.boxes (point_box s) (2 * (a.period + cert.jitter))
  safer_tube m a plant s at_m at_p safer =
      let e = c.entries m a at_m in
      let box = in_some_box e.0.reach.boxes s (c.reach_cover m a e.0 at_m e.1 s safer) in
      tube_narrower p rules a.plant plant at_p (input_ranges p plant) (input_ranges p plant) a.safe.boxes (point_box s) box.1 (2 * (a.period + cert.jitter))
      (types_self plant) (point_narrower box.1 s box.3) (c.reach_cells m a plant e.0 box.0 box.1 at_m at_p e.1 box.2)

  -- .. and the one of the present commands in it, for as many ticks or fewer
  held_tube : (k : ℕ) (plant : PlantInfo) (region : List (List Side)) (s : List ℤ) (C : Configuration) (q n : ℕ) → At p.plants k plant
      → KeepsInvariant p cert.jitter C → q ≤ n → AnyTubeInside p plant region (point_box s) n
      → TubeInside p plant (point_box (commands plant C)) region (point_box s) q
  held_tube k plant region s C q n at h le tube =
      let types : IsWithin (input_ranges p plant) (commands plant C) = within_picked (scalar_ranges p) C.scalars plant.inputs.items h.scalars in
      tube_fewer p plant (point_box (commands plant C)) region (point_box s) q n le
      (tube_narrower p rules k plant at (point_box (commands plant C)) (input_ranges p plant) region (point_box s) (point_box s) n
      (point_narrower (input_ranges p plant) (commands plant C) types) (narrow_self (point_box s) s (within_box_of s)) tube)

  pub opening_keeps : (start : List (List ℤ)) (C : Configuration) → IsOpening p start C → IsSafer p C → KeepsTubes p cert.jitter C
  opening_keeps start C o safer = record {
    keeps = keeps;
    ac = λ m a plant r at_m at_p mode u. (let clash : Sc ≡ Ac = sym (all_sc m) ∙ mode in cc);
    sc = λ m a plant sc q at_m at_p at_s mode u.
        let bound : q ≤ sc.period + cert.jitter = until_bound cert.jitter (is_left C a.sc) sc.period sc.offset C.time q (typed.node_times a.sc sc at_s) u in
        let per : sc.period ≤ a.period = well.periods m a at_m sc (inr at_s) in
        held_tube a.plant plant a.safe.boxes (point_of C a.plant) C q (2 * (a.period + cert.jitter)) at_p keeps (omega (arith, bound, per))
        (safer_tube m a plant (point_of C a.plant) at_m at_p (safer m a at_m));
  }
    where
      keeps : KeepsInvariant p cert.jitter C
      keeps = opening_holds p cert.jitter typed well start C o safer

      all_sc : (m : ℕ) → mode_of C m ≡ Sc
      all_sc m = ap (λ l. slice_index_or l m Sc) o.modes ∙ every_sc p.modules m

  -- what a module's safe node drafts, in mode Sc, holds its plant for the node's period and the jitter
  own_tube : (C D : Configuration) (m : ℕ) (a : ModuleInfo) (plant : PlantInfo) (sc : NodeInfo) → KeepsInvariant p cert.jitter C → At p.modules m a
      → At p.plants a.plant plant → At p.nodes a.sc sc → mode_of C m ≡ Sc → CodeFires p a.sc C D
      → TubeInside p plant (point_box (commands plant D)) a.safe.boxes (point_box (point_of C a.plant)) (sc.period + cert.jitter)
  own_tube C D m a plant sc h at_m at_p at_s mode s =
      let here = point_of C a.plant in
      let t = typed.sc_is m a at_m in
      let coded : IsCoded sc t.1 = subst (λ n. IsCoded n t.1) (at_same p.nodes a.sc t.0 sc t.2 at_s) t.3 in
      let e = c.entries m a at_m in
      let g : Guarded p cert m = record {
        info = a;
        info_is = at_m;
        plant = plant;
        plant_is = at_p;
        sc = sc;
        sc_is = at_s;
        acts = t.1;
        coded = coded;
        cells = e.0;
        cells_are = e.1;
      } in
      let goes = begins g typed c C D h mode s in
      let box = in_some_box e.0.closed.boxes here
      (c.closed_cover m a e.0 at_m e.1 here (in_safe p cert.jitter typed well C h m a plant at_m at_p)) in
      let cell = c.closed_cells m a plant sc t.1 e.0 box.0 box.1 at_m at_p at_s coded e.1 box.2 in
      let lie = commands_lie g typed box.1 here [] cell.fired cell.drafts goes.hold box.3 in
      let held : IsWithin (command_intervals p plant sc cell.fired.draft) (commands plant D) =
      subst (IsWithin (command_intervals p plant sc cell.fired.draft)) (sym goes.held) lie in
      tube_narrower p rules a.plant plant at_p (point_box (commands plant D)) (command_intervals p plant sc cell.fired.draft) a.safe.boxes (point_box here)
      box.1 (sc.period + cert.jitter) (point_narrower (command_intervals p plant sc cell.fired.draft) (commands plant D) held) (point_narrower box.1 here box.3)
      cell.stays

  -- a firing
  fires_keep : (C D : Configuration) (n : ℕ) (node : NodeInfo) (locals : List ℤ) (draft : List (Option ℤ)) → KeepsTubes p cert.jitter C
      → KeepsInvariant p cert.jitter D → At p.nodes n node → Fires p n node locals draft C D
      → ((m : ℕ) (a : ModuleInfo) (plant : PlantInfo) (sc : NodeInfo) → At p.modules m a → At p.plants a.plant plant → At p.nodes a.sc sc → a.sc ≡ n
      → mode_of C m ≡ Sc
      → TubeInside p plant (point_box (commands plant D)) a.safe.boxes (point_box (point_of C a.plant)) (sc.period + cert.jitter))
      → KeepsTubes p cert.jitter D
  fires_keep C D n node locals draft h keeps at_n f own = record {
    keeps = keeps;
    ac = λ m a plant r at_m at_p mode u.
        let before : IsUntil cert.jitter (is_left_dm C m) a.period a.offset C.time r =
        subst (λ l. IsUntil cert.jitter (slice_index_or l m false) a.period a.offset C.time r) f.left_dm
        (subst (λ t. IsUntil cert.jitter (is_left_dm D m) a.period a.offset t r) f.time u) in
        subst (λ ps. AnyTubeInside p plant a.safe.boxes (point_box (slice_index_or ps a.plant [])) (r + a.period + cert.jitter)) (sym f.points)
        (h.ac m a plant r at_m at_p (mode_was m Ac mode) before);
    sc = λ m a plant sc q at_m at_p at_s mode u.
        let u1 : IsUntil cert.jitter (is_left D a.sc) sc.period sc.offset C.time q =
        subst (λ t. IsUntil cert.jitter (is_left D a.sc) sc.period sc.offset t q) f.time u in
        subst (λ ps. TubeInside p plant (point_box (commands plant D)) a.safe.boxes (point_box (slice_index_or ps a.plant [])) q) (sym f.points)
        (⊎_elim
        (λ (e : a.sc ≡ n).
        tube_fewer p plant (point_box (commands plant D)) a.safe.boxes (point_box (point_of C a.plant)) q (sc.period + cert.jitter)
        (until_bound cert.jitter (is_left D a.sc) sc.period sc.offset C.time q (typed.node_times a.sc sc at_s) u1)
        (own m a plant sc at_m at_p at_s e (mode_was m Sc mode)))
        (λ (ne : a.sc ≡ n → ⊥).
        let u2 : IsUntil cert.jitter (is_left C a.sc) sc.period sc.offset C.time q =
        subst (λ b. IsUntil cert.jitter b sc.period sc.offset C.time q)
        (ap (λ l. slice_index_or l a.sc false) f.left ∙ left_same C.left n a.sc ne) u1 in
        subst (λ x. TubeInside p plant (point_box x) a.safe.boxes (point_box (point_of C a.plant)) q)
        (firing_leaves p cert.jitter typed well m a plant sc at_m at_p at_s C D n node locals draft at_n (mode_was m Sc mode) ne f)
        (h.sc m a plant sc q at_m at_p at_s (mode_was m Sc mode) u2))
        (cases_eq a.sc n));
  }
    where
      mode_was : (m : ℕ) (x : _) → mode_of D m ≡ x → mode_of C m ≡ x
      mode_was m x mode = ap (λ l. slice_index_or l m Sc) (sym f.modes) ∙ mode

  code_keeps : (C D : Configuration) (n : ℕ) → KeepsTubes p cert.jitter C → KeepsInvariant p cert.jitter D → CodeFires p n C D → KeepsTubes p cert.jitter D
  code_keeps C D n h keeps s = fires_keep C D n s.node s.fired.locals s.fired.draft h keeps s.is s.fires
      (λ m a plant sc at_m at_p at_s e mode. own_tube C D m a plant sc h.keeps at_m at_p at_s mode (subst (λ k. CodeFires p k C D) (sym e) s))

  -- an external node is no safe node
  guest_keeps : (C D : Configuration) (n : ℕ) (draft : List (Option ℤ)) → KeepsTubes p cert.jitter C → KeepsInvariant p cert.jitter D
      → GuestFires p n draft C D → KeepsTubes p cert.jitter D
  guest_keeps C D n draft h keeps s = fires_keep C D n s.node _ draft h keeps s.is s.fires (λ m a plant sc at_m at_p at_s e mode.
      let t = typed.sc_is m a at_m in
      let same : t.0 ≡ s.node = at_same p.nodes n t.0 s.node (subst (λ k. At p.nodes k t.0) e t.2) s.is in
      let body : s.node.body ≡ Some t.3.0 = ap (λ x. x.body) (sym same) ∙ t.3.1 in
      absurd (none-some t.3.0 (sym s.external ∙ body)))

  input_keeps : (C D : Configuration) (topic : ℕ) (value : List ℤ) → KeepsTubes p cert.jitter C → KeepsInvariant p cert.jitter D
      → Inputs p topic value C D → KeepsTubes p cert.jitter D
  input_keeps C D topic value h keeps s = record {
    keeps = keeps;
    ac = λ m a plant r at_m at_p mode u.
        let before : IsUntil cert.jitter (is_left_dm C m) a.period a.offset C.time r =
        subst (λ x. IsUntil cert.jitter (is_left_dm x m) a.period a.offset x.time r) s.rest u in
        subst (λ ps. AnyTubeInside p plant a.safe.boxes (point_box (slice_index_or ps a.plant [])) (r + a.period + cert.jitter)) (sym points)
        (h.ac m a plant r at_m at_p (ap (λ x. mode_of x m) (sym s.rest) ∙ mode) before);
    sc = λ m a plant sc q at_m at_p at_s mode u.
        let before : IsUntil cert.jitter (is_left C a.sc) sc.period sc.offset C.time q =
        subst (λ x. IsUntil cert.jitter (is_left x a.sc) sc.period sc.offset x.time q) s.rest u in
        subst (λ ps. TubeInside p plant (point_box (commands plant D)) a.safe.boxes (point_box (slice_index_or ps a.plant [])) q) (sym points)
        (subst (λ x. TubeInside p plant (point_box x) a.safe.boxes (point_box (point_of C a.plant)) q)
        (input_leaves p cert.jitter typed well m a plant sc at_m at_p at_s C D topic value s)
        (h.sc m a plant sc q at_m at_p at_s (ap (λ x. mode_of x m) (sym s.rest) ∙ mode) before));
  }
    where
      points : D.points ≡ C.points
      points = ap (λ x. x.points) s.rest

  decide_keeps : (C D : Configuration) (m : ℕ) → KeepsTubes p cert.jitter C → KeepsInvariant p cert.jitter D → Decides p cert.jitter m C D
      → KeepsTubes p cert.jitter D
  decide_keeps C D m h keeps s = record {
    keeps = keeps;
    ac = λ i a plant r at_m at_p mode u.
        let u1 : IsUntil cert.jitter (is_left_dm D i) a.period a.offset C.time r =
        subst (λ t. IsUntil cert.jitter (is_left_dm D i) a.period a.offset t r) time u in
        subst (λ ps. AnyTubeInside p plant a.safe.boxes (point_box (slice_index_or ps a.plant [])) (r + a.period + cert.jitter)) (sym points) (⊎_elim
        (λ (e : i ≡ m).
        let bound : r ≤ a.period + cert.jitter =
        until_bound cert.jitter (is_left_dm D i) a.period a.offset C.time r (typed.module_times i a at_m) u1 in
        let same : s.module_info ≡ a = same_module p.modules m i s.module_info a (sym e) s.is at_m in
        tube_fewer p plant (input_ranges p plant) a.safe.boxes (point_box (point_of C a.plant)) (r + a.period + cert.jitter) (2 * (a.period + cert.jitter))
        (omega (arith, bound)) (⊎_elim
        (λ safer. safer_tube i a plant (point_of C a.plant) at_m at_p (subst (λ b. IsInRegion b.safer.boxes (point_of C b.plant)) same safer.1))
        (λ kept. kept_tube a plant (point_of C a.plant) at_p (subst (λ b. Keeps p cert.jitter b (point_of C b.plant)) same kept.1))
        (s.mode.0 (ap (λ k. mode_of D k) (sym e) ∙ mode))))
        (λ (ne : i ≡ m → ⊥).
        h.ac i a plant r at_m at_p (sym (mode_other i ne) ∙ mode) (subst (λ b. IsUntil cert.jitter b a.period a.offset C.time r) (dm_other i ne) u1))
        (cases_eq i m));
    sc = λ i a plant sc q at_m at_p at_s mode u.
        let u1 : IsUntil cert.jitter (is_left C a.sc) sc.period sc.offset C.time q =
        subst (λ x. IsUntil cert.jitter (is_left x a.sc) sc.period sc.offset x.time q) s.rest u in
        subst (λ x. TubeInside p plant (point_box (commands plant x)) a.safe.boxes (point_box (point_of x a.plant)) q) (sym s.rest) (⊎_elim
        (λ (was : mode_of C i ≡ Ac).
        let r = until_exists cert.jitter (is_left_dm C i) a.period a.offset C.time (typed.module_times i a at_m) (h.keeps.due_dm i a at_m) in
        let bound : q ≤ sc.period + cert.jitter = until_bound cert.jitter (is_left C a.sc) sc.period sc.offset C.time q (typed.node_times a.sc sc at_s) u1 in
        let per : sc.period ≤ a.period = well.periods i a at_m sc (inr at_s) in
        held_tube a.plant plant a.safe.boxes (point_of C a.plant) C q (r.0 + a.period + cert.jitter) at_p h.keeps (omega (arith, bound, per))
        (h.ac i a plant r.0 at_m at_p was r.1))
        (λ (was : mode_of C i ≡ Sc). h.sc i a plant sc q at_m at_p at_s was u1)
        (cases_mode (mode_of C i)));
  }
    where
      time : D.time ≡ C.time
      time = ap (λ x. x.time) s.rest

      points : D.points ≡ C.points
      points = ap (λ x. x.points) s.rest

      dm_other : (i : ℕ) → (i ≡ m → ⊥) → is_left_dm D i ≡ is_left_dm C i
      dm_other i ne = ap (λ l. slice_index_or l i false) s.left_dm ∙ left_same C.left_dm m i ne

      mode_other : (i : ℕ) → (i ≡ m → ⊥) → mode_of D i ≡ mode_of C i
      mode_other i ne = ap (λ l. slice_index_or l i Sc) s.modes ∙ get_or-set_other C.modes m i (mode_of D m) Sc ne

      kept_tube : (a : ModuleInfo) (plant : PlantInfo) (x : List ℤ) → At p.plants a.plant plant → Keeps p cert.jitter a x
          → AnyTubeInside p plant a.safe.boxes (point_box x) (2 * (a.period + cert.jitter))
      kept_tube a plant x at k = subst (λ q. AnyTubeInside p q a.safe.boxes (point_box x) (2 * (a.period + cert.jitter)))
          (at_same p.plants a.plant k.plant plant k.is at) k.inside

  pub step_keeps : (C D : Configuration) (e : Event) → KeepsTubes p cert.jitter C → ObservedStep p cert.jitter C e D → KeepsTubes p cert.jitter D
  step_keeps C D (Tick noise) h s = tick_keeps p cert.jitter rules well C D h s
  step_keeps C D (Input topic value) h s =
      input_keeps C D topic value h (step_holds p cert.jitter typed well C D (Input topic value) h.keeps s) s
  step_keeps C D (Code n) h s = code_keeps C D n h (step_holds p cert.jitter typed well C D (Code n) h.keeps s) s
  step_keeps C D (Guest n draft) h s = guest_keeps C D n draft h (step_holds p cert.jitter typed well C D (Guest n draft) h.keeps s) s
  step_keeps C D (Decide m) h s = decide_keeps C D m h (step_holds p cert.jitter typed well C D (Decide m) h.keeps s) s
