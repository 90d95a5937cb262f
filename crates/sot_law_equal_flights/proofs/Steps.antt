-- A step is a step of tables that look the same.
use Rattle.std.proofs.Common.{◌≡◌, ◌↔◌, ℕ, ◌+◌, ℤ, ◌⊎◌, inl, inr, true, List, [], Option, None, Some, map, length, refl, sym, ap, ◌∙◌, subst}
use Rattle.std.specs.Prelude.{slice_index_or, option_map}
use Rattle.std.proofs.lemmas.Option.{none-some}
use Rattle.sot_lists.specs.Places.{At}
use Rattle.sot_box.specs.Boxes.{IsWithin}
use Rattle.sot_box.specs.Sides.{Side, IsIn}
use Rattle.sot_box.specs.Regions.{IsInRegion}
use Rattle.sot_lang.specs.declared.tables.TopicInfo.{TopicInfo}
use Rattle.sot_lang.specs.declared.tables.NodeInfo.{NodeInfo}
use Rattle.sot_lang.specs.declared.tables.ModuleInfo.{ModuleInfo}
use Rattle.sot_lang.specs.Tables.{Tables}
use Rattle.sot_lang.specs.Ticks.{next_state, joined}
use Rattle.sot_calendar.specs.Due.{IsDue, IsLastDue}
use Rattle.sot_tube.specs.Tubes.{Keeps}
use Rattle.sot_world.specs.declared.mode.Mode.TheVariants.{Ac, Sc}
use Rattle.sot_world.specs.Configurations.{Configuration, is_left, mode_of, locals_of, point_of, commands, seen_points, number_of}
use Rattle.sot_world.specs.Steps.{Event, Input, Code, Guest, Decide, Tick, MayTick, Fires, Step, published, is_enabled}
use Rattle.sot_world.specs.Outcomes.{Recorded, NodeFired, Records}
use Rattle.sot_typing.specs.Formulas.{deeds_view}
use Rattle.sot_typing.specs.Resolved.{PlantTable, NodeTable, node_seen, tables_seen}
use Rattle.sot_law_equal_tables.proofs.Seen.{module_back, plant_back, node_back}
use Rattle.sot_law_equal_tables.proofs.Nodes.{coded_alike}
use Rattle.sot_law_equal_tables.proofs.Plants.{any_tube_alike}
use Rattle.sot_law_equal_flights.proofs.Parts.{topics_same, plant_count, range_same, enabled_same, firing_same, sized_same, writes_same, execution_same}
use Rattle.sot_law_equal_flights.proofs.Parts.{bounds_same, next_same}

unmapped : {A B : Type 0} (f : A → B) (o : Option A) → option_map f o ≡ None → o ≡ None
unmapped f None e = refl
unmapped f (Some a) e = absurd (none-some (f a) (sym e))

-- a node that looks as one without a body has none
external_same : (x y : NodeInfo) → node_seen x ≡ node_seen y → x.body ≡ None → y.body ≡ None
external_same x y alike is =
    unmapped (λ v. deeds_view v.items) y.body (sym (ap (λ (n : NodeTable). n.body) alike) ∙ ap (option_map (λ v. deeds_view v.items)) is)

module _ (t u : Tables) (same : tables_seen t ≡ tables_seen u) (jitter : ℕ) (C : Configuration) where
  -- the node of t that stands where one of u does, and the other way round
  pub node_there : (n : ℕ) (y : NodeInfo) → At t.nodes n y → (x : NodeInfo) × At u.nodes n x × (node_seen x ≡ node_seen y)
  node_there n y at = node_back u t (sym same) n y at

  pub keeps_same : (a : ModuleInfo) (s : List ℤ) → Keeps t jitter a s → Keeps u jitter a s
  keeps_same a s keeps =
      let x = plant_back u t (sym same) a.plant keeps.plant keeps.is in
      record { plant = x.0; is = x.1; inside = any_tube_alike t u same keeps.plant x.0 (sym x.2) _ _ _ keeps.inside }

  fires_same : (n : ℕ) (x y : NodeInfo) → node_seen x ≡ node_seen y → (locals : List ℤ) (draft : List (Option ℤ)) (D : Configuration)
      → Fires t n x locals draft C D → Fires u n y locals draft C D
  fires_same n x y alike locals draft D fires = record {
    was_left = fires.was_left;
    time = fires.time;
    left = fires.left;
    left_dm = fires.left_dm;
    modes = fires.modes;
    points = fires.points;
    locals_set = fires.locals_set;
    scalars =
        fires.scalars ∙ firing_same t u same C n x.writes.items draft C.scalars
        ∙ ap (λ ks. published (is_enabled u C n) u ks draft C.scalars) (writes_same t u same x y alike);
  }

  pub may_same : MayTick t jitter C → MayTick u jitter C
  may_same may = record {
    nodes = λ n node d at left last.
        let x = node_back t u same n node at in
        may.nodes n x.0 d x.1 left (subst (λ (s : NodeTable). IsLastDue s.period s.offset C.time d) (sym x.2) last);
    modules = λ m a d at left last. may.modules m a d (module_back t u same m a at) left last;
  }

-- a decision that a tube settles
chosen_same : (t u : Tables) → tables_seen t ≡ tables_seen u → (jitter : ℕ) (C : Configuration) (m : ℕ) (a : ModuleInfo)
    → ((mode_of C m ≡ Sc) × IsInRegion a.safer.boxes (point_of C a.plant)) ⊎ ((mode_of C m ≡ Ac) × Keeps t jitter a (point_of C a.plant))
    → ((mode_of C m ≡ Sc) × IsInRegion a.safer.boxes (point_of C a.plant)) ⊎ ((mode_of C m ≡ Ac) × Keeps u jitter a (point_of C a.plant))
chosen_same t u same jitter C m a (inl h) = inl h
chosen_same t u same jitter C m a (inr h) = inr (h.0, keeps_same t u same jitter C a (point_of C a.plant) h.1)

module _ (t u : Tables) (same : tables_seen t ≡ tables_seen u) (jitter : ℕ) (C : Configuration) where
  pub step_same : (e : Event) (D : Configuration) → Step t jitter C e D → Step u jitter C e D
  step_same (Input topic value) D s = record {
    info = s.info;
    is = subst (λ (infos : List TopicInfo). At infos topic s.info) (topics_same t u same) s.is;
    outside = s.outside;
    size = s.size;
    typed = λ i z at. subst (λ (r : Side). IsIn r z) (range_same t u same (s.info.first + i)) (s.typed i z at);
    scalars = s.scalars;
    rest = s.rest;
  }
  step_same (Code n) D s =
      let x = node_there t u same jitter C n s.node s.is in
      let us = coded_alike x.0 s.node s.acts x.2 s.coded in
      record {
        node = x.0;
        is = x.1;
        acts = us.0;
        coded = us.1;
        fired = s.fired;
        runs = execution_same u t (sym same) x.0 s.node x.2 us.0 s.acts us.2 C.scalars C.points (locals_of C n) ∙ s.runs;
        fires = fires_same t u same jitter C n s.node x.0 (sym x.2) s.fired.locals s.fired.draft D s.fires;
      }
  step_same (Guest n draft) D s =
      let x = node_there t u same jitter C n s.node s.is in
      record {
        node = x.0;
        is = x.1;
        external = external_same s.node x.0 (sym x.2) s.external;
        slots = s.slots ∙ ap length (writes_same t u same s.node x.0 (sym x.2));
        fires = fires_same t u same jitter C n s.node x.0 (sym x.2) (locals_of C n) draft D s.fires;
      }
  step_same (Decide m) D s = record {
    module_info = s.module_info;
    is = module_back u t (sym same) m s.module_info s.is;
    was_left = s.was_left;
    left_dm = s.left_dm;
    modes = s.modes;
    mode = (
      (λ ac. chosen_same t u same jitter C m s.module_info (s.mode.0 ac)),
      (λ h. s.mode.1 (chosen_same u t (sym same) jitter C m s.module_info h)),
    );
    rest = s.rest;
  }
  step_same (Tick noise) D s = record {
    may = may_same t u same jitter C s.may;
    each = s.each ∙ plant_count t u same;
    bounded = λ k y at.
        let x = plant_back t u same k y at in
        subst (λ (b : List Side). IsWithin b (slice_index_or noise k [])) (bounds_same x.0 y x.2) (s.bounded k x.0 x.1);
    moves = λ k y at.
        let x = plant_back t u same k y at in
        let w = slice_index_or noise k [] in
        sym (next_same x.0 y x.2 (point_of C k) (commands x.0 C) (joined (seen_points x.0 C)) w
        ∙ ap (λ (p : PlantTable). next_state y (point_of C k) (map (number_of C) p.inputs) (joined (map (point_of C) p.sees)) w) x.2)
        ∙ s.moves k x.0 x.1;
    time = s.time;
    left = λ n y at.
        let x = node_back t u same n y at in
        subst (λ (p : NodeTable). (is_left D n ≡ true) ↔ ((is_left C n ≡ true) ⊎ IsDue p.period p.offset D.time)) x.2 (s.left n x.0 x.1);
    left_dm = λ m a at. s.left_dm m a (module_back t u same m a at);
    sizes = sized_same t u same D s.sizes;
    rest = s.rest;
  }

  pub records_same : (e : Event) (D : Configuration) (r : Recorded) → Records t C e D r → Records u C e D r
  records_same (Input topic value) D r records = records
  records_same (Code n) D r records =
      let x = node_there t u same jitter C n records.node records.is in
      let us = coded_alike x.0 records.node records.acts x.2 records.coded in
      record {
        node = x.0;
        is = x.1;
        acts = us.0;
        coded = us.1;
        fired = records.fired;
        runs = execution_same u t (sym same) x.0 records.node x.2 us.0 records.acts us.2 C.scalars C.points (locals_of C n) ∙ records.runs;
        recorded = records.recorded ∙ ap (λ b. NodeFired records.fired.draft b) (enabled_same t u same C n);
      }
  records_same (Guest n draft) D r records = records ∙ ap (λ b. NodeFired draft b) (enabled_same t u same C n)
  records_same (Decide m) D r records = records
  records_same (Tick noise) D r records = records
