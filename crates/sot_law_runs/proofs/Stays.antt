-- What a step leaves of a hold that has begun.
use Rattle.std.proofs.Common.{◌≡◌, ℕ, ◌+◌, ◌<◌, ◌≤◌, ℤ, pos, Bool, true, false, ◌⊎◌, ◌↔◌, inl, inr, ⊎_elim, List, [], ◌∷◌, ◌++◌, Option, Some}
use Rattle.std.proofs.Common.{Ok, length, refl, sym, ap, ◌∙◌, subst, arith}
use Rattle.std.specs.Prelude.{slice_index_or}
use Rattle.std.proofs.lemmas.Bool.{cases_Bool, eqb-false}
use Rattle.std.proofs.lemmas.List.{length-append}
use Rattle.std.proofs.lemmas.Option.{same_Some}
use Rattle.sot_lists.specs.Places.{At, Has}
use Rattle.sot_lists.proofs.Places.{at_same, at_map, has_cases, map_same}
use Rattle.sot_box.specs.Sides.{IsIn}
use Rattle.sot_box.proofs.Ranges.{within_picked}
use Rattle.sot_calendar.specs.Due.{IsDue, IsLastDue}
use Rattle.sot_lang.specs.declared.cert.Cert.{Cert}
use Rattle.sot_lang.specs.declared.act.Act.{Act}
use Rattle.sot_lang.specs.declared.tables.NodeInfo.{NodeInfo}
use Rattle.sot_lang.specs.Tables.{Tables}
use Rattle.sot_lang.specs.TableRules.{IsTyped}
use Rattle.sot_lang.specs.Readings.{reading}
use Rattle.sot_lang.specs.Ranges.{range_of, local_ranges, write_ranges, scalar_ranges}
use Rattle.sot_lang.specs.Reach.{TicksTo}
use Rattle.sot_lang.proofs.SafeRegions.{are_safe}
use Rattle.sot_lang.proofs.Executes.{exec_draft}
use Rattle.sot_tube.specs.WellFormed.{IsWellFormed, FiresTo}
use Rattle.sot_tube.specs.Certified.{IsWellCertified}
use Rattle.sot_tube.proofs.Certificate.{certified_well}
use Rattle.sot_tube.proofs.ByScalars.{composed_by_scalars}
use Rattle.sot_world.specs.declared.mode.Mode.TheVariants.{Ac, Sc}
use Rattle.sot_world.specs.Configurations.{Configuration, is_left, mode_of, number_of, locals_of, point_of, commands, seen_points}
use Rattle.sot_world.specs.Steps.{Event, Input, Code, Guest, Decide, Tick, Step, Fires, CodeFires, is_enabled, published}
use Rattle.sot_world.specs.Invariant.{KeepsInvariant}
use Rattle.sot_world.proofs.Enables.{allowed_true, allowed_false, allows_ac, allows_not}
use Rattle.sot_world.proofs.Modes.{same_module, left_same, left_none}
use Rattle.sot_world.proofs.Publishes.{publish_other, publish_set}
use Rattle.sot_world.proofs.Writes.{write_other}
use Rattle.sot_world.proofs.Safety.{all_safe, meets}
use Rattle.sot_world.proofs.Induction.{step_holds}
use Rattle.sot_law_runs.specs.Firings.{is_firing}
use Rattle.sot_law_runs.specs.Holds.{Guarded, IsHeldPath, last_of}
use Rattle.sot_law_runs.proofs.Commands.{IsBegun}
use Rattle.sot_law_runs.proofs.Between.{IsBetween, clock}

module _ {p : Tables} {cert : Cert} {m : ℕ} (g : Guarded p cert m) where
  -- a hold that has begun and goes on in this configuration
  pub record GoesOn (s : List ℤ) (path : List (List ℤ)) (X : Configuration) : Type 0 where
    pub hold : IsBegun g s path
    pub here : last_of g s path ≡ point_of X g.info.plant
    pub held : commands g.plant X ≡ hold.c
    pub d : ℕ
    pub first : ℕ
    pub last : IsLastDue g.sc.period g.sc.offset first d
    pub soon : first ≤ d + cert.jitter
    pub time : X.time ≡ first + length path
    pub between : IsBetween cert.jitter g.sc.period g.sc.offset d X.time (is_left X g.info.sc)

  -- the path after one event more
  abbrev pub longer : Event → Configuration → List (List ℤ) → List (List ℤ)
  longer (Tick noise) Y path = path ++ (point_of Y g.info.plant ∷ [])
  longer (Input topic value) Y path = path
  longer (Code n) Y path = path
  longer (Guest n draft) Y path = path
  longer (Decide k) Y path = path

  held_longer : (c s t : List ℤ) (path : List (List ℤ)) → IsHeldPath g c s path → TicksTo p g.plant (λ d. d ≡ c) (last_of g s path) (Ok t)
      → IsHeldPath g c s (path ++ (t ∷ []))
  held_longer c s t [] h tick = (tick, tt)
  held_longer c s t (u ∷ path) h tick = (h.0, held_longer c u t path h.1 tick)

  last_longer : (s t : List ℤ) (path : List (List ℤ)) → last_of g s (path ++ (t ∷ [])) ≡ t
  last_longer s t [] = refl
  last_longer s t (u ∷ path) = last_longer u t path

  module _ (typed : IsTyped p) (c : IsWellCertified p cert.jitter cert) where
    well : IsWellFormed p cert.jitter
    well = certified_well p cert.jitter cert typed c

    lt : g.sc.offset < g.sc.period
    lt = typed.node_times g.info.sc g.sc g.sc_is

    short : cert.jitter < g.sc.period
    short = c.node_jitter g.info.sc g.sc g.sc_is

    -- the plant takes none of its inputs from another node, in mode Sc
    other_inputs : (C : Configuration) (n : ℕ) (node : NodeInfo) (draft : List (Option ℤ)) → At p.nodes n node → mode_of C m ≡ Sc → (g.info.sc ≡ n → ⊥)
        → (b : Bool) → is_enabled p C n ≡ b → (k : ℕ) → Has g.plant.inputs.items k
        → slice_index_or (published b p node.writes.items draft C.scalars) k (pos 0) ≡ number_of C k
    other_inputs C n node draft at_n mode ne false e k has = refl
    other_inputs C n node draft at_n mode ne true e k has =
        ⊎_elim
        (λ writes.
        let by_scalars = composed_by_scalars p typed well.composed in
        let writes' = by_scalars.own_inputs m g.info g.plant g.sc has.0 k g.info_is g.plant_is g.sc_is has.1 in
        let o = by_scalars.own_output n g.info.sc node g.sc k at_n g.sc_is writes writes' (λ same. ne (sym same)) in
        ⊎_elim
        (λ first.
        let same = well.composed.own_node m o.0 g.info o.1 g.info.sc g.info_is o.2 (inr refl) (inr first.1) in
        let ab : g.info ≡ o.1 = same_module p.modules m o.0 g.info o.1 same g.info_is o.2 in
        let ac : g.info.ac ≡ n = ap (λ x. x.ac) ab ∙ first.0 in
        let is_ac = allows_ac g.info (mode_of C m) n (allowed_true p.modules C.modes n m g.info e g.info_is) ac in
        cc)
        (λ second.
        let same = well.composed.own_node m o.0 g.info o.1 g.info.sc g.info_is o.2 (inr refl) (inl second.1) in
        let ab : g.info ≡ o.1 = same_module p.modules m o.0 g.info o.1 same g.info_is o.2 in
        absurd (typed.apart m g.info g.info_is (ap (λ x. x.ac) ab ∙ second.1)))
        o.3)
        (λ no'. publish_other p node.writes.items draft C.scalars k no')
        (has_cases node.writes.items k)

    -- a firing of another node leaves the hold
    other_fires : (X Y : Configuration) (n : ℕ) (node : NodeInfo) (locals : List ℤ) (draft : List (Option ℤ)) (s : List ℤ) (path : List (List ℤ))
        → mode_of X m ≡ Sc → (g.info.sc ≡ n → ⊥) → At p.nodes n node → Fires p n node locals draft X Y → GoesOn s path X → GoesOn s path Y
    other_fires X Y n node locals draft s path mode ne at f goes =
        let same : commands g.plant Y ≡ commands g.plant X = map_same (number_of Y) (number_of X) g.plant.inputs.items
        (λ k has. ap (λ xs. slice_index_or xs k (pos 0)) f.scalars ∙ other_inputs X n node draft at mode ne (is_enabled p X n) refl k has) in
        let left : is_left Y g.info.sc ≡ is_left X g.info.sc = ap (λ l. slice_index_or l g.info.sc false) f.left ∙ left_same X.left n g.info.sc ne in
        record {
          hold = goes.hold;
          here = goes.here ∙ ap (λ ps. slice_index_or ps g.info.plant []) (sym f.points);
          held = same ∙ goes.held;
          d = goes.d;
          first = goes.first;
          last = goes.last;
          soon = goes.soon;
          time = f.time ∙ goes.time;
          between =
              subst (λ t. IsBetween cert.jitter g.sc.period g.sc.offset goes.d t (is_left Y g.info.sc)) (sym f.time)
              (subst (IsBetween cert.jitter g.sc.period g.sc.offset goes.d X.time) (sym left) goes.between);
        }

    -- each event but a firing of the safe node leaves the hold
    pub stays : (e : Event) (X Y : Configuration) (s : List ℤ) (path : List (List ℤ)) → KeepsInvariant p cert.jitter X → mode_of X m ≡ Sc
        → is_firing g.info.sc e ≡ false → Step p cert.jitter X e Y → GoesOn s path X → GoesOn s (longer e Y path) Y
    stays (Input topic value) X Y s path inv mode not_it step goes =
        let same : commands g.plant Y ≡ commands g.plant X = map_same (number_of Y) (number_of X) g.plant.inputs.items (λ k has.
        ap (λ xs. slice_index_or xs k (pos 0)) step.scalars
        ∙ write_other step.info.first value X.scalars k (λ i lt e.
        typed.outside g.info.sc g.sc topic i step.info g.sc_is step.is step.outside (omega (arith, step.size, lt))
        (rw (← e) ((composed_by_scalars p typed well.composed).own_inputs m g.info g.plant g.sc has.0 k g.info_is g.plant_is g.sc_is has.1)))) in
        record {
          hold = goes.hold;
          here = goes.here ∙ ap (λ x. point_of x g.info.plant) (sym step.rest);
          held = same ∙ goes.held;
          d = goes.d;
          first = goes.first;
          last = goes.last;
          soon = goes.soon;
          time = ap (λ x. x.time) step.rest ∙ goes.time;
          between = subst (λ x. IsBetween cert.jitter g.sc.period g.sc.offset goes.d x.time (is_left x g.info.sc)) (sym step.rest) goes.between;
        }
    stays (Code n) X Y s path inv mode not_it step goes =
        other_fires X Y n step.node step.fired.locals step.fired.draft s path mode (λ e. eqb-false n g.info.sc not_it (sym e)) step.is step.fires goes
    stays (Guest n draft) X Y s path inv mode not_it step goes =
        other_fires X Y n step.node (locals_of X n) draft s path mode (λ e. eqb-false n g.info.sc not_it (sym e)) step.is step.fires goes
    stays (Decide k) X Y s path inv mode not_it step goes = record {
      hold = goes.hold;
      here = goes.here ∙ ap (λ x. point_of x g.info.plant) (sym step.rest);
      held = ap (λ x. commands g.plant x) step.rest ∙ goes.held;
      d = goes.d;
      first = goes.first;
      last = goes.last;
      soon = goes.soon;
      time = ap (λ x. x.time) step.rest ∙ goes.time;
      between = subst (λ x. IsBetween cert.jitter g.sc.period g.sc.offset goes.d x.time (is_left x g.info.sc)) (sym step.rest) goes.between;
    }
    stays (Tick noise) X Y s path inv mode not_it step goes =
        let t = point_of Y g.info.plant in
        let more : length (path ++ (t ∷ [])) ≡ length path + 1 = length-append path (t ∷ []) in
        let time : Y.time ≡ goes.first + length (path ++ (t ∷ [])) = (let a = step.time in let b = goes.time in omega (arith, a, b, more)) in
        let between : IsBetween cert.jitter g.sc.period g.sc.offset goes.d Y.time (is_left Y g.info.sc) =
        subst (λ n. IsBetween cert.jitter g.sc.period g.sc.offset goes.d n (is_left Y g.info.sc)) (sym step.time)
        ((clock cert.jitter g.sc.period g.sc.offset goes.d X.time lt short).1 (is_left X g.info.sc) (is_left Y g.info.sc)
        (λ e left last. step.may.nodes g.info.sc g.sc e g.sc_is left last)
        (subst (λ n. (is_left Y g.info.sc ≡ true) ↔ ((is_left X g.info.sc ≡ true) ⊎ IsDue g.sc.period g.sc.offset n)) step.time
        (step.left g.info.sc g.sc g.sc_is))
        goes.between) in
        let most = (clock cert.jitter g.sc.period g.sc.offset goes.d Y.time lt short).3 goes.first (length (path ++ (t ∷ []))) (is_left Y g.info.sc) goes.last
        goes.soon time between in
        let seen = are_safe p.modules (point_of X) g.plant.sees.items
        (λ i has. let o = typed.sees_are g.info.plant g.plant i g.plant_is has in all_safe p cert.jitter typed well X inv i o.0 o.1) in
        let tick : TicksTo p g.plant (λ d. d ≡ goes.hold.c) (point_of X g.info.plant) (Ok t) = record {
          c = commands g.plant X;
          seen = seen_points g.plant X;
          w = slice_index_or noise g.info.plant [];
          allowed = goes.held;
          safe = seen;
          bounded = step.bounded g.info.plant g.plant g.plant_is;
          is = sym (step.moves g.info.plant g.plant g.plant_is);
        } in
        let h = goes.hold in
        record {
          hold =
              record {
                scalars = h.scalars;
                points = h.points;
                locals = h.locals;
                fired = h.fired;
                c = h.c;
                reads = h.reads;
                fires = h.fires;
                types = h.types;
                agrees =
                    h.agrees;
                ticks = held_longer h.c s t path h.ticks (subst (λ q. TicksTo p g.plant (λ d. d ≡ h.c) q (Ok t)) (sym goes.here) tick);
                most = most;
              };
          here = last_longer s t path;
          held = ap (λ x. commands g.plant x) step.rest ∙ goes.held;
          d = goes.d;
          first = goes.first;
          last = goes.last;
          soon = goes.soon;
          time = time;
          between = between;
        }

    -- in mode Sc the safe node is enabled
    enabled : (X : Configuration) → mode_of X m ≡ Sc → is_enabled p X g.info.sc ≡ true
    enabled X mode =
        ⊎_elim
        (λ on. on)
        (λ off.
        let o = allowed_false p.modules X.modes g.info.sc off in
        ⊎_elim
        (λ first.
        let mm = well.composed.own_node m o.0 g.info o.1 g.info.sc g.info_is o.2 (inr refl) (inl first.0) in
        let ab : g.info ≡ o.1 = same_module p.modules m o.0 g.info o.1 mm g.info_is o.2 in
        absurd (typed.apart m g.info g.info_is (ap (λ x. x.ac) ab ∙ first.0)))
        (λ second.
        let mm = well.composed.own_node m o.0 g.info o.1 g.info.sc g.info_is o.2 (inr refl) (inr second.0) in
        let clash : Sc ≡ Ac = sym mode ∙ ap (λ k. slice_index_or X.modes k Sc) mm ∙ second.1 in
        cc)
        (allows_not o.1 (slice_index_or X.modes o.0 Sc) g.info.sc o.3))
        (cases_Bool (is_enabled p X g.info.sc))

    -- a firing of the safe node in mode Sc begins a hold
    pub begins : (X Y : Configuration) → KeepsInvariant p cert.jitter X → mode_of X m ≡ Sc → CodeFires p g.info.sc X Y → GoesOn (point_of X g.info.plant) [] Y
    begins X Y inv mode step =
        let node_is : step.node ≡ g.sc = at_same p.nodes g.info.sc step.node g.sc step.is g.sc_is in
        let acts_are : step.acts ≡ g.acts = same_acts step.node step.acts node_is step.coded in
        let f = step.fires in
        let after = step_holds p cert.jitter typed well X Y (Code g.info.sc) inv step in
        let met = meets p cert.jitter typed well X g.info.sc g.sc inv g.sc_is in
        let due = inv.due g.info.sc g.sc g.sc_is f.was_left in
        let left : is_left Y g.info.sc ≡ false = ap (λ l. slice_index_or l g.info.sc false) f.left ∙ left_none X.left g.info.sc in
        let runs : FiresTo p g.sc g.acts X.scalars X.points (locals_of X g.info.sc) step.fired =
        subst (λ a. FiresTo p g.sc a X.scalars X.points (locals_of X g.info.sc) step.fired) acts_are
        (subst (λ n. FiresTo p n step.acts X.scalars X.points (locals_of X g.info.sc) step.fired) node_is step.runs) in
        let new : Y.scalars ≡ published true p g.sc.writes.items step.fired.draft X.scalars = f.scalars
        ∙ ap (λ b. published b p step.node.writes.items step.fired.draft X.scalars) (enabled X mode)
        ∙ ap (λ n. published true p n.writes.items step.fired.draft X.scalars) node_is in
        record {
          hold = record {
            scalars = X.scalars;
            points = X.points;
            locals = locals_of X g.info.sc;
            fired = step.fired;
            c = commands g.plant Y;
            reads = record { here = refl; scalars_in = met.scalars_in; others_in = λ k v has ne. met.plants_in k v has; locals_in = met.locals_in };
            fires = runs;
            types = within_picked (scalar_ranges p) Y.scalars g.plant.inputs.items after.scalars;
            agrees = λ i k l z at_w at_i at_d.
                let r = exec_draft g.acts (local_ranges g.sc) (write_ranges p g.sc) (reading g.sc X.scalars X.points) (locals_of X g.info.sc) step.fired
                met.locals_in runs i z at_d in
                let range_is : r.0 ≡ range_of p.scalars l = at_same (write_ranges p g.sc) i r.0 (range_of p.scalars l) r.1
                (at_map (range_of p.scalars) g.sc.writes.items i l at_w) in
                let z_in : IsIn (range_of p.scalars l) z = subst (λ x. IsIn x z) range_is r.2 in
                let inside = typed.inside g.info.sc g.sc l g.sc_is (i, at_w) in
                let sizes = inv.sizes.scalars in
                let below : l < length X.scalars = omega (arith, inside, sizes) in
                let set : number_of Y l ≡ z =
                ap (λ xs. slice_index_or xs l (pos 0)) new
                ∙ publish_set p g.sc.writes.items step.fired.draft X.scalars i l z (λ x y w at_x at_y. typed.once g.info.sc g.sc x y w g.sc_is at_x at_y) at_w
                at_d z_in below in
                at_map (number_of Y) g.plant.inputs.items k l at_i ∙ ap Some set;
            ticks = tt;
            most = omega arith;
          };
          here = ap (λ ps. slice_index_or ps g.info.plant []) (sym f.points);
          held = refl;
          d = due.0;
          first = X.time;
          last = due.1;
          soon = due.2;
          time = (let e = f.time in omega (arith, e));
          between =
              subst (λ t. IsBetween cert.jitter g.sc.period g.sc.offset due.0 t (is_left Y g.info.sc)) (sym f.time)
              (subst (IsBetween cert.jitter g.sc.period g.sc.offset due.0 X.time) (sym left) (inl (refl, due.1)));
        }
      where
        same_acts : (node : NodeInfo) (acts : List Act) → node ≡ g.sc → (v : _) × (node.body ≡ Some v) × (v.items ≡ acts) → acts ≡ g.acts
        same_acts node acts e coded =
            let b = g.coded in
            let body : node.body ≡ g.sc.body = ap (λ n. n.body) e in
            let one : coded.0 ≡ b.0 = same_Some coded.0 b.0 (sym coded.1 ∙ body ∙ b.1) in
            sym coded.2 ∙ ap (λ v. v.items) one ∙ b.2

    -- at the next firing it is whole
    pub long_enough : (X : Configuration) (s : List ℤ) (path : List (List ℤ)) → is_left X g.info.sc ≡ true → GoesOn s path X
        → g.sc.period ≤ length path + cert.jitter
    long_enough X s path left goes =
        ((clock cert.jitter g.sc.period g.sc.offset goes.d X.time lt short).2 goes.first (length path) goes.last goes.soon goes.time
        (subst (IsBetween cert.jitter g.sc.period g.sc.offset goes.d X.time) left goes.between)).0
