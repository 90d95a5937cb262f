-- Configuration and event determine the step.
use Rattle.std.proofs.Common.{◌≡◌, ℕ, ℤ, Bool, true, false, ◌⊎◌, ◌↔◌, ⊎_elim, List, [], Option, Ok, length, refl, sym, ap, ◌∙◌, subst, arith}
use Rattle.std.specs.Prelude.{slice_index_or, slice_set}
use Rattle.std.proofs.lemmas.List.{ext_get_or}
use Rattle.std.proofs.lemmas.Option.{slice_get_cases, same_Some}
use Rattle.sot_lang.specs.declared.act.Act.{Act}
use Rattle.sot_lang.specs.declared.tables.NodeInfo.{NodeInfo}
use Rattle.sot_lang.specs.Tables.{Tables}
use Rattle.sot_lists.specs.Places.{At}
use Rattle.sot_box.specs.Regions.{IsInRegion}
use Rattle.sot_lang.specs.Ranges.{local_ranges, write_ranges}
use Rattle.sot_lang.specs.Bodies.{Fired, execution}
use Rattle.sot_lang.specs.Readings.{reading}
use Rattle.sot_lang.specs.TableRules.{IsCoded}
use Rattle.sot_lists.proofs.Places.{at_same}
use Rattle.sot_calendar.specs.Due.{IsDue}
use Rattle.sot_tube.specs.Tubes.{Keeps}
use Rattle.sot_world.specs.Configurations.{Configuration, Mode, Ac, Sc, is_left, is_left_dm, mode_of, locals_of, point_of}
use Rattle.sot_world.specs.Steps.{Event, Input, Code, Guest, Decide, Tick, Fires, CodeFires, GuestFires, Inputs, Decides, Ticks, Step, write_at}
use Rattle.sot_world.specs.Outcomes.{Recorded, Records, RecordsCode, ModuleDecided, NodeFired}
use Rattle.sot_world.specs.Progress.{StepsAreUnique}

same_mode : (x y : Mode) (P : Type 0) → ((x ≡ Ac) ↔ P) → ((y ≡ Ac) ↔ P) → x ≡ y
same_mode Ac Ac P a b = refl
same_mode Sc Sc P a b = refl
same_mode Ac Sc P a b = sym (b.1 (a.0 refl))
same_mode Sc Ac P a b = a.1 (b.0 refl)

pub same_flag : (x y : Bool) (P : Type 0) → ((x ≡ true) ↔ P) → ((y ≡ true) ↔ P) → x ≡ y
same_flag true true P a b = refl
same_flag false false P a b = refl
same_flag true false P a b = sym (b.1 (a.0 refl))
same_flag false true P a b = a.1 (b.0 refl)

-- two lists that agree at each place of a third one of their length are one list
same_lists : {A B : Type 0} (d : B) (xs : List A) (ys zs : List B) → length ys ≡ length xs → length zs ≡ length xs
    → ((k : ℕ) (x : A) → At xs k x → slice_index_or ys k d ≡ slice_index_or zs k d) → ys ≡ zs
same_lists d xs ys zs a b h =
    ext_get_or d ys zs (a ∙ sym b) (λ i lt. ⊎_elim (λ here. h i here.0 here.2) (λ past. absurd (omega (arith, past.0, a))) (slice_get_cases xs i).1)

same_configuration : (C D : Configuration) → C.time ≡ D.time → C.left ≡ D.left → C.left_dm ≡ D.left_dm → C.modes ≡ D.modes → C.scalars ≡ D.scalars
    → C.locals ≡ D.locals → C.points ≡ D.points → C ≡ D
same_configuration C D t l m o s k q i = record { time = t i; left = l i; left_dm = m i; modes = o i; scalars = s i; locals = k i; points = q i }

fires_same : (p : Tables) (n : ℕ) (node : NodeInfo) (locals : List ℤ) (draft : List (Option ℤ)) (C D D' : Configuration) → Fires p n node locals draft C D
    → Fires p n node locals draft C D' → D ≡ D'
fires_same p n node locals draft C D D' f g =
    same_configuration D D' (f.time ∙ sym g.time) (f.left ∙ sym g.left) (f.left_dm ∙ sym g.left_dm) (f.modes ∙ sym g.modes) (f.scalars ∙ sym g.scalars)
    (f.locals_set ∙ sym g.locals_set) (f.points ∙ sym g.points)

module _ (p : Tables) (j : ℕ) (C : Configuration) where
  fired_same : (n : ℕ) (node node' : NodeInfo) (acts acts' : List Act) (f f' : Fired) → node ≡ node' → IsCoded node acts → IsCoded node' acts'
      → execution acts (local_ranges node) (write_ranges p node) (reading node C.scalars C.points) (locals_of C n) ≡ Ok f
      → execution acts' (local_ranges node') (write_ranges p node') (reading node' C.scalars C.points) (locals_of C n) ≡ Ok f' → f ≡ f'
  fired_same n node node' acts acts' f f' e c c' r r' =
      let body : acts ≡ acts' = sym c.2 ∙ ap (λ v. v.items) (same_Some c.0 c'.0 (sym c.1 ∙ ap (λ x. x.body) e ∙ c'.1)) ∙ c'.2 in
      let one = ap (λ a. execution a (local_ranges node) (write_ranges p node) (reading node C.scalars C.points) (locals_of C n)) body in
      let two = ap (λ x. execution acts' (local_ranges x) (write_ranges p x) (reading x C.scalars C.points) (locals_of C n)) e in
      let both : Ok f ≡ Ok f' = sym r ∙ one ∙ two ∙ r' in
      cc

  code_same : (n : ℕ) (D D' : Configuration) → CodeFires p n C D → CodeFires p n C D' → D ≡ D'
  code_same n D D' s t =
      let node = at_same p.nodes n s.node t.node s.is t.is in
      let fired = fired_same n s.node t.node s.acts t.acts s.fired t.fired node s.coded t.coded s.runs t.runs in
      fires_same p n t.node t.fired.locals t.fired.draft C D D'
      (subst (λ x. Fires p n t.node x.locals x.draft C D) fired (subst (λ x. Fires p n x s.fired.locals s.fired.draft C D) node s.fires)) t.fires

  guest_same : (n : ℕ) (draft : List (Option ℤ)) (D D' : Configuration) → GuestFires p n draft C D → GuestFires p n draft C D' → D ≡ D'
  guest_same n draft D D' s t =
      let node = at_same p.nodes n s.node t.node s.is t.is in
      fires_same p n t.node (locals_of C n) draft C D D' (subst (λ x. Fires p n x (locals_of C n) draft C D) node s.fires) t.fires

  input_same : (topic : ℕ) (value : List ℤ) (D D' : Configuration) → Inputs p topic value C D → Inputs p topic value C D' → D ≡ D'
  input_same topic value D D' s t =
      let info = at_same p.topics topic s.info t.info s.is t.is in
      let scalars = s.scalars ∙ ap (λ x. write_at x.first value C.scalars) info ∙ sym t.scalars in
      s.rest ∙ ap (λ xs. record C { scalars = xs }) scalars ∙ sym t.rest

  -- the mode after a decision
  mode_same : (m : ℕ) (D D' : Configuration) → Decides p j m C D → Decides p j m C D' → mode_of D m ≡ mode_of D' m
  mode_same m D D' s t =
      let info = at_same p.modules m t.module_info s.module_info t.is s.is in
      same_mode (mode_of D m) (mode_of D' m) _ s.mode
      (subst (λ a. (mode_of D' m ≡ Ac) ↔ (((mode_of C m ≡ Sc) × IsInRegion a.safer.boxes (point_of C a.plant))
      ⊎ ((mode_of C m ≡ Ac) × Keeps p j a (point_of C a.plant)))) info t.mode)

  decide_same : (m : ℕ) (D D' : Configuration) → Decides p j m C D → Decides p j m C D' → D ≡ D'
  decide_same m D D' s t =
      let left = s.left_dm ∙ sym t.left_dm in
      let modes = s.modes ∙ ap (slice_set C.modes m) (mode_same m D D' s t) ∙ sym t.modes in
      s.rest ∙ ap (λ xs. record C { left_dm = xs; modes = D.modes }) left ∙ ap (λ xs. record C { left_dm = D'.left_dm; modes = xs }) modes ∙ sym t.rest

  tick_same : (noise : List (List ℤ)) (D D' : Configuration) → Ticks p j noise C D → Ticks p j noise C D' → D ≡ D'
  tick_same noise D D' s t =
      same_configuration D D' time left left_dm (ap (λ x. x.modes) s.rest ∙ sym (ap (λ x. x.modes) t.rest))
      (ap (λ x. x.scalars) s.rest ∙ sym (ap (λ x. x.scalars) t.rest)) (ap (λ x. x.locals) s.rest ∙ sym (ap (λ x. x.locals) t.rest)) points
    where
      time : D.time ≡ D'.time
      time = s.time ∙ sym t.time

      left : D.left ≡ D'.left
      left = same_lists false p.nodes D.left D'.left s.sizes.left t.sizes.left (λ n node at.
          same_flag (is_left D n) (is_left D' n) ((is_left C n ≡ true) ⊎ IsDue node.period node.offset D'.time)
          (subst (λ x. (is_left D n ≡ true) ↔ ((is_left C n ≡ true) ⊎ IsDue node.period node.offset x)) time (s.left n node at)) (t.left n node at))

      left_dm : D.left_dm ≡ D'.left_dm
      left_dm = same_lists false p.modules D.left_dm D'.left_dm s.sizes.left_dm t.sizes.left_dm (λ m a at.
          same_flag (is_left_dm D m) (is_left_dm D' m) ((is_left_dm C m ≡ true) ⊎ IsDue a.period a.offset D'.time)
          (subst (λ x. (is_left_dm D m ≡ true) ↔ ((is_left_dm C m ≡ true) ⊎ IsDue a.period a.offset x)) time (s.left_dm m a at)) (t.left_dm m a at))

      points : D.points ≡ D'.points
      points =
          same_lists [] p.plants D.points D'.points s.sizes.points t.sizes.points
          (λ k plant at. let both : Ok (point_of D k) ≡ Ok (point_of D' k) = sym (s.moves k plant at) ∙ t.moves k plant at in cc)

  step_same : (e : Event) (D D' : Configuration) → Step p j C e D → Step p j C e D' → D ≡ D'
  step_same (Input topic value) D D' s t = input_same topic value D D' s t
  step_same (Code n) D D' s t = code_same n D D' s t
  step_same (Guest n draft) D D' s t = guest_same n draft D D' s t
  step_same (Decide m) D D' s t = decide_same m D D' s t
  step_same (Tick noise) D D' s t = tick_same noise D D' s t

  code_recorded : (n : ℕ) (r r' : Recorded) → RecordsCode p n C r → RecordsCode p n C r' → r ≡ r'
  code_recorded n r r' s t =
      let node = at_same p.nodes n s.node t.node s.is t.is in
      let fired = fired_same n s.node t.node s.acts t.acts s.fired t.fired node s.coded t.coded s.runs t.runs in
      s.recorded ∙ ap (λ f. NodeFired f.draft _) fired ∙ sym t.recorded

  recorded_same : (e : Event) (D D' : Configuration) (r r' : Recorded) → D ≡ D' → Records p C e D r → Records p C e D' r' → r ≡ r'
  recorded_same (Input topic value) D D' r r' e s t = s ∙ sym t
  recorded_same (Code n) D D' r r' e s t = code_recorded n r r' s t
  recorded_same (Guest n draft) D D' r r' e s t = s ∙ sym t
  recorded_same (Decide m) D D' r r' e s t = s ∙ ap (λ x. ModuleDecided (mode_of x m)) e ∙ sym t
  recorded_same (Tick noise) D D' r r' e s t = s ∙ sym t

pub steps_are_unique : StepsAreUnique
steps_are_unique p j C e D D' r r' s o t q = (let same = step_same p j C e D D' s t in (same, recorded_same p j C e D D' r r' same o q))
