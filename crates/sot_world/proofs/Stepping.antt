-- What a world's steps ask of its parts, and that they are steps of the semantics.
use Rattle.std.proofs.Common.{◌≡◌, ℕ, suc, ◌+◌, ◌<◌, ◌≤◌, ℤ, Bool, true, false, ⊎_elim, List, [], ◌∷◌, length, refl, sym, ap, ◌∙◌, subst, arith}
use Rattle.std.specs.Prelude.{slice_index_or, slice_set}
use Rattle.std.proofs.lemmas.List.{get_or-set_same, length-map}
use Rattle.std.proofs.lemmas.Option.{slice_get_within}
use Rattle.sot_box.specs.Sides.{Side, IsIn}
use Rattle.sot_lists.specs.Places.{At}
use Rattle.sot_box.specs.Boxes.{point_box}
use Rattle.sot_box.specs.Regions.{IsInRegion}
use Rattle.sot_lang.specs.declared.tables.TopicInfo.{TopicInfo}
use Rattle.sot_lang.specs.declared.tables.ModuleInfo.{ModuleInfo}
use Rattle.sot_lang.specs.Tables.{Tables}
use Rattle.sot_lang.specs.OwnerNames.{width_of}
use Rattle.sot_lang.specs.Ranges.{range_of}
use Rattle.sot_lists.proofs.Places.{at_same}
use Rattle.sot_box.proofs.Ranges.{within_length}
use Rattle.sot_tube.specs.Calls.{MayFollow}
use Rattle.sot_tube.specs.WellFormed.{IsWellFormed}
use Rattle.sot_tube.specs.Admitted.{Admitted}
use Rattle.sot_tube.proofs.Certificate.{certified_well}
use Rattle.sot_world.specs.Configurations.{Configuration, Mode, Sc, is_left_dm, mode_of, point_of}
use Rattle.sot_world.specs.Steps.{Event, Step, Decides, Inputs, write_at}
use Rattle.sot_world.specs.Events.{IsTypedInput}
use Rattle.sot_world.specs.State.{State, IsKept}
use Rattle.sot_world.specs.Changes.{IsNextMode, ArePoints}
use Rattle.sot_world.proofs.Safety.{in_safe}
use Rattle.sot_world.proofs.Induction.{step_holds}
use Rattle.sot_lang.proofs.Owners.{width_at}

region_width : (boxes : List (List Side)) (w : ℕ) (s : List ℤ) → ((i : ℕ) (b : List Side) → At boxes i b → length b ≡ w) → IsInRegion boxes s → length s ≡ w
region_width [] w s each here = absurd here
region_width (b ∷ bs) w s each here =
    ⊎_elim
    (λ first. within_length b s first ∙ each 0 b refl)
    (λ more. region_width bs w s (λ i x at. each (suc i) x at) more)
    here

module _ (a : Admitted) (C : Configuration) (kept : IsKept a C) where
  pub well_formed : IsWellFormed a.program a.cert.jitter
  well_formed = certified_well a.program a.cert.jitter a.cert kept.rules.typed kept.certified

  -- what a step leads to is kept
  pub step_kept : (D : Configuration) (e : Event) → Step a.program a.cert.jitter C e D → D.time ≤ 100000 → IsKept a D
  step_kept D e s time = record {
    rules = kept.rules;
    certified = kept.certified;
    holds = step_holds a.program a.cert.jitter kept.rules.typed well_formed C D e kept.holds s;
    time = time;
  }

  -- each plant has a point of its width
  pub are_points : ArePoints a.program C.points
  are_points = record {
    each = kept.holds.sizes.points;
    widths = λ k plant at.
        let n = kept.rules.typed.named k plant at in
        let at_p : At a.program.plants n.1.plant plant = subst (λ i. At a.program.plants i plant) (sym n.3) at in
        let here = in_safe a.program a.cert.jitter kept.rules.typed well_formed C kept.holds n.0 n.1 plant n.2 at_p in
        let region = (kept.rules.modules n.0 n.1 n.2).safe in
        let wide = region_width n.1.safe.boxes n.1.safe.width (point_of C n.1.plant) (λ i b x. (region.each i b x).0) here in
        subst (λ i. length (point_of C i) ≡ length plant.states.items) n.3 (wide ∙ region.width ∙ width_at a.program.plants n.1.plant plant at_p);
  }

  -- a decision's tube can be followed from the plant's point
  pub may_follow : (m : ℕ) (info : ModuleInfo) → At a.program.modules m info → MayFollow a.program m (point_box (point_of C info.plant))
  may_follow m info at = record {
    boxes = λ i b at_b. (kept.certified.boxes i b at_b).0;
    exists' = slice_get_within a.program.modules m info at;
    width = λ b at_b.
        let same : info ≡ b = at_same a.program.modules m info b at at_b in
        let plant = kept.rules.typed.plant_is m info at in
        let wide = are_points.widths info.plant plant.0 plant.1 ∙ sym (width_at a.program.plants info.plant plant.0 plant.1) in
        length-map (point_of C info.plant) (λ x. let r : Side = record { lo = x; hi = x } in r) ∙ wide ∙ ap (λ x. width_of a.program.plants x.plant) same;
  }

-- a decision
pub decides_so :
    (p : Tables) (j : ℕ) (C : Configuration) (m : ℕ) (info : ModuleInfo) (next : Mode) (left_dm : List Bool) (modes : List Mode)
    → length C.modes ≡ length p.modules → At p.modules m info → is_left_dm C m ≡ true
    → IsNextMode p j info (mode_of C m) (point_of C info.plant) next → left_dm ≡ slice_set C.left_dm m false → modes ≡ slice_set C.modes m next
    → Decides p j m C (record C { left_dm = left_dm; modes = modes })
decides_so p j C m info next left_dm modes size at left is d e =
    let lt : m < length C.modes = omega (arith, slice_get_within p.modules m info at, size) in
    let now : slice_index_or modes m Sc ≡ next = ap (λ l. slice_index_or l m Sc) e ∙ get_or-set_same C.modes m next Sc lt in
    record {
      module_info = info;
      is = at;
      was_left = left;
      left_dm = d;
      modes = e ∙ ap (slice_set C.modes m) (sym now);
      mode = subst (λ y. IsNextMode p j info (mode_of C m) (point_of C info.plant) y) (sym now) is;
      rest = refl;
    }

-- an input
pub inputs_so :
    (p : Tables) (C : Configuration) (topic : ℕ) (value : List ℤ) (info : TopicInfo) (scalars : List ℤ) → At p.topics topic info → info.outside ≡ true
    → length value ≡ info.count
    → IsTypedInput p topic value → scalars ≡ write_at info.first value C.scalars → Inputs p topic value C (record C { scalars = scalars })
inputs_so p C topic value info scalars at outside size typed s =
    let same : typed.0 ≡ info = at_same p.topics topic typed.0 info typed.1 at in
    record {
      info = info;
      is = at;
      outside = outside;
      size = size;
      typed = λ i z at_i. subst (λ x. IsIn (range_of p.scalars (x.first + i)) z) same (typed.2 i z at_i);
      scalars = s;
      rest = refl;
    }

-- a step from a state that is another one's
pub step_along : (s t : State) (e : Event) (D : Configuration) → s ≡ t → Step s.accepted.program s.accepted.cert.jitter s.at e D
    → Step t.accepted.program t.accepted.cert.jitter t.at e D
step_along s t e D same step = subst (λ x. Step x.accepted.program x.accepted.cert.jitter x.at e D) same step
