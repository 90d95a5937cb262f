-- One plant is the first that is observed outside its model.
use Rattle.std.proofs.Common.{◌≡◌, ◌<◌, ℕ, ℤ, ⊎_elim, List, [], Option, None, Some, Ok, refl, ap, subst}
use Rattle.std.specs.Prelude.{slice_index_or, MatchOption}
use Rattle.std.proofs.lemmas.Bool.{cases_order}
use Rattle.sot_lists.specs.Places.{At}
use Rattle.sot_lists.proofs.Places.{at_same}
use Rattle.sot_box.specs.Sides.{Side}
use Rattle.sot_box.specs.Boxes.{IsWithin, point_box}
use Rattle.sot_box.proofs.Ranges.{within_at}
use Rattle.sot_lang.specs.declared.tables.PlantInfo.{PlantInfo}
use Rattle.sot_lang.specs.Tables.{Tables}
use Rattle.sot_iv.specs.TermIntervals.{OrMayTrap}
use Rattle.sot_iv.proofs.Plants.{plant_same}
use Rattle.sot_world.specs.Changes.{held_of, seen_of}
use Rattle.sot_world.specs.Configurations.{Configuration}
use Rattle.sot_law_observed_runs.specs.Observed.{ObservedTick}
use Rattle.sot_guard.specs.declared.outside.Outside.{Outside}
use Rattle.sot_guard.specs.Outside.{IsBoxOf, IsFirstAxis, IsFirstOutside}
use Rattle.sot_guard.specs.Guarding.{Guarding}
use Rattle.sot_guard.specs.Changes.{GoesOn, Withdraws}

ok_same : (a b : List Side) → ◌≡◌ {A = OrMayTrap (List Side)} (Ok a) (Ok b) → a ≡ b
ok_same a b e = cc

-- a plant has one box
box_once : (scalars : List ℤ) (points : List (List ℤ)) (k : ℕ) (plant : PlantInfo) (a b : List Side) → IsBoxOf scalars points k plant a
    → IsBoxOf scalars points k plant b → a ≡ b
box_once scalars points k plant a b x y =
    ok_same a b (plant_same plant (point_box (slice_index_or points k [])) (point_box (held_of plant scalars)) (point_box (seen_of plant points)) (Ok a) (Ok b)
    x y)

-- a point of the box has no axis outside it
not_within : (a b : List Side) (s : List ℤ) (i : ℕ) (r : Side) (z : ℤ) → a ≡ b → IsWithin a s → IsFirstAxis b s i r z → ⊥
not_within a b s i r z same inside axis =
    axis.outside (within_at b s i r z (subst (λ (x : List Side). IsWithin x s) same inside) axis.bounds_are axis.value_is)

axis_before : (box : List Side) (s : List ℤ) (i j : ℕ) (r q : Side) (y z : ℤ) → IsFirstAxis box s i r y → IsFirstAxis box s j q z → i < j → ⊥
axis_before box s i j r q y z a b lt = a.outside (b.before i r y lt a.bounds_are a.value_is)

same_axis : (box : List Side) (s : List ℤ) (i j : ℕ) (r q : Side) (y z : ℤ) → IsFirstAxis box s i r y → IsFirstAxis box s j q z → i ≡ j
same_axis box s i j r q y z a b =
    ⊎_elim (λ e. e)
    (λ other. ⊎_elim (λ lt. absurd (axis_before box s i j r q y z a b lt)) (λ gt. absurd (axis_before box s j i q r z y b a gt)) other)
    (cases_order i j)

module _ (p : Tables) (scalars : List ℤ) (points next : List (List ℤ)) where
  plant_before : (o u : Outside) → IsFirstOutside p scalars points next o → IsFirstOutside p scalars points next u → o.plant < u.plant → ⊥
  plant_before o u a b lt =
      let inside = b.before o.plant a.plant lt a.is in
      not_within inside.0 a.box (slice_index_or next o.plant []) o.state o.bounds o.value
      (box_once scalars points o.plant a.plant inside.0 a.box inside.1 a.box_is) inside.2 a.first

  same_plant : (o u : Outside) → IsFirstOutside p scalars points next o → IsFirstOutside p scalars points next u → o.plant ≡ u.plant
  same_plant o u a b =
      ⊎_elim (λ e. e) (λ other. ⊎_elim (λ lt. absurd (plant_before o u a b lt)) (λ gt. absurd (plant_before u o b a gt)) other)
      (cases_order o.plant u.plant)

  first_once : (o u : Outside) → IsFirstOutside p scalars points next o → IsFirstOutside p scalars points next u → o ≡ u
  first_once o u a b =
      let plants = same_plant o u a b in
      let infos : a.plant ≡ b.plant = at_same p.plants u.plant a.plant b.plant (subst (λ (n : ℕ). At p.plants n a.plant) plants a.is) b.is in
      let box_there = subst (λ (x : PlantInfo). IsBoxOf scalars points u.plant x a.box) infos
      (subst (λ (n : ℕ). IsBoxOf scalars points n a.plant a.box) plants a.box_is) in
      let boxes : a.box ≡ b.box = box_once scalars points u.plant b.plant a.box b.box box_there b.box_is in
      let axis = subst (λ (x : List Side). IsFirstAxis x (slice_index_or next u.plant []) o.state o.bounds o.value) boxes
      (subst (λ (n : ℕ). IsFirstAxis a.box (slice_index_or next n []) o.state o.bounds o.value) plants a.first) in
      let states : o.state ≡ u.state = same_axis b.box (slice_index_or next u.plant []) o.state u.state o.bounds u.bounds o.value u.value axis b.first in
      let bounds : o.bounds ≡ u.bounds =
      at_same b.box u.state o.bounds u.bounds (subst (λ (n : ℕ). At b.box n o.bounds) states axis.bounds_are) b.first.bounds_are in
      let values : o.value ≡ u.value =
      at_same (slice_index_or next u.plant []) u.state o.value u.value
      (subst (λ (n : ℕ). At (slice_index_or next u.plant []) n o.value) states axis.value_is) b.first.value_is in
      λ i. record { plant = plants i; state = states i; bounds = bounds i; value = values i }

-- no plant is outside after an observed tick
not_outside : (p : Tables) (j : ℕ) (C D : Configuration) (next : List (List ℤ)) (o : Outside) → ObservedTick p j C D → D.points ≡ next
    → IsFirstOutside p C.scalars C.points next o → ⊥
not_outside p j C D next o tick same first =
    let allowed = tick.allowed o.plant first.plant first.is in
    let inside = subst (λ (ps : List (List ℤ)). IsWithin allowed.0 (slice_index_or ps o.plant [])) same allowed.2 in
    not_within allowed.0 first.box (slice_index_or next o.plant []) o.state o.bounds o.value
    (box_once C.scalars C.points o.plant first.plant allowed.0 first.box allowed.1 first.box_is) inside first.first

-- so one plant is told to be outside, or none
pub outside_once : (g m m' : Guarding) (next : List (List ℤ)) (o u : Option Outside) → m.at.points ≡ next → m'.at.points ≡ next
    → MatchOption o (GoesOn g m) (λ x. Withdraws g m next x) → MatchOption u (GoesOn g m') (λ x. Withdraws g m' next x) → o ≡ u
outside_once g m m' next None None same same' on on' = refl
outside_once g m m' next None (Some u) same same' on off =
    absurd (not_outside g.accepted.program g.accepted.cert.jitter g.at m.at next u (on.observed off.was) same off.outside)
outside_once g m m' next (Some o) None same same' off on =
    absurd (not_outside g.accepted.program g.accepted.cert.jitter g.at m'.at next o (on.observed off.was) same' off.outside)
outside_once g m m' next (Some o) (Some u) same same' off off' =
    ap Some (first_once g.accepted.program g.at.scalars g.at.points next o u off.outside off'.outside)
