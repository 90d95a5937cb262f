-- Points in the safer regions, and the opening at them.
use Rattle.std.proofs.Common.{◌≡◌, Bool, false, ℕ, ℤ, inl, List, [], ◌∷◌, length, map, refl, sym, ap, ◌∙◌, subst, arith}
use Rattle.std.specs.Prelude.{slice_index_or, ◌≢◌, ◌==◌}
use Rattle.std.proofs.lemmas.List.{length-map}
use Rattle.std.proofs.lemmas.List.{ext_get_or}
use Rattle.sot_lists.specs.Places.{At}
use Rattle.sot_lists.proofs.Places.{at_below}
use Rattle.sot_box.specs.Sides.{Side, AreOrdered}
use Rattle.sot_box.specs.Boxes.{lows}
use Rattle.sot_box.specs.Regions.{IsInRegion}
use Rattle.sot_box.proofs.Ranges.{lows_within}
use Rattle.sot_lang.specs.declared.cert.Cert.{Cert}
use Rattle.sot_lang.specs.declared.tables.PlantInfo.{PlantInfo}
use Rattle.sot_lang.specs.declared.tables.ModuleInfo.{ModuleInfo}
use Rattle.sot_lang.specs.Tables.{Tables}
use Rattle.sot_lang.specs.TableRules.{MeetsTableRules}
use Rattle.sot_lang.proofs.Owners.{width_at}
use Rattle.sot_calendar.specs.Due.{IsDue}
use Rattle.sot_tube.specs.Certified.{IsWellCertified}
use Rattle.sot_tube.specs.WellFormed.{IsWellFormed}
use Rattle.sot_tube.proofs.Certificate.{certified_well}
use Rattle.sot_world.specs.declared.mode.Mode.TheVariants.{Sc}
use Rattle.sot_world.specs.Configurations.{Configuration, is_left, is_left_dm, IsOpening, IsSafer}
use Rattle.sot_world.specs.Opens.{AreStarts}
use Rattle.sot_world.specs.Invariant.{KeepsInvariant}
use Rattle.sot_world.proofs.Modes.{same_module}
use Rattle.sot_world.proofs.Starting.{opens_so}
use Rattle.sot_world.proofs.Main.{openings_keep_invariant, invariant_is_safe}
use Rattle.sot_world.proofs.Progress.{list_of}
use Rattle.sot_world.proofs.Unique.{same_flag}
use Rattle.sot_law_runs.specs.Openings.{PointsOpen, OpeningsAreUnique, OpensSafely, CertifiedProgramsOpen}
use Rattle.sot_law_runs.proofs.Time.{time_goes_on}

-- the opening at these points
opening_at : Tables → List (List ℤ) → Configuration
opening_at p start = record {
  time = 0;
  left = map (λ k. k.offset == 0) p.nodes;
  left_dm = map (λ k. k.offset == 0) p.modules;
  modes = map (λ m. Sc) p.modules;
  scalars = map (λ i. i.init) p.scalars;
  locals = map (λ n. map (λ l. l.init) n.locals.items) p.nodes;
  points = start;
}

opens : (p : Tables) (start : List (List ℤ)) → AreStarts p start → IsOpening p start (opening_at p start)
unfolding opening_at
opens p start starts = opens_so p start _ _ _ _ _ _ starts refl refl refl refl refl refl

pub points_open : PointsOpen
points_open p start starts = (opening_at p start, opens p start starts)

-- two lists that agree at each place of a third one of their length are one list
same_flags : {A : Type 0} (xs : List A) (ys zs : List Bool) → length ys ≡ length xs → length zs ≡ length xs
    → ((k : ℕ) (x : A) → At xs k x → slice_index_or ys k false ≡ slice_index_or zs k false) → ys ≡ zs
same_flags xs ys zs a b h = ext_get_or false ys zs (a ∙ sym b) (λ k lt. let here = at_below xs k (omega (arith, lt, a)) in h k here.0 here.1)

pub openings_are_unique : OpeningsAreUnique
openings_are_unique p start C D c d =
    same_configuration C D (c.time ∙ sym d.time)
    (same_flags p.nodes C.left D.left c.sizes.left d.sizes.left
    (λ n node at. same_flag (is_left C n) (is_left D n) (IsDue node.period node.offset 0) (c.left n node at) (d.left n node at)))
    (same_flags p.modules C.left_dm D.left_dm c.sizes.left_dm d.sizes.left_dm
    (λ m a at. same_flag (is_left_dm C m) (is_left_dm D m) (IsDue a.period a.offset 0) (c.left_dm m a at) (d.left_dm m a at)))
    (c.modes ∙ sym d.modes) (c.scalars ∙ sym d.scalars) (c.locals ∙ sym d.locals) (c.points ∙ sym d.points)
  where
    same_configuration : (C D : Configuration) → C.time ≡ D.time → C.left ≡ D.left → C.left_dm ≡ D.left_dm → C.modes ≡ D.modes → C.scalars ≡ D.scalars
        → C.locals ≡ D.locals → C.points ≡ D.points → C ≡ D
    same_configuration C D t l m o s k q i = record { time = t i; left = l i; left_dm = m i; modes = o i; scalars = s i; locals = k i; points = q i }

-- a region with a box has a point as wide as its boxes
region_point : (region : List (List Side)) (width : ℕ) → region ≢ [] → ((i : ℕ) (b : List Side) → At region i b → (length b ≡ width) × AreOrdered b)
    → (s : List ℤ) × (length s ≡ width) × IsInRegion region s
region_point [] width some each = absurd (some refl)
region_point (b ∷ bs) width some each = (let first = each 0 b refl in (lows b, length-map b (λ r. r.lo) ∙ first.0, inl (lows_within b first.1)))

module _ (p : Tables) (j : ℕ) (cert : Cert) (rules : MeetsTableRules p) (c : IsWellCertified p j cert) where
  -- a point of plant k: as wide as the plant, and in the safer region of each module that names the plant, of which there is one
  record IsStartOf (k : ℕ) (plant : PlantInfo) (s : List ℤ) : Type 0 where
    pub width : length s ≡ length plant.states.items
    pub safer : (m : ℕ) (a : ModuleInfo) → At p.modules m a → a.plant ≡ k → IsInRegion a.safer.boxes s

  start_of : (k : ℕ) (plant : PlantInfo) → At p.plants k plant → (s : List ℤ) × IsStartOf k plant s
  start_of k plant at =
      let owner = rules.typed.named k plant at in
      let region = (rules.modules owner.0 owner.1 owner.2).safer in
      let point = region_point owner.1.safer.boxes owner.1.safer.width (c.boxes owner.0 owner.1 owner.2).1 region.each in (
        point.0,
        record {
          width = point.1 ∙ region.width ∙ ap (λ i. Rattle.sot_lang.specs.OwnerNames.width_of p.plants i) owner.3 ∙ width_at p.plants k plant at;
          safer = λ m a at_m is.
              let same : owner.1 ≡ a = same_module p.modules owner.0 m owner.1 a (c.own_plant owner.0 m owner.1 a owner.2 at_m (owner.3 ∙ sym is)) owner.2 at_m
              in
              subst (λ x. IsInRegion x.safer.boxes point.0) same point.2;
        },
      )

  starts : (start : List (List ℤ)) × AreStarts p start × IsSafer p (opening_at p start)
  unfolding opening_at
  starts =
      let each = list_of [] p.plants IsStartOf start_of in (
        each.0,
        record { each = each.1; widths = λ k plant at. (each.2 k plant at).width },
        λ m a at. let plant = rules.typed.plant_is m a at in (each.2 a.plant plant.0 plant.1).safer m a at refl,
      )

  pub certified_opens : OpensSafely p j
  certified_opens =
      let well : IsWellFormed p j = certified_well p j cert rules.typed c in
      let opening = opens p starts.0 starts.1 in
      let holds : KeepsInvariant p j (opening_at p starts.0) = openings_keep_invariant p j starts.0 (opening_at p starts.0) rules.typed well opening starts.2 in
      record {
        start = starts.0;
        C = opening_at p starts.0;
        opening = opening;
        safer = starts.2;
        safe = invariant_is_safe p j (opening_at p starts.0) rules.typed well holds;
        goes_on = λ time no'. time_goes_on p j (opening_at p starts.0) time rules well holds (omega (arith, opening.time)) no';
      }

pub certified_programs_open : CertifiedProgramsOpen
certified_programs_open p j cert rules c = certified_opens p j cert rules c
