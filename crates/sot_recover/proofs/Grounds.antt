-- What landing in flagged cells hangs on.
use Rattle.std.proofs.Common.{◌≡◌, ℕ, zero, suc, ◌+◌, ◌<◌, ◌≤◌, Bool, false, ◌↔◌, ⊎_elim, List, [], ◌∷◌, length, sym, ◌∙◌}
use Rattle.std.proofs.Common.{subst, arith}
use Rattle.std.specs.Prelude.{ℤ, ◌≤ℤ◌, IsTrue}
use Rattle.std.proofs.lemmas.Int.{ints}
use Rattle.std.proofs.lemmas.Option.{same_Some, none-some, slice_get_within}
use Rattle.sot_lists.specs.Places.{At, Has}
use Rattle.sot_lists.proofs.Places.{at_same, at_below}
use Rattle.sot_box.specs.Sides.{Side}
use Rattle.sot_box.specs.Boxes.{IsWithin}
use Rattle.sot_box.specs.Regions.{IsInRegion, Covers}
use Rattle.sot_lang.specs.declared.cert.Cert.{Cert}
use Rattle.sot_lang.specs.Tables.{Tables}
use Rattle.sot_lang.specs.SafeRegions.{joined_boxes}
use Rattle.sot_iv.specs.BodyIntervals.{Intervals}
use Rattle.sot_tube.specs.Certified.{command_intervals}
use Rattle.sot_tube.proofs.VerdictExact.{drafts_same}
use Rattle.sot_tube.proofs.Leaving.{hulls_same}
use Rattle.sot_law_runs.specs.TubeBoxes.{IsBoxAfter}
use Rattle.sot_law_runs.proofs.TubeBoxes.{boxes, unique}
use Rattle.sot_law_runs.specs.Holds.{Guarded}
use Rattle.sot_law_runs.specs.Ranks.{IsLanding, LandsIn}
use Rattle.sot_law_runs.proofs.Rows.{guarded_modules}
use Rattle.sot_tube.proofs.Certificate.{in_some_box}
use Rattle.sot_law_runs.proofs.OneRank.{same, lands_same}
use Rattle.sot_recover.specs.Sets.{IsSet, with_places, IsMonotone, IsHanging}
use Rattle.sot_recover.proofs.Sets.{kept_others, with_flag, with_place, set_below}
use Rattle.sot_recover.specs.Meeting.{Meet}
use Rattle.sot_recover.specs.Near.{AreOfWidth, IsNear}
use Rattle.sot_recover.specs.Grounds.{LandsInSet, MayHang, AreLandingsCovered, IsGround}
use Rattle.sot_recover.specs.Surveys.{IsSurveyed}

-- boxes that share a point meet
pub shared_meet : (a b : List Side) (s : List ℤ) → IsWithin a s → IsWithin b s → Meet a b
shared_meet [] b s w v k r q at_r at_q = absurd (none-some r at_r)
shared_meet (x ∷ xs) [] s w v k r q at_r at_q = absurd (none-some q at_q)
shared_meet (x ∷ xs) (y ∷ ys) [] w v k r q at_r at_q = absurd w
shared_meet (x ∷ xs) (y ∷ ys) (z ∷ zs) w v zero r q at_r at_q =
    let e : x ≡ r = same_Some x r at_r in
    let f : y ≡ q = same_Some y q at_q in
    let h : (x.lo ≤ℤ y.hi) × (y.lo ≤ℤ x.hi) = (omega (arith, ints, w.0, v.1), omega (arith, ints, v.0, w.1)) in
    subst (λ (i : Side). (r.lo ≤ℤ i.hi) × (i.lo ≤ℤ r.hi)) f (subst (λ (i : Side). (i.lo ≤ℤ y.hi) × (y.lo ≤ℤ i.hi)) e h)
shared_meet (x ∷ xs) (y ∷ ys) (z ∷ zs) w v (suc k) r q at_r at_q = shared_meet xs ys zs w.2 v.2 k r q at_r at_q

module _ (p : Tables) (cert : Cert) (m : ℕ) where
  -- what holds of one account of the module's recovery holds of each
  pub for_each_account : (g : Guarded p cert m) (set : List Bool) (i : ℕ) → LandsIn g (IsSet set) i → LandsInSet p cert m set i
  for_each_account g set i l h = lands_same g h (same g h) (IsSet set) (IsSet set) (λ n x. x) i l

  pub monotone : IsMonotone (LandsInSet p cert m)
  monotone xs ys i more l g = (let h = l g in (h.0, h.1, λ box s landing w. (let c = h.2 box s landing w in (c.0, c.1, more c.0 c.2, c.3, c.4))))

  module _ (cells hulls : List (List Side)) (ground : IsGround p cert m cells hulls) where
    hull_there : (i : ℕ) (cell : List Side) → At cells i cell → (h : List Side) × At hulls i h
    hull_there i cell at = at_below hulls i (let lt = slice_get_within cells i cell at in let c = ground.count in omega (arith, lt, c))

    pub hanging : IsHanging (LandsInSet p cert m) (MayHang cells hulls)
    hanging xs j i l none g =
        let h = l g in
        let are = ground.cells_are g in
        let here : At cells i h.0 = subst (λ cs. At cs i h.0) (sym are) h.1 in
        let hull = hull_there i h.0 here in
        let is = ground.hulls_are g i h.0 hull.0 here hull.1 in (
          h.0,
          h.1,
          λ box s landing w.
              (let c = h.2 box s landing w in
              let ne : c.0 ≡ j → ⊥ = λ e. none (
                c.1,
                hull.0,
                subst (λ cs. At cs j c.1) (sym are) (subst (λ n. At g.cells.closed.boxes n c.1) e c.3),
                hull.1,
                shared_meet hull.0 c.1 s (is.holds box s landing w) c.4,
              ) in
              (c.0, c.1, kept_others xs j c.0 false ne c.2, c.3, c.4)),
        )

    -- a cell lands in the flagged ones where they cover each of its landings
    module _ (set : List Bool) (i : ℕ) (cell hull : List Side) (at_c : At cells i cell) (at_h : At hulls i hull) (region : List (List Side))
        (near : IsNear cells set hull region) where
      pub covered_lands : ((g : Guarded p cert m) → AreLandingsCovered g cell region) → LandsInSet p cert m set i
      covered_lands all g = (
        cell,
        subst (λ cs. At cs i cell) (ground.cells_are g) at_c,
        λ box s landing w.
            (let c = near.inside s (all g box landing s w) in (c.0, c.1.0, c.1.1, subst (λ cs. At cs c.0 c.1.0) (ground.cells_are g) c.1.2, c.1.3)),
      )

      pub lands_covered : LandsInSet p cert m set i → (g : Guarded p cert m) → AreLandingsCovered g cell region
      lands_covered l g box landing s w =
          let h = l g in
          let are = ground.cells_are g in
          let one : h.0 ≡ cell = at_same cells i h.0 cell (subst (λ cs. At cs i h.0) (sym are) h.1) at_c in
          let c = h.2 box s (subst (λ q. IsLanding g q box) (sym one) landing) w in
          near.all s c.0 (c.1, c.2, subst (λ cs. At cs c.0 c.1) (sym are) c.3, c.4) ((ground.hulls_are g i cell hull at_c at_h).holds box s landing w)

      pub hull_lands : Covers region hull → LandsInSet p cert m set i
      hull_lands covers = covered_lands (λ g box landing s w. covers s ((ground.hulls_are g i cell hull at_c at_h).holds box s landing w))

      pub lands_hull : (g : Guarded p cert m) → cert.jitter ≡ 0 → LandsInSet p cert m set i → Covers region hull
      lands_hull g on_time l = lands_covered l g hull ((ground.hulls_are g i cell hull at_c at_h).exact on_time)

    the_account : Guarded p cert m
    the_account = guarded_modules p cert m ground.rules.typed ground.certified ground.module_is

    -- cells and hulls have one width
    cell_width : (i : ℕ) (b : List Side) → At cells i b → length b ≡ the_account.cells.closed.width
    cell_width i b at =
        ((ground.fits.closed m the_account.info the_account.cells the_account.info_is the_account.cells_are).each i b
        (subst (λ cs. At cs i b) (ground.cells_are the_account) at)).0

    pub hull_width : (i : ℕ) (cell hull : List Side) → At cells i cell → At hulls i hull → length hull ≡ length cell
    hull_width i cell hull at at_h = (ground.hulls_are the_account i cell hull at at_h).width

    pub widths : (i : ℕ) (hull : List Side) → At hulls i hull → AreOfWidth (length hull) cells
    widths i hull at_h j b at =
        let x = at_below cells i (let lt = slice_get_within hulls i hull at_h in let c = ground.count in omega (arith, lt, c)) in
        cell_width j b at ∙ sym (cell_width i x.0 x.1) ∙ sym (hull_width i x.0 hull x.1 at_h)

    pub is_closed : (i : ℕ) (cell : List Side) → At cells i cell → (g : Guarded p cert m) → Has g.cells.closed.boxes cell
    is_closed i cell at g = (i, subst (λ cs. At cs i cell) (ground.cells_are g) at)

    -- the answer for each landing is that for the set
    pub from_each : (set : List Bool) (i : ℕ) (cell hull : List Side) → At cells i cell → At hulls i hull → (region : List (List Side))
        → IsNear cells set hull region → (b : Bool) → ((g : Guarded p cert m) → IsTrue b ↔ AreLandingsCovered g cell region)
        → IsTrue b ↔ LandsInSet p cert m set i
    from_each set i cell hull at_c at_h region near b told = (
      λ t. covered_lands set i cell hull at_c at_h region near (λ g. (told g).0 t),
      λ l. (told the_account).1 (lands_covered set i cell hull at_c at_h region near l the_account),
    )

    -- no cell is there
    pub none_lands : (set : List Bool) (i : ℕ) → length hulls ≤ i → LandsInSet p cert m set i → ⊥
    none_lands set i past l =
        (let g = the_account in let h = l g in let lt = slice_get_within cells i h.0 (subst (λ cs. At cs i h.0) (sym (ground.cells_are g)) h.1) in
        let c = ground.count in omega (arith, lt, c, past))

    -- at first a flagged cell lands in the flagged ones and in those that are leaving
    pub first_lands : (set : List Bool) (leaving : List ℕ) → IsSurveyed p cert m (length cells) cells hulls set leaving → (k : ℕ) → IsSet set k
        → LandsInSet p cert m (with_places set leaving) k
    first_lands set leaving s k e g =
        let c = ground.certified in
        let are = ground.cells_are g in
        let lt : k < length cells = (let a = set_below set k e in let n = s.set_count in omega (arith, a, n)) in
        let cell = at_below cells k lt in
        let at : At g.cells.closed.boxes k cell.0 = subst (λ cs. At cs k cell.0) are cell.1 in
        let is = c.closed_cells m g.info g.plant g.sc g.acts g.cells k cell.0 g.info_is g.plant_is g.sc_is g.coded g.cells_are at in (
          cell.0,
          at,
          λ box t landing w.
              (let commands = command_intervals p g.plant g.sc is.fired.draft in
              let fired : landing.fired ≡ is.fired = drafts_same p g.info g.sc g.acts cell.0 landing.fired is.fired landing.drafts is.drafts in
              let same_hulls : landing.hulls ≡ is.stays.hulls = hulls_same p.modules g.plant.sees.items landing.hulls is.stays.hulls landing.are is.stays.are in
              let there = boxes p g.plant commands g.info.safe.boxes cell.0 (g.sc.period + cert.jitter) is.stays landing.tick landing.most in
              let now : IsBoxAfter g.plant commands (joined_boxes is.stays.hulls) cell.0 landing.tick box =
              subst (λ hs. IsBoxAfter g.plant commands (joined_boxes hs) cell.0 landing.tick box) same_hulls
              (subst (λ (f : Intervals). IsBoxAfter g.plant (command_intervals p g.plant g.sc f.draft) (joined_boxes landing.hulls)
              cell.0 landing.tick box) fired
              landing.is) in
              let one : there.0 ≡ box = unique g.plant commands (joined_boxes is.stays.hulls) cell.0 landing.tick there.0 box there.1 now in
              let safe : IsInRegion g.info.safe.boxes t = there.2 t (subst (λ b. IsWithin b t) (sym one) w) in
              let some = in_some_box g.cells.closed.boxes t (c.closed_cover m g.info g.cells g.info_is g.cells_are t safe) in
              let below : some.0 < length cells = slice_get_within cells some.0 some.1 (subst (λ cs. At cs some.0 some.1) (sym are) some.2) in
              let flagged : IsSet (with_places set leaving) some.0 =
              ⊎_elim (λ y. with_flag set leaving some.0 y) (λ h. with_place set leaving some.0 (let n = s.set_count in omega (arith, below, n)) h)
              (s.leaving_are some.0 below) in
              (some.0, some.1, flagged, some.2, some.3)),
        )
