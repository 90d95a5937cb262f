-- A module that is alone has the same held tubes in each program that runs alike.
use Rattle.std.proofs.Common.{◌≡◌, ℕ, zero, suc, ◌+◌, ◌<◌, ℤ, List, [], ◌∷◌, ◌++◌, map, length, refl, sym, ap, ap₂, ◌∙◌, subst, arith}
use Rattle.std.specs.Prelude.{slice_index_or, slice_set, if◌then◌else◌, ◌==◌}
use Rattle.std.proofs.lemmas.List.{get_or-set_same}
use Rattle.std.proofs.lemmas.Option.{slice_get_within}
use Rattle.sot_lists.specs.Places.{At, Has}
use Rattle.sot_lists.proofs.Places.{map_same}
use Rattle.sot_box.specs.Sides.{Side, nought}
use Rattle.sot_box.specs.Boxes.{point_box}
use Rattle.sot_box.specs.Regions.{IsInRegion}
use Rattle.sot_lang.specs.declared.act.Act.{Act}
use Rattle.sot_lang.specs.declared.tables.Slot.{Slot}
use Rattle.sot_lang.specs.declared.tables.Slot.TheVariants.{Scalar, State}
use Rattle.sot_lang.specs.declared.tables.PlantInfo.{PlantInfo}
use Rattle.sot_lang.specs.declared.tables.NodeInfo.{NodeInfo}
use Rattle.sot_lang.specs.declared.tables.ModuleInfo.{ModuleInfo}
use Rattle.sot_lang.specs.Tables.{Tables}
use Rattle.sot_lang.specs.Ranges.{range_of, write_ranges}
use Rattle.sot_lang.specs.SafeRegions.{AreHulls, AllHulls, joined_boxes}
use Rattle.sot_lang.specs.TableRules.{MeetsTableRules, IsCoded}
use Rattle.sot_iv.specs.NodeIntervals.{interval_at, reading_intervals, IsNodeIntervals}
use Rattle.sot_iv.specs.declared.drafted.Drafted.{Drafted}
use Rattle.sot_traps.specs.Verdict.{HaveSafeBoxes}
use Rattle.sot_traps.proofs.SafeHulls.{all_hulls}
use Rattle.sot_tube.specs.Certified.{sure_interval, command_interval, command_intervals}
use Rattle.sot_law_invariant_regions.specs.Following.{StaysAmong, HeldStays, IsHeldRegion}
use Rattle.sot_law_invariant_regions.specs.Alone.{IsAlone, MoveAlike, IsRun, DraftAlike, RunAlike}

slots_same : (f g : Slot → Side) (xs : List Slot) → ((x : Slot) → Has xs x → f x ≡ g x) → map f xs ≡ map g xs
slots_same f g [] h = refl
slots_same f g (x ∷ xs) h = ap₂ (λ y ys. y ∷ ys) (h x (0, refl)) (slots_same f g xs (λ y has. h y (suc has.0, has.1)))

no_hulls : (p : Tables) (sees : List ℕ) (hulls : List (List Side)) → sees ≡ [] → AreHulls p.modules sees hulls → joined_boxes hulls ≡ []
no_hulls p [] [] none are = refl
no_hulls p [] (h ∷ hs) none are = absurd are
no_hulls p (k ∷ ks) hulls none are = absurd cc

-- the same steps
stays_same : (P : List ℤ → Type 0) (one other : PlantInfo) (commands seen : List Side) → MoveAlike one other → (k : ℕ) (box : List Side)
    → StaysAmong P one commands seen box k → StaysAmong P other commands seen box k
stays_same P one other commands seen alike zero box h = h
stays_same P one other commands seen alike (suc k) box h =
    (h.0, (h.1.0, alike.steps box commands seen h.1.0 h.1.1, stays_same P one other commands seen alike k h.1.0 h.1.2))

module _ (p u : Tables) (rules : MeetsTableRules p) (rules_u : MeetsTableRules u) (boxes : HaveSafeBoxes u) (jitter m k : ℕ) (a b : ModuleInfo)
    (at : At p.modules m a) (at_u : At u.modules k b) (alike : RunAlike p u a b) (alone : IsAlone p a) where
  pub held_alike : (P : List ℤ → Type 0) (box : List Side) → HeldStays P p jitter a box → HeldStays P u jitter b box
  held_alike P box h = from (rules_u.typed.plant_is k b at_u) (rules_u.typed.sc_is k b at_u) (all_hulls u rules_u boxes)
    where
      from : (plant : PlantInfo) × At u.plants b.plant plant → (sc : NodeInfo) × (acts : List Act) × At u.nodes b.sc sc × IsCoded sc acts
          → (hulls : List (List Side)) × AllHulls u hulls → HeldStays P u jitter b box
      from (plant, plant_at) (sc, acts, sc_at, coded) (hulls, are) =
          let moves = alike.plants h.plant plant h.plant_is plant_at in
          let drafts = alike.nodes h.sc sc h.sc_is sc_at in
          let sees : plant.sees.items ≡ [] = sym moves.sees ∙ alone.sees_none h.plant h.plant_is in
          let none = no_hulls p h.plant.sees.items h.hulls (alone.sees_none h.plant h.plant_is) h.are in
          let commands : command_intervals p h.plant h.sc h.fired.draft ≡ command_intervals u plant sc h.fired.draft = commands_same plant sc moves drafts in
          let s = subst (λ l. StaysAmong P h.plant l (joined_boxes h.hulls) box (h.sc.period + jitter)) commands h.stays in
          let t = subst (λ l. StaysAmong P h.plant (command_intervals u plant sc h.fired.draft) l box (h.sc.period + jitter)) none s in
          let q = subst (λ n. StaysAmong P h.plant (command_intervals u plant sc h.fired.draft) [] box (n + jitter)) drafts.period t in
          let body = drafts.bodies h.acts h.coded in
          record {
            plant = plant;
            plant_is = plant_at;
            sc = sc;
            sc_is = sc_at;
            acts = body.0;
            coded = body.1;
            fired = h.fired;
            drafts = record { hulls = hulls; are = are; runs = runs plant plant_at sc drafts hulls are };
            hulls = [];
            are = subst (λ l. AreHulls u.modules l []) (sym sees) tt;
            stays = stays_same P h.plant plant (command_intervals u plant sc h.fired.draft) [] moves (sc.period + jitter) box q;
          }
        where
          commands_same : (plant : PlantInfo) (sc : NodeInfo) → MoveAlike h.plant plant → DraftAlike h.sc sc
              → command_intervals p h.plant h.sc h.fired.draft ≡ command_intervals u plant sc h.fired.draft
          commands_same plant sc moves drafts =
              ap (map (command_interval p h.sc.writes.items h.fired.draft)) moves.inputs
              ∙ ap (λ l. map (command_interval p l h.fired.draft) plant.inputs.items) drafts.writes
              ∙ map_same (λ i. command_interval p sc.writes.items h.fired.draft i) (λ i. command_interval u sc.writes.items h.fired.draft i) plant.inputs.items
              (λ i has. one_same sc.writes.items h.fired.draft i)
            where
              one_same : (ws : List ℕ) (ds : List Drafted) (i : ℕ) → command_interval p ws ds i ≡ command_interval u ws ds i
              one_same [] ds i = ap (λ l. range_of l i) alike.scalars
              one_same (w ∷ ws) [] i = ap (λ l. range_of l i) alike.scalars
              one_same (w ∷ ws) (d ∷ ds) i =
                  let e : range_of p.scalars i ≡ range_of u.scalars i = ap (λ l. range_of l i) alike.scalars in
                  let r = one_same ws ds i in
                  ap₂ (λ x y. if w == i then sure_interval x d else y) e r

          runs : (plant : PlantInfo) → At u.plants b.plant plant → (sc : NodeInfo) (alike' : DraftAlike h.sc sc) (hulls : List (List Side)) → AllHulls u hulls
              → IsNodeIntervals u sc (alike'.bodies h.acts h.coded).0 (slice_set hulls b.plant box) h.fired
          runs plant plant_at sc alike' hulls are =
              let body = alike'.bodies h.acts h.coded in
              let writes : write_ranges p h.sc ≡ write_ranges u sc = ap (map (range_of p.scalars)) alike'.writes
              ∙ ap (λ l. map (range_of l) sc.writes.items) alike.scalars in
              let one : IsRun sc body.0 (write_ranges p h.sc) (reading_intervals p h.sc (slice_set h.drafts.hulls a.plant box)) h.fired =
              body.2 (write_ranges p h.sc) (reading_intervals p h.sc (slice_set h.drafts.hulls a.plant box)) h.fired h.drafts.runs in
              subst (λ l. IsRun sc body.0 (write_ranges u sc) l h.fired) reads
              (subst (λ l. IsRun sc body.0 l (reading_intervals p h.sc (slice_set h.drafts.hulls a.plant box)) h.fired) writes one)
            where
              lt : a.plant < length h.drafts.hulls
              lt = omega (arith, slice_get_within p.plants a.plant h.plant h.plant_is, h.drafts.are.0)

              lt_u : b.plant < length hulls
              lt_u = omega (arith, slice_get_within u.plants b.plant plant plant_at, are.0)

              each : (x : Slot) → Has h.sc.reads.items x
                  → interval_at p (slice_set h.drafts.hulls a.plant box) x ≡ interval_at u (slice_set hulls b.plant box) x
              each (Scalar i) has = ap (λ l. range_of l i) alike.scalars
              each (State i v) has =
                  let e = alone.reads_own h.sc i v h.sc_is has in
                  let mine : slice_index_or (slice_set h.drafts.hulls a.plant box) i [] ≡ box =
                  subst (λ n. slice_index_or (slice_set h.drafts.hulls a.plant box) n [] ≡ box) (sym e) (get_or-set_same h.drafts.hulls a.plant box [] lt) in
                  let other : slice_index_or (slice_set hulls b.plant box) i [] ≡ box =
                  subst (λ n. slice_index_or (slice_set hulls b.plant box) n [] ≡ box) (sym (e ∙ alike.plant)) (get_or-set_same hulls b.plant box [] lt_u) in
                  ap (λ (l : List Side). slice_index_or l v nought) (mine ∙ sym other)

              reads : reading_intervals p h.sc (slice_set h.drafts.hulls a.plant box) ≡ reading_intervals u sc (slice_set hulls b.plant box)
              reads =
                  slots_same (interval_at p (slice_set h.drafts.hulls a.plant box)) (interval_at u (slice_set hulls b.plant box)) h.sc.reads.items each
                  ∙ ap (map (interval_at u (slice_set hulls b.plant box))) alike'.reads

  pub region_alike : (region : List (List Side)) → IsHeldRegion p jitter a region → IsHeldRegion u jitter b region
  region_alike region held s inside = held_alike (IsInRegion region) (point_box s) (held s inside)
