-- The tables of a program with regions that were found, beside those of the program.
use Rattle.std.proofs.Common.{◌≡◌, ◌∙◌, ℕ, zero, suc, ◌<◌, ◌≤◌, ◌⊎◌, inl, inr, List, [], ◌∷◌, map, length, Option, Some, refl, sym, ap, subst, arith}
use Rattle.std.specs.Prelude.{◌≢◌}
use Rattle.std.proofs.Math.Nat.{lt_of_not-le}
use Rattle.std.proofs.lemmas.Option.{none-some, same_Some, slice_get_within}
use Rattle.sot_lists.specs.Places.{At}
use Rattle.sot_lists.proofs.Places.{at_same, at_below}
use Rattle.sot_box.specs.Sides.{Side}
use Rattle.sot_box.specs.BoxList.{BoxList}
use Rattle.sot_lang.specs.declared.cert.Cells.{Cells}
use Rattle.sot_lang.specs.declared.cert.Cert.{Cert}
use Rattle.sot_lang.specs.declared.tables.PlantInfo.{PlantInfo}
use Rattle.sot_lang.specs.declared.tables.NodeInfo.{NodeInfo}
use Rattle.sot_lang.specs.declared.tables.ModuleInfo.{ModuleInfo}
use Rattle.sot_lang.specs.Tables.{Tables}
use Rattle.sot_lang.specs.TableRules.{MeetsTableRules}
use Rattle.sot_lang.specs.CertRules.{AreCellsOf, FitsTables}
use Rattle.sot_lang.specs.OwnerNames.{width_of}
use Rattle.sot_typing.specs.Resolved.{ProgramTables, PlantTable, NodeTable, plant_seen, node_seen, tables_seen}
use Rattle.sot_typing.proofs.Seen.{of_seen}
use Rattle.sot_traps.specs.Verdict.{HaveSafeBoxes}
use Rattle.sot_tube.specs.Checks.{for_each}
use Rattle.sot_tube.specs.Verdict.{cells_of as cells_check}
use Rattle.sot_regions_rewrite.specs.declared.modules.ModuleRegions.{ModuleRegions}
use Rattle.sot_law_regions_rewrite.specs.OtherTables.{info_with, infos_with, tables_with}
use Rattle.sot_regions_program.specs.AsAsked.{IsLate}
use Rattle.sot_regions_program.specs.Findings.{IsInside, IsList, IsFinding, AreFirstFound}
use Rattle.sot_law_invariant_regions.specs.Shown.{IsShown}
use Rattle.sot_regions_program.specs.Answers.{StayInside}
use Rattle.sot_regions_program.specs.Steps.{AreFindings}

-- what stands at a place of the new modules: what was given there, with the regions at that place where there are some
abbrev IsOther : List ModuleRegions → ℕ → ModuleInfo → ModuleInfo → Type 0
IsOther rs k a b = ((r : ModuleRegions) × At rs k r × (b ≡ info_with r a)) ⊎ (b ≡ a)

other_at : (rs : List ModuleRegions) (ms : List ModuleInfo) (k : ℕ) (b : ModuleInfo) → At (infos_with rs ms) k b
    → (a : ModuleInfo) × At ms k a × IsOther rs k a b
other_at rs [] k b at = absurd (none-some b at)
other_at [] (m ∷ ms) k b at = (b, at, inr refl)
other_at (r ∷ rs) (m ∷ ms) zero b at = (m, refl, inl (r, refl, sym (same_Some (info_with r m) b at)))
other_at (r ∷ rs) (m ∷ ms) (suc k) b at = other_at rs ms k b at

-- where regions are found for a place, its module has them
other_first : (rs : List ModuleRegions) (ms : List ModuleInfo) (k : ℕ) (r : ModuleRegions) (a b : ModuleInfo) → At rs k r → At ms k a
    → At (infos_with rs ms) k b → b ≡ info_with r a
other_first [] ms k r a b at_r at_a at_b = absurd (none-some r at_r)
other_first (x ∷ rs) [] k r a b at_r at_a at_b = absurd (none-some a at_a)
other_first (x ∷ rs) (m ∷ ms) zero r a b at_r at_a at_b =
    sym (same_Some (info_with x m) b at_b) ∙ ap (λ (y : ModuleRegions). info_with y m) (same_Some x r at_r) ∙ ap (info_with r) (same_Some m a at_a)
other_first (x ∷ rs) (m ∷ ms) (suc k) r a b at_r at_a at_b = other_first rs ms k r a b at_r at_a at_b

other_count : (rs : List ModuleRegions) (ms : List ModuleInfo) → length (infos_with rs ms) ≡ length ms
other_count rs [] = refl
other_count [] (m ∷ ms) = refl
other_count (r ∷ rs) (m ∷ ms) = ap suc (other_count rs ms)

other_plant : (rs : List ModuleRegions) (k : ℕ) (a b : ModuleInfo) → IsOther rs k a b → b.plant ≡ a.plant
other_plant rs k a b (inl (r, at, is)) = ap (λ (x : ModuleInfo). x.plant) is
other_plant rs k a b (inr is) = ap (λ (x : ModuleInfo). x.plant) is

other_period : (rs : List ModuleRegions) (k : ℕ) (a b : ModuleInfo) → IsOther rs k a b → b.period ≡ a.period
other_period rs k a b (inl (r, at, is)) = ap (λ (x : ModuleInfo). x.period) is
other_period rs k a b (inr is) = ap (λ (x : ModuleInfo). x.period) is

heads : {A : Type 0} (x y : A) (xs ys : List A) → x ∷ xs ≡ y ∷ ys → (x ≡ y) × (xs ≡ ys)
heads x y xs ys e = (cc, cc)

widths_same : (ps qs : List PlantInfo) → map plant_seen ps ≡ map plant_seen qs → (k : ℕ) → width_of ps k ≡ width_of qs k
widths_same [] [] e k = refl
widths_same [] (q ∷ qs) e k = absurd cc
widths_same (p ∷ ps) [] e k = absurd cc
widths_same (p ∷ ps) (q ∷ qs) e zero =
    ap (λ (x : PlantTable). length x.states) (heads (plant_seen p) (plant_seen q) (map plant_seen ps) (map plant_seen qs) e).0
widths_same (p ∷ ps) (q ∷ qs) e (suc k) = widths_same ps qs (heads (plant_seen p) (plant_seen q) (map plant_seen ps) (map plant_seen qs) e).1 k

no_box : (boxes : List (List Side)) → 1 ≤ length boxes → boxes ≢ []
no_box [] some = absurd (omega (arith, some))
no_box (b ∷ bs) some = λ e. absurd cc

module _ (regions : List ModuleRegions) (t u : Tables) (other : tables_seen u ≡ tables_with regions (tables_seen t)) where
  modules_are : u.modules ≡ infos_with regions t.modules
  modules_are = ap (λ (s : ProgramTables). s.modules) other

  plants_are : map plant_seen u.plants ≡ map plant_seen t.plants
  plants_are = ap (λ (s : ProgramTables). s.plants) other

  nodes_are : map node_seen u.nodes ≡ map node_seen t.nodes
  nodes_are = ap (λ (s : ProgramTables). s.nodes) other

  module_back : (k : ℕ) (b : ModuleInfo) → At u.modules k b → (a : ModuleInfo) × At t.modules k a × IsOther regions k a b
  module_back k b at = other_at regions t.modules k b (subst (λ (ms : List ModuleInfo). At ms k b) modules_are at)

  pub module_count : length u.modules ≡ length t.modules
  module_count = ap length modules_are ∙ other_count regions t.modules

  node_in_time : (jitter : ℕ) → ¬ (IsLate t jitter) → (n : ℕ) (y : NodeInfo) → At u.nodes n y → jitter < y.period
  node_in_time jitter in_time n y at =
      let x = of_seen node_seen node_seen u.nodes t.nodes nodes_are n y at in
      let same : y.period ≡ x.0.period = ap (λ (s : NodeTable). s.period) x.2 in
      lt_of_not-le (λ le. in_time (inl (n, x.0, x.1, subst (λ (d : ℕ). d ≤ jitter) same le)))

  module_in_time : (jitter : ℕ) → ¬ (IsLate t jitter) → (m : ℕ) (b : ModuleInfo) → At u.modules m b → jitter < b.period
  module_in_time jitter in_time m b at =
      let a = module_back m b at in
      lt_of_not-le (λ le. in_time (inr (m, a.0, a.1, subst (λ (d : ℕ). d ≤ jitter) (other_period regions m a.0 b a.2) le)))

  module _ (cells : List (Option Cells)) (count : ℕ) (found : AreFindings t regions cells count) where
    -- the safe region of each module still has a box
    pub boxes_stay : HaveSafeBoxes t → HaveSafeBoxes u
    boxes_stay boxed m b at = (let a = module_back m b at in by a.0 a.1 a.2)
      where
        by : (a : ModuleInfo) → At t.modules m a → IsOther regions m a b → b.safe.boxes ≢ []
        by a at_a (inl (r, at_r, is)) =
            let one = found.each m a r at_a at_r in
            subst (λ (x : ModuleInfo). x.safe.boxes ≢ []) (sym is) (no_box r.safe.boxes one.2.safe.count.0)
        by a at_a (inr is) = subst (λ (x : ModuleInfo). x.safe.boxes ≢ []) (sym is) (boxed m a at_a)

    -- and lies inside the one that was given
    pub stay_inside : StayInside t u
    stay_inside k a b at_a at_b = (let x = module_back k b at_b in by x.0 x.1 x.2)
      where
        by : (x : ModuleInfo) → At t.modules k x → IsOther regions k x b → IsInside b.safe a.safe
        by x at_x (inl (r, at_r, is)) =
            let one = found.each k a r at_a at_r in
            subst (λ (y : ModuleInfo). IsInside y.safe a.safe) (sym is) one.2.inside
        by x at_x (inr is) =
            subst (λ (y : ModuleInfo). IsInside y.safe a.safe) (sym (is ∙ at_same t.modules k x a at_x at_a)) (λ s inside. inside)

    -- the lists of cells that were found at a place
    module _ (rules : MeetsTableRules t) (few : count ≤ length t.modules) where
      pub finding_at : (m : ℕ) (c : Cells) → At cells m (Some c) → (a : ModuleInfo) × (r : ModuleRegions) × At t.modules m a × IsFinding a r c
      finding_at m c at =
          let counted = found.cells_count in
          let regions_counted = found.regions_count in
          let less : m < length cells = slice_get_within cells m (Some c) at in
          let a = at_below t.modules m (omega (arith, less, counted, few)) in
          let r = at_below regions m (omega (arith, less, counted, regions_counted)) in
          let one = found.each m a.0 r.0 a.1 r.1 in
          let same : one.0 ≡ c = same_Some one.0 c (same_Some (Some one.0) (Some c) (sym one.1 ∙ at)) in
          (a.0, r.0, a.1, subst (λ (x : Cells). IsFinding a.0 r.0 x) same one.2)

      cells_of : (m : ℕ) (b a : ModuleInfo) (region : BoxList) → At u.modules m b → At t.modules m a → IsList a.safe.width 4096 region
          → AreCellsOf u b.plant region
      cells_of m b a region at_b at_a list =
          let x = module_back m b at_b in
          let same : x.0 ≡ a = at_same t.modules m x.0 a x.1 at_a in
          let plant : b.plant ≡ a.plant = other_plant regions m x.0 b x.2 ∙ ap (λ (y : ModuleInfo). y.plant) same in
          let width : region.width ≡ width_of u.plants b.plant =
          list.width_is ∙ (rules.modules m a at_a).safe.width ∙ sym (widths_same u.plants t.plants plants_are a.plant)
          ∙ ap (width_of u.plants) (sym plant)
          in
          record {
            width = width;
            boxes = list.count.1;
            each = λ i box at. (let is = list.each i box at in (is.0 ∙ sym list.width_is, is.1));
          }

      -- a certificate fits that has some of these cells, and no others
      pub cells_fit : (cert : Cert) → length cert.modules.items ≡ length t.modules
          → ((m : ℕ) (c : Cells) → At cert.modules.items m (Some c) → At cells m (Some c)) → ¬ (IsLate t cert.jitter) → FitsTables u cert
      cells_fit cert counted own in_time = record {
        entries = counted ∙ sym module_count;
        closed =
            λ m b c at_b at_c.
            let one = finding_at m c (own m c at_c) in
            cells_of m b one.0 c.closed at_b one.2 one.3.closed;
        reach =
            λ m b c at_b at_c.
            let one = finding_at m c (own m c at_c) in
            cells_of m b one.0 c.reach at_b one.2 one.3.reach;
        node_jitter = node_in_time cert.jitter in_time;
        module_jitter = module_in_time cert.jitter in_time;
      }

      -- and what was found is as is promised
      pub are_found : AreFirstFound t regions count
      are_found = record {
        count_is = found.regions_count;
        inside = λ k a r at_a at_r. (found.each k a r at_a at_r).2.inside;
        boxes =
            λ k r at_r.
            let regions_counted = found.regions_count in
            let less = slice_get_within regions k r at_r in
            let a = at_below t.modules k (omega (arith, less, regions_counted, few)) in
            let one = found.each k a.0 r a.1 at_r in
            (one.2.safe.count, one.2.safer.count);
      }

      -- where a certificate has these cells, and they pass, it shows the regions of each module that has some
      pub found_shown : (jitter : ℕ) (cert : Cert) → ((m : ℕ) (c : Cells) → At cells m (Some c) → At cert.modules.items m (Some c))
          → (for_each u.modules (cells_check u jitter cert)).Passes → (k : ℕ) (b : ModuleInfo) → k < count → At u.modules k b → IsShown u jitter cert k b
      found_shown jitter cert has passes k b less at_b =
          let regions_counted = found.regions_count in
          let r = at_below regions k (omega (arith, less, regions_counted)) in
          let a = module_back k b at_b in
          let one = found.each k a.0 r.0 a.1 r.1 in
          let is : b ≡ info_with r.0 a.0 =
          other_first regions t.modules k r.0 a.0 b r.1 a.1 (subst (λ (ms : List ModuleInfo). At ms k b) modules_are at_b) in (
            (one.0, has k one.0 one.1),
            (
              subst (λ (x : ModuleInfo). x.safe.boxes ≢ []) (sym is) (no_box r.0.safe.boxes one.2.safe.count.0),
              subst (λ (x : ModuleInfo). x.safer.boxes ≢ []) (sym is) (no_box r.0.safer.boxes one.2.safer.count.0),
            ),
            passes k b at_b,
          )
