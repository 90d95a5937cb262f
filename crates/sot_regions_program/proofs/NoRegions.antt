-- Where no held region lies in a safe region, no program with other regions has cells that show one there, and so no certificate.
use Rattle.std.proofs.Common.{◌≡◌, ◌∙◌, ℕ, zero, suc, ◌+◌, ◌<◌, ◌≤◌, ℤ, List, [], ◌∷◌, map, length, inl, refl, sym, ap, subst, arith}
use Rattle.std.specs.Prelude.{◌≢◌}
use Rattle.std.proofs.lemmas.List.{length-map}
use Rattle.std.proofs.lemmas.Option.{slice_get_within}
use Rattle.sot_lists.specs.Places.{At}
use Rattle.sot_lists.proofs.Places.{at_mapped, at_below, at_same}
use Rattle.sot_box.specs.Sides.{Side, AreOrdered}
use Rattle.sot_box.specs.Boxes.{lows, point_box}
use Rattle.sot_box.specs.Regions.{IsInRegion}
use Rattle.sot_box.proofs.Ranges.{lows_within}
use Rattle.sot_syntax_tree.specs.Trees.{Module, Program}
use Rattle.sot_lang.specs.declared.cert.Cert.{Cert}
use Rattle.sot_lang.specs.declared.tables.ModuleInfo.{ModuleInfo}
use Rattle.sot_lang.specs.declared.tables.PlantInfo.{PlantInfo}
use Rattle.sot_lang.specs.Tables.{Tables}
use Rattle.sot_lang.specs.TableRules.{MeetsTableRules}
use Rattle.sot_typing.specs.Resolved.{ProgramTables, modules, plant_place, node_place, module_info, tables_of, AreTables}
use Rattle.sot_traps.specs.Verdict.{HaveSafeBoxes}
use Rattle.sot_law_equal_tables.specs.UnplacedTables.{AreAlike}
use Rattle.sot_law_equal_tables.proofs.PlacelessSeen.{scalars_same, modules_same, plants_same, nodes_same}
use Rattle.sot_law_equal_tables.proofs.Tables.{tables_alike}
use Rattle.sot_law_regions_rewrite.specs.WithoutRegions.{bare_module}
use Rattle.sot_law_regions_rewrite.proofs.Tables.{plant_place_same, node_place_same, with_modules, bare_modules, bare_at}
use Rattle.sot_law_invariant_regions.specs.Alone.{IsAlone}
use Rattle.sot_law_invariant_regions.specs.Following.{StaysAmong, HeldStays, HasNoHeldRegion}
use Rattle.sot_law_invariant_regions.specs.Shown.{IsShown}
use Rattle.sot_law_invariant_regions.proofs.HeldRegions.{certified_shown, shown_is_held}
use Rattle.sot_law_invariant_regions.proofs.Alone.{region_alike}
use Rattle.sot_law_equal_verdicts.specs.ModuleLaws.{LookAlike, HaveOnePlant}
use Rattle.sot_law_equal_verdicts.proofs.Looks.{run_alike, stays_alone}
use Rattle.sot_regions.specs.Grains.{HasNoClosedSetAt}
use Rattle.sot_regions_program.specs.declared.refusal.RegionsRefusal.{RegionsRefusal}
use Rattle.sot_regions_program.specs.declared.refusal.RegionsRefusal.TheVariants.{Jitter, SafeNone, SafeNoneBeside, TooMany, SaferNone}
use Rattle.sot_report.specs.Missions.{Resolves}
use Rattle.sot_regions_program.specs.AsAsked.{IsSearched}
use Rattle.sot_regions_program.specs.Findings.{IsInside}
use Rattle.sot_regions_program.specs.Shown.{HaveRegions}
use Rattle.sot_regions_program.specs.Answers.{HasOtherRegions, HasNoRegion, HasNoCells, IsReached, IsAloneAt, LeavesNothing, NamesModule}
use Rattle.sot_regions_program.specs.Steps.{TellsGrain, TellsModule}

-- a region with a box has a point
some_point : (boxes : List (List Side)) → boxes ≢ [] → ((i : ℕ) (b : List Side) → At boxes i b → AreOrdered b) → (s : List ℤ) × IsInRegion boxes s
some_point [] some ordered = absurd (some refl)
some_point (b ∷ bs) some ordered = (lows b, inl (lows_within b (ordered 0 b refl)))

infos_of : (p : Program) (t : Tables) → AreTables p t → t.modules ≡ map (module_info p) (modules p)
unfolding tables_of
infos_of p t of_p = ap (λ (s : ProgramTables). s.modules) of_p

-- a program, and one with other regions at other places of a text
module _ (p other : Program) (t u : Tables) (has : HasOtherRegions p other) (of_p : AreTables p t) (of_other : AreTables other u) where
  abbrev between : Tables
  between = record t { modules = map (module_info has.changed) (modules has.changed) }

  alike : AreAlike between u
  alike = tables_alike has.changed other between u has.places (with_modules p has.changed has.regions t of_p) of_other

  infos : map (module_info has.changed) (modules has.changed) ≡ u.modules
  infos = modules_same between u alike

  look : LookAlike t u
  look = record {
    scalars = scalars_same between u alike;
    plants = plants_same between u alike;
    nodes = nodes_same between u alike;
  }

  looked : LookAlike u t
  looked = record { scalars = sym look.scalars; plants = sym look.plants; nodes = sym look.nodes }

  one_plant : (m : ℕ) (a b : ModuleInfo) → At t.modules m a → At u.modules m b → HaveOnePlant a b
  one_plant m a b at_a at_b =
      let x = at_mapped (module_info p) (modules p) m a (subst (λ (l : List ModuleInfo). At l m a) (infos_of p t of_p) at_a) in
      let y = at_mapped (module_info has.changed) (modules has.changed) m b (subst (λ (l : List ModuleInfo). At l m b) (sym infos) at_b) in
      let bare = bare_at p has.changed has.regions m x.0 y.0 x.1 y.1 in (
        ap (λ (i : ModuleInfo). i.plant) (sym x.2) ∙ ap (λ (k : Module). plant_place p k.plant) bare
            ∙ sym (plant_place_same p has.changed has.regions y.0.plant) ∙ ap (λ (i : ModuleInfo). i.plant) y.2,
        ap (λ (i : ModuleInfo). i.sc) (sym x.2) ∙ ap (λ (k : Module). node_place p k.sc) bare
            ∙ sym (node_place_same p has.changed has.regions y.0.sc) ∙ ap (λ (i : ModuleInfo). i.sc) y.2,
      )

  -- there are as many modules
  counts : length t.modules ≡ length u.modules
  counts =
      ap length (infos_of p t of_p) ∙ length-map (modules p) (module_info p) ∙ sym (length-map (modules p) bare_module)
      ∙ ap length (bare_modules p has.changed has.regions) ∙ length-map (modules has.changed) bare_module
      ∙ sym (length-map (modules has.changed) (module_info has.changed)) ∙ ap length infos

  pub module_there : (m : ℕ) (a : ModuleInfo) → At t.modules m a → (b : ModuleInfo) × At u.modules m b
  module_there m a at = at_below u.modules m (subst (λ (n : ℕ). m < n) counts (slice_get_within t.modules m a at))

  module _ (rules_t : MeetsTableRules t) (rules_u : MeetsTableRules u) (boxes : HaveSafeBoxes t) where
    no_cells : (jitter m : ℕ) (cert : Cert) (a b : ModuleInfo) → IsAlone t a → HasNoHeldRegion t jitter a → At t.modules m a → At u.modules m b
        → IsInside b.safe a.safe → IsShown u jitter cert m b → ⊥
    no_cells jitter m cert a b alone none at_a at_b inside shown =
        let one = one_plant m a b at_a at_b in
        let back : HaveOnePlant b a = (sym one.0, sym one.1) in
        let point = some_point b.safe.boxes shown.1.0 (λ i box at. ((rules_u.modules m b at_b).safe.each i box at).1) in
        none b.safe.boxes point.0
        (region_alike u t rules_u rules_t boxes jitter m m b a at_b at_a (run_alike u t b a looked back) (stays_alone t u a b look one alone)
        b.safe.boxes (shown_is_held u jitter cert m b rules_u shown at_b))
        inside point.1

module _ (p : Program) (t : Tables) (jitter m : ℕ) (a : ModuleInfo) (resolves : Resolves p t) (boxes : HaveSafeBoxes t) (at_a : At t.modules m a)
    (alone : IsAlone t a) (none : HasNoHeldRegion t jitter a) where
  has_no_cells : HasNoCells p t jitter m
  has_no_cells other u cert x b has resolved at_x at_b inside shown =
      let same : x ≡ a = at_same t.modules m x a at_x at_a in
      no_cells p other t u has resolves.tables resolved.tables resolves.rules resolved.rules boxes jitter m cert a b alone none at_a at_b
      (subst (λ (y : ModuleInfo). IsInside b.safe y.safe) same inside) shown

  has_no_region : HasNoRegion p t jitter m
  has_no_region other u cert x b has resolved at_x at_b inside certified =
      has_no_cells other u cert x b has resolved at_x at_b inside (certified_shown u jitter cert m b at_b certified)

-- where regions are searched each safe region has a box
pub searched_boxes : (t : Tables) (jitter : ℕ) → IsSearched t jitter → HaveSafeBoxes t
searched_boxes t jitter searched m a at = (searched.1.1.0 m a at).1.0

-- a tube that stays among some points has done so after fewer ticks
stays_shorter : (Points : List ℤ → Type 0) (plant : PlantInfo) (commands seen box : List Side) (k n : ℕ) → k ≤ n
    → StaysAmong Points plant commands seen box n → StaysAmong Points plant commands seen box k
stays_shorter Points plant commands seen box zero zero few stays = stays
stays_shorter Points plant commands seen box zero (suc n) few stays = stays.0
stays_shorter Points plant commands seen box (suc k) zero few stays = absurd (omega (arith, few))
stays_shorter Points plant commands seen box (suc k) (suc n) few (lies, (b, next, more)) =
    (lies, (b, next, stays_shorter Points plant commands seen b k n (omega (arith, few)) more))

held_shorter : (Points : List ℤ → Type 0) (t : Tables) (jitter later : ℕ) (a : ModuleInfo) (box : List Side) → jitter ≤ later
    → HeldStays Points t later a box → HeldStays Points t jitter a box
held_shorter Points t jitter later a box less held = record {
  plant = held.plant;
  plant_is = held.plant_is;
  sc = held.sc;
  sc_is = held.sc_is;
  acts = held.acts;
  coded = held.coded;
  fired = held.fired;
  drafts = held.drafts;
  hulls = held.hulls;
  are = held.are;
  stays = stays_shorter Points held.plant _ _ box (held.sc.period + jitter) (held.sc.period + later) (omega (arith, less)) held.stays;
}

-- so a module has no held region at a greater jitter either
none_later : (t : Tables) (jitter later : ℕ) (a : ModuleInfo) → jitter ≤ later → HasNoHeldRegion t jitter a → HasNoHeldRegion t later a
none_later t jitter later a less none region s held inside there =
    none region s (λ x in_region. held_shorter (IsInRegion region) t jitter later a (point_box x) less (held x in_region)) inside there

-- .. nor a closed set of atoms
closed_later : (t : Tables) (jitter later : ℕ) (a : ModuleInfo) (grain : List ℤ) → jitter ≤ later → HasNoClosedSetAt t jitter a grain
    → HasNoClosedSetAt t later a grain
closed_later t jitter later a grain less (grid, is, none) = (
  grid,
  is,
  λ closed at is_closed lies atom member.
      none closed at
      (λ x x_atom x_member. let c = is_closed x x_atom x_member in (c.0, c.1, held_shorter _ t jitter later a c.0 less c.2))
      lies atom member,
)

-- what is known of a module's held regions is known of its regions
module _ (p : Program) (t : Tables) (jitter m : ℕ) (resolves : Resolves p t) (searched : IsSearched t jitter)
    (before : 0 < m → HaveRegions p t jitter m) where
  leaves_nothing : (grain : List ℤ) → IsAloneAt t m → TellsGrain t jitter m grain → LeavesNothing p t jitter m grain
  leaves_nothing grain alone (a, at, (closed, none)) later less =
      let boxes = searched_boxes t jitter searched in (
        λ x at_x.
            subst (λ (y : ModuleInfo). HasNoClosedSetAt t later y grain) (at_same t.modules m a x at at_x)
            (closed_later t jitter later a grain less closed),
        λ unit. (
          has_no_cells p t later m a resolves boxes at (alone a at) (none_later t jitter later a less (none unit)),
          has_no_region p t later m a resolves boxes at (alone a at) (none_later t jitter later a less (none unit)),
        ),
      )

  pub names_module : (r : RegionsRefusal) → TellsModule t jitter m r → NamesModule p t jitter r
  names_module (Jitter j) tells = tells
  names_module (SafeNone n grain) (is, alone, tells) =
      subst (λ (k : ℕ). IsReached p t jitter k × IsAloneAt t k × LeavesNothing p t jitter k grain) (sym is)
      (((tells.0, tells.1), before), alone, leaves_nothing grain alone tells)
  names_module (SafeNoneBeside n grain) (is, beside, tells) =
      subst (λ (k : ℕ). IsReached p t jitter k × (¬ (IsAloneAt t k))) (sym is) ((tells, before), beside)
  names_module (TooMany n) (is, tells) = subst (λ (k : ℕ). IsReached p t jitter k) (sym is) (tells, before)
  names_module (SaferNone n) (is, tells) = subst (λ (k : ℕ). IsReached p t jitter k) (sym is) (tells, before)
