-- A program with other regions breaks no rule of typing.
use Rattle.std.proofs.Common.{◌≡◌, ℕ, zero, suc, ◌≤◌, nat_lt, ℤ, ◌≤ℤ◌, Bool, true, false, not}
use Rattle.std.proofs.Common.{◌&&◌, int_lt, List, [], ◌∷◌, ◌++◌, map, length, zip, Option, Some, None}
use Rattle.std.proofs.Common.{slice_get, flat_map, refl, ap, ap₂, ◌∙◌, arith}
use Rattle.std.specs.Prelude.{◌==◌}
use Rattle.std.proofs.lemmas.Int.{ints}
use Rattle.std.proofs.lemmas.List.{length-map}
use Rattle.sot_lists.specs.Places.{At}
use Rattle.sot_text.specs.declared.token.Span.{Span}
use Rattle.sot_box.specs.Sides.{Side, AreOrdered}
use Rattle.sot_box.specs.BoxList.{BoxList}
use Rattle.sot_syntax_tree.specs.declared.tree.Ident.{Ident}
use Rattle.sot_syntax_tree.specs.declared.tree.Bounds.{Bounds}
use Rattle.sot_syntax_tree.specs.Trees.{Plant, Node, Area, Module, Declaration, a_topic, a_plant, a_node, a_module, Program}
use Rattle.sot_rules.specs.declared.fault.TypeFault.{TypeFault}
use Rattle.sot_rules.specs.declared.fault.TypeKind.TheVariants.{Unknown, Twice, ScaleDiffers, KindDiffers, RangeEmpty, ReadsAndWrites, NoModule, NextMissing}
use Rattle.sot_rules.specs.declared.expressions.sort.Sort.{Sort}
use Rattle.sot_rules.specs.declared.expressions.sort.Sort.TheVariants.{Scaled, Anything}
use Rattle.sot_rules.specs.Sorts.{differ}
use Rattle.sot_rules.specs.Names.{declared_name, meaning, is_topic, is_plant, is_node, is_environment, is_external, state_scope, reading}
use Rattle.sot_rules.specs.TreeSorts.{sort}
use Rattle.sot_rules.specs.Lists.{are_same, is_among, places}
use Rattle.sot_rules.specs.Tests.{topic_size, read_size, side_sorts, state_names, noise_names, local_names, topic_name, plant_name, node_name, module_name}
use Rattle.sot_rules.specs.Tests.{names_of, has_other_width, free_sides, is_empty}
use Rattle.sot_rules.specs.First.{IsFaultless}
use Rattle.sot_rules.specs.Faults.{when, together, tree_faults, target_faults, repeats, one_past, past, passes, scale_faults, noise_lists, order_faults}
use Rattle.sot_rules.specs.Faults.{plant_lists, times_faults, local_lists, body_faults, node_lists, bounds_faults, area_faults, region_faults, module_lists}
use Rattle.sot_rules.specs.Faults.{declaration_faults, program_lists, faults, least}
use Rattle.sot_rules.proofs.FirstFault.{listed, none_is}
use Rattle.sot_regions_rewrite.specs.declared.modules.ModuleRegions.{ModuleRegions}
use Rattle.sot_regions_rewrite.specs.OtherRegions.{bounds_like, area_like, areas_like, module_with, declaration_with, left_behind, declarations_with, with_regions}
use Rattle.sot_law_regions_rewrite.specs.Fitting.{IsLike, Fits, FitsModule, FitNext, AreFitting}
use Rattle.sot_law_regions_rewrite.specs.WithoutRegions.{bare, AreSameButForRegions}
use Rattle.sot_law_regions_rewrite.specs.Laws.{ProgramsStayFaultless}
use Rattle.sot_law_regions_rewrite.proofs.Formed.{like_first}
use Rattle.sot_law_regions_rewrite.proofs.Names.{nothing_else, filter_bare, map_bare, declared_bare}
use Rattle.sot_law_regions_rewrite.proofs.Names.{by_bare, told, has_module_same, node_scope_same, plant_scope_same}

-- ---- what is asked of a declaration does not depend on the regions of others

module _ (p q : Program) (same : AreSameButForRegions p q) where
  topic_is : (i : Ident) → is_topic (meaning q i) ≡ is_topic (meaning p i)
  topic_is i = told p q same is_topic (λ m. refl) i

  plant_is : (i : Ident) → is_plant (meaning q i) ≡ is_plant (meaning p i)
  plant_is i = told p q same is_plant (λ m. refl) i

  node_is : (i : Ident) → is_node (meaning q i) ≡ is_node (meaning p i)
  node_is i = told p q same is_node (λ m. refl) i

  plant_same : (k : Plant) → together (plant_lists q k) ≡ together (plant_lists p k)
  plant_same k = λ j. together (
      when (not (has_module_same p q same k.name j)) k.name.at NoModule
      ∷ repeats [] (state_names k)
      ∷ past 4 (places (state_names k))
      ∷ flat_map (λ s. scale_faults s.scale) k.states
      ∷ flat_map (λ i. when (not (topic_is i j)) i.at Unknown ++ when (topic_is i j && is_among i (state_names k)) i.at Twice) k.inputs
      ∷ repeats [] k.inputs
      ∷ passes (λ i. told p q same topic_size (λ m. refl) i j) 8 0 k.inputs
      ∷ flat_map (λ i. together (
      when (not (topic_is i j) && not (plant_is i j)) i.at Unknown
      ∷ when (topic_is i j) i.at KindDiffers
      ∷ when (plant_is i j && are_same i k.name) i.at KindDiffers
      ∷ when (plant_is i j && (not (are_same i k.name) && is_among i (state_names k))) i.at Twice
      ∷ [])) k.sees
      ∷ repeats [] k.sees
      ∷ past 16 (places k.sees)
      ∷ flat_map (λ f. together (noise_lists k f)) k.noise
      ∷ repeats [] (noise_names k)
      ∷ past 4 (places (noise_names k))
      ∷ flat_map (λ n. tree_faults (plant_scope_same p q same k j) n.value
      ++ target_faults (reading (state_scope k) n.name None) (sort (plant_scope_same p q same k j) n.value) n.name.at) k.next
      ∷ order_faults k.states k.next
      ∷ when (nat_lt (length k.next) (length k.states)) k.end NextMissing
      ∷ [])

  node_same : (n : Node) → together (node_lists q n) ≡ together (node_lists p n)
  node_same n = λ j. together (
      times_faults n.period n.offset
      ∷ flat_map (λ i. when (not (topic_is i j) && not (plant_is i j)) i.at Unknown) n.reads
      ∷ repeats [] n.reads
      ∷ passes (λ i. told p q same read_size (λ m. refl) i j) 64 0 n.reads
      ∷ flat_map (λ i. together (
      when (not (topic_is i j)) i.at Unknown
      ∷ when (told p q same is_environment (λ m. refl) i j) i.at KindDiffers
      ∷ when (topic_is i j && is_among i n.reads) i.at ReadsAndWrites
      ∷ [])) n.writes
      ∷ repeats [] n.writes
      ∷ passes (λ i. told p q same topic_size (λ m. refl) i j) 8 0 n.writes
      ∷ flat_map (λ l. together (local_lists n l)) n.locals
      ∷ repeats [] (local_names n)
      ∷ past 16 (places (local_names n))
      ∷ body_faults (node_scope_same p q same n j) n.body
      ∷ [])

  module_same : (m : Module) → together (module_lists q m) ≡ together (module_lists p m)
  module_same m = λ j. together (
      when (not (node_is m.ac j)) m.ac.at Unknown
      ∷ when (not (node_is m.sc j)) m.sc.at Unknown
      ∷ when (told p q same is_external (λ x. refl) m.sc j) m.sc.at KindDiffers
      ∷ when (are_same m.ac m.sc) m.sc.at Twice
      ∷ times_faults m.period m.offset
      ∷ when (not (topic_is m.plant j) && not (plant_is m.plant j)) m.plant.at Unknown
      ∷ when (topic_is m.plant j) m.plant.at KindDiffers
      ∷ region_faults (told p q same side_sorts (λ x. refl) m.plant j) m.safe
      ∷ region_faults (told p q same side_sorts (λ x. refl) m.plant j) m.safer
      ∷ [])

  declaration_same : (d : Declaration) → declaration_faults q d ≡ declaration_faults p d
  declaration_same (a_topic t) = refl
  declaration_same (a_plant k) = plant_same k
  declaration_same (a_node n) = node_same n
  declaration_same (a_module m) = module_same m

-- ---- regions

-- of lists one behind another that are empty, both are
empties : {A : Type 0} (xs ys : List A) → xs ++ ys ≡ [] → (xs ≡ []) × (ys ≡ [])
empties [] ys e = (refl, e)
empties (x ∷ xs) ys e = absurd cc

empty_both : {A : Type 0} {xs ys : List A} → xs ≡ [] → ys ≡ [] → xs ++ ys ≡ []
empty_both a b = ap₂ (λ x y. x ++ y) a b

not_below : (lo hi : ℤ) → lo ≤ℤ hi → int_lt hi lo ≡ false
not_below lo hi ordered = grind (arith, ints)

and_false : (b : Bool) → (b && false) ≡ false
and_false true = refl
and_false false = refl

-- ends of the same scales at the same places, in order
bounds_stay : (s : Sort) (g : Bounds) (r : Side) → r.lo ≤ℤ r.hi → bounds_faults false s g ≡ [] → bounds_faults false s (bounds_like g r) ≡ []
bounds_stay s g r ordered none =
    let first = empties (when (differ s (Scaled g.lo.scale)) g.lo.at ScaleDiffers)
    (when (differ s (Scaled g.hi.scale)) g.hi.at ScaleDiffers ++ (when (is_empty g) g.lo.at RangeEmpty ++ [])) none
    in
    let second = empties (when (differ s (Scaled g.hi.scale)) g.hi.at ScaleDiffers) (when (is_empty g) g.lo.at RangeEmpty ++ []) first.1 in
    let whole : is_empty (bounds_like g r) ≡ false = ap (λ b. (g.lo.scale == g.hi.scale) && b) (not_below r.lo r.hi ordered)
    ∙ and_false (g.lo.scale == g.hi.scale)
    in
    empty_both first.0 (empty_both second.0 (ap (λ b. when b g.lo.at RangeEmpty ++ []) whole))

abbrev faults_of : Sort × Bounds → List TypeFault
faults_of x = bounds_faults false x.0 x.1

sides_stay : (ss : List Sort) (gs : List Bounds) (rs : List Side) → AreOrdered rs → flat_map faults_of (zip ss gs) ≡ []
    → flat_map faults_of (zip ss (map (λ x. bounds_like x.0 x.1) (zip gs rs))) ≡ []
sides_stay [] gs rs ordered none = refl
sides_stay (s ∷ ss) [] rs ordered none = refl
sides_stay (s ∷ ss) (g ∷ gs) [] ordered none = refl
sides_stay (s ∷ ss) (g ∷ gs) (r ∷ rs) ordered none =
    let parts = empties (faults_of (s, g)) (flat_map faults_of (zip ss gs)) none in
    empty_both (bounds_stay s g r ordered.0 parts.0) (sides_stay ss gs rs ordered.1 parts.1)

free_stay : (gs : List Bounds) (rs : List Side) → AreOrdered rs → flat_map faults_of (map (λ b. (Anything, b)) gs) ≡ []
    → flat_map faults_of (map (λ b. (Anything, b)) (map (λ x. bounds_like x.0 x.1) (zip gs rs))) ≡ []
free_stay [] rs ordered none = refl
free_stay (g ∷ gs) [] ordered none = refl
free_stay (g ∷ gs) (r ∷ rs) ordered none =
    let parts = empties (faults_of (Anything, g)) (flat_map faults_of (map (λ b. (Anything, b)) gs)) none in
    empty_both (bounds_stay Anything g r ordered.0 parts.0) (free_stay gs rs ordered.1 parts.1)

as_wide : (gs : List Bounds) (rs : List Side) → length rs ≡ length gs → length (map (λ x. bounds_like x.0 x.1) (zip gs rs)) ≡ length gs
as_wide [] rs wide = refl
as_wide (g ∷ gs) [] wide = absurd (omega (arith, wide))
as_wide (g ∷ gs) (r ∷ rs) wide = ap suc (as_wide gs rs (omega (arith, wide)))

area_stays : (width : Option (List Sort)) (a : Area) (box : List Side) → IsLike a box → area_faults width a ≡ [] → area_faults width (area_like a box) ≡ []
area_stays None a box like none = free_stay a.sides box like.ordered none
area_stays (Some sorts) a box like none =
    ap (λ x. when x a.at KindDiffers ++ flat_map faults_of (found x)) (ap (λ n. not (length sorts == n)) (as_wide a.sides box like.width))
    ∙ by (has_other_width (Some sorts) a) none
  where
    found : Bool → List (Sort × Bounds)
    found x = elim x as (λ y. List (Sort × Bounds)) [ true ↦ free_sides (area_like a box) | false ↦ zip sorts (area_like a box).sides ]

    by : (x : Bool) → when x a.at KindDiffers
        ++ flat_map faults_of (elim x as (λ y. List (Sort × Bounds)) [ true ↦ free_sides a | false ↦ zip sorts a.sides ]) ≡ []
        → when x a.at KindDiffers ++ flat_map faults_of (found x) ≡ []
    by true h = absurd cc
    by false h = sides_stay sorts a.sides box like.ordered h

areas_stay : (width : Option (List Sort)) (a : Area) (found : List (List Side)) → ((i : ℕ) (box : List Side) → At found i box → IsLike a box)
    → area_faults width a ≡ [] → flat_map (area_faults width) (map (area_like a) found) ≡ []
areas_stay width a [] like none = refl
areas_stay width a (box ∷ more) like none = empty_both (area_stays width a box (like 0 box refl) none) (areas_stay width a more (λ i. like (suc i)) none)

beyond : (xs : List Span) (k : ℕ) → length xs ≤ k → slice_get xs k ≡ None
beyond [] k few = refl
beyond (x ∷ xs) zero few = absurd (omega (arith, few))
beyond (x ∷ xs) (suc k) few = beyond xs k (omega (arith, few))

as_many : (a : Area) (found : List (List Side)) → length (map (λ (b : Area). b.at) (map (area_like a) found)) ≡ length found
as_many a found = length-map (map (area_like a) found) (λ (b : Area). b.at) ∙ length-map found (area_like a)

region_stays : (width : Option (List Sort)) (given : List Area) (region : BoxList) → Fits given region → region_faults width given ≡ []
    → region_faults width (areas_like given region.boxes) ≡ []
region_stays width [] region fits none = refl
region_stays width (a ∷ others) region fits none =
    let all = empties (flat_map (area_faults width) (a ∷ others)) (past 256 (map (λ (b : Area). b.at) (a ∷ others))) none in
    let first = empties (area_faults width a) (flat_map (area_faults width) others) all.0 in
    let few : length (map (λ (b : Area). b.at) (map (area_like a) region.boxes)) ≤ 256 = omega (arith, fits.few, as_many a region.boxes) in
    empty_both (areas_stay width a region.boxes (like_first a others region fits) first.0)
    (ap one_past (beyond (map (λ (b : Area). b.at) (map (area_like a) region.boxes)) 256 few))

-- ---- lists of faults

abbrev AllEmpty : List (List TypeFault) → Type 0
AllEmpty [] = Unit {0}
AllEmpty (x ∷ xs) = (x ≡ []) × AllEmpty xs

all_empty : (xs : List (List TypeFault)) → together xs ≡ [] → AllEmpty xs
all_empty [] none = tt
all_empty (x ∷ xs) none = (let parts = empties x (together xs) none in (parts.0, all_empty xs parts.1))

none_together : (xs : List (List TypeFault)) → AllEmpty xs → together xs ≡ []
none_together [] all = refl
none_together (x ∷ xs) all = empty_both all.0 (none_together xs all.1)

-- ---- modules and programs

module_stays : (p : Program) (r : ModuleRegions) (m : Module) → FitsModule m r → together (module_lists p m) ≡ []
    → together (module_lists p (module_with r m)) ≡ []
module_stays p r m fits none =
    let own = all_empty (module_lists p m) none in
    let width : Option (List Sort) = side_sorts (meaning p m.plant) in
    let given : region_faults width m.safe ≡ [] = own.1.1.1.1.1.1.1.0 in
    none_together (module_lists p (module_with r m)) (
      own.0,
      (
        own.1.0,
        (
          own.1.1.0,
          (
            own.1.1.1.0,
            (
              own.1.1.1.1.0,
              (
                own.1.1.1.1.1.0,
                (
                  own.1.1.1.1.1.1.0,
                  (region_stays width m.safe r.safe fits.safe given, (region_stays width m.safe r.safer fits.safer given, tt)),
                ),
              ),
            ),
          ),
        ),
      ),
    )

declaration_stays : (p : Program) (regions : List ModuleRegions) (d : Declaration) → FitNext regions d → declaration_faults p d ≡ []
    → declaration_faults p (declaration_with regions d) ≡ []
declaration_stays p [] d fits none = none
declaration_stays p (r ∷ later) (a_topic t) fits none = none
declaration_stays p (r ∷ later) (a_plant q) fits none = none
declaration_stays p (r ∷ later) (a_node n) fits none = none
declaration_stays p (r ∷ later) (a_module m) fits none = module_stays p r m fits none

all_stay : (p q : Program) → AreSameButForRegions p q → (regions : List ModuleRegions) (ds : List Declaration) → AreFitting regions ds
    → flat_map (declaration_faults p) ds ≡ []
    → flat_map (declaration_faults q) (declarations_with regions ds) ≡ []
all_stay p q same regions [] fits none = refl
all_stay p q same regions (d ∷ ds) fits none =
    let parts = empties (declaration_faults p d) (flat_map (declaration_faults p) ds) none in
    empty_both (declaration_same p q same (declaration_with regions d) ∙ declaration_stays p regions d fits.0 parts.0)
    (all_stay p q same (left_behind d regions) ds fits.1 parts.1)

topic_name_bare : (d : Declaration) → topic_name (bare d) ≡ topic_name d
topic_name_bare (a_topic t) = refl
topic_name_bare (a_plant q) = refl
topic_name_bare (a_node n) = refl
topic_name_bare (a_module m) = refl

plant_name_bare : (d : Declaration) → plant_name (bare d) ≡ plant_name d
plant_name_bare (a_topic t) = refl
plant_name_bare (a_plant q) = refl
plant_name_bare (a_node n) = refl
plant_name_bare (a_module m) = refl

node_name_bare : (d : Declaration) → node_name (bare d) ≡ node_name d
node_name_bare (a_topic t) = refl
node_name_bare (a_plant q) = refl
node_name_bare (a_node n) = refl
node_name_bare (a_module m) = refl

module_name_bare : (d : Declaration) → module_name (bare d) ≡ module_name d
module_name_bare (a_topic t) = refl
module_name_bare (a_plant q) = refl
module_name_bare (a_node n) = refl
module_name_bare (a_module m) = refl

module _ (p q : Program) (same : AreSameButForRegions p q) where
  declared_same : map declared_name q.decls ≡ map declared_name p.decls
  declared_same = by_bare p q same (λ x. map declared_name x.decls) (λ x. map_bare declared_name declared_bare x.decls)

  names_same : (name : Declaration → Option Ident) → ((d : Declaration) → name (bare d) ≡ name d) → names_of name q ≡ names_of name p
  names_same name bare_name = by_bare p q same (names_of name) (λ x. filter_bare name bare_name x.decls)

no_fault : (p : Program) (fs : List TypeFault) → faults p ≡ fs → IsFaultless p → fs ≡ []
no_fault p [] e faultless = refl
no_fault p (f ∷ more) e faultless = absurd (faultless f.at f.kind (listed p f (0, ap (λ xs. slice_get xs 0) e)))

none_stays : (regions : List ModuleRegions) (p : Program) → AreFitting regions p.decls → faults p ≡ [] → faults (with_regions regions p) ≡ []
unfolding faults
none_stays regions p fits none =
    let q : Program = with_regions regions p in
    let same : AreSameButForRegions p q = nothing_else regions p in
    let own = all_empty (program_lists p) none in
    none_together (program_lists q) (
      ap (repeats []) (declared_same p q same) ∙ own.0,
      (
        ap (λ ns. past 512 (places ns)) (names_same p q same topic_name topic_name_bare) ∙ own.1.0,
        (
          ap (λ ns. past 300 (places ns)) (names_same p q same node_name node_name_bare) ∙ own.1.1.0,
          (
            ap (λ ns. past 100 (places ns)) (names_same p q same module_name module_name_bare) ∙ own.1.1.1.0,
            (
              ap (λ ns. past 100 (places ns)) (names_same p q same plant_name plant_name_bare) ∙ own.1.1.1.1.0,
              (all_stay p q same regions p.decls fits own.1.1.1.1.1.0, tt),
            ),
          ),
        ),
      ),
    )

pub stay_faultless : ProgramsStayFaultless
stay_faultless regions p faultless fits =
    none_is (with_regions regions p) (ap (least None) (none_stays regions p fits (no_fault p (faults p) refl faultless)))
