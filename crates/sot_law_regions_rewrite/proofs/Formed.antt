-- A program with other regions is formed.
use Rattle.std.proofs.Common.{◌≡◌, ℕ, suc, ◌≤◌, ◌^◌, ℤ, pos, negsuc, ◌≤ℤ◌, nat_abs, List, [], ◌∷◌, length, map, zip, refl, sym, subst, arith}
use Rattle.std.proofs.lemmas.Int.{ints}
use Rattle.std.proofs.lemmas.Option.{same_Some}
use Rattle.sot_lists.specs.Places.{At}
use Rattle.sot_box.specs.Sides.{Side, AreOrdered}
use Rattle.sot_box.specs.BoxList.{BoxList}
use Rattle.sot_syntax_tree.specs.declared.tree.Bounds.{Bounds}
use Rattle.sot_syntax_tree.specs.Trees.{Area, Module, Declaration, a_topic, a_plant, a_node, a_module}
use Rattle.sot_syntax_tree.specs.Formed.{Each, HasItem, AreBounds, IsArea, IsModule, IsDeclaration}
use Rattle.sot_regions_rewrite.specs.declared.modules.ModuleRegions.{ModuleRegions}
use Rattle.sot_regions_rewrite.specs.OtherRegions.{bounds_like, area_like, areas_like, module_with, declaration_with, left_behind, declarations_with}
use Rattle.sot_law_regions_rewrite.specs.Fitting.{IsShort, IsLike, Fits, FitsModule, FitNext, AreFitting}
use Rattle.sot_law_regions_rewrite.specs.Laws.{ProgramsStayFormed}

small : (z : ℤ) → negsuc 999999999999 ≤ℤ z → z ≤ℤ pos 1000000000000 → nat_abs z ≤ 10 ^ 12
small (pos n) low high = omega (arith, ints, high)
small (negsuc n) low high = omega (arith, ints, low)

bounds_formed : (g : Bounds) (r : Side) → AreBounds g → r.lo ≤ℤ r.hi → IsShort r → AreBounds (bounds_like g r)
bounds_formed g r is ordered short = (
  record { scale = is.0.scale; mantissa = small r.lo short.0 (omega (arith, ints, ordered, short.1)) },
  record { scale = is.1.scale; mantissa = small r.hi (omega (arith, ints, ordered, short.0)) short.1 },
)

sides_formed : (gs : List Bounds) (box : List Side) → Each AreBounds gs → AreOrdered box → ((i : ℕ) (r : Side) → At box i r → IsShort r)
    → Each AreBounds (map (λ x. bounds_like x.0 x.1) (zip gs box))
sides_formed [] box all ordered short = tt
sides_formed (g ∷ gs) [] all ordered short = tt
sides_formed (g ∷ gs) (r ∷ rs) all ordered short =
    (bounds_formed g r all.0 ordered.0 (short 0 r refl), sides_formed gs rs all.1 ordered.1 (λ i. short (suc i)))

some_sides : (gs : List Bounds) (box : List Side) → HasItem gs → length box ≡ length gs → HasItem (map (λ x. bounds_like x.0 x.1) (zip gs box))
some_sides [] box some wide = some
some_sides (g ∷ gs) [] some wide = absurd (omega (arith, wide))
some_sides (g ∷ gs) (r ∷ rs) some wide = tt

area_formed : (a : Area) (box : List Side) → IsArea a → IsLike a box → IsArea (area_like a box)
area_formed a box is like = (some_sides a.sides box is.0 like.width, sides_formed a.sides box is.1 like.ordered like.short)

all_like : (a : Area) (found : List (List Side)) → IsArea a → ((i : ℕ) (box : List Side) → At found i box → IsLike a box)
    → Each IsArea (map (area_like a) found)
all_like a [] is like = tt
all_like a (box ∷ more) is like = (area_formed a box is (like 0 box refl), all_like a more is (λ i. like (suc i)))

-- each box is like the first given one
pub like_first : (a : Area) (others : List Area) (region : BoxList) → Fits (a ∷ others) region → (i : ℕ) (box : List Side) → At region.boxes i box
    → IsLike a box
like_first a others region fits i box at =
    let own = fits.each i box at in
    subst (λ (x : Area). IsLike x box) (sym (same_Some a own.0 own.1)) own.2

pub areas_formed : (given : List Area) (region : BoxList) → Each IsArea given → Fits given region → Each IsArea (areas_like given region.boxes)
areas_formed [] region all fits = tt
areas_formed (a ∷ others) region all fits = all_like a region.boxes all.0 (like_first a others region fits)

module_stays : (regions : ModuleRegions) (m : Module) → IsModule m → FitsModule m regions → IsModule (module_with regions m)
module_stays regions m is fits = record {
  name = is.name;
  ac = is.ac;
  sc = is.sc;
  period = is.period;
  offset = is.offset;
  plant = is.plant;
  safe = areas_formed m.safe regions.safe is.safe fits.safe;
  safer = areas_formed m.safe regions.safer is.safe fits.safer;
}

declaration_stays : (regions : List ModuleRegions) (d : Declaration) → IsDeclaration d → FitNext regions d → IsDeclaration (declaration_with regions d)
declaration_stays [] d is fits = is
declaration_stays (r ∷ later) (a_topic t) is fits = is
declaration_stays (r ∷ later) (a_plant q) is fits = is
declaration_stays (r ∷ later) (a_node n) is fits = is
declaration_stays (r ∷ later) (a_module m) is fits = module_stays r m is fits

all_stay : (regions : List ModuleRegions) (ds : List Declaration) → Each IsDeclaration ds → AreFitting regions ds
    → Each IsDeclaration (declarations_with regions ds)
all_stay regions [] all fits = tt
all_stay regions (d ∷ ds) all fits = (declaration_stays regions d all.0 fits.0, all_stay (left_behind d regions) ds all.1 fits.1)

pub stay_formed : ProgramsStayFormed
stay_formed regions p is fits = all_stay regions p.decls is fits
