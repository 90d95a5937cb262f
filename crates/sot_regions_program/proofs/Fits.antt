-- Regions that were found are regions that the modules of a program may take.
use Rattle.std.proofs.Common.{◌≡◌, ◌∙◌, ℕ, suc, ◌≤◌, ℤ, List, [], ◌∷◌, map, filter_map, length, Option, inl, refl, sym, arith}
use Rattle.std.proofs.lemmas.List.{length-map}
use Rattle.std.proofs.lemmas.Option.{none-some}
use Rattle.sot_lists.specs.Places.{At}
use Rattle.sot_box.specs.Sides.{Side}
use Rattle.sot_box.specs.Boxes.{lows}
use Rattle.sot_box.specs.BoxList.{BoxList}
use Rattle.sot_box.specs.Regions.{IsInRegion}
use Rattle.sot_box.proofs.Ranges.{lows_within}
use Rattle.sot_syntax_tree.specs.Trees.{Area, Module, Declaration, a_topic, a_plant, a_node, a_module, Program}
use Rattle.sot_lang.specs.declared.cert.Cells.{Cells}
use Rattle.sot_lang.specs.Tables.{Tables}
use Rattle.sot_lang.specs.TableRules.{MeetsTableRules}
use Rattle.sot_typing.specs.Resolved.{a_module_of, side_of, module_info, AreTables}
use Rattle.sot_typing.proofs.Seen.{are_seen, module_in}
use Rattle.sot_regions_rewrite.specs.declared.modules.ModuleRegions.{ModuleRegions}
use Rattle.sot_law_regions_rewrite.specs.Fitting.{Fits, FitsModule, AreFitting}
use Rattle.sot_regions_program.specs.Findings.{AreBoxesFor, IsList, IsFinding}
use Rattle.sot_regions_program.specs.Steps.{AreFindings}

-- a region with a box has a point
pub has_point : (boxes : List (List Side)) (width : ℕ) → 1 ≤ length boxes → AreBoxesFor width boxes → (s : List ℤ) × IsInRegion boxes s
has_point [] width some each = absurd (omega (arith, some))
has_point (b ∷ bs) width some each = (lows b, inl (lows_within b (each 0 b refl).1))

-- boxes of as many axes as those of a region that has a point fit where it stands
fits_list : (areas : List Area) (width : ℕ) (region : BoxList) (s : List ℤ) → IsInRegion (map (λ (a : Area). map side_of a.sides) areas) s
    → ((i : ℕ) (b : List Side) → At (map (λ (a : Area). map side_of a.sides) areas) i b → length b ≡ width)
    → IsList width 256 region → Fits areas region
fits_list [] width region s inside given list = absurd inside
fits_list (a ∷ areas) width region s inside given list = record {
  few = list.count.1;
  each =
      λ i box at.
      let is = list.each i box at in (
        a,
        refl,
        record { width = is.0 ∙ sym (given 0 (map side_of a.sides) refl) ∙ length-map a.sides side_of; ordered = is.1; short = is.2 },
      );
}

fits_module : (p : Program) (m : Module) (r : ModuleRegions) (c : Cells) → IsFinding (module_info p m) r c
    → ((i : ℕ) (b : List Side) → At (module_info p m).safe.boxes i b → length b ≡ (module_info p m).safe.width) → FitsModule m r
fits_module p m r c found given =
    let width : ℕ = (module_info p m).safe.width in
    let point = has_point r.safe.boxes width found.safe.count.0 found.safe.each in
    let here = found.inside point.0 point.1 in
    record {
      safe = fits_list m.safe width r.safe point.0 here given found.safe;
      safer = fits_list m.safe width r.safer point.0 here given found.safer;
    }

-- each module takes those at its place
fits_all : (regions : List ModuleRegions) (ds : List Declaration)
    → ((k : ℕ) (m : Module) (r : ModuleRegions) → At (filter_map a_module_of ds) k m → At regions k r → FitsModule m r)
    → AreFitting regions ds
fits_all regions [] each = tt
fits_all [] (a_topic t ∷ ds) each = (tt, fits_all [] ds each)
fits_all [] (a_plant q ∷ ds) each = (tt, fits_all [] ds each)
fits_all [] (a_node n ∷ ds) each = (tt, fits_all [] ds each)
fits_all [] (a_module m ∷ ds) each = (tt, fits_all [] ds (λ k x r at_m at_r. absurd (none-some r at_r)))
fits_all (r ∷ later) (a_topic t ∷ ds) each = (tt, fits_all (r ∷ later) ds each)
fits_all (r ∷ later) (a_plant q ∷ ds) each = (tt, fits_all (r ∷ later) ds each)
fits_all (r ∷ later) (a_node n ∷ ds) each = (tt, fits_all (r ∷ later) ds each)
fits_all (r ∷ later) (a_module m ∷ ds) each = (each 0 m r refl refl, fits_all later ds (λ k. each (suc k)))

pub found_fit : (p : Program) (t : Tables) (regions : List ModuleRegions) (cells : List (Option Cells)) (count : ℕ) → AreTables p t → MeetsTableRules t
    → AreFindings t regions cells count → AreFitting regions p.decls
found_fit p t regions cells count are rules found =
    fits_all regions p.decls (λ k m r at_m at_r.
    let at = module_in p t (are_seen p t are) k m at_m in
    let one = found.each k (module_info p m) r at at_r in
    fits_module p m r one.0 one.2 (λ i b at_b. ((rules.modules k (module_info p m) at).safe.each i b at_b).0))
