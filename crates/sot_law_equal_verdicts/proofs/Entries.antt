-- The entries of certificates that are made for tables that look the same are the same.
use Rattle.std.proofs.Common.{◌≡◌, ℕ, zero, suc, ◌<◌, true, Option, Some, Ok, List, [], ◌∷◌, map, length, refl, sym, ap, ◌∙◌, subst}
use Rattle.std.proofs.lemmas.Option.{slice_get_within}
use Rattle.sot_box.specs.BoxList.{BoxList}
use Rattle.sot_lists.specs.Places.{At}
use Rattle.sot_lists.proofs.Places.{at_same, at_below, same_list}
use Rattle.sot_lang.specs.declared.cert.Cells.{Cells}
use Rattle.sot_lang.specs.declared.cert.Cert.{Cert}
use Rattle.sot_lang.specs.declared.tables.PlantInfo.{PlantInfo}
use Rattle.sot_lang.specs.declared.tables.ModuleInfo.{ModuleInfo}
use Rattle.sot_lang.specs.Tables.{Tables}
use Rattle.sot_lang.specs.OwnerNames.{width_of}
use Rattle.sot_lang.specs.CertRules.{FitsTables, AreCellsOf}
use Rattle.sot_typing.specs.Resolved.{PlantTable, plant_seen, tables_seen}
use Rattle.sot_law_equal_tables.proofs.Seen.{module_back, plants_seen_same, modules_same}
use Rattle.sot_certify.specs.Certifying.{Certifies}
use Rattle.sot_law_equal_verdicts.specs.Laws.{EntriesAlike}
use Rattle.sot_law_equal_verdicts.proofs.Certify.{cells_alike}

-- how many state variables a plant has, by what it looks like
abbrev states_of : List PlantTable → ℕ → ℕ
states_of [] k = 0
states_of (plant ∷ rest) zero = length plant.states
states_of (plant ∷ rest) (suc k) = states_of rest k

width_seen : (xs : List PlantInfo) (k : ℕ) → width_of xs k ≡ states_of (map plant_seen xs) k
width_seen [] k = refl
width_seen (x ∷ xs) zero = refl
width_seen (x ∷ xs) (suc k) = width_seen xs k

same_boxes : (x y : BoxList) → x.width ≡ y.width → x.boxes ≡ y.boxes → x.settled ≡ y.settled → x ≡ y
same_boxes x y width boxes settled = λ i. record { width = width i; boxes = boxes i; settled = settled i }

same_cells : (x y : Cells) → x.closed ≡ y.closed → x.reach ≡ y.reach → x ≡ y
same_cells x y closed reach = λ i. record { closed = closed i; reach = reach i }

module _ (t u : Tables) (same : tables_seen t ≡ tables_seen u) where
  width_same : (k : ℕ) → width_of t.plants k ≡ width_of u.plants k
  width_same k = width_seen t.plants k ∙ ap (λ xs. states_of xs k) (plants_seen_same t u same) ∙ sym (width_seen u.plants k)

  one_boxes : (a : ModuleInfo) (x y : BoxList) → AreCellsOf t a.plant x → AreCellsOf u a.plant y → x.boxes ≡ y.boxes → x.settled ≡ true → y.settled ≡ true
      → x ≡ y
  one_boxes a x y fits fits' boxes settled settled' = same_boxes x y (fits.width ∙ width_same a.plant ∙ sym fits'.width) boxes (settled ∙ sym settled')

  module _ (c d : Cert) (fits : FitsTables t c) (fits' : FitsTables u d) (h : Certifies t (Ok c)) (h' : Certifies u (Ok d)) where
    one_entry : (m : ℕ) (a : ModuleInfo) (x y : Option Cells) → At t.modules m a → At c.modules.items m x → At d.modules.items m y → x ≡ y
    one_entry m a x y at at_x at_y =
        let at' = module_back u t (sym same) m a at in
        let here = h.1.cells m a at in
        let there = h'.1.cells m a at' in
        let boxes = cells_alike t u c d m a here.0 there.0 same h h' at here.1 there.1 in
        let closed = one_boxes a here.0.closed there.0.closed (fits.closed m a here.0 at here.1) (fits'.closed m a there.0 at' there.1) boxes.0
        here.2.closed_settled there.2.closed_settled in
        let reach = one_boxes a here.0.reach there.0.reach (fits.reach m a here.0 at here.1) (fits'.reach m a there.0 at' there.1) boxes.1 here.2.reach_settled
        there.2.reach_settled in
        at_same c.modules.items m x (Some here.0) at_x here.1
        ∙ ap (λ z. Some z) (same_cells here.0 there.0 closed reach)
        ∙ sym (at_same d.modules.items m y (Some there.0) at_y there.1)

    count_same : length c.modules.items ≡ length d.modules.items
    count_same = h.1.entries ∙ ap (λ (ms : List ModuleInfo). length ms) (modules_same t u same) ∙ sym h'.1.entries

    entries_same : c.modules.items ≡ d.modules.items
    entries_same =
        same_list c.modules.items d.modules.items count_same
        (λ m x y at_x at_y.
        let less = slice_get_within c.modules.items m x at_x in
        let at = at_below t.modules m (subst (λ n. m < n) h.1.entries less) in
        one_entry m at.0 x y at.1 at_x at_y)

pub entries_alike : EntriesAlike
entries_alike t u c d same fits fits' h k = (h.1.jitter ∙ sym k.1.jitter, entries_same t u same c d fits fits' h k)
