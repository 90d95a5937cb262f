-- One list of cells, box after box.
use Rattle.std.proofs.Common.{◌≡◌, ℕ, zero, suc, ◌<◌, ◌≤◌, ◌+◌, ⊎_elim, Bool, false, true, List, [], ◌∷◌, ◌++◌, length, drop, refl, sym, ap, ◌∙◌, subst, arith}
use Rattle.std.specs.Prelude.{reverse}
use Rattle.std.proofs.Math.ListN.{length-set}
use Rattle.std.proofs.lemmas.List.{reverse-append, reverse-reverse, length-append}
use Rattle.std.proofs.lemmas.Option.{none-some, same_Some}
use Rattle.sot_box.specs.Sides.{Side, AreOrdered}
use Rattle.sot_box.specs.BoxList.{BoxList}
use Rattle.sot_box.specs.Boxes.{lows}
use Rattle.sot_lists.specs.Places.{At}
use Rattle.sot_lists.proofs.Places.{drop_at}
use Rattle.sot_lang.specs.declared.tables.ModuleInfo.{ModuleInfo}
use Rattle.sot_lang.specs.Tables.{Tables}
use Rattle.sot_lang.specs.OwnerNames.{width_of}
use Rattle.sot_lang.specs.TableRules.{MeetsTableRules}
use Rattle.sot_certify.specs.Cuts.{IsOnePoint}
use Rattle.sot_certify.specs.Findings.{Whole, Failing, Begun, BisectsEach}
use Rattle.sot_certify.proofs.Stack.{IsUnderWay, starts, more_cells, more_boxes, is_whole, is_failing, is_begun}
use Rattle.sot_certify.proofs.Effort.{effort, effort_less, effort_falls}
use Rattle.sot_certify.specs.declared.listing.ListFail.{ListFail}
use Rattle.sot_certify.specs.declared.listing.ListFail.TheVariants as fails
use Rattle.sot_certify.specs.Made.{IsGood, region_of, IsMade}
use Rattle.sot_certify.specs.Steps.{IsTaken, IsNotTaken, IsNotMade, IsListOf}

-- the last box is the next
pub last_first : (rest : List (List Side)) (cell : List Side) → reverse (rest ++ cell ∷ []) ≡ cell ∷ reverse rest
last_first rest cell = reverse-append rest (cell ∷ [])

two_last : (rest : List (List Side)) (low high : List Side) → reverse ((rest ++ high ∷ []) ++ low ∷ []) ≡ low ∷ high ∷ reverse rest
two_last rest low high = last_first (rest ++ high ∷ []) low ∙ ap (λ l. low ∷ l) (last_first rest high)

-- what holds of each element of a list and of one more
pub all_more : (P : List Side → Type 0) (xs : List (List Side)) (x : List Side) → ((i : ℕ) (b : List Side) → At xs i b → P b) → P x → (i : ℕ) (b : List Side)
    → At (xs ++ x ∷ []) i b → P b
all_more P [] x h p zero b at = subst P (same_Some x b at) p
all_more P [] x h p (suc i) b at = absurd (none-some b at)
all_more P (y ∷ ys) x h p zero b at = h zero b at
all_more P (y ∷ ys) x h p (suc i) b at = all_more P ys x (λ j. h (suc j)) p i b at

all_fewer : (P : List Side → Type 0) (xs : List (List Side)) (x : List Side) → ((i : ℕ) (b : List Side) → At (xs ++ x ∷ []) i b → P b) → (i : ℕ) (b : List Side)
    → At xs i b → P b
all_fewer P [] x h i b at = absurd (none-some b at)
all_fewer P (y ∷ ys) x h zero b at = h zero b at
all_fewer P (y ∷ ys) x h (suc i) b at = all_fewer P ys x (λ j. h (suc j)) i b at

the_last : (P : List Side → Type 0) (xs : List (List Side)) (x : List Side) → ((i : ℕ) (b : List Side) → At (xs ++ x ∷ []) i b → P b) → P x
the_last P [] x h = h 0 x refl
the_last P (y ∷ ys) x h = the_last P ys x (λ j. h (suc j))

-- how a list stands: the cells so far, and the boxes that are open, the next one last
pub record Stands (Good : List Side → Type 0) (all : List (List Side)) (w : ℕ) (cells open' : List (List Side)) : Type 0 where
  pub open_width : (i : ℕ) (b : List Side) → At open' i b → length b ≡ w
  pub cells_fit : (i : ℕ) (b : List Side) → At cells i b → (length b ≡ w) × AreOrdered b
  pub few : length cells ≤ 4096
  pub way : IsUnderWay Good all cells (reverse open')

pub begins : (Good : List Side → Type 0) (all : List (List Side)) (w : ℕ) (open' : List (List Side)) → ((i : ℕ) (b : List Side) → At all i b → length b ≡ w)
    → open' ≡ reverse all → Stands Good all w [] open'
begins Good all w open' each same = record {
  open_width = λ i b at. in_reverse i b (subst (λ l. At l i b) same at);
  cells_fit = λ i b at. absurd (none-some b at);
  few = omega arith;
  way = subst (IsUnderWay Good all []) (sym (ap reverse same ∙ reverse-reverse all)) (starts Good all);
}
  where
    turned : (xs : List (List Side)) → ((i : ℕ) (b : List Side) → At xs i b → length b ≡ w) → (i : ℕ) (b : List Side) → At (reverse xs) i b → length b ≡ w
    turned [] h i b at = absurd (none-some b at)
    turned (x ∷ xs) h i b at =
        all_more (λ c. length c ≡ w) (reverse xs) x (turned xs (λ j. h (suc j))) (h 0 x refl) i b (subst (λ l. At l i b) (reverse-append (x ∷ []) xs) at)

    in_reverse : (i : ℕ) (b : List Side) → At (reverse all) i b → length b ≡ w
    in_reverse = turned all each

module _ (Good : List Side → Type 0) (all : List (List Side)) (w : ℕ) (cells rest : List (List Side)) (cell : List Side)
    (s : Stands Good all w cells (rest ++ cell ∷ [])) where
  pub next_width : length cell ≡ w
  next_width = the_last (λ b. length b ≡ w) rest cell s.open_width

  way : IsUnderWay Good all cells (cell ∷ reverse rest)
  way = subst (IsUnderWay Good all cells) (last_first rest cell) s.way

  pub goes_on : (rest' cells' : List (List Side)) → AreOrdered cell → IsTaken Good cell rest rest' cells cells' → length cells' ≤ 4096
      → Stands Good all w cells' rest'
  goes_on rest' cells' ordered taken few =
      ⊎_elim
      (λ g. record {
        open_width = λ i b at. all_fewer (λ c. length c ≡ w) rest cell s.open_width i b (subst (λ l. At l i b) g.1 at);
        cells_fit = λ i b at. all_more (λ c. (length c ≡ w) × AreOrdered c) cells cell s.cells_fit (next_width, ordered) i b (subst (λ l. At l i b) g.2 at);
        few = few;
        way =
            subst (λ c. IsUnderWay Good all c (reverse rest')) (sym g.2)
            (subst (λ l. IsUnderWay Good all (cells ++ cell ∷ []) (reverse l)) (sym g.1) (more_cells Good all cells (reverse rest) cell g.0 way));
      })
      (λ h. record {
        open_width = λ i b at.
            all_more (λ c. length c ≡ w) (rest ++ h.2 ∷ []) h.1
            (all_more (λ c. length c ≡ w) rest h.2 (all_fewer (λ c. length c ≡ w) rest cell s.open_width)
            (ap length h.3.high_is ∙ length-set _ _ _ ∙ next_width))
            (ap length h.3.low_is ∙ length-set _ _ _ ∙ next_width) i b (subst (λ l. At l i b) h.4 at);
        cells_fit = λ i b at. s.cells_fit i b (subst (λ l. At l i b) h.5 at);
        few = few;
        way = subst (λ c. IsUnderWay Good all c (reverse rest')) (sym h.5)
            (subst (λ l. IsUnderWay Good all cells l) (sym (ap reverse h.4 ∙ two_last rest h.1 h.2))
            (more_boxes Good all cells (reverse rest) cell h.1 h.2 h.0 h.3 way));
      })
      taken

  pub falls : (rest' cells' : List (List Side)) → IsTaken Good cell rest rest' cells cells' → effort (reverse rest') < effort (reverse (rest ++ cell ∷ []))
  falls rest' cells' taken =
      subst (λ l. effort (reverse rest') < effort l) (sym (last_first rest cell))
      (⊎_elim
      (λ g. subst (λ l. effort (reverse l) < effort (cell ∷ reverse rest)) (sym g.1) (effort_less (reverse rest) cell))
      (λ h. subst (λ l. effort l < effort (cell ∷ reverse rest)) (sym (ap reverse h.4 ∙ two_last rest h.1 h.2)) (effort_falls cell h.1 h.2 h.3 (reverse rest)))
      taken)

  appended_none : (xs : List (List Side)) → xs ≡ xs ++ []
  appended_none [] = refl
  appended_none (x ∷ xs) = ap (λ l. x ∷ l) (appended_none xs)

  pub fails_here : (Good cell → ⊥) → IsOnePoint cell → BisectsEach Good all (Failing cells (lows cell))
  fails_here bad one = is_failing Good all cells (reverse rest) cell bad one way cells (appended_none cells)

  pub one_more_cell : Good cell → BisectsEach Good all (Begun (cells ++ cell ∷ []))
  one_more_cell good =
      is_begun Good all (cells ++ cell ∷ []) (reverse rest) (more_cells Good all cells (reverse rest) cell good way) (cells ++ cell ∷ [])
      (appended_none (cells ++ cell ∷ []))

pub ends : (Good : List Side → Type 0) (all : List (List Side)) (w : ℕ) (cells : List (List Side)) → Stands Good all w cells []
    → BisectsEach Good all (Whole cells)
ends Good all w cells s = is_whole Good all cells s.way cells (none cells)
  where
    none : (xs : List (List Side)) → xs ≡ xs ++ []
    none [] = refl
    none (x ∷ xs) = ap (λ l. x ∷ l) (none xs)

-- one box more, from the end of a region
pub turned_more : (boxes : List (List Side)) (n k : ℕ) (b : List Side) → k + 1 ≡ n → At boxes k b → reverse (drop n boxes) ++ b ∷ [] ≡ reverse (drop k boxes)
turned_more boxes n k b e at =
    sym (ap reverse (drop_at boxes k b at ∙ ap (λ m. b ∷ drop m boxes) e) ∙ reverse-append (b ∷ []) (drop n boxes))

-- the boxes of a module's regions are as wide as its plant
pub region_widths : (p : Tables) → MeetsTableRules p → (m : ℕ) (a : ModuleInfo) → At p.modules m a → (reach : Bool) → (i : ℕ) (b : List Side)
    → At (region_of a reach).boxes i b → length b ≡ width_of p.plants a.plant
region_widths p rules m a at false i b at_b = (let r = (rules.modules m a at).safe in (r.each i b at_b).0 ∙ r.width)
region_widths p rules m a at true i b at_b = (let r = (rules.modules m a at).safer in (r.each i b at_b).0 ∙ r.width)

module _ (p : Tables) (a : ModuleInfo) (reach : Bool) (w : ℕ) (cells rest : List (List Side)) (cell : List Side)
    (s : Stands (IsGood p a reach) (region_of a reach).boxes w cells (rest ++ cell ∷ [])) where
  -- a box that is not taken ends the list
  pub not_made : (fail : ListFail) → IsNotTaken (IsGood p a reach) cell cells fail → IsNotMade p a reach fail
  not_made (fails.Point t) h = record {
    cells = cells;
    found =
        subst (λ q. BisectsEach (IsGood p a reach) (region_of a reach).boxes (Failing cells q)) (sym h.2)
        (fails_here (IsGood p a reach) (region_of a reach).boxes w cells rest cell s h.0 h.1);
    few = s.few;
  }
  not_made fails.TooMany h = record {
    cells = cells ++ cell ∷ [];
    found = one_more_cell (IsGood p a reach) (region_of a reach).boxes w cells rest cell s h.0;
    many = (let n = length-append cells (cell ∷ []) in omega (arith, n, h.1));
  }
  not_made fails.Memory h = tt

pub is_list : (p : Tables) (a : ModuleInfo) (reach : Bool) (list done : BoxList)
    → Stands (IsGood p a reach) (region_of a reach).boxes (width_of p.plants a.plant) done.boxes [] → done.width ≡ width_of p.plants a.plant
    → list.boxes ≡ done.boxes → list.width ≡ done.width → list.settled ≡ true → IsListOf p a reach list
is_list p a reach list done s width same_boxes same_width settled = record {
  made =
      subst (IsMade p a reach) (sym same_boxes) (record {
        whole = ends (IsGood p a reach) (region_of a reach).boxes (width_of p.plants a.plant) done.boxes s;
        few = s.few;
      });
  fits = record {
    width = same_width ∙ width;
    boxes = subst (λ l. length l ≤ 4096) (sym same_boxes) s.few;
    each = λ i b at. (let f = s.cells_fit i b (subst (λ l. At l i b) same_boxes at) in (f.0 ∙ sym (same_width ∙ width), f.1));
  };
  settled = settled;
}
