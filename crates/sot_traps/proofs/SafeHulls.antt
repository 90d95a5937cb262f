-- Each plant's safe region has a hull, where the safe region of each module has a box.
use Rattle.std.proofs.Common.{◌≡◌, ◌≢◌, ℕ, zero, suc, ◌<◌, Bool, true, false, List, [], ◌∷◌, ◌++◌, length, refl, sym, ap, ◌∙◌, subst, append_assoc, append-nil}
use Rattle.std.proofs.Common.{eqb, arith}
use Rattle.std.specs.Prelude.{if◌then◌else◌, slice_index_or}
use Rattle.std.specs.Int.{int_min, int_max}
use Rattle.std.proofs.lemmas.Option.{none-some, same_Some}
use Rattle.std.proofs.lemmas.Bool.{cond-true, eq-eqb}
use Rattle.sot_box.specs.Sides.{Side, AreOrdered}
use Rattle.sot_lists.specs.Places.{At}
use Rattle.sot_box.specs.Boxes.{lows, highs}
use Rattle.sot_box.specs.Regions.{IsHull}
use Rattle.sot_box.specs.Sweep.{coordinate}
use Rattle.sot_box.specs.Widened.{IsWidened}
use Rattle.sot_box.proofs.Hulls.{hull-one, hull-step}
use Rattle.sot_lang.specs.declared.tables.ModuleInfo.{ModuleInfo}
use Rattle.sot_lang.specs.declared.tables.PlantInfo.{PlantInfo}
use Rattle.sot_lang.specs.Tables.{Tables}
use Rattle.sot_lang.specs.SafeRegions.{safe_of, AllHulls}
use Rattle.sot_lang.specs.TableRules.{MeetsTableRules}
use Rattle.sot_traps.specs.Verdict.{HaveSafeBoxes}

-- the least box round two boxes of one width
abbrev widened : List Side → List Side → List Side
widened [] bs = []
widened (r ∷ rs) [] = r ∷ rs
widened (r ∷ rs) (b ∷ bs) = record { lo = int_min r.lo b.lo; hi = int_max r.hi b.hi } ∷ widened rs bs

widened_width : (h b : List Side) → length b ≡ length h → length (widened h b) ≡ length h
widened_width [] b e = refl
widened_width (r ∷ rs) [] e = refl
widened_width (r ∷ rs) (b ∷ bs) e = ap suc (widened_width rs bs (omega arith))

widened_low : (h b : List Side) (k : ℕ) → length b ≡ length h → k < length b
    → coordinate (lows (widened h b)) k ≡ int_min (coordinate (lows h) k) (coordinate (lows b) k)
widened_low [] b k e lt = absurd (omega arith)
widened_low (r ∷ rs) [] k e lt = absurd (omega arith)
widened_low (r ∷ rs) (b ∷ bs) zero e lt = refl
widened_low (r ∷ rs) (b ∷ bs) (suc k) e lt = widened_low rs bs k (omega arith) (omega arith)

widened_high : (h b : List Side) (k : ℕ) → length b ≡ length h → k < length b
    → coordinate (highs (widened h b)) k ≡ int_max (coordinate (highs h) k) (coordinate (highs b) k)
widened_high [] b k e lt = absurd (omega arith)
widened_high (r ∷ rs) [] k e lt = absurd (omega arith)
widened_high (r ∷ rs) (b ∷ bs) zero e lt = refl
widened_high (r ∷ rs) (b ∷ bs) (suc k) e lt = widened_high rs bs k (omega arith) (omega arith)

is_widened : (h b : List Side) → length b ≡ length h → IsWidened b h (widened h b)
is_widened h b e = record { width = widened_width h b e; low = λ k lt. widened_low h b k e lt; high = λ k lt. widened_high h b k e lt }

-- a hull of some boxes grows to one of more boxes of its width
hull_from : (done rest : List (List Side)) (n : ℕ) (h : List Side) → ((i : ℕ) (b : List Side) → At rest i b → (length b ≡ n) × AreOrdered b) → IsHull done h
    → length h ≡ n
    → (g : List Side) × IsHull (done ++ rest) g
hull_from done [] n h each is e = (h, subst (λ q. IsHull q h) (sym (append-nil done)) is)
hull_from done (b ∷ bs) n h each is e =
    let here = each 0 b refl in
    let same : length b ≡ length h = here.0 ∙ sym e in
    let more = hull_from (done ++ b ∷ []) bs n (widened h b) (λ i x at. each (suc i) x at)
    (hull-step done h (widened h b) b here.1 same is (is_widened h b same)) (widened_width h b same ∙ e) in
    (more.0, subst (λ q. IsHull q more.0) (append_assoc done (b ∷ []) bs) more.1)

-- boxes of one width, at least one of them, whose sides are ordered have a hull
pub region_hull : (bs : List (List Side)) (n : ℕ) → bs ≢ [] → ((i : ℕ) (b : List Side) → At bs i b → (length b ≡ n) × AreOrdered b)
    → (g : List Side) × IsHull bs g
region_hull [] n some each = absurd (some refl)
region_hull (b ∷ bs) n some each =
    let here = each 0 b refl in
    hull_from (b ∷ []) bs n b (λ i x at. each (suc i) x at) (hull-one b here.1) here.0

-- the safe region of a plant that is named is that of some module
pub first_of : (ms : List ModuleInfo) (k m : ℕ) (a : ModuleInfo) → At ms m a → a.plant ≡ k
    → (i : ℕ) × (b : ModuleInfo) × At ms i b × (safe_of ms k ≡ b.safe.boxes)
first_of [] k m a at e = absurd (none-some a at)
first_of (x ∷ ms) k zero a at e =
    let same : x ≡ a = same_Some x a at in
    (0, x, refl, cond-true (eqb x.plant k) x.safe.boxes (safe_of ms k) (eq-eqb x.plant k (ap (λ y. y.plant) same ∙ e)))
first_of (x ∷ ms) k (suc m) a at e = either (eqb x.plant k) (first_of ms k m a at e)
  where
    either : (t : Bool) → ((i : ℕ) × (b : ModuleInfo) × At ms i b × (safe_of ms k ≡ b.safe.boxes))
        → (i : ℕ) × (b : ModuleInfo) × At (x ∷ ms) i b × ((if t then x.safe.boxes else safe_of ms k) ≡ b.safe.boxes)
    either true h = (0, x, refl, refl)
    either false h = (suc h.0, h.1, h.2, h.3)

-- a plant's safe region has a box and a hull
pub safe_some : (p : Tables) → MeetsTableRules p → HaveSafeBoxes p → (k : ℕ) (plant : PlantInfo) → At p.plants k plant → safe_of p.modules k ≢ []
safe_some p rules boxes k plant at none =
    let m = rules.typed.named k plant at in
    let f = first_of p.modules k m.0 m.1 m.2 m.3 in
    boxes f.0 f.1 f.2 (sym f.3 ∙ none)

safe_hull_is : (p : Tables) → MeetsTableRules p → HaveSafeBoxes p → (k : ℕ) (plant : PlantInfo) → At p.plants k plant
    → (h : List Side) × IsHull (safe_of p.modules k) h
safe_hull_is p rules boxes k plant at =
    let m = rules.typed.named k plant at in
    let f = first_of p.modules k m.0 m.1 m.2 m.3 in
    let h = region_hull f.1.safe.boxes f.1.safe.width (boxes f.0 f.1 f.2) (rules.modules f.0 f.1 f.2).safe.each in
    (h.0, subst (λ q. IsHull q h.0) (sym f.3) h.1)

-- one list for each place of a list, as one list of them
each_place : {A : Type 0} (P : ℕ → List Side → Type 0) (y : A) (ys : List A) (h : List Side) (hs : List (List Side)) → P 0 h
    → ((k : ℕ) (x : A) → At ys k x → P (suc k) (slice_index_or hs k []))
    → (k : ℕ) (x : A) → At (y ∷ ys) k x → P k (slice_index_or (h ∷ hs) k [])
each_place P y ys h hs here rest zero x at = here
each_place P y ys h hs here rest (suc k) x at = rest k x at

collect : {A : Type 0} (P : ℕ → List Side → Type 0) (xs : List A) → ((k : ℕ) (x : A) → At xs k x → (h : List Side) × P k h)
    → (hs : List (List Side)) × (length hs ≡ length xs) × ((k : ℕ) (x : A) → At xs k x → P k (slice_index_or hs k []))
collect P [] f = ([], refl, λ k x at. absurd (none-some x at))
collect P (y ∷ ys) f =
    let h = f 0 y refl in
    let rest = collect (λ k. P (suc k)) ys (λ k x at. f (suc k) x at) in
    (h.0 ∷ rest.0, ap suc rest.1, each_place P y ys h.0 rest.0 h.1 rest.2)

-- all hulls at once
pub all_hulls : (p : Tables) → MeetsTableRules p → HaveSafeBoxes p → (hulls : List (List Side)) × AllHulls p hulls
all_hulls p rules boxes = (let hs = collect (λ k h. IsHull (safe_of p.modules k) h) p.plants (safe_hull_is p rules boxes) in (hs.0, (hs.1, hs.2)))
