-- The rank of a module, from what its cells and their ranks are.
use Rattle.std.proofs.Common.{◌≡◌, ℕ, ◌<◌, ◌≤◌, List, [], ◌∷◌, ◌++◌, Ok, Err, length, refl, sym, ap, ◌∙◌, subst, arith, take, drop}
use Rattle.std.specs.Prelude.{ℤ, Bool, Result, IfOk, IfErr}
use Rattle.std.proofs.lemmas.Option.{slice_get_within}
use Rattle.sot_lists.specs.Places.{At}
use Rattle.sot_lists.proofs.Places.{at_same, at_below}
use Rattle.sot_box.specs.Sides.{Side}
use Rattle.sot_box.specs.Regions.{IsFirstGap}
use Rattle.sot_lang.specs.declared.cert.Cert.{Cert}
use Rattle.sot_lang.specs.declared.tables.ModuleInfo.{ModuleInfo}
use Rattle.sot_lang.specs.Tables.{Tables}
use Rattle.sot_lang.specs.OwnerNames.{width_of}
use Rattle.sot_lang.specs.CertRules.{FitsTables, AreCellsOf}
use Rattle.sot_law_runs.specs.Holds.{Guarded}
use Rattle.sot_law_runs.specs.Ranks.{IsRank, HasNoRank}
use Rattle.sot_recover.specs.Meeting.{AreOfOneWidth}
use Rattle.sot_recover.specs.declared.fail.RecoverFail.{RecoverFail}
use Rattle.sot_recover.specs.declared.fail.RecoverFail.TheVariants.{Never, Memory}
use Rattle.sot_recover.specs.Answers.{IfNever}
use Rattle.sot_recover.specs.Near.{AreOfWidth}
use Rattle.sot_recover.specs.Chosen.{chosen, IsLeastCover}
use Rattle.sot_recover.specs.Surveys.{IsSurveyed}
use Rattle.sot_recover.specs.Found.{AreRanksOf}
use Rattle.sot_recover.proofs.Reached.{is_rank, no_rank}

-- what is written over the whole of a list is what is there
pub vec_whole : {A : Type 0} (new old : List A) (len : ℕ) → length new ≡ length old → len ≡ length old → take len (new ++ drop (length new) old) ≡ new
vec_whole {A} new old len same is = subst (λ n. take n (new ++ drop (length new) old) ≡ new) (same ∙ sym is) (front new (drop (length new) old))
  where
    front : (xs ys : List A) → take (length xs) (xs ++ ys) ≡ xs
    front [] ys = refl
    front (x ∷ xs) ys = ap (λ l. x ∷ l) (front xs ys)

-- what follows from an answer
pub if_ok_map : (r : Result ℕ RecoverFail) (P Q : ℕ → Type 0) → ((n : ℕ) → P n → Q n) → IfOk r P → IfOk r Q
if_ok_map (Ok n) P Q f h = f n h
if_ok_map (Err e) P Q f h = h

pub if_never_map : (r : Result ℕ RecoverFail) (P Q : List ℤ → Type 0) → ((s : List ℤ) → P s → Q s) → IfErr r (λ f. IfNever f P) → IfErr r (λ f. IfNever f Q)
if_never_map (Ok n) P Q f h = h
if_never_map (Err (Never s)) P Q f h = f s h
if_never_map (Err Memory) P Q f h = h

module _ (p : Tables) (cert : Cert) (m : ℕ) (fits : FitsTables p cert) where
  fit : (g : Guarded p cert m) → AreCellsOf p g.info.plant g.cells.closed
  fit g = fits.closed m g.info g.cells g.info_is g.cells_are

  module _ (g : Guarded p cert m) (cells : List (List Side)) (cells_are : cells ≡ g.cells.closed.boxes) where
    pub width_at_place : (i : ℕ) (b : List Side) → At cells i b → length b ≡ width_of p.plants g.info.plant
    width_at_place i b at = ((fit g).each i b (subst (λ l. At l i b) cells_are at)).0 ∙ (fit g).width

    pub one_width : AreOfOneWidth cells
    one_width i j b c at_b at_c = width_at_place i b at_b ∙ sym (width_at_place j c at_c)

    pub few_cells : length cells ≤ 4096
    few_cells = (let n = (fit g).boxes in let e = ap length cells_are in omega (arith, n, e))

    pub hulls_one_width : (n : ℕ) (hulls : List (List Side)) (set : List Bool) (leaving : List ℕ) → n ≡ length cells
        → IsSurveyed p cert m n cells hulls set leaving → AreOfOneWidth hulls
    hulls_one_width n hulls set leaving all s i j b c at_b at_c = of_hull i b at_b ∙ sym (of_hull j c at_c)
      where
        of_hull : (k : ℕ) (h : List Side) → At hulls k h → length h ≡ width_of p.plants g.info.plant
        of_hull k h at_h =
            let lt : k < length cells = (let a = slice_get_within hulls k h at_h in let d = s.hulls_count in omega (arith, a, d, all)) in
            let cell = at_below cells k lt in
            (s.hulls_are g k cell.0 h cell.1 at_h).width ∙ width_at_place k cell.0 cell.1

  module _ (info : ModuleInfo) (at : At p.modules m info) (cells : List (List Side)) (cells_are : (g : Guarded p cert m) → cells ≡ g.cells.closed.boxes)
      (ranks : List ℕ) (ranks_are : (g : Guarded p cert m) → AreRanksOf g ranks) where
    pub few_ranks : Guarded p cert m → length ranks ≤ 4096
    few_ranks g = (let a = (ranks_are g).count in let b = (fit g).boxes in omega (arith, a, b))

    pub ranks_count : Guarded p cert m → length ranks ≡ length cells
    ranks_count g = (ranks_are g).count ∙ sym (ap length (cells_are g))

    same_info : (g : Guarded p cert m) → info ≡ g.info
    same_info g = at_same p.modules m info g.info at g.info_is

    pub widths_are : (g : Guarded p cert m) → AreOfWidth (width_of p.plants info.plant) cells
    widths_are g i b at_b = width_at_place g cells (cells_are g) i b at_b ∙ ap (λ (a : ModuleInfo). width_of p.plants a.plant) (sym (same_info g))

    pub to_rank : (top n : ℕ) → top ≡ length ranks → IsLeastCover info.safe.boxes cells ranks top n → (g : Guarded p cert m) → IsRank g n
    to_rank top n all h g = is_rank g ranks (ranks_are g) (few_ranks g) n
        (subst (λ t. IsLeastCover g.info.safe.boxes g.cells.closed.boxes ranks t n) all
        (subst (λ cs. IsLeastCover g.info.safe.boxes cs ranks top n) (cells_are g)
        (subst (λ (a : ModuleInfo). IsLeastCover a.safe.boxes cells ranks top n) (same_info g) h)))

    pub to_none : (top : ℕ) (s : List ℤ) → top ≡ length ranks → IsFirstGap info.safe.boxes (chosen cells ranks top) s → (g : Guarded p cert m) → HasNoRank g s
    to_none top s all h g = no_rank g ranks (ranks_are g) (few_ranks g) s
        (subst (λ t. IsFirstGap g.info.safe.boxes (chosen g.cells.closed.boxes ranks t) s) all
        (subst (λ cs. IsFirstGap g.info.safe.boxes (chosen cs ranks top) s) (cells_are g)
        (subst (λ (a : ModuleInfo). IsFirstGap a.safe.boxes (chosen cells ranks top) s) (same_info g) h)))

-- what is said of equal tables and certificates
pub moved : (Says : Tables → Cert → Type 0) (p q : Tables) (c d : Cert) → p ≡ q → c ≡ d → Says p c → Says q d
moved Says p q c d same_p same_c h = subst (λ x. Says q x) same_c (subst (λ t. Says t c) same_p h)
