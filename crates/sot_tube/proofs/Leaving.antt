-- A tube is inside a region or leaves it, and it leaves it in one way at most.
use Rattle.std.proofs.Common.{◌≡◌, ℕ, zero, suc, ⊎_elim, ◌⊎◌, List, [], ◌∷◌, Ok, Err, refl, sym, ap₂, ◌∙◌, subst, arith}
use Rattle.sot_lang.specs.declared.tables.PlantInfo.{PlantInfo}
use Rattle.sot_box.specs.Sides.{Side}
use Rattle.sot_box.specs.Regions.{IsHull, Covers}
use Rattle.sot_tube.specs.Tubes.{StaysInside, IsNextBox, TubeInside}
use Rattle.sot_tube.specs.Leaves.{Leave, GoesOut, Leaves, TubeLeaves}
use Rattle.sot_tube.specs.declared.leave.Leave.TheVariants.{Trap}
use Rattle.sot_iv.specs.declared.may_trap.MayTrap.{MayTrap}
use Rattle.sot_lang.specs.declared.tables.ModuleInfo.{ModuleInfo}
use Rattle.sot_lang.specs.Tables.{Tables}
use Rattle.sot_lang.specs.SafeRegions.{safe_of, AreHulls, AllHulls, joined_boxes}
use Rattle.sot_box.proofs.Laws.{gap_unique, gap_uncovered, hull_unique}
use Rattle.sot_lists.proofs.Places.{at_below, same_list}
use Rattle.std.proofs.lemmas.Option.{slice_get_within, get_or_from_slice_get}
use Rattle.sot_iv.proofs.Plants.{plant_same}

pub leaves_not : (plant : PlantInfo) (cs hs : List Side) (region : List (List Side)) (b : List Side) (n k : ℕ) (leave : Leave)
    → Leaves plant cs hs region b n k leave → StaysInside plant cs hs region b k → ⊥
leaves_not plant cs hs region b n zero leave l s = l.1.outside (s l.0 l.1.inside)
leaves_not plant cs hs region b n (suc k) leave l s =
    ⊎_elim
    (λ out. out.1.outside (s.0 out.0 out.1.inside))
    (λ more. ⊎_elim
    (λ trap. let e = plant_same plant b cs hs (Err trap.1) (Ok s.1.0) trap.2 s.1.1 in cc)
    (λ later.
    let e = plant_same plant b cs hs (Ok later.1) (Ok s.1.0) later.2 s.1.1 in
    let same : later.1 ≡ s.1.0 = cc in
    leaves_not plant cs hs region s.1.0 (suc n) k leave (subst (λ q. Leaves plant cs hs region q (suc n) k leave) same later.3) s.1.2)
    more)
    l

pub hulls_same : (ms : List ModuleInfo) (ks : List ℕ) (a b : List (List Side)) → AreHulls ms ks a → AreHulls ms ks b → a ≡ b
hulls_same ms [] [] [] h h' = refl
hulls_same ms (k ∷ ks) (x ∷ xs) (y ∷ ys) h h' = ap₂ (λ z zs. z ∷ zs) (hull_unique (safe_of ms k) x y h.0 h'.0) (hulls_same ms ks xs ys h.1 h'.1)
hulls_same ms [] (x ∷ xs) b h h' = absurd h
hulls_same ms [] [] (y ∷ ys) h h' = absurd h'
hulls_same ms (k ∷ ks) [] b h h' = absurd h
hulls_same ms (k ∷ ks) (x ∷ xs) [] h h' = absurd h'

pub all_hulls_same : (p : Tables) (a b : List (List Side)) → AllHulls p a → AllHulls p b → a ≡ b
all_hulls_same p a b h h' =
    same_list a b (h.0 ∙ sym h'.0) (λ k x y at_a at_b.
    let plant = at_below p.plants k (omega (arith, slice_get_within a k x at_a, h.0)) in
    let hx : IsHull (safe_of p.modules k) x = subst (IsHull (safe_of p.modules k)) (get_or_from_slice_get a k x [] at_a) (h.1 k plant.0 plant.1) in
    let hy : IsHull (safe_of p.modules k) y = subst (IsHull (safe_of p.modules k)) (get_or_from_slice_get b k y [] at_b) (h'.1 k plant.0 plant.1) in
    hull_unique (safe_of p.modules k) x y hx hy)

out_same : (region : List (List Side)) (box : List Side) (n : ℕ) (l l' : Leave) → GoesOut region box n l → GoesOut region box n l' → l ≡ l'
out_same region box n l l' h h' = let e = gap_unique region box h.0 h'.0 h.1 h'.1 in cc

-- a tube leaves in one way
pub leaves_same : (plant : PlantInfo) (cs hs : List Side) (region : List (List Side)) (b : List Side) (n k : ℕ) (l l' : Leave)
    → Leaves plant cs hs region b n k l → Leaves plant cs hs region b n k l' → l ≡ l'
leaves_same plant cs hs region b n zero l l' h h' = out_same region b n l l' h h'
leaves_same plant cs hs region b n (suc k) l l' h h' =
    ⊎_elim
    (λ out. ⊎_elim
    (λ out'. out_same region b n l l' out out')
    (λ more'. absurd (gap_uncovered region b out.0 out.1 (⊎_elim (λ trap'. trap'.0) (λ later'. later'.0) more'))) h')
    (λ more. ⊎_elim
    (λ out'. absurd (gap_uncovered region b out'.0 out'.1 (⊎_elim (λ trap. trap.0) (λ later. later.0) more)))
    (λ more'. goes_on (λ c x y. leaves_same plant cs hs region c (suc n) k l l' x y) more more') h')
    h
  where
    Goes : Leave → Type 0
    Goes m =
        (Covers region b × (t : MayTrap) × IsNextBox plant b cs hs (Err t) × (m ≡ Trap n t.at))
        ⊎ (Covers region b × (c : List Side) × IsNextBox plant b cs hs (Ok c) × Leaves plant cs hs region c (suc n) k m)

    goes_on : ((c : List Side) → Leaves plant cs hs region c (suc n) k l → Leaves plant cs hs region c (suc n) k l' → l ≡ l') → Goes l → Goes l' → l ≡ l'
    goes_on rest more more' =
        ⊎_elim
        (λ trap. ⊎_elim
        (λ trap'. let e = plant_same plant b cs hs (Err trap.1) (Err trap'.1) trap.2 trap'.2 in cc)
        (λ later'. let e = plant_same plant b cs hs (Err trap.1) (Ok later'.1) trap.2 later'.2 in cc) more')
        (λ later. ⊎_elim
        (λ trap'. let e = plant_same plant b cs hs (Ok later.1) (Err trap'.1) later.2 trap'.2 in cc)
        (λ later'. let e = plant_same plant b cs hs (Ok later.1) (Ok later'.1) later.2 later'.2 in
        let same : later.1 ≡ later'.1 = cc in
        rest later'.1 (subst (λ q. Leaves plant cs hs region q (suc n) k l) same later.3) later'.3) more')
        more

module _ (p : Tables) (plant : PlantInfo) (cs : List Side) (region : List (List Side)) (b : List Side) (k : ℕ) where
  pub tube_leaves_not : (l : Leave) → TubeLeaves p plant cs region b k l → TubeInside p plant cs region b k → ⊥
  tube_leaves_not l h inside =
      let e = hulls_same p.modules plant.sees.items h.hulls inside.hulls h.are inside.are in
      leaves_not plant cs (joined_boxes inside.hulls) region b 0 k l (subst (λ q. Leaves plant cs (joined_boxes q) region b 0 k l) e h.leaves) inside.stays

  pub tube_leaves_same : (l l' : Leave) → TubeLeaves p plant cs region b k l → TubeLeaves p plant cs region b k l' → l ≡ l'
  tube_leaves_same l l' h h' =
      let e = hulls_same p.modules plant.sees.items h.hulls h'.hulls h.are h'.are in
      leaves_same plant cs (joined_boxes h'.hulls) region b 0 k l l' (subst (λ q. Leaves plant cs (joined_boxes q) region b 0 k l) e h.leaves) h'.leaves
