-- Boxes and points by their coordinates.
use Rattle.std.proofs.Common.{◌≡◌, ℕ, zero, suc, ◌<◌, ◌≤◌, ℤ, pos, ◌≤ℤ◌, ◌<ℤ◌, inl, inr, List, [], ◌∷◌, length, slice_get, Some, get_or, ◌+◌, ◌++◌, ◌∙◌, take}
use Rattle.std.proofs.Common.{arith, refl, sym, ap, subst, Option, None, Bool, MatchOption, is_some, IsTrue, add-one}
use Rattle.std.proofs.lemmas.List.{take_more_set, take_more, length-map}
use Rattle.std.proofs.Math.ListN.{set}
use Rattle.std.proofs.lemmas.Option.{slice_get_read}
use Rattle.sot_box.specs.Sides.{Side, AreOrdered}
use Rattle.sot_lists.specs.Places.{At}
use Rattle.sot_box.specs.Boxes.{IsWithin, IsBefore, lows, highs}
use Rattle.sot_box.specs.Regions.{IsInRegion, Covers, CoversAll, IsGap, IsFirstGap}
use Rattle.sot_box.specs.Sweep.{HoldsAt, coordinate}

pub within-width : (b : List Side) (t : List ℤ) → IsWithin b t → length t ≡ length b
within-width [] [] w = refl
within-width (r ∷ rs) (x ∷ xs) w = omega (arith, within-width rs xs w.2)
within-width [] (x ∷ xs) w = absurd w
within-width (r ∷ rs) [] w = absurd w

pub within-low : (b : List Side) (t : List ℤ) (k : ℕ) → IsWithin b t → k < length b → coordinate (lows b) k ≤ℤ coordinate t k
within-low [] t k w lt = absurd (omega arith)
within-low (r ∷ rs) [] k w lt = absurd w
within-low (r ∷ rs) (x ∷ xs) zero w lt = w.0
within-low (r ∷ rs) (x ∷ xs) (suc k) w lt = within-low rs xs k w.2 (omega arith)

pub within-high : (b : List Side) (t : List ℤ) (k : ℕ) → IsWithin b t → k < length b → coordinate t k ≤ℤ coordinate (highs b) k
within-high [] t k w lt = absurd (omega arith)
within-high (r ∷ rs) [] k w lt = absurd w
within-high (r ∷ rs) (x ∷ xs) zero w lt = w.1
within-high (r ∷ rs) (x ∷ xs) (suc k) w lt = within-high rs xs k w.2 (omega arith)

pub within-from : (b : List Side) (t : List ℤ) → length t ≡ length b
    → ((k : ℕ) → k < length b → coordinate (lows b) k ≤ℤ coordinate t k)
    → ((k : ℕ) → k < length b → coordinate t k ≤ℤ coordinate (highs b) k)
    → IsWithin b t
within-from [] [] e low high = tt
within-from (r ∷ rs) (x ∷ xs) e low high = (
  low zero (omega arith),
  high zero (omega arith),
  within-from rs xs (omega arith) (λ k lt. low (suc k) (omega arith)) (λ k lt. high (suc k) (omega arith)),
)
within-from [] (x ∷ xs) e low high = absurd (omega arith)
within-from (r ∷ rs) [] e low high = absurd (omega arith)

pub lows-at : (b : List Side) (k : ℕ) (r : Side) → slice_get b k ≡ Some r → coordinate (lows b) k ≡ r.lo
lows-at [] k r is = absurd (cc)
lows-at (s ∷ b) zero r is = let e : s ≡ r = cc in ap (λ i. i.lo) e
lows-at (s ∷ b) (suc k) r is = lows-at b k r is

pub highs-at : (b : List Side) (k : ℕ) (r : Side) → slice_get b k ≡ Some r → coordinate (highs b) k ≡ r.hi
highs-at [] k r is = absurd (cc)
highs-at (s ∷ b) zero r is = let e : s ≡ r = cc in ap (λ i. i.hi) e
highs-at (s ∷ b) (suc k) r is = highs-at b k r is

-- the first coordinate in which a point before another differs
pub before-first : (s t : List ℤ) → IsBefore s t
    → (k : ℕ) × (k < length s) × (coordinate s k <ℤ coordinate t k) × ((j : ℕ) → j < k → coordinate s j ≡ coordinate t j)
before-first [] t h = absurd h
before-first (x ∷ xs) [] h = absurd h
before-first (x ∷ xs) (y ∷ ys) h = elim h [
  | inl lt ↦ (zero, omega arith, lt, λ j below. absurd (omega arith))
  | inr same ↦ let r = before-first xs ys same.1 in (suc r.0, omega (arith, r.1), r.2, along x y xs ys r.0 same.0 r.3)
]
  where
    along : (x y : ℤ) (xs ys : List ℤ) (k : ℕ) → x ≡ y → ((j : ℕ) → j < k → coordinate xs j ≡ coordinate ys j)
        → (j : ℕ) → j < suc k → coordinate (x ∷ xs) j ≡ coordinate (y ∷ ys) j
    along x y xs ys k e h zero below = e
    along x y xs ys k e h (suc j) below = h j (omega arith)

pub before-from : (s t : List ℤ) (k : ℕ) → length s ≡ length t → k < length s → coordinate s k <ℤ coordinate t k
    → ((j : ℕ) → j < k → coordinate s j ≡ coordinate t j) → IsBefore s t
before-from [] t k e lt less same = absurd (omega arith)
before-from (x ∷ xs) [] k e lt less same = absurd (omega arith)
before-from (x ∷ xs) (y ∷ ys) zero e lt less same = inl less
before-from (x ∷ xs) (y ∷ ys) (suc k) e lt less same =
    inr (same zero (omega arith), before-from xs ys k (omega arith) (omega arith) less (λ j below. same (suc j) (omega arith)))

-- one more coordinate is written
pub more-written : (xs ys : List ℤ) (i : ℕ) (x : ℤ) → i < length xs → i < length ys → coordinate ys i ≡ x → take i xs ≡ take i ys
    → take (i + 1) (set xs i x) ≡ take (i + 1) ys
more-written xs ys i x lt lt' e same =
    take_more_set xs i x lt ∙ ap (λ zs. zs ++ x ∷ []) same ∙ ap (λ z. take i ys ++ z ∷ []) (sym e) ∙ sym (take_more ys i (pos 0) lt')

pub lows-width : (b : List Side) → length (lows b) ≡ length b
lows-width b = length-map b _

pub highs-width : (b : List Side) → length (highs b) ≡ length b
highs-width b = length-map b _

pub in-order : (b : List Side) → AreOrdered b → (k : ℕ) → k < length b → coordinate (lows b) k ≤ℤ coordinate (highs b) k
in-order [] o k lt = absurd (omega arith)
in-order (r ∷ rs) o zero lt = o.0
in-order (r ∷ rs) o (suc k) lt = in-order rs o.1 k (omega arith)

-- a region by the places of its boxes
pub in-region : (boxes : List (List Side)) (i : ℕ) (t : List ℤ) → HoldsAt boxes i t → IsInRegion boxes t
in-region [] i t h = absurd (nothing i h.0 h.1)
  where
    nothing : (i : ℕ) (b : List Side) → slice_get [] i ≡ Some b → ⊥
    nothing i b e = cc
in-region (b ∷ bs) zero t h = inl (let e : b ≡ h.0 = same b h.0 bs h.1 in subst (λ (x : List Side). IsWithin x t) (sym e) h.2)
  where
    same : (b c : List Side) (bs : List (List Side)) → slice_get (b ∷ bs) zero ≡ Some c → b ≡ c
    same b c bs e = cc
in-region (b ∷ bs) (suc i) t h = inr (in-region bs i t h)

pub region-place : (boxes : List (List Side)) (t : List ℤ) → IsInRegion boxes t → (i : ℕ) × (i < length boxes) × HoldsAt boxes i t
region-place [] t h = absurd h
region-place (b ∷ bs) t h = elim h [
  | inl w ↦ (zero, omega arith, (b, refl, w))
  | inr r ↦ let q = region-place bs t r in (suc q.0, omega (arith, q.1), q.2)
]

pub some-when : {P : Type 0} {Q : ℕ → Type 0} (o : Option ℕ) (b : Bool) → MatchOption o (P → ⊥) Q → b ≡ is_some o → ((i : ℕ) → Q i → P)
    → (IsTrue b → P) × (P → IsTrue b)
some-when None b m e f = (λ t. absurd (cc), λ p. absurd (m p))
some-when (Some i) b m e f = (λ t. f i m, λ p. e)

-- a list of boxes of which the region covers the first i
pub covers-more : (boxes region : List (List Side)) (i : ℕ) (b : List Side) → slice_get boxes i ≡ Some b
    → CoversAll (take i boxes) region → Covers region b → CoversAll (take (i + 1) boxes) region
covers-more boxes region i b e c d = rw add-one (go boxes i e c)
  where
    nothing : (i : ℕ) (b : List Side) → slice_get [] i ≡ Some b → ⊥
    nothing i b e = cc

    same : (b c : List Side) (bs : List (List Side)) → slice_get (b ∷ bs) zero ≡ Some c → c ≡ b
    same b c bs e = cc

    go : (boxes : List (List Side)) (i : ℕ) → slice_get boxes i ≡ Some b → CoversAll (take i boxes) region → CoversAll (take (suc i) boxes) region
    go [] i e c = tt
    go (x ∷ xs) zero e c = (subst (λ (y : List Side). Covers region y) (same x b xs e) d, tt)
    go (x ∷ xs) (suc i) e c = (c.0, go xs i e c.1)

pub first-gap : (boxes region : List (List Side)) (i : ℕ) (b : List Side) (s : List ℤ) → slice_get boxes i ≡ Some b
    → CoversAll (take i boxes) region → IsGap region b s → IsFirstGap boxes region s
first-gap [] region i b s e c g = absurd (nothing i b e)
  where
    nothing : (i : ℕ) (b : List Side) → slice_get [] i ≡ Some b → ⊥
    nothing i b e = cc
first-gap (x ∷ xs) region zero b s e c g = inl (subst (λ (y : List Side). IsGap region y s) (same x b xs e) g)
  where
    same : (b c : List Side) (bs : List (List Side)) → slice_get (b ∷ bs) zero ≡ Some c → c ≡ b
    same b c bs e = cc
first-gap (x ∷ xs) region (suc i) b s e c g = inr (c.0, first-gap xs region i b s e c.1 g)

pub placed : (items boxes : List (List Side)) (i : ℕ) (b : List Side) → items ≡ boxes → i < length items → b ≡ get_or items i b → At boxes i b
placed items boxes i b e lt is = rw (← e) (slice_get_read items (length items) i b refl lt is)

pub covers-all : (items boxes region : List (List Side)) (i : ℕ) → items ≡ boxes → length items ≤ i → CoversAll (take i boxes) region → CoversAll boxes region
covers-all items boxes region i e le c =
    let long : length boxes ≤ i = omega (arith, ap length e) in
    subst (λ (bs : List (List Side)). CoversAll bs region) (take-all boxes i long) c
  where
    take-all : (bs : List (List Side)) (i : ℕ) → length bs ≤ i → take i bs ≡ bs
    take-all [] zero le = refl
    take-all [] (suc i) le = refl
    take-all (b ∷ bs) zero le = absurd (omega arith)
    take-all (b ∷ bs) (suc i) le = ap (λ xs. b ∷ xs) (take-all bs i (omega arith))
