-- A region covers a box, or has a least point there that it misses.
use Rattle.std.proofs.Common.{◌≡◌, ℕ, zero, suc, ℤ, pos, negsuc, ◌+ℤ◌, ◌-ℤ◌, ◌≤ℤ◌, ◌<ℤ◌, ◌⊎◌, ⊎_elim, inl, inr, List, [], ◌∷◌, refl, sym, subst, arith}
use Rattle.std.proofs.lemmas.Int.{ints, by_lt_z}
use Rattle.sot_box.specs.Sides.{Side, IsIn}
use Rattle.sot_box.specs.Boxes.{IsWithin, IsBefore}
use Rattle.sot_box.specs.Regions.{IsInRegion, Covers, IsGap}
use Rattle.sot_box.proofs.Ranges.{all_without_axes, all_by_first}
use Rattle.sot_world.proofs.Progress.{region_cases}

-- the first number from x on, before a bound, of which B holds: of all before it A does
record First (A B : ℤ → Type 0) (x bound : ℤ) : Type 0 where
  number : ℤ
  low : x ≤ℤ number
  high : number <ℤ bound
  here : B number
  before : (z : ℤ) → x ≤ℤ z → z <ℤ number → A z

module _ (A B : ℤ → Type 0) (each : (z : ℤ) → A z ⊎ B z) where
  one_more : (x : ℤ) → A x → (z : ℤ) → ((x +ℤ pos 1) ≤ℤ z → A z) → x ≤ℤ z → A z
  one_more x here z rest low =
      by_lt_z x z
      (λ above. rest (omega (arith, ints, above)))
      (λ below. let same : x ≡ z = omega (arith, ints, low, below) in subst A same here)

  -- of n numbers
  first_of : (n : ℕ) (x : ℤ) → ((z : ℤ) → x ≤ℤ z → z <ℤ (x +ℤ pos n) → A z) ⊎ First A B x (x +ℤ pos n)
  first_of zero x = inl (λ z low high. absurd (omega (arith, ints, low, high)))
  first_of (suc n) x =
      ⊎_elim
      (λ here. ⊎_elim
      (λ all. inl (λ z low high. one_more x here z (λ above. all z above (omega (arith, ints, high))) low))
      (λ f. inr (record {
        number = f.number;
        low = omega (arith, ints, f.low);
        high = omega (arith, ints, f.high);
        here = f.here;
        before = λ z low less. one_more x here z (λ above. f.before z above less) low;
      }))
      (first_of n (x +ℤ pos 1)))
      (λ out. inr (record {
        number = x;
        low = omega (arith, ints);
        high = omega (arith, ints);
        here = out;
        before = λ z low less. absurd (omega (arith, ints, low, less));
      }))
      (each x)

  -- of an interval
  first_in : (r : Side) → ((z : ℤ) → IsIn r z → A z) ⊎ First A B r.lo (r.hi +ℤ pos 1)
  first_in r = by_size (r.hi -ℤ r.lo) refl
    where
      by_size : (d : ℤ) → r.hi -ℤ r.lo ≡ d → ((z : ℤ) → IsIn r z → A z) ⊎ First A B r.lo (r.hi +ℤ pos 1)
      by_size (negsuc n) size = inl (λ z i. absurd (omega (arith, ints, size, i.0, i.1)))
      by_size (pos n) size =
          ⊎_elim
          (λ all. inl (λ z i. all z i.0 (omega (arith, ints, size, i.1))))
          (λ f. inr (record { number = f.number; low = f.low; high = omega (arith, ints, size, f.high); here = f.here; before = f.before }))
          (first_of (suc n) r.lo)

-- the least point of a box of which P does not hold
record IsLeastWithout (P : List ℤ → Type 0) (box : List Side) (s : List ℤ) : Type 0 where
  inside : IsWithin box s
  missed : P s → ⊥
  least : (t : List ℤ) → IsWithin box t → IsBefore t s → P t

none_before : (P : List ℤ → Type 0) (t : List ℤ) → IsBefore t [] → P t
none_before P [] before = absurd before
none_before P (x ∷ xs) before = absurd before

least_by_first : (P : List ℤ → Type 0) (r : Side) (rs : List Side) (z : ℤ) (s : List ℤ)
    → ((y : ℤ) → r.lo ≤ℤ y → y <ℤ z → (t : List ℤ) → IsWithin rs t → P (y ∷ t)) → IsLeastWithout (λ t. P (z ∷ t)) rs s
    → (t : List ℤ) → IsWithin (r ∷ rs) t → IsBefore t (z ∷ s) → P t
least_by_first P r rs z s earlier least [] w before = absurd w
least_by_first P r rs z s earlier least (y ∷ ys) w before =
    ⊎_elim (λ less. earlier y w.0 less ys w.2) (λ same. subst (λ q. P (q ∷ ys)) (sym same.0) (least.least ys w.2 same.1)) before

all_or_least : (box : List Side) (P : List ℤ → Type 0) → ((s : List ℤ) → P s ⊎ (P s → ⊥))
    → ((s : List ℤ) → IsWithin box s → P s) ⊎ ((s : List ℤ) × IsLeastWithout P box s)
all_or_least [] P each =
    ⊎_elim
    (λ here. inl (all_without_axes P here))
    (λ not. inr ([], record { inside = tt; missed = not; least = λ t w before. none_before P t before }))
    (each [])
all_or_least (r ∷ rs) P each =
    ⊎_elim
    (λ all. inl (all_by_first P r rs all))
    (λ f. inr (
      f.number ∷ f.here.0,
      record {
        inside = (f.low, omega (arith, ints, f.high), f.here.1.inside);
        missed = f.here.1.missed;
        least = least_by_first P r rs f.number f.here.0 f.before f.here.1;
      },
    ))
    (first_in (λ z. (s : List ℤ) → IsWithin rs s → P (z ∷ s)) (λ z. (s : List ℤ) × IsLeastWithout (λ t. P (z ∷ t)) rs s)
    (λ z. all_or_least rs (λ t. P (z ∷ t)) (λ t. each (z ∷ t))) r)

pub covers_or_gap : (region : List (List Side)) (box : List Side) → Covers region box ⊎ ((s : List ℤ) × IsGap region box s)
covers_or_gap region box =
    ⊎_elim (λ all. inl all) (λ h. inr (h.0, record { inside = h.1.inside; outside = h.1.missed; least = h.1.least }))
    (all_or_least box (IsInRegion region) (region_cases region))
