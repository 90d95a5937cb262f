-- What a list of cells covers, and where it fails.
use Rattle.std.proofs.Common.{◌≡◌, ℕ, zero, suc, ◌⊎◌, inl, inr, ⊎_elim, ℤ, List, [], ◌∷◌, ◌++◌, refl, sym, ap, subst}
use Rattle.std.proofs.lemmas.Option.{none-some, same_Some}
use Rattle.sot_box.specs.Sides.{Side}
use Rattle.sot_box.specs.Boxes.{IsWithin, lows, point_box}
use Rattle.sot_box.specs.Regions.{IsInRegion}
use Rattle.sot_lists.specs.Places.{At}
use Rattle.sot_certify.specs.Findings.{Finding, Whole, Failing, Begun, behind, followed, BisectsWithin, BisectsEach}
use Rattle.sot_certify.specs.HalvingLaws.{IsCover}
use Rattle.sot_certify.proofs.Cuts.{in_halves, low_inside, high_inside, point_is, point_inside}

in_first : (a b : List (List Side)) (s : List ℤ) → IsInRegion a s → IsInRegion (a ++ b) s
in_first [] b s i = absurd i
in_first (x ∷ xs) b s (inl w) = inl w
in_first (x ∷ xs) b s (inr i) = inr (in_first xs b s i)

in_second : (a b : List (List Side)) (s : List ℤ) → IsInRegion b s → IsInRegion (a ++ b) s
in_second [] b s i = i
in_second (x ∷ xs) b s i = inr (in_second xs b s i)

in_either : (a b : List (List Side)) (s : List ℤ) → IsInRegion (a ++ b) s → IsInRegion a s ⊎ IsInRegion b s
in_either [] b s i = inr i
in_either (x ∷ xs) b s (inl w) = inl (inl w)
in_either (x ∷ xs) b s (inr i) = ⊎_elim (λ h. inl (inr h)) (λ h. inr h) (in_either xs b s i)

abbrev AllGood : (List Side → Type 0) → List (List Side) → Type 0
AllGood Good cells = (i : ℕ) (cell : List Side) → At cells i cell → Good cell

all_good : (Good : List Side → Type 0) (a b : List (List Side)) → AllGood Good a → AllGood Good b → (i : ℕ) (cell : List Side) → At (a ++ b) i cell → Good cell
all_good Good [] b h k i cell at = k i cell at
all_good Good (x ∷ xs) b h k zero cell at = h zero cell at
all_good Good (x ∷ xs) b h k (suc i) cell at = all_good Good xs b (λ j. h (suc j)) k i cell at

joined : (Good : List Side → Type 0) (p q boxes a b : List (List Side)) → IsCover Good p a → IsCover Good q b
    → ((s : List ℤ) → IsInRegion boxes s → IsInRegion p s ⊎ IsInRegion q s) → ((s : List ℤ) → IsInRegion p s ⊎ IsInRegion q s → IsInRegion boxes s)
    → IsCover Good boxes (a ++ b)
joined Good p q boxes a b h k to from = record {
  holds = λ s i. ⊎_elim (λ x. in_first a b s (h.holds s x)) (λ y. in_second a b s (k.holds s y)) (to s i);
  inside = λ s i. from s (⊎_elim (λ x. inl (h.inside s x)) (λ y. inr (k.inside s y)) (in_either a b s i));
  good = all_good Good a b h.good k.good;
}

-- two parts that are whole together
record Parts (f g : Finding) (cells : List (List Side)) : Type 0 where
  first : List (List Side)
  second : List (List Side)
  f_is : f ≡ Whole first
  g_is : g ≡ Whole second
  is : cells ≡ first ++ second

behind_whole : (cs : List (List Side)) (g : Finding) (cells : List (List Side)) → Whole cells ≡ behind cs g → Parts (Whole cs) g cells
behind_whole cs (Whole ds) cells e = record { first = cs; second = ds; f_is = refl; g_is = refl; is = cc }
behind_whole cs (Failing ds s) cells e = absurd (cc)
behind_whole cs (Begun ds) cells e = absurd (cc)

parts : (f g : Finding) (cells : List (List Side)) → Whole cells ≡ followed f g → Parts f g cells
parts (Whole cs) g cells e = behind_whole cs g cells e
parts (Failing cs s) g cells e = absurd (cc)
parts (Begun cs) g cells e = absurd (cc)

one_box : (Good : List Side → Type 0) (box : List Side) → Good box → IsCover Good (box ∷ []) (box ∷ [])
one_box Good box good = record {
  holds = λ s i. i;
  inside = λ s i. i;
  good = alone;
}
  where
    alone : (i : ℕ) (cell : List Side) → At (box ∷ []) i cell → Good cell
    alone zero cell at = subst Good (same_Some box cell at) good
    alone (suc i) cell at = absurd (none-some cell at)

whole_box : (Good : List Side → Type 0) (n : ℕ) (box : List Side) (cells : List (List Side)) → BisectsWithin Good n box (Whole cells)
    → IsCover Good (box ∷ []) cells
whole_box Good zero box cells h = absurd (cc)
whole_box Good (suc n) box cells (inl h) = absurd (cc)
whole_box Good (suc n) box cells (inr (inl h)) = subst (IsCover Good (box ∷ [])) (sym (same h.1)) (one_box Good box h.0)
  where
    same : Whole cells ≡ Whole (box ∷ []) → cells ≡ box ∷ []
    same e = cc
whole_box Good (suc n) box cells (inr (inr (inl h))) = (let e = h.2 in absurd (cc))
whole_box Good (suc n) box cells (inr (inr (inr h))) =
    let p = parts h.4 h.5 cells h.8 in
    let low = whole_box Good n h.1 p.first (subst (BisectsWithin Good n h.1) p.f_is h.6) in
    let high = whole_box Good n h.2 p.second (subst (BisectsWithin Good n h.2) p.g_is h.7) in
    subst (IsCover Good (box ∷ [])) (sym p.is)
    (joined Good (h.1 ∷ []) (h.2 ∷ []) (box ∷ []) p.first p.second low high
    (λ s i. ⊎_elim (λ w. ⊎_elim (λ l. inl (inl l)) (λ r. inr (inl r)) (in_halves box h.1 h.2 h.3 s w)) (λ no'. absurd no') i)
    (λ s i. ⊎_elim (λ l. ⊎_elim (λ w. inl (low_inside box h.1 h.2 h.3 s w)) (λ no'. absurd no') l)
    (λ r. ⊎_elim (λ w. inl (high_inside box h.1 h.2 h.3 s w)) (λ no'. absurd no') r) i))

pub whole_each : (Good : List Side → Type 0) (boxes cells : List (List Side)) → BisectsEach Good boxes (Whole cells) → IsCover Good boxes cells
whole_each Good [] cells (inl h) = absurd (cc)
whole_each Good [] cells (inr h) =
    (let same : cells ≡ [] = cc in subst (IsCover Good []) (sym same)
    (record { holds = λ s i. i; inside = λ s i. i; good = λ i cell at. absurd (none-some cell at) }))
whole_each Good (b ∷ bs) cells h =
    let p = parts h.0 h.1 cells h.4 in
    let one = whole_box Good h.2.0 b p.first (subst (BisectsWithin Good h.2.0 b) p.f_is h.2.1) in
    let rest = whole_each Good bs p.second (subst (BisectsEach Good bs) p.g_is h.3) in
    subst (IsCover Good (b ∷ bs)) (sym p.is)
    (joined Good (b ∷ []) bs (b ∷ bs) p.first p.second one rest
    (λ s i. ⊎_elim (λ w. inl (inl w)) (λ r. inr r) i)
    (λ s i. ⊎_elim (λ l. ⊎_elim (λ w. inl w) (λ no'. absurd no') l) (λ r. inr r) i))

-- where a point fails in one part or the next
record FailsIn (P Q : List (List Side) → Type 0) : Type 0 where
  cells : List (List Side)
  which : P cells ⊎ Q cells

behind_failing : (cs : List (List Side)) (g : Finding) (cells : List (List Side)) (s : List ℤ) → Failing cells s ≡ behind cs g
    → FailsIn (λ ds. Whole cs ≡ Failing ds s) (λ ds. g ≡ Failing ds s)
behind_failing cs (Whole ds) cells s e = absurd (cc)
behind_failing cs (Failing ds t) cells s e = record { cells = ds; which = inr (let same : t ≡ s = cc in ap (λ x. Failing ds x) same) }
behind_failing cs (Begun ds) cells s e = absurd (cc)

fails_in : (f g : Finding) (cells : List (List Side)) (s : List ℤ) → Failing cells s ≡ followed f g → FailsIn (λ ds. f ≡ Failing ds s) (λ ds. g ≡ Failing ds s)
fails_in (Whole cs) g cells s e = behind_failing cs g cells s e
fails_in (Failing cs t) g cells s e = record { cells = cs; which = inl (let same : t ≡ s = cc in ap (λ x. Failing cs x) same) }
fails_in (Begun cs) g cells s e = absurd (cc)

failing_box : (Good : List Side → Type 0) (n : ℕ) (box : List Side) (cells : List (List Side)) (s : List ℤ) → BisectsWithin Good n box (Failing cells s)
    → IsWithin box s × (Good (point_box s) → ⊥)
failing_box Good zero box cells s h = absurd (cc)
failing_box Good (suc n) box cells s (inl h) = absurd (cc)
failing_box Good (suc n) box cells s (inr (inl h)) = (let e = h.1 in absurd (cc))
failing_box Good (suc n) box cells s (inr (inr (inl h))) =
    let same : s ≡ lows box = last h.2 in
    subst (λ t. IsWithin box t × (Good (point_box t) → ⊥)) (sym same) (point_inside box h.1, λ good. h.0 (subst Good (sym (point_is box h.1)) good))
  where
    last : Failing cells s ≡ Failing [] (lows box) → s ≡ lows box
    last e = cc
failing_box Good (suc n) box cells s (inr (inr (inr h))) =
    let f = fails_in h.4 h.5 cells s h.8 in
    ⊎_elim
    (λ e. let low = failing_box Good n h.1 f.cells s (subst (BisectsWithin Good n h.1) e h.6) in (low_inside box h.1 h.2 h.3 s low.0, low.1))
    (λ e. let high = failing_box Good n h.2 f.cells s (subst (BisectsWithin Good n h.2) e h.7) in (high_inside box h.1 h.2 h.3 s high.0, high.1))
    f.which

pub failing_each : (Good : List Side → Type 0) (boxes cells : List (List Side)) (s : List ℤ) → BisectsEach Good boxes (Failing cells s)
    → IsInRegion boxes s × (Good (point_box s) → ⊥)
failing_each Good [] cells s (inl h) = absurd (cc)
failing_each Good [] cells s (inr h) = absurd (cc)
failing_each Good (b ∷ bs) cells s h =
    let f = fails_in h.0 h.1 cells s h.4 in
    ⊎_elim
    (λ e. let one = failing_box Good h.2.0 b f.cells s (subst (BisectsWithin Good h.2.0 b) e h.2.1) in (inl one.0, one.1))
    (λ e. let rest = failing_each Good bs f.cells s (subst (BisectsEach Good bs) e h.3) in (inr rest.0, rest.1))
    f.which
