-- The part at a place is one formula.
use Rattle.std.proofs.Common.{◌≡◌, ◌∙◌, ℕ, List, refl, sym, ap, ap₂, subst}
use Rattle.sot_lists.specs.Places.{At}
use Rattle.sot_lists.proofs.Places.{at_same}
use Rattle.sot_formula.specs.declared.what.What.{What}
use Rattle.sot_formula.specs.declared.what.What.TheVariants as whats
use Rattle.sot_formula.specs.Formulas.{Formula, Truth, Compared, Against, Paired, Not, And, Or, Implies, Once, Always, Since, Within}
use Rattle.sot_formula.specs.Parts.{IsPart}

-- which formula it is, by what stands there
abbrev Shape : List What → What → Formula → Type 0
Shape ws (whats.Truth value) g = g ≡ Truth value
Shape ws (whats.Compared of by number) g = g ≡ Compared of by number
Shape ws (whats.Against of by other) g = g ≡ Against of by other
Shape ws (whats.Paired first pairing second by number) g = g ≡ Paired first pairing second by number
Shape ws (whats.Not k) g = (a : Formula) × IsPart ws k a × (g ≡ Not a)
Shape ws (whats.And k n) g = (a b : Formula) × IsPart ws k a × IsPart ws n b × (g ≡ And a b)
Shape ws (whats.Or k n) g = (a b : Formula) × IsPart ws k a × IsPart ws n b × (g ≡ Or a b)
Shape ws (whats.Implies k n) g = (a b : Formula) × IsPart ws k a × IsPart ws n b × (g ≡ Implies a b)
Shape ws (whats.Once k) g = (a : Formula) × IsPart ws k a × (g ≡ Once a)
Shape ws (whats.Always k) g = (a : Formula) × IsPart ws k a × (g ≡ Always a)
Shape ws (whats.Since k n) g = (a b : Formula) × IsPart ws k a × IsPart ws n b × (g ≡ Since a b)
Shape ws (whats.Within ticks k) g = (a : Formula) × IsPart ws k a × (g ≡ Within ticks a)

shaped : (ws : List What) (i : ℕ) (g : Formula) → IsPart ws i g → (w : What) × At ws i w × Shape ws w g
shaped ws i (Truth value) at = (whats.Truth value, at, refl)
shaped ws i (Compared of by number) at = (whats.Compared of by number, at, refl)
shaped ws i (Against of by other) at = (whats.Against of by other, at, refl)
shaped ws i (Paired first pairing second by number) at = (whats.Paired first pairing second by number, at, refl)
shaped ws i (Not a) (k, at, lt, part) = (whats.Not k, at, (a, part, refl))
shaped ws i (And a b) (k, n, at, lt, lt', part, part') = (whats.And k n, at, (a, b, part, part', refl))
shaped ws i (Or a b) (k, n, at, lt, lt', part, part') = (whats.Or k n, at, (a, b, part, part', refl))
shaped ws i (Implies a b) (k, n, at, lt, lt', part, part') = (whats.Implies k n, at, (a, b, part, part', refl))
shaped ws i (Once a) (k, at, lt, part) = (whats.Once k, at, (a, part, refl))
shaped ws i (Always a) (k, at, lt, part) = (whats.Always k, at, (a, part, refl))
shaped ws i (Since a b) (k, n, at, lt, lt', part, part') = (whats.Since k n, at, (a, b, part, part', refl))
shaped ws i (Within ticks a) (k, at, lt, part) = (whats.Within ticks k, at, (a, part, refl))

shape_at : (ws : List What) (i : ℕ) (w : What) (g : Formula) → At ws i w → IsPart ws i g → Shape ws w g
shape_at ws i w g at part = (let s = shaped ws i g part in subst (λ (v : What). Shape ws v g) (at_same ws i s.0 w s.1 at) s.2)

pub part_once : (ws : List What) (i : ℕ) (f g : Formula) → IsPart ws i f → IsPart ws i g → f ≡ g
part_once ws i (Truth value) g at part = sym (shape_at ws i (whats.Truth value) g at part)
part_once ws i (Compared of by number) g at part = sym (shape_at ws i (whats.Compared of by number) g at part)
part_once ws i (Against of by other) g at part = sym (shape_at ws i (whats.Against of by other) g at part)
part_once ws i (Paired first pairing second by number) g at part =
    sym (shape_at ws i (whats.Paired first pairing second by number) g at part)
part_once ws i (Not f) g (k, at, lt, part) other =
    let s = shape_at ws i (whats.Not k) g at other in
    ap Not (part_once ws k f s.0 part s.1) ∙ sym s.2
part_once ws i (And f h) g (k, n, at, lt, lt', part, part') other =
    let s = shape_at ws i (whats.And k n) g at other in
    ap₂ And (part_once ws k f s.0 part s.2) (part_once ws n h s.1 part' s.3) ∙ sym s.4
part_once ws i (Or f h) g (k, n, at, lt, lt', part, part') other =
    let s = shape_at ws i (whats.Or k n) g at other in
    ap₂ Or (part_once ws k f s.0 part s.2) (part_once ws n h s.1 part' s.3) ∙ sym s.4
part_once ws i (Implies f h) g (k, n, at, lt, lt', part, part') other =
    let s = shape_at ws i (whats.Implies k n) g at other in
    ap₂ Implies (part_once ws k f s.0 part s.2) (part_once ws n h s.1 part' s.3) ∙ sym s.4
part_once ws i (Always f) g (k, at, lt, part) other =
    let s = shape_at ws i (whats.Always k) g at other in
    ap Always (part_once ws k f s.0 part s.1) ∙ sym s.2
part_once ws i (Once f) g (k, at, lt, part) other =
    let s = shape_at ws i (whats.Once k) g at other in
    ap Once (part_once ws k f s.0 part s.1) ∙ sym s.2
part_once ws i (Since f h) g (k, n, at, lt, lt', part, part') other =
    let s = shape_at ws i (whats.Since k n) g at other in
    ap₂ Since (part_once ws k f s.0 part s.2) (part_once ws n h s.1 part' s.3) ∙ sym s.4
part_once ws i (Within ticks f) g (k, at, lt, part) other =
    let s = shape_at ws i (whats.Within ticks k) g at other in
    ap (Within ticks) (part_once ws k f s.0 part s.1) ∙ sym s.2
