-- A formula as the list of its parts, each behind its own parts.
use Rattle.std.specs.Prelude.{ℕ, List, ◌≡◌, ◌⊎◌, ◌<◌, ◌≤◌, ◌+◌, length}
use Rattle.sot_lists.specs.Places.{At}
use Rattle.sot_lang.specs.declared.tables.PlantInfo.{PlantInfo}
use Rattle.sot_lang.specs.Tables.{Tables}
use Rattle.sot_formula.specs.declared.quantity.Quantity.{Quantity}
use Rattle.sot_formula.specs.declared.quantity.Quantity.TheVariants as quantities
use Rattle.sot_formula.specs.declared.what.What.{What}
use Rattle.sot_formula.specs.declared.what.What.TheVariants as whats
use Rattle.sot_formula.specs.Formulas.{Formula, Truth, Compared, Against, Paired, Not}
use Rattle.sot_formula.specs.Formulas.{And, Or, Implies, Once, Always, Since, Within}

-- the part at place i is this formula, by parts that stand before it
abbrev pub IsPart : List What → ℕ → Formula → Type 0
IsPart ws i (Truth value) = At ws i (whats.Truth value)
IsPart ws i (Compared of by number) = At ws i (whats.Compared of by number)
IsPart ws i (Against of by other) = At ws i (whats.Against of by other)
IsPart ws i (Paired first pairing second by number) =
    At ws i (whats.Paired first pairing second by number)
IsPart ws i (Not f) = (k : ℕ) × At ws i (whats.Not k) × (k < i) × IsPart ws k f
IsPart ws i (And f g) =
    (k n : ℕ) × At ws i (whats.And k n) × (k < i) × (n < i) × IsPart ws k f × IsPart ws n g
IsPart ws i (Or f g) =
    (k n : ℕ) × At ws i (whats.Or k n) × (k < i) × (n < i) × IsPart ws k f × IsPart ws n g
IsPart ws i (Implies f g) =
    (k n : ℕ) × At ws i (whats.Implies k n) × (k < i) × (n < i) × IsPart ws k f × IsPart ws n g
IsPart ws i (Once f) = (k : ℕ) × At ws i (whats.Once k) × (k < i) × IsPart ws k f
IsPart ws i (Always f) = (k : ℕ) × At ws i (whats.Always k) × (k < i) × IsPart ws k f
IsPart ws i (Since f g) =
    (k n : ℕ) × At ws i (whats.Since k n) × (k < i) × (n < i) × IsPart ws k f × IsPart ws n g
IsPart ws i (Within ticks f) = (k : ℕ) × At ws i (whats.Within ticks k) × (k < i) × IsPart ws k f

-- how many parts a formula has, itself among them
abbrev pub part_count : Formula → ℕ
part_count (Truth value) = 1
part_count (Compared of by number) = 1
part_count (Against of by other) = 1
part_count (Paired first pairing second by number) = 1
part_count (Not f) = 1 + part_count f
part_count (And f g) = 1 + (part_count f + part_count g)
part_count (Or f g) = 1 + (part_count f + part_count g)
part_count (Implies f g) = 1 + (part_count f + part_count g)
part_count (Once f) = 1 + part_count f
part_count (Always f) = 1 + part_count f
part_count (Since f g) = 1 + (part_count f + part_count g)
part_count (Within ticks f) = 1 + part_count f

-- the places of a part's own parts are before it, and no `within` looks back further than a flight
-- lasts
abbrev pub IsPlaced : ℕ → What → Type 0
IsPlaced i (whats.Truth value) = Unit {0}
IsPlaced i (whats.Compared of by number) = Unit {0}
IsPlaced i (whats.Against of by other) = Unit {0}
IsPlaced i (whats.Paired first pairing second by number) = Unit {0}
IsPlaced i (whats.Not k) = k < i
IsPlaced i (whats.And k n) = (k < i) × (n < i)
IsPlaced i (whats.Or k n) = (k < i) × (n < i)
IsPlaced i (whats.Implies k n) = (k < i) × (n < i)
IsPlaced i (whats.Once k) = k < i
IsPlaced i (whats.Always k) = k < i
IsPlaced i (whats.Since k n) = (k < i) × (n < i)
IsPlaced i (whats.Within ticks k) = (k < i) × (ticks ≤ 100000)

abbrev pub ArePlaced : List What → Type 0
ArePlaced ws = (i : ℕ) (w : What) → At ws i w → IsPlaced i w

-- a program has this scalar, this state or this module
abbrev pub IsThere : Tables → Quantity → Type 0
IsThere p (quantities.Scalar k) = k < length p.scalars
IsThere p (quantities.State k v) =
    (plant : PlantInfo) × At p.plants k plant × (v < length plant.states.items)
IsThere p (quantities.Mode m) = m < length p.modules

-- a part looks at this quantity
abbrev pub LooksAt : What → Quantity → Type 0
LooksAt (whats.Truth value) q = ⊥
LooksAt (whats.Compared of by number) q = of ≡ q
LooksAt (whats.Against of by other) q = (of ≡ q) ⊎ (other ≡ q)
LooksAt (whats.Paired first pairing second by number) q = (first ≡ q) ⊎ (second ≡ q)
LooksAt (whats.Not k) q = ⊥
LooksAt (whats.And k n) q = ⊥
LooksAt (whats.Or k n) q = ⊥
LooksAt (whats.Implies k n) q = ⊥
LooksAt (whats.Once k) q = ⊥
LooksAt (whats.Always k) q = ⊥
LooksAt (whats.Since k n) q = ⊥
LooksAt (whats.Within ticks k) q = ⊥

-- a program has all that these parts look at
abbrev pub AreThere : Tables → List What → Type 0
AreThere p ws = (i : ℕ) (w : What) (q : Quantity) → At ws i w → LooksAt w q → IsThere p q
