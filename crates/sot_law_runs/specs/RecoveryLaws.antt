-- What ranks are good for.
use Rattle.std.specs.Prelude.{ℕ, ℤ, List, ◌∷◌, ◌≡◌, ◌<◌, length}
use Rattle.sot_lists.specs.Places.{At, Has}
use Rattle.sot_lang.specs.declared.cert.Cert.{Cert}
use Rattle.sot_lang.specs.Tables.{Tables}
use Rattle.sot_lang.specs.TableRules.{IsTyped}
use Rattle.sot_box.specs.Regions.{IsInRegion}
use Rattle.sot_tube.specs.Certified.{IsWellCertified}
use Rattle.sot_law_runs.specs.Holds.{Guarded, IsRecovered, AreHolds, start_at}
use Rattle.sot_law_runs.specs.Ranks.{IsRank, HasRank, Reaches, HasNoRank, KeepToThemselves}
use Rattle.sot_law_runs.specs.RunHolds.{FiringsAreHolds, TrustsAfter}

-- a module of a certified program is recovered within as many holds as its rank
abbrev pub RanksRecover : Type 0
RanksRecover =
    (p : Tables) (cert : Cert) (m : ℕ) (g : Guarded p cert m) (k : ℕ) → IsTyped p
    → IsWellCertified p cert.jitter cert → Reaches g k → IsRecovered g k

-- in runs a module of a certified program is recovered within as many holds as its rank, and what
-- lies between two firings of its safe node is a hold
abbrev pub RunsRecover : Type 0
RunsRecover =
    (p : Tables) (cert : Cert) (m : ℕ) (g : Guarded p cert m) (k : ℕ) → IsTyped p
    → IsWellCertified p cert.jitter cert → Reaches g k → TrustsAfter g k

abbrev pub RunsHold : Type 0
RunsHold =
    (p : Tables) (cert : Cert) (m : ℕ) (g : Guarded p cert m) → IsTyped p
    → IsWellCertified p cert.jitter cert → FiringsAreHolds g

-- a module of a certified program has all parts of its recovery
abbrev pub GuardedModules : Type 0
GuardedModules =
    (p : Tables) (cert : Cert) (m : ℕ) → IsTyped p → IsWellCertified p cert.jitter cert
    → m < length p.modules → Guarded p cert m

-- the cells of rank 0 keep to themselves: there is a greatest set
abbrev pub RankZeroKeeps : Type 0
RankZeroKeeps =
    (p : Tables) (cert : Cert) (m : ℕ) (g : Guarded p cert m) (set : List ℕ)
    → ((i : ℕ) → Has set i → HasRank g 0 i) → ((i : ℕ) → HasRank g 0 i → Has set i)
    → KeepToThemselves g set

-- a module has one rank at most, or none, with one point
abbrev pub RanksAreOne : Type 0
RanksAreOne =
    (p : Tables) (cert : Cert) (m : ℕ) (g h : Guarded p cert m) (k l : ℕ) (s t : List ℤ) →
    (IsRank g k → IsRank h l → k ≡ l) × (HasNoRank g s → HasNoRank h t → s ≡ t)
    × (IsRank g k → HasNoRank h s → ⊥)

-- points of holds stay in the safe region, so that the safe node never reads its plant outside
abbrev pub HoldsStaySafe : Type 0
HoldsStaySafe =
    (p : Tables) (cert : Cert) (m : ℕ) (g : Guarded p cert m) (s : List ℤ)
    (paths : List (List (List ℤ))) (i j : ℕ) (path : List (List ℤ)) (t : List ℤ) →
    IsTyped p → IsWellCertified p cert.jitter cert → IsInRegion g.info.safe.boxes s
    → AreHolds g s paths → At paths i path → At (start_at g s paths i ∷ path) j t
    → IsInRegion g.info.safe.boxes t
