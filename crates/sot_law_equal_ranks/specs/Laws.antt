-- Tables that look the same have the same ranks.
use Rattle.std.specs.Prelude.{ℕ, ℤ, List, ◌≡◌}
use Rattle.sot_lang.specs.declared.cert.Cert.{Cert}
use Rattle.sot_lang.specs.Tables.{Tables}
use Rattle.sot_typing.specs.Resolved.{tables_seen}
use Rattle.sot_law_runs.specs.Holds.{Guarded}
use Rattle.sot_law_runs.specs.Ranks.{IsRank, HasNoRank}

-- tables that look the same, with certificates that have one jitter and the same cells
pub record LookTheSame (t u : Tables) (c d : Cert) : Type 0 where
  pub tables : tables_seen t ≡ tables_seen u
  pub jitter : c.jitter ≡ d.jitter
  pub cells : c.modules.items ≡ d.modules.items

-- what is a rank of a module by the one is its rank by the other, and so with the point that the
-- cells of all ranks leave out
abbrev pub RanksAlike : Type 0
RanksAlike =
    (t u : Tables) (c d : Cert) (m : ℕ) (g : Guarded t c m) (h : Guarded u d m) →
    LookTheSame t u c d → ((k : ℕ) → IsRank g k → IsRank h k)
    × ((s : List ℤ) → HasNoRank g s → HasNoRank h s)

-- a module has one rank at most, or none, with one point, whichever of the tables is asked
abbrev pub OneAnswer : Type 0
OneAnswer =
    (t u : Tables) (c d : Cert) (m : ℕ) (g : Guarded t c m) (h : Guarded u d m) →
    LookTheSame t u c d → ((k l : ℕ) → IsRank g k → IsRank h l → k ≡ l)
    × ((s r : List ℤ) → HasNoRank g s → HasNoRank h r → s ≡ r)
    × ((k : ℕ) (r : List ℤ) → IsRank g k → HasNoRank h r → ⊥)
