-- Between the crate's own functions: what is found of the closed cells, one after another.
use Rattle.std.specs.Prelude.{ℕ, ◌≡◌, ◌<◌, ◌⊎◌, ◌↔◌, List, Bool, length}
use Rattle.sot_lists.specs.Places.{At, Has}
use Rattle.sot_box.specs.Sides.{Side}
use Rattle.sot_lang.specs.declared.cert.Cert.{Cert}
use Rattle.sot_lang.specs.Tables.{Tables}
use Rattle.sot_law_runs.specs.Holds.{Guarded}
use Rattle.sot_law_runs.specs.Ranks.{StaysSafer}
use Rattle.sot_recover.specs.Sets.{IsSet}
use Rattle.sot_recover.specs.Grounds.{IsHullOf}

-- of the first n cells: a hull of the landings of each, whether its tube is inside the safer
-- region, and the places of the others
pub record IsSurveyed (p : Tables) (cert : Cert) (m n : ℕ) (cells hulls : List (List Side))
    (set : List Bool) (leaving : List ℕ) : Type 0 where
  pub hulls_count : length hulls ≡ n
  pub set_count : length set ≡ n
  pub hulls_are : (g : Guarded p cert m) (i : ℕ) (cell hull : List Side) → At cells i cell
      → At hulls i hull → IsHullOf g cell hull
  pub set_are : (g : Guarded p cert m) (i : ℕ) (cell : List Side) → i < n → At cells i cell
      → IsSet set i ↔ StaysSafer g cell
  pub leaving_are : (i : ℕ) → i < n → IsSet set i ⊎ Has leaving i
