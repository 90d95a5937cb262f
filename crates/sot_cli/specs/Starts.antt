-- What is said of plants that do not all start inside their modules' safer regions.
use Rattle.std.specs.Prelude.{◌≡◌, ℕ, ℤ, List, [], slice_index_or}
use Rattle.sot_lang.specs.Tables.{Tables}
use Rattle.sot_world.specs.Opens.{IsFirstOutside}
use Rattle.sot_report.specs.RefusalTexts.{start_text}

-- the line of the first module whose plant starts outside the module's safer region
abbrev pub IsOutsideLine : Tables → List (List ℤ) → List ℕ → Type 0
IsOutsideLine t starts text =
    (m : ℕ) × (first : IsFirstOutside t starts m)
    × (text ≡ start_text t m (slice_index_or starts first.info.plant []))
