-- The conditions that speak of no cells.
use Rattle.std.specs.Prelude.{ℕ}
use Rattle.sot_box.specs.BoxList.{BoxList}
use Rattle.sot_lang.specs.declared.tables.ModuleInfo.{ModuleInfo}
use Rattle.sot_lang.specs.Tables.{Tables}
use Rattle.sot_tube.specs.Checks.{Check, and_then, for_each}
use Rattle.sot_tube.specs.Verdict.{composition, periods, outputs, boxes, code}
use Rattle.sot_compose.specs.declared.looked.LookedAt.{LookedAt}
use Rattle.sot_compose.specs.declared.looked.LookedAt.TheVariants.{BothRegions, SafeAlone}

-- a module with `safer` as it stands, or read as `safe`
abbrev pub safer_of : LookedAt → ModuleInfo → BoxList
safer_of BothRegions a = a.safer
safer_of SafeAlone a = a.safe

abbrev pub seen_with : LookedAt → ModuleInfo → ModuleInfo
seen_with looked a = record a { safer = safer_of looked a }

-- of one module: short periods, outputs in common, and regions with a box
abbrev pub frame : LookedAt → Tables → ℕ → ModuleInfo → Check
frame looked p m a =
    and_then (and_then (periods p m a) (outputs p m a)) (boxes m (seen_with looked a))

-- of a program, in the order of the verdict: how its modules are put together, then each module,
-- then each coded node. No other condition of these looks at a `safer`
abbrev pub without_cells : LookedAt → Tables → Check
without_cells looked p =
    and_then (composition p)
    (and_then (for_each p.modules (frame looked p)) (for_each p.nodes (code p)))
