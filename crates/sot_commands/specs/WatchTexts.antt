-- The lines of watched flights.
use Rattle.std.specs.Prelude.{ℕ, List, [], ◌++◌, codes}
use Rattle.std.specs.Fmt.{decimal}
use Rattle.sot_formula.specs.declared.fail.MonitorFail.{MonitorFail}
use Rattle.sot_formula.specs.declared.fail.MonitorFail.TheVariants as fails
use Rattle.sot_report.specs.Pieces.{line}

-- `watch holds moments M`
abbrev pub holds_text : ℕ → List ℕ
holds_text moments = codes "watch holds moments " ++ line (decimal moments)

-- `refused watch time T`
abbrev pub fails_text : ℕ → List ℕ
fails_text time = codes "refused watch time " ++ line (decimal time)

-- `fault formula KIND`; want of memory is none of the formula's faults
abbrev pub formula_text : MonitorFail → List ℕ
formula_text fails.Form = line (codes "fault formula Form")
formula_text fails.Unknown = line (codes "fault formula Unknown")
formula_text fails.ScaleDiffers = line (codes "fault formula ScaleDiffers")
formula_text fails.Memory = []
