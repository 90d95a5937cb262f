-- The lines of `soter_regions` that are lines of no other program.
use Rattle.std.specs.Prelude.{ℕ, ℤ, List, ◌++◌, codes}
use Rattle.std.specs.Fmt.{decimal}
use Rattle.sot_lang.specs.Tables.{Tables}
use Rattle.sot_lang.specs.Names.{module_name}
use Rattle.sot_report.specs.Pieces.{line, point_text}
use Rattle.sot_regions_program.specs.declared.refusal.RegionsRefusal.{RegionsRefusal}
use Rattle.sot_regions_program.specs.declared.refusal.RegionsRefusal.TheVariants.{Jitter, SafeNone}
use Rattle.sot_regions_program.specs.declared.refusal.RegionsRefusal.TheVariants.{TooMany}
use Rattle.sot_regions_program.specs.declared.refusal.RegionsRefusal.TheVariants.{SaferNone}
use Rattle.sot_regions_program.specs.declared.refusal.RegionsRefusal.TheVariants.{SafeNoneBeside}

abbrev pub usage_text : List ℕ
usage_text = line (codes "usage: soter_regions [JITTER]")

-- `refused regions module NAME`, which goes on
abbrev pub of_module : Tables → ℕ → List ℕ
of_module t m = codes "refused regions module " ++ module_name t m

-- the same, of which nothing is left at this grain, as a point
abbrev pub at_grain : Tables → ℕ → List ℤ → List ℕ
at_grain t m grain = of_module t m ++ codes " safe none grain " ++ point_text grain

-- a jitter in digits; `alone` where another plant concerns the module, which was looked at alone
abbrev pub refusal_line : Tables → RegionsRefusal → List ℕ
refusal_line t (Jitter j) = line (codes "refused regions jitter " ++ decimal j)
refusal_line t (SafeNone m grain) = line (at_grain t m grain)
refusal_line t (SafeNoneBeside m grain) = line (at_grain t m grain ++ codes " alone")
refusal_line t (TooMany m) = line (of_module t m ++ codes " safe TooMany")
refusal_line t (SaferNone m) = line (of_module t m ++ codes " safer none")
