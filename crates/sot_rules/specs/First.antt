-- The first fault of a program.
use Rattle.std.specs.Prelude.{◌≡◌, ℕ, ◌<◌, ◌≤◌, ◌⊎◌}
use Rattle.sot_text.specs.declared.token.Span.{Span}
use Rattle.sot_text.specs.Place.{rank}
use Rattle.sot_syntax_tree.specs.Trees.{Program}
use Rattle.sot_rules.specs.declared.fault.TypeFault.{TypeFault}
use Rattle.sot_rules.specs.declared.fault.TypeKind.{TypeKind}
use Rattle.sot_rules.specs.declared.fault.TypeKind.TheVariants.{Unknown, Twice, ScaleDiffers}
use Rattle.sot_rules.specs.declared.fault.TypeKind.TheVariants.{KindDiffers, RangeEmpty}
use Rattle.sot_rules.specs.declared.fault.TypeKind.TheVariants.{InitOutside, ReadsAndWrites}
use Rattle.sot_rules.specs.declared.fault.TypeKind.TheVariants.{TooMany, RangeWide, NoModule}
use Rattle.sot_rules.specs.declared.fault.TypeKind.TheVariants.{PeriodOutside, NextMissing}
use Rattle.sot_rules.specs.Fails.{Fails}

-- the numbers of the rules
abbrev pub number_of : TypeKind → ℕ
number_of Unknown = 1
number_of Twice = 2
number_of ScaleDiffers = 3
number_of KindDiffers = 4
number_of RangeEmpty = 5
number_of InitOutside = 6
number_of ReadsAndWrites = 7
number_of TooMany = 8
number_of RangeWide = 9
number_of NoModule = 10
number_of PeriodOutside = 11
number_of NextMissing = 12

-- f stands before g, or where g stands and with no greater number
abbrev pub IsNotAfter : TypeFault → TypeFault → Type 0
IsNotAfter f g =
    (rank f.at < rank g.at) ⊎ ((rank f.at ≡ rank g.at) × (number_of f.kind ≤ number_of g.kind))

-- a rule fails there, and none that fails comes before it
pub record IsFirstFault (p : Program) (f : TypeFault) : Type 0 where
  pub fails : Fails p f.at f.kind
  pub first : (g : TypeFault) → Fails p g.at g.kind → IsNotAfter f g

-- no rule fails
abbrev pub IsFaultless : Program → Type 0
IsFaultless p = (at : Span) (k : TypeKind) → Fails p at k → ⊥
