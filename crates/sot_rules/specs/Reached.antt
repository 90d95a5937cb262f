-- A place in a list that is walked without being written out.
use Rattle.std.specs.Prelude.{◌≡◌, ℕ, ◌+◌, List, Some, length, slice_get}
use Rattle.sot_text.specs.declared.token.Span.{Span}
use Rattle.sot_rules.specs.declared.statements.unrolled.Reached.{Reached}
use Rattle.sot_rules.specs.declared.statements.unrolled.Reached.TheVariants.{At, Left}

-- what stands at the place, or how far the place is past the end of the list
abbrev pub IsReached : ℕ → List Span → Reached → Type 0
IsReached k xs (At at) = slice_get xs k ≡ Some at
IsReached k xs (Left n) = k ≡ length xs + n
