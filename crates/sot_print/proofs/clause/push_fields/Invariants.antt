use Rattle.std.proofs.Common.{◌≡◌, ◌==◌, ◌++◌, drop}
use Rattle.std.specs.String.{string_bytes}
use Rattle.sot_print.specs.Words.{laid}
use Rattle.sot_print.specs.Leaves.{field_words, items_from, listed}
use Rattle.sot_print.proofs.clause.push_fields.Given as goal

-- what is written, and then what is left
abbrev pub invariant-loop-place : goal.invariant-loop-place
invariant-loop-place l =
    string_bytes l.out ++ laid (items_from field_words l.gap (l.place == 0) (drop l.place l.fields))
    ≡ string_bytes l.initial.out ++ laid (listed field_words l.gap l.fields)
