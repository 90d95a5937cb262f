use Rattle.std.proofs.Common.{◌≡◌, ◌==◌, ◌++◌, true, drop, map}
use Rattle.std.specs.String.{string_bytes}
use Rattle.sot_syntax_tree.specs.TreeViews.{area_view}
use Rattle.sot_print.specs.Words.{laid}
use Rattle.sot_print.specs.Canonical.{areas_from}
use Rattle.sot_print.proofs.declaration.push_areas.Given as goal

-- what is written, and then what is left
abbrev pub invariant-loop-place : goal.invariant-loop-place
invariant-loop-place l =
    string_bytes l.out ++ laid (areas_from (l.place == 0) (map area_view (drop l.place l.areas)))
    ≡ string_bytes l.initial.out ++ laid (areas_from true (map area_view l.areas))
