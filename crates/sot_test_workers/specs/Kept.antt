-- What a guest of the tests has kept.
use Rattle.std.specs.Prelude.{Bool, List, map, Option, Some, None, if◌then◌else◌}
use Rattle.sot_board.specs.Views.{viewed_numbers}
use Rattle.sot_fly_worker.specs.Askings.{Asking, asking}
use Rattle.sot_test_workers.specs.declared.keeper.Kept.{Kept}

abbrev pub asking_of : Kept → Asking
asking_of kept = asking (viewed_numbers kept.view) kept.draft

-- nothing is told once an asking was lost
abbrev pub told_of : Bool → List Kept → Option (List Asking)
told_of lost kept = if lost then None else Some (map asking_of kept)
