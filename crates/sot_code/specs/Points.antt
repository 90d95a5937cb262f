-- Points as the code makes them.
use Rattle.std.specs.Prelude.{◌≡◌, ℤ, List, Result, Ok, Err}
use Rattle.sot_lang.specs.declared.trap.Trap.{Trap}
use Rattle.sot_lang.specs.Values.{Outcome}

-- an outcome is these numbers, or this trap
abbrev pub Gives : {U : Type 0} → Result U Trap → List ℤ → Outcome (List ℤ) → Type 0
Gives (Ok u) point o = o ≡ Ok point
Gives (Err t) point o = o ≡ Err t
