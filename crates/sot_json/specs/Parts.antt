-- What the crate's own functions promise each other of a part: a value in an object or a list,
-- under its name.
use Rattle.std.specs.Prelude.{◌≡◌, ℕ, List, Result, Ok, Err}
use Rattle.sot_json.specs.declared.fault.JsonFail.{JsonFail}
use Rattle.sot_json.specs.Answers.{IsUnder}

-- s is what was read of the part of that name, as it stands from the value that holds the part, but
-- for want of memory
abbrev pub IsPart : {X : Type 0} → List ℕ → Result X JsonFail → Result X JsonFail → Type 0
IsPart name (Ok x) s = s ≡ Ok x
IsPart name (Err e) (Ok x) = ⊥
IsPart name (Err e) (Err r) = IsUnder name e r
