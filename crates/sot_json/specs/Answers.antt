-- How a reader answers: with what the JSON says, or with want of memory.
use Rattle.std.specs.Prelude.{◌≡◌, ℕ, List, [], Result, Ok, Err}
use Rattle.sot_json.specs.declared.fault.JsonKind.{JsonKind}
use Rattle.sot_json.specs.declared.fault.JsonFail.{JsonFail}
use Rattle.sot_json.specs.declared.fault.JsonFail.TheVariants as fails
use Rattle.sot_json.specs.Says.{Says, under}

-- the fault is what is said; want of memory may come at any time
abbrev pub Fails : {Y : Type 0} → JsonFail → Says Y → Type 0
Fails fails.Memory says = Unit {0}
Fails (fails.Fault f) says = says ≡ Err f

-- What a reader returned, seen by view, is what the JSON says, unless memory ran out.
abbrev pub Gives : {X Y : Type 0} → (X → Y) → Result X JsonFail → Says Y → Type 0
Gives view (Ok x) says = says ≡ Ok (view x)
Gives view (Err e) says = Fails e says

-- a fault of that kind at the value itself, which takes no memory
abbrev pub IsHere : JsonKind → JsonFail → Type 0
IsHere k fails.Memory = ⊥
IsHere k (fails.Fault g) = g ≡ record { path = []; kind = k }

-- e stands at the part of that name, and r is e as it stands from the value that holds the part,
-- but for want of memory
abbrev pub IsUnder : List ℕ → JsonFail → JsonFail → Type 0
IsUnder name e fails.Memory = Unit {0}
IsUnder name fails.Memory (fails.Fault g) = ⊥
IsUnder name (fails.Fault f) (fails.Fault g) = g ≡ under name f
