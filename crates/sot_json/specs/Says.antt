-- What a JSON value says, or its first fault.
use Rattle.std.specs.Prelude.{ℕ, List, [], ◌∷◌, ◌++◌, Bool, true, false, Option, Some, None, Result}
use Rattle.std.specs.Prelude.{Ok, Err}
use Rattle.sot_json.specs.Pointers.{escaped}
use Rattle.sot_json.specs.declared.fault.JsonKind.{JsonKind}
use Rattle.sot_json.specs.declared.fault.JsonFault.{JsonFault}

abbrev pub Says : Type 0 → Type 0
Says A = Result A JsonFault

-- first the one, then what follows from its value; the first fault ends it
infixl 10 ◌>>=◌
abbrev pub ◌>>=◌ : {A B : Type 0} → Says A → (A → Says B) → Says B
(Ok x) >>= f = f x
(Err e) >>= f = Err e

-- a fault at this value
abbrev pub here : {A : Type 0} → JsonKind → Says A
here k = Err (record { path = []; kind = k })

-- the value that is there, or the fault
abbrev pub or : {A : Type 0} → JsonKind → Option A → Says A
or k (Some x) = Ok x
or k None = here k

-- no fault where the test holds
abbrev pub unless : JsonKind → Bool → Says Bool
unless k true = Ok true
unless k false = here k

-- a fault of the part of that name, as it stands from the value that holds the part
abbrev pub under : List ℕ → JsonFault → JsonFault
under name f = record { path = 47 ∷ escaped name ++ f.path; kind = f.kind }

-- what the part of that name says
abbrev pub part : {A : Type 0} → List ℕ → Says A → Says A
part name (Ok x) = Ok x
part name (Err f) = Err (under name f)
