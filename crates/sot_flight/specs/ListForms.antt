-- What the format of flights says of numbers and lists of them, and of the parts of an object that
-- stand for a program's plants and nodes.
use Rattle.std.specs.Prelude.{ℕ, ℤ, List, [], ◌∷◌, ◌++◌, length, ◌==◌, nat_lt, Option, None, Ok}
use Rattle.std.specs.Prelude.{slice_index_or, is_some, if◌then◌else◌}
use Rattle.serde_json.specs.Data.{Data}
use Rattle.serde_json.specs.Events.{items_len}
use Rattle.serde_json.specs.Find.{as_null, as_array}
use Rattle.sot_box.specs.Sides.{Side, nought}
use Rattle.sot_json.specs.declared.fault.JsonKind.TheVariants.{WrongShape, OutsideRange, Width}
use Rattle.sot_json.specs.declared.fault.JsonKind.TheVariants.{Empty}
use Rattle.sot_json.specs.Says.{Says, ◌>>=◌, or, unless}
use Rattle.sot_json.specs.Json.{is_within, each_after, each, some}
use Rattle.sot_cert.specs.CertFormat.{number}

-- a number from -10^12 to 10^12, in this range
unfoldable pub number_in : Side → Data → Says ℤ
number_in r d = do
  z ← number d
  ok ← unless OutsideRange (is_within r.lo r.hi z)
  Ok z

-- the next number of a list, after these
abbrev pub number_at : List Side → List ℤ → Data → Says ℤ
number_at ranges done = number_in (slice_index_or ranges (length done) nought)

-- a list of numbers, one in each of these ranges
unfoldable pub numbers_in : List Side → Data → Says (List ℤ)
numbers_in ranges d = do
  ds ← or WrongShape (as_array d)
  ok ← unless Width (items_len ds == length ranges)
  each_after (number_at ranges) [] ds

-- a list of so many numbers
unfoldable pub numbers : ℕ → Data → Says (List ℤ)
numbers width d = do
  ds ← or WrongShape (as_array d)
  ok ← unless Width (items_len ds == width)
  each number ds

-- at least one list of numbers in these ranges
unfoldable pub rows_in : List Side → Data → Says (List (List ℤ))
rows_in ranges d = do
  ds ← or WrongShape (as_array d)
  ok ← unless Empty (nat_lt 0 (items_len ds))
  each (numbers_in ranges) ds

-- a number, or `null` for none
unfoldable pub slot : Data → Says (Option ℤ)
slot d = if is_some (as_null d) then Ok None else some (number d)

-- a list of so many slots
unfoldable pub draft : ℕ → Data → Says (List (Option ℤ))
draft size d = do
  ds ← or WrongShape (as_array d)
  ok ← unless Width (items_len ds == size)
  each slot ds

-- at least one list of so many slots
unfoldable pub drafts : ℕ → Data → Says (List (List (Option ℤ)))
drafts size d = do
  ds ← or WrongShape (as_array d)
  ok ← unless Empty (nat_lt 0 (items_len ds))
  each (draft size) ds

-- Something for each of these, one after the other; f is told what was found for those before.
unfoldable pub for_each_after : {X A : Type 0} → (List A → X → Says A) → List A → List X
    → Says (List A)
for_each_after f done [] = Ok done
for_each_after f done (x ∷ xs) = do
  y ← f done x
  for_each_after f (done ++ y ∷ []) xs
