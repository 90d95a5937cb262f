-- What the formats say of JSON values: numbers, lists, and keys of an object.
use Rattle.std.specs.Prelude.{unsigned_abs, ℕ, ℤ, pos, List, [], ◌∷◌, ◌++◌, length, decimal, Bool}
use Rattle.std.specs.Prelude.{true, false, ◌&&◌, ◌||◌, int_le, bytes_eq, Option, Some, None, Ok}
use Rattle.std.specs.Prelude.{Err, if◌then◌else◌}
use Rattle.std.specs.Str.{is_utf8}
use Rattle.serde_json.specs.Data.{Data, Items, no_items, item, Members, no_members, member}
use Rattle.serde_json.specs.Find.{get_member, as_number, as_integer}
use Rattle.serde_json.specs.Read.{read}
use Rattle.sot_json.specs.declared.fault.JsonKind.TheVariants.{WrongShape, NotWhole, OutsideRange}
use Rattle.sot_json.specs.declared.fault.JsonKind.TheVariants.{Missing}
use Rattle.sot_json.specs.Says.{Says, ◌>>=◌, or, unless, part}

-- the value that bytes are, if they are JSON; of a repeated key the last value stays
abbrev pub json_of : List ℕ → Option Data
json_of bytes = if is_utf8 bytes then read bytes else None

-- ---- numbers

abbrev pub is_within : ℤ → ℤ → ℤ → Bool
is_within lo hi z = int_le lo z && int_le z hi

-- a whole number from lo to hi
unfoldable pub whole : ℤ → ℤ → Data → Says ℤ
whole lo hi d = do
  n ← or WrongShape (as_number d)
  z ← or NotWhole (as_integer n)
  ok ← unless OutsideRange (is_within lo hi z)
  Ok z

-- a whole number from 0 to that greatest
unfoldable pub count : ℕ → Data → Says ℕ
count greatest d = do
  z ← whole (pos 0) (pos greatest) d
  Ok (unsigned_abs z)

-- ---- lists

-- Items one after the other; f is told what was read of those before. The part of an item is its
-- place.
unfoldable pub each_after : {A : Type 0} → (List A → Data → Says A) → List A → Items → Says (List A)
each_after f done no_items = Ok done
each_after f done (item d ds) = do
  x ← part (decimal (length done)) (f done d)
  each_after f (done ++ x ∷ []) ds

-- each item, read by f
abbrev pub each : {A : Type 0} → (Data → Says A) → Items → Says (List A)
each f ds = each_after (λ done. f) [] ds

-- the items of a list of two
abbrev pub two : Items → Option (Data × Data)
two (item a (item b no_items)) = Some (a, b)
two no_items = None
two (item a no_items) = None
two (item a (item b (item c ds))) = None

-- ---- objects

-- the value at a key that must be there
unfoldable pub at : {A : Type 0} → List ℕ → (Data → Says A) → Members → Says A
at key f ms = part key (or Missing (get_member key ms) >>= f)

abbrev pub some : {A : Type 0} → Says A → Says (Option A)
some (Ok x) = Ok (Some x)
some (Err f) = Err f

abbrev pub optional : {A : Type 0} → (Data → Says A) → Option Data → Says (Option A)
optional f None = Ok None
optional f (Some d) = some (f d)

-- the value at a key that may be there
abbrev pub may : {A : Type 0} → List ℕ → (Data → Says A) → Members → Says (Option A)
may key f ms = part key (optional f (get_member key ms))

abbrev pub is_among : List ℕ → List (List ℕ) → Bool
is_among k [] = false
is_among k (l ∷ ls) = bytes_eq k l || is_among k ls

-- whether each key of an object is among these
abbrev pub all_among : Members → List (List ℕ) → Bool
all_among no_members ls = true
all_among (member k d ms) ls = is_among k ls && all_among ms ls
