-- What a certificate's JSON says of a program, or its first fault: one definition for each value of
-- the format, in its order.
use Rattle.std.specs.Prelude.{ℕ, ℤ, pos, negsuc, List, [], ◌∷◌, codes, Bool, true, false, ◌&&◌}
use Rattle.std.specs.Prelude.{◌==◌, nat_lt, nat_le, int_le, Option, Ok, map}
use Rattle.std.specs.List.{list_all}
use Rattle.serde_json.specs.Data.{Data, Members}
use Rattle.serde_json.specs.Events.{items_len}
use Rattle.serde_json.specs.Find.{as_array, as_object}
use Rattle.sot_box.specs.Sides.{Side}
use Rattle.sot_box.specs.BoxList.{BoxList}
use Rattle.sot_lang.specs.declared.tables.PlantInfo.{PlantInfo}
use Rattle.sot_lang.specs.declared.tables.ModuleInfo.{ModuleInfo}
use Rattle.sot_lang.specs.declared.cert.Cells.{Cells}
use Rattle.sot_lang.specs.declared.cert.Cert.{Cert}
use Rattle.sot_lang.specs.Tables.{Tables}
use Rattle.sot_lang.specs.OwnerNames.{width_of}
use Rattle.sot_json.specs.declared.fault.JsonKind.TheVariants.{NotJson, WrongShape, OutsideRange}
use Rattle.sot_json.specs.declared.fault.JsonKind.TheVariants.{Unknown, Width, Empty, TooMany}
use Rattle.sot_json.specs.Says.{Says, ◌>>=◌, or, unless, part}
use Rattle.sot_json.specs.Json.{json_of, whole, count, each, two, at, may, all_among}

-- a number, from -10^12 to 10^12
unfoldable pub number : Data → Says ℤ
number d = whole (negsuc 999999999999) (pos 1000000000000) d

-- a side: a list of two numbers, the first not above the second
unfoldable pub side : Data → Says Side
side d = do
  ds ← or WrongShape (as_array d)
  ends ← or Width (two ds)
  lo ← part (codes "0") (number ends.0)
  hi ← part (codes "1") (number ends.1)
  ok ← unless Empty (int_le lo hi)
  Ok (record { lo = lo; hi = hi })

-- a cell: a list of as many sides as the plant has state variables
unfoldable pub cell : ℕ → Data → Says (List Side)
cell width d = do
  ds ← or WrongShape (as_array d)
  ok ← unless Width (items_len ds == width)
  each side ds

-- the cells that a certificate gives, as a region with its index
abbrev pub region_of : ℕ → List (List Side) → BoxList
region_of width boxes = record { width = width; boxes = boxes; settled = true }

abbrev pub cell_limit : ℕ
cell_limit = 4096

-- a list of at most 4,096 cells
unfoldable pub cells : ℕ → Data → Says BoxList
cells width d = do
  ds ← or WrongShape (as_array d)
  ok ← unless TooMany (nat_le (items_len ds) cell_limit)
  boxes ← each (cell width) ds
  Ok (region_of width boxes)

-- the entry of a module: an object of two lists of cells, and of nothing else
unfoldable pub entry : ℕ → Data → Says Cells
entry width d = do
  ms ← or WrongShape (as_object d)
  closed ← at (codes "closed") (cells width) ms
  reach ← at (codes "reach") (cells width) ms
  ok ← unless Unknown (all_among ms (codes "closed" ∷ codes "reach" ∷ []))
  Ok (record { closed = closed; reach = reach })

-- the entries of these modules, in declared order; a module may have none
unfoldable pub entries : List PlantInfo → List ModuleInfo → Members → Says (List (Option Cells))
entries plants [] ms = Ok []
entries plants (m ∷ more) ms = do
  x ← may m.name (entry (width_of plants m.plant)) ms
  xs ← entries plants more ms
  Ok (x ∷ xs)

abbrev pub names : List ModuleInfo → List (List ℕ)
names infos = map (λ m. m.name) infos

-- an object of entries, under the names of the program's modules
unfoldable pub modules : Tables → Data → Says (List (Option Cells))
modules p d = do
  ms ← or WrongShape (as_object d)
  found ← entries p.plants p.modules ms
  ok ← unless Unknown (all_among ms (names p.modules))
  Ok found

-- below the period of every node and of every module
abbrev pub is_below_periods : Tables → ℕ → Bool
is_below_periods p j =
    list_all (λ n. nat_lt j n.period) p.nodes && list_all (λ m. nat_lt j m.period) p.modules

-- a jitter: a number from 0 to 999, below every period
unfoldable pub jitter : Tables → Data → Says ℕ
jitter p d = do
  j ← count 999 d
  ok ← unless OutsideRange (is_below_periods p j)
  Ok j

-- a format: 1, or 2, which has a jitter
unfoldable pub has_jitter : Data → Says Bool
has_jitter d = do
  f ← whole (pos 1) (pos 2) d
  Ok (int_le (pos 2) f)

-- a certificate that gives no jitter has 0
unfoldable pub jitter_in : Bool → Tables → Members → Says ℕ
jitter_in true p ms = at (codes "jitter") (jitter p) ms
jitter_in false p ms = Ok 0

-- the keys of a certificate
abbrev pub keys : Bool → List (List ℕ)
keys true = codes "format" ∷ codes "jitter" ∷ codes "modules" ∷ []
keys false = codes "format" ∷ codes "modules" ∷ []

-- what a certificate says
pub record Contents : Type 0 where
  pub jitter : ℕ
  pub modules : List (Option Cells)

-- a certificate: an object of its format, which is 1 or 2, of its jitter in format 2, and of its
-- modules
unfoldable pub cert : Tables → Data → Says Contents
cert p d = do
  ms ← or WrongShape (as_object d)
  jittered ← at (codes "format") has_jitter ms
  j ← jitter_in jittered p ms
  found ← at (codes "modules") (modules p) ms
  ok ← unless Unknown (all_among ms (keys jittered))
  Ok (record { jitter = j; modules = found })

-- what bytes say as a certificate of the program
abbrev pub cert_of : Tables → List ℕ → Says Contents
cert_of p bytes = or NotJson (json_of bytes) >>= cert p

-- what contracts see of a `Cert`
abbrev pub contents : Cert → Contents
contents c = record { jitter = c.jitter; modules = c.modules.items }
