-- A certificate as a line of JSON with no blank, and the keys of each object in the order of their
-- bytes: format 1, or format 2 where it has a jitter.
use Rattle.std.specs.Prelude.{ℕ, zero, suc, List, [], ◌∷◌, ◌++◌, Option, None, Some, codes}
use Rattle.serde_json.specs.Data.{Data, unsigned, number, array, object, Items, no_items, item}
use Rattle.serde_json.specs.Data.{Members, no_members, member, put}
use Rattle.serde_json.specs.Find.{of_integer}
use Rattle.serde_json.specs.Written.{compact_text}
use Rattle.sot_box.specs.Sides.{Side}
use Rattle.sot_lang.specs.declared.cert.Cells.{Cells}
use Rattle.sot_lang.specs.declared.cert.Cert.{Cert}
use Rattle.sot_lang.specs.declared.tables.ModuleInfo.{ModuleInfo}
use Rattle.sot_lang.specs.Tables.{Tables}

-- an interval: a list of its two ends
abbrev pub side_data : Side → Data
side_data r = array (item (number (of_integer r.lo)) (item (number (of_integer r.hi)) no_items))

-- things, each by its own value, in order
abbrev pub items_by : {A : Type 0} → (A → Data) → List A → Items
items_by value [] = no_items
items_by value (x ∷ xs) = item (value x) (items_by value xs)

-- a cell: a list of its sides
abbrev pub cell_data : List Side → Data
cell_data cell = array (items_by side_data cell)

-- a list of cells
abbrev pub cells_data : List (List Side) → Data
cells_data cells = array (items_by cell_data cells)

-- the entry of a module: its two lists of cells
abbrev pub entry_data : Cells → Data
entry_data cells =
    object (member (codes "closed") (cells_data cells.closed.boxes)
    (member (codes "reach") (cells_data cells.reach.boxes) no_members))

-- an entry under its module's name, where there is one, among others in the order of the names'
-- bytes
abbrev pub put_data : List ℕ → Option Cells → Members → Members
put_data name None others = others
put_data name (Some cells) others = put name (entry_data cells) others

-- the entries of the modules that have one
abbrev pub entries_data : List ModuleInfo → List (Option Cells) → Members
entries_data [] entries = no_members
entries_data (m ∷ ms) [] = no_members
entries_data (m ∷ ms) (entry ∷ entries) = put_data m.name entry (entries_data ms entries)

-- a certificate without jitter: its format and its modules
abbrev pub certificate_data : Tables → Cert → Data
certificate_data p cert =
    object (member (codes "format") (number (unsigned 1))
    (member (codes "modules") (object (entries_data p.modules cert.modules.items)) no_members))

-- these modules with a jitter, which stands behind the format where it is not 0
abbrev pub jittered_data : ℕ → Members → Data
jittered_data zero entries =
    object (member (codes "format") (number (unsigned 1))
    (member (codes "modules") (object entries) no_members))
jittered_data (suc j) entries =
    object (member (codes "format") (number (unsigned 2))
    (member (codes "jitter") (number (unsigned (suc j)))
    (member (codes "modules") (object entries) no_members)))

-- a certificate with its jitter
abbrev pub data_with_jitter : Tables → Cert → Data
data_with_jitter p cert = jittered_data cert.jitter (entries_data p.modules cert.modules.items)

-- the line of a certificate without jitter, and with its jitter (LF is 10)
abbrev pub certificate_line : Tables → Cert → List ℕ
certificate_line p cert = compact_text (certificate_data p cert) ++ 10 ∷ []

abbrev pub line_with_jitter : Tables → Cert → List ℕ
line_with_jitter p cert = compact_text (data_with_jitter p cert) ++ 10 ∷ []
