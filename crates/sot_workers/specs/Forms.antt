-- Flat forms of bodies, one a node.
use Rattle.std.specs.Prelude.{ℕ, List, Option}
use Rattle.sot_lists.specs.Places.{At}
use Rattle.sot_lang.specs.Tables.{Tables}
use Rattle.sot_eval_flat.specs.declared.flat.Flat.{Flat}
use Rattle.sot_eval_flat.specs.FlatForm.{IsFormOf}

-- each is that of the node at its place
abbrev pub AreFormsOf : Tables → List (Option Flat) → Type 0
AreFormsOf p forms = (n : ℕ) (form : Option Flat) → At forms n form → IsFormOf p n form
