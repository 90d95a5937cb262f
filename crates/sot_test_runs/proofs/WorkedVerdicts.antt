-- What the worked missions may be asked about traps: their safe regions have boxes, and the nodes are coded.
use Rattle.std.proofs.Common.{◌≡◌, ◌≢◌, ℕ, zero, suc, List, [], ◌∷◌, length, ap, ◌∙◌, subst, arith}
use Rattle.std.specs.Prelude.{slice_get}
use Rattle.std.proofs.lemmas.Option.{none-some, same_Some}
use Rattle.sot_lists.specs.Places.{At}
use Rattle.sot_lang.specs.declared.tables.ModuleInfo.{ModuleInfo}
use Rattle.sot_lang.specs.declared.term.Term.{Term}
use Rattle.sot_lang.specs.Tables.{Tables}
use Rattle.sot_traps.specs.Verdict.{HaveSafeBoxes, IsCodedNode}
use Rattle.sot_worked_missions.specs.Divide.{IsDivide}
use Rattle.sot_worked_missions.specs.Line.{IsLine, nav}

pub divide_boxes : (D : Term → Type 0) (p : Tables) → IsDivide D p → HaveSafeBoxes p
divide_boxes D p h m a at none = none-some a (subst (λ (l : List ModuleInfo). At l m a) h.modules at)

pub calc_is_coded : (D : Term → Type 0) (p : Tables) → IsDivide D p → IsCodedNode p 0
calc_is_coded D p h = (h.nodes.0, h.nodes.1.body.0, ap (λ l. slice_get l 0) h.nodes.2, h.nodes.1.body.1)

nav_box : (m : ℕ) (a : ModuleInfo) → At (nav ∷ []) m a → a.safe.boxes ≢ []
nav_box zero a at none =
    let e : nav.safe.boxes ≡ a.safe.boxes = ap (λ (x : ModuleInfo). x.safe.boxes) (same_Some nav a at) in
    let z : suc zero ≡ zero = ap length (e ∙ none) in
    absurd (omega (arith, z))
nav_box (suc m) a at none = none-some a at

pub line_boxes : (N : Term → Type 0) (p : Tables) → IsLine N p → HaveSafeBoxes p
line_boxes N p h m a at = nav_box m a (subst (λ (l : List ModuleInfo). At l m a) h.modules at)

pub slow_is_coded : (N : Term → Type 0) (p : Tables) → IsLine N p → IsCodedNode p 1
slow_is_coded N p h = (h.nodes.1, h.nodes.3.body.0, ap (λ l. slice_get l 1) h.nodes.4, h.nodes.3.body.1)
