-- Between the crate's own functions: one box at a time, one list at a time, one module at a time.
use Rattle.std.specs.Prelude.{Option, Some, ◌≡◌, ℕ, ◌<◌, ◌≤◌, ◌⊎◌, Bool, false, true, List, [], ◌∷◌}
use Rattle.std.specs.Prelude.{◌++◌, length}
use Rattle.sot_box.specs.Sides.{Side}
use Rattle.sot_box.specs.BoxList.{BoxList}
use Rattle.sot_box.specs.Boxes.{lows}
use Rattle.sot_lists.specs.Places.{At}
use Rattle.sot_lang.specs.declared.cert.Cells.{Cells}
use Rattle.sot_lang.specs.declared.tables.ModuleInfo.{ModuleInfo}
use Rattle.sot_lang.specs.Tables.{Tables}
use Rattle.sot_lang.specs.CertRules.{AreCellsOf}
use Rattle.sot_certify.specs.Cuts.{IsOnePoint, AreHalves}
use Rattle.sot_certify.specs.declared.fail.CertifyFail.{CertifyFail}
use Rattle.sot_certify.specs.declared.fail.CertifyFail.TheVariants.{Refused, Point, TooMany, Memory}
use Rattle.sot_certify.specs.declared.listing.ListFail.{ListFail}
use Rattle.sot_certify.specs.declared.listing.ListFail.TheVariants as fails
use Rattle.sot_certify.specs.Certifying.{AreMadeBefore}
use Rattle.sot_certify.specs.Made.{IsMade, FailsAt, HasTooMany, AreMade}

-- a good box becomes a cell, and a box that is not good is opened: its low half is the next box
abbrev pub IsTaken : (List Side → Type 0) → List Side → List (List Side) → List (List Side)
    → List (List Side) → List (List Side) → Type 0
IsTaken Good cell open_before open_after cells_before cells_after =
    (Good cell × (open_after ≡ open_before) × (cells_after ≡ cells_before ++ cell ∷ []))
    ⊎ ((Good cell → ⊥) × (low high : List Side) × AreHalves cell low high
    × (open_after ≡ (open_before ++ high ∷ []) ++ low ∷ []) × (cells_after ≡ cells_before))

-- why a box is not taken
abbrev pub IsNotTaken : (List Side → Type 0) → List Side → List (List Side) → ListFail → Type 0
IsNotTaken Good cell cells (fails.Point s) = (Good cell → ⊥) × IsOnePoint cell × (s ≡ lows cell)
IsNotTaken Good cell cells fails.TooMany = Good cell × (4096 ≤ length cells)
IsNotTaken Good cell cells fails.Memory = Unit {0}

-- why a list is not made
abbrev pub IsNotMade : Tables → ModuleInfo → Bool → ListFail → Type 0
IsNotMade p a reach (fails.Point s) = FailsAt p a reach s
IsNotMade p a reach fails.TooMany = HasTooMany p a reach
IsNotMade p a reach fails.Memory = Unit {0}

-- a list that was made
pub record IsListOf (p : Tables) (a : ModuleInfo) (reach : Bool) (list : BoxList) : Type 0 where
  pub made : IsMade p a reach list.boxes
  pub fits : AreCellsOf p a.plant list
  pub settled : list.settled ≡ true

-- both lists of a module that were made
pub record AreListsOf (p : Tables) (a : ModuleInfo) (cells : Cells) : Type 0 where
  pub made : AreMade p a cells
  pub closed : AreCellsOf p a.plant cells.closed
  pub reach : AreCellsOf p a.plant cells.reach

-- why a module has no cells: its first list that is not made
abbrev pub HasNoCells : Tables → ℕ → ModuleInfo → CertifyFail → Type 0
HasNoCells p m a (Refused r) = ⊥
HasNoCells p m a (Point n reach s) =
    (n ≡ m) × (reach ≡ true → (cells : List (List Side)) × IsMade p a false cells)
    × FailsAt p a reach s
HasNoCells p m a (TooMany n reach) =
    (n ≡ m) × (reach ≡ true → (cells : List (List Side)) × IsMade p a false cells)
    × HasTooMany p a reach
HasNoCells p m a Memory = Unit {0}

-- the failure of a list, with the module and the sort of the list
abbrev pub named : ℕ → Bool → ListFail → CertifyFail
named m reach (fails.Point s) = Point m reach s
named m reach fails.TooMany = TooMany m reach
named m reach fails.Memory = Memory

-- the first n modules have their entries
pub record AreEntriesTo (p : Tables) (entries : List (Option Cells)) (n : ℕ) : Type 0 where
  pub count : length entries ≡ n
  pub each : (m : ℕ) (a : ModuleInfo) → m < n → At p.modules m a
      → (cells : Cells) × At entries m (Some cells) × AreListsOf p a cells

-- why some module has no entry: the first list that is not made
abbrev pub HasNoEntries : Tables → CertifyFail → Type 0
HasNoEntries p (Refused r) = ⊥
HasNoEntries p (Point m reach s) =
    (a : ModuleInfo) × AreMadeBefore p m a reach × FailsAt p a reach s
HasNoEntries p (TooMany m reach) =
    (a : ModuleInfo) × AreMadeBefore p m a reach × HasTooMany p a reach
HasNoEntries p Memory = Unit {0}
