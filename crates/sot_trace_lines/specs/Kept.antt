-- What is kept of numbers that are read: those of 64 bits, and whether all of them are.
use Rattle.std.specs.Prelude.{ℕ, suc, ◌<◌, ◌≡◌, length, ◌^◌, ℤ, pos, negsuc, List, [], ◌∷◌, ◌++◌}
use Rattle.std.specs.Prelude.{Bool, false, nat_lt, if◌then◌else◌, Option, Some, None, slice_set}
use Rattle.sot_lang.specs.Tables.{Tables}
use Rattle.sot_trace_lines.specs.declared.line.Line.{Line}
use Rattle.sot_trace_lines.specs.declared.line.LineFront.{LineFront}
use Rattle.sot_trace_lines.specs.declared.line.LineFront.TheVariants.{Firing, Tick, Whole}
use Rattle.sot_trace_lines.specs.Spelled.{Spelled}
use Rattle.sot_trace_lines.specs.Shown.{Shows, BeginsFiring, BeginsTick}

-- the number, if it has 64 bits
abbrev pub bounded : ℤ → Option ℤ
bounded (pos n) = if nat_lt n (2 ^ 63) then Some (pos n) else None
bounded (negsuc n) = if nat_lt n (2 ^ 63) then Some (negsuc n) else None

-- a number that was read, if it has 64 bits, with what stands behind
abbrev pub kept_numeral : Option (ℕ × List ℕ) → Option (Option ℤ × List ℕ)
kept_numeral None = None
kept_numeral (Some c) = Some (bounded (pos c.0), c.1)

abbrev pub kept_number : Option (ℤ × List ℕ) → Option (Option ℤ × List ℕ)
kept_number None = None
kept_number (Some c) = Some (bounded c.0, c.1)

-- a list, and whether it has each number that was read
abbrev pub Kept : Type 0
Kept = List ℤ × Bool

-- a number is put behind those of the list, or it is left out
abbrev pub put_one : Kept → Option ℤ → Kept
put_one kept (Some v) = (kept.0 ++ (v ∷ []), kept.1)
put_one kept None = (kept.0, false)

-- each of these
abbrev pub put_all : Kept → List ℤ → Kept
put_all kept [] = kept
put_all kept (z ∷ zs) = put_all (put_one kept (bounded z)) zs

-- the numbers of a row, or the disturbances of plants, with what stands behind
abbrev pub kept_row : Kept → Option (List ℤ × List ℕ) → Option (Kept × List ℕ)
kept_row kept None = None
kept_row kept (Some row) = Some (put_all kept row.0, row.1)

-- what stands behind them alone
abbrev pub rest_of : Option (List ℤ × List ℕ) → Option (List ℕ)
rest_of None = None
rest_of (Some row) = Some row.1

abbrev pub kept_noise : Kept → Option (List ℤ × List ℤ × List ℕ) → Option (Kept × List ℕ)
kept_noise kept None = None
kept_noise kept (Some m) = Some (put_all kept m.0, m.2)

-- the number of a slot in its place of a draft
abbrev pub draft_one : ℕ → List (Option ℤ) × Bool → Option ℤ → List (Option ℤ) × Bool
draft_one i kept (Some v) = (slice_set kept.0 i (Some v), kept.1)
draft_one i kept None = (kept.0, false)

-- a slot, which may be left out
abbrev pub put_slot : ℕ → List (Option ℤ) × Bool → Option (Bool × ℤ) → List (Option ℤ) × Bool
put_slot i kept None = kept
put_slot i kept (Some slot) = draft_one i kept (bounded slot.1)

abbrev pub kept_slot : ℕ → List (Option ℤ) × Bool → Option (Option (Bool × ℤ) × List ℕ)
    → Option ((List (Option ℤ) × Bool) × List ℕ)
kept_slot i kept None = None
kept_slot i kept (Some s) = Some (put_slot i kept s.0, s.1)

-- each slot, from this place on
abbrev pub draft_all : ℕ → List (Option ℤ) × Bool → List (Option (Bool × ℤ))
    → List (Option ℤ) × Bool
draft_all i kept [] = kept
draft_all i kept (slot ∷ slots) = draft_all (suc i) (put_slot i kept slot) slots

-- what stands behind a mark
abbrev pub behind_mark : Option (Bool × List ℕ) → Option (List ℕ)
behind_mark None = None
behind_mark (Some front) = Some front.1

abbrev pub kept_slots : ℕ → List (Option ℤ) × Bool → Option (List (Option (Bool × ℤ)) × List ℕ)
    → Option ((List (Option ℤ) × Bool) × List ℕ)
kept_slots i kept None = None
kept_slots i kept (Some d) = Some (draft_all i kept d.0, d.1)

-- what is looked at of what was read, if anything was
abbrev pub ShowsRead : List ℤ → Option Line → Option Spelled → Type 0
ShowsRead list (Some l) (Some s) = Shows l list s
ShowsRead list None None = Unit {0}
ShowsRead list (Some l) None = ⊥
ShowsRead list None (Some s) = ⊥

-- what is looked at of the front of a line, of what was read of the line, if anything was
abbrev pub ShowsFront : Tables → List ℤ → Option LineFront → Option Spelled → Type 0
ShowsFront p list None o = ShowsRead list None o
ShowsFront p list (Some (Firing time node)) o =
    (node < length p.nodes) × ((s : Spelled) → o ≡ Some s → BeginsFiring time node s)
ShowsFront p list (Some (Tick time)) o = (s : Spelled) → o ≡ Some s → BeginsTick time s
ShowsFront p list (Some (Whole l)) o = ShowsRead list (Some l) o
