-- What the functions on seats say of a seat.
use Rattle.std.specs.Prelude.{◌≡◌, ℕ, true, false, [], ◌∷◌, Some, None, IsSome}
use Rattle.atomic_table.specs.Seated.{TableId}
use Rattle.atomic_table.specs.declared.shared.Seat.{Seat}
use Rattle.sot_turn.specs.declared.turn.rule.View.{View}
use Rattle.sot_turn.specs.Views.{Seated}

-- the seat is one of the lock's table, which has three words and a slot
abbrev pub IsPlaceOf : TableId → TableId → Type 0
IsPlaceOf table seat = (seat ≡ table) × (table.words ≡ 3) × (table.slots ≡ 1)

-- the seat is the same, whatever it knows
abbrev pub IsSamePlace : {Slot Known : Type 0} → Seat Slot Known → Seat Slot Known → Type 0
IsSamePlace old new = (new.table_id ≡ old.table_id) × (new.id ≡ old.id)

-- no ticket and no turn, and not spent
abbrev pub IsIdle : {Ground Entry : Type 0} → View Ground Entry → Type 0
IsIdle view = (view.ticket ≡ None) × (view.turn ≡ false) × IsSome view.own_ground

module _ {Value Ground Entry : Type 0} where
  -- it has drawn the ticket, and has no turn and no slot
  abbrev pub Waits : ℕ → Seated Value Ground Entry → Type 0
  Waits ticket me =
      (me.0.ticket ≡ Some ticket) × (me.0.turn ≡ false) × IsSome me.0.own_ground × (me.1 ≡ [])

  -- it has the turn, and the slot with nothing in it
  abbrev pub HasTaken : Seated Value Ground Entry → Type 0
  HasTaken me = (me.0.turn ≡ true) × (me.1 ≡ (0, None) ∷ [])
