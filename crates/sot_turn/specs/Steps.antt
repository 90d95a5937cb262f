-- What each kind of step tells the seat that makes it: its view and the slots that it has, before
-- and after, by the number found.
--   1 draw a ticket         word 0, compare-exchange from a number to the next   `draws`
--   2 look at the served    word 1, load                                         `looks`
--   3 take the value        slot, exchange                                       the view stays
--   4 announce the length   word 2, store                                        `announces`
--   5 put the value back    slot, exchange                                       the view stays
--   6 pass the turn         word 1, fetch-add of 1                               `passes`
--   7 split a seat          word 0, load                                         the view stays
--   8 join a seat           word 0, load                                         `joined`
-- The new seat of a split is `idle` with the same ground and list, and the other seat of a join is
-- `spent`.
-- A turn makes them in the order 1, 2, 3, 5, 4, 6, with 2 as often as it takes. A look that finds
-- the ticket takes the slot to the seat, and passing the turn gives it back.
use Rattle.std.specs.Prelude.{◌≡◌, ◌≢◌, ℕ, true, false, List, [], ◌∷◌, All, Option, Some, None}
use Rattle.atomic_table.specs.Table.{Me, Step, rest}
use Rattle.sot_turn.specs.declared.turn.rule.View.{View}
use Rattle.sot_turn.specs.Prefixes.{IsPrefix}
use Rattle.sot_turn.specs.Views.{Seated, extended}

module _ {Slot Ground Entry : Type 0} where
  -- where the word was the number expected, that is the seat's ticket
  abbrev pub draws : Step Slot → Me Slot (View Ground Entry) → ℕ → Me Slot (View Ground Entry)
      → Type 0
  draws step old found new =
      (found ≡ step.first → new ≡ (record old.0 { ticket = Some found }, old.1))
      × (found ≢ step.first → new ≡ old)

  -- the seat has no ticket and no turn, and the slot is back
  abbrev pub passes : Step Slot → Me Slot (View Ground Entry) → ℕ → Me Slot (View Ground Entry)
      → Type 0
  passes step old found new = new ≡ (record old.0 { ticket = None; turn = false }, rest old.1)

module _ {Value Ground Entry : Type 0} (ground_of : Value → Ground)
    (entries_of : Value → List Entry) where
  -- the seat has the turn and the slot, whose value has its ground and a list that goes on from
  -- what it had seen
  abbrev pub IsServed : Seated Value Ground Entry → Seated Value Ground Entry → Type 0
  IsServed old new =
      (value : Value)
      × (new ≡ (record old.0 { turn = true; seen = entries_of value }, (0, Some value) ∷ old.1))
      × (old.0.own_ground ≡ Some (ground_of value))
      × IsPrefix old.0.seen (entries_of value)

  -- where the word is the ticket, the seat is served; and any look tells that the kept lists are
  -- prefixes of the seen one, and the kept grounds the seat's own
  abbrev pub looks : Step (Option Value) → Seated Value Ground Entry → ℕ → Seated Value Ground Entry
      → Type 0
  looks step old found new =
      (old.0.ticket ≡ Some found → IsServed old new)
      × (old.0.ticket ≢ Some found → new ≡ old)
      × All (λ kept. IsPrefix kept old.0.seen) old.0.kept_lists
      × ((own : Ground) → old.0.own_ground ≡ Some own → All (λ kept. kept ≡ own) old.0.kept_grounds)

module _ {Value Ground Entry : Type 0} (entries_of : Value → List Entry) where
  -- the seat has seen the list of the value that lies in its slot, and has added what is new of it
  abbrev pub announces : Step (Option Value) → Seated Value Ground Entry → ℕ
      → Seated Value Ground Entry → Type 0
  announces step old found new =
      (value : Value) → old.1 ≡ (0, Some value) ∷ []
      → new ≡ (extended old.0 (entries_of value), old.1)
