-- How a seat stands between the steps by which it hands the value back.
use Rattle.std.proofs.Common.{◌≡◌, ℕ, true, List, [], ◌∷◌, Option, Some, sym, refl, ap, subst}
use Rattle.atomic_table.specs.Table.{rest}
use Rattle.sot_turn.specs.Prefixes.{IsPrefix}
use Rattle.sot_turn.specs.Views.{Seated, extended}
use Rattle.sot_turn.specs.Places.{HasTaken}

module _ {Value Ground Entry : Type 0} (ground_of : Value → Ground) (entries_of : Value → List Entry) (value : Value) where
  -- it has the turn and the slot with the value, which has its ground, and a list that goes on from what it has seen
  pub record HasPutBack (me : Seated Value Ground Entry) : Type 0 where
    pub turn : me.0.turn ≡ true
    pub own : me.0.own_ground ≡ Some (ground_of value)
    pub slot : me.1 ≡ (0, Some value) ∷ []
    pub goes_on : IsPrefix me.0.seen (entries_of value)

  -- and it has seen that list
  pub record HasAnnounced (me : Seated Value Ground Entry) : Type 0 where
    pub turn : me.0.turn ≡ true
    pub own : me.0.own_ground ≡ Some (ground_of value)
    pub slot : me.1 ≡ (0, Some value) ∷ []
    pub all_seen : me.0.seen ≡ entries_of value

  pub puts_back : (old new : Seated Value Ground Entry) → HasTaken old → old.0.own_ground ≡ Some (ground_of value) → IsPrefix old.0.seen (entries_of value) →
      new ≡ (old.0, (0, Some value) ∷ rest old.1) → HasPutBack new
  puts_back old new taken own goes_on is =
      subst HasPutBack (sym is) record {
        turn = taken.0;
        own = own;
        slot = ap (λ (slots : List (ℕ × Option Value)). (0, Some value) ∷ rest slots) taken.1;
        goes_on = goes_on;
      }

  pub has_announced : (old new : Seated Value Ground Entry) → HasPutBack old → new ≡ (extended old.0 (entries_of value), old.1) → HasAnnounced new
  has_announced old new before is = subst HasAnnounced (sym is) record { turn = before.turn; own = before.own; slot = before.slot; all_seen = refl }
