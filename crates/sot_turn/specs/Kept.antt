-- The rule of the lock: what holds between any two steps. Word 0 is the number of tickets drawn,
-- word 1 the ticket that is served, word 2 the length of the value's list. The slot has the value,
-- or nothing while it is out.
use Rattle.std.specs.Prelude.{◌≡◌, ℕ, ◌^◌, ◌<◌, ◌≤◌, true, List, length, All, Option, Some, None}
use mathlib.Core.Option as maybe
use lib.ListN.{get_elem?}
use Rattle.sot_turn.specs.declared.turn.rule.View.{View}
use Rattle.sot_turn.specs.Prefixes.{IsPrefix}
use Rattle.sot_turn.specs.Views.{Table, drawn, served, announced, spent, EachView}
use Rattle.sot_turn.specs.Views.{HaveDistinctTickets, HaveEachTicket, HaveOneTurn, NobodyHasTurn}

-- Slots that are at home, each with what lies there. The lock has one, which is 0.
abbrev pub Homes : Type 0 → Type 0
Homes Value = List (maybe.Option (Option Value))

module _ {Value : Type 0} where
  -- the value is at home: it lies in the slot, and no seat has the slot
  abbrev pub IsHome : Homes Value → Value → Type 0
  IsHome homes value = get_elem? homes 0 ≡ maybe.some (maybe.some (Some value))

  -- a seat has the slot
  abbrev pub IsOut : Homes Value → Type 0
  IsOut homes = get_elem? homes 0 ≡ maybe.some maybe.none

-- What the rule says of one view, by the common list and ground, the number of tickets drawn and
-- the ticket served.
pub record Fits {Ground Entry : Type 0} (common : List Entry) (base : Ground) (tickets now : ℕ)
    (view : View Ground Entry) : Type 0 where
  -- its ground is the common one
  pub has_ground : (own : Ground) → view.own_ground ≡ Some own → own ≡ base
  -- and so is each ground that it keeps
  pub keeps_ground : All (λ kept. kept ≡ base) view.kept_grounds
  -- it has seen a prefix of the common list
  pub has_seen : IsPrefix view.seen common
  -- and keeps prefixes of what it has seen
  pub keeps_lists : All (λ kept. IsPrefix kept view.seen) view.kept_lists
  -- its ticket is drawn, and its turn not yet passed
  pub ticket_waits : (ticket : ℕ) → view.ticket ≡ Some ticket → (now ≤ ticket) × (ticket < tickets)
  -- it has the turn only with the ticket that is served
  pub turn_is_served : view.turn ≡ true → view.ticket ≡ Some now
  -- and has then seen the whole common list
  pub turn_has_seen : view.turn ≡ true → view.seen ≡ common
  -- with no ground it is the spent view
  pub spent_has_nothing : view.own_ground ≡ None → view ≡ spent

-- The rule, of a value that stands for a ground and a list.
pub record Kept {Value Ground Entry : Type 0} (ground_of : Value → Ground)
    (entries_of : Value → List Entry)
    (table : Table Value Ground Entry) : Type 0 where
  -- the list of which all seen and kept lists are prefixes
  pub common : List Entry
  -- the ground of all views but the spent ones
  pub base : Ground
  pub three_words : length table.words ≡ 3
  pub drawn_fits : drawn table < 2 ^ 64
  pub served_at_most_drawn : served table ≤ drawn table
  -- word 2 is the length of the common list
  pub length_is_announced : announced table ≡ length common
  pub each_fits : EachView table.views (Fits common base (drawn table) (served table))
  -- tickets are distinct, and are the numbers from word 1 up to word 0 less 1
  pub distinct : HaveDistinctTickets table.views
  pub each_ticket : HaveEachTicket table.views (served table) (drawn table)
  pub one_turn : HaveOneTurn table.views
  -- a value at home has the common ground and stands for the common list
  pub home_stands : (value : Value) → IsHome table.homes value
      → (ground_of value ≡ base) × (entries_of value ≡ common)
  -- where no view has the turn, the value is at home
  pub home_unless_turn : NobodyHasTurn table.views → (value : Value) × IsHome table.homes value
  -- while a view has the turn, its seat has the slot
  pub out_while_turn : EachView table.views (λ view. view.turn ≡ true → IsOut table.homes)
