-- The lock's table as plain data, and the views that its seats have.
use Rattle.std.specs.Prelude.{◌≡◌, ℕ, ◌<◌, ◌≤◌, true, false, List, [], ◌∷◌, ◌++◌, length}
use Rattle.std.specs.Prelude.{slice_index}
use Rattle.std.specs.Prelude.{Option, Some, None, if◌then◌else◌, nat_lt}
use mathlib.Core.Option as maybe
use lib.ListN.{get_elem?}
use Rattle.atomic_table.specs.Table.{State, Me}
use Rattle.sot_turn.specs.declared.turn.rule.View.{View}
use Rattle.sot_turn.specs.Prefixes.{behind}

-- three words, a slot for the value, and the view of each seat
abbrev pub Table : Type 0 → Type 0 → Type 0 → Type 0
Table Value Ground Entry = State (Option Value) (View Ground Entry)

-- what a seat knows and has: its view, and the slots that it has taken, each with what lies there
abbrev pub Seated : Type 0 → Type 0 → Type 0 → Type 0
Seated Value Ground Entry = Me (Option Value) (View Ground Entry)

module _ {Slot Known : Type 0} where
  -- word 0, the number of tickets drawn
  abbrev pub drawn : State Slot Known → ℕ
  drawn table = slice_index table.words 0

  -- word 1, the ticket that is served
  abbrev pub served : State Slot Known → ℕ
  served table = slice_index table.words 1

  -- word 2, the length of the value's list
  abbrev pub announced : State Slot Known → ℕ
  announced table = slice_index table.words 2

-- the second list where it is longer, and else the first
abbrev pub longer : {A : Type 0} → List A → List A → List A
longer first second = if nat_lt (length first) (length second) then second else first

abbrev pub list_of : {A : Type 0} → Option A → List A
list_of None = []
list_of (Some a) = a ∷ []

module _ {Ground Entry : Type 0} where
  -- a view with no ticket and no turn, with nothing added and nothing kept
  abbrev pub idle : Option Ground → List Entry → View Ground Entry
  idle base seen = record {
    own_ground = base;
    ticket = None;
    turn = false;
    seen = seen;
    added = [];
    kept_lists = [];
    kept_grounds = [];
  }

  -- the view of a seat that was joined to another
  abbrev pub spent : View Ground Entry
  spent = idle None []

  -- the view whose owner has let the list go on to this one: it has seen it, and has added what
  -- came behind
  abbrev pub extended : View Ground Entry → List Entry → View Ground Entry
  extended view list = record view { seen = list; added = view.added ++ behind view.seen list }

  -- the view after a join: it has seen the longer list, has added what both have, and keeps both
  -- lists and the ground of the other
  abbrev pub joined : View Ground Entry → View Ground Entry → View Ground Entry
  joined view other = record {
    own_ground = view.own_ground;
    ticket = None;
    turn = false;
    seen = longer view.seen other.seen;
    added = view.added ++ other.added;
    kept_lists = view.seen ∷ other.seen ∷ [];
    kept_grounds = list_of other.own_ground;
  }

  -- the view at that place
  abbrev pub IsAt : List (View Ground Entry) → ℕ → View Ground Entry → Type 0
  IsAt views place view = get_elem? views place ≡ maybe.some view

  -- each view has the property
  abbrev pub EachView : List (View Ground Entry) → (View Ground Entry → Type 0) → Type 0
  EachView views Holds = (i : ℕ) (view : View Ground Entry) → IsAt views i view → Holds view

  -- some view has the property
  abbrev pub SomeView : List (View Ground Entry) → (View Ground Entry → Type 0) → Type 0
  SomeView views Holds = (i : ℕ) × (view : View Ground Entry) × IsAt views i view × Holds view

  -- no two views have one ticket
  abbrev pub HaveDistinctTickets : List (View Ground Entry) → Type 0
  HaveDistinctTickets views = (i j ticket : ℕ) (view other : View Ground Entry) →
      IsAt views i view → IsAt views j other → view.ticket ≡ Some ticket
      → other.ticket ≡ Some ticket → i ≡ j

  -- each number from `first` up to `end` less 1 is the ticket of some view
  abbrev pub HaveEachTicket : List (View Ground Entry) → ℕ → ℕ → Type 0
  HaveEachTicket views first end =
      (ticket : ℕ) → first ≤ ticket → ticket < end
      → SomeView views (λ view. view.ticket ≡ Some ticket)

  -- at most one view has the turn
  abbrev pub HaveOneTurn : List (View Ground Entry) → Type 0
  HaveOneTurn views = (i j : ℕ) (view other : View Ground Entry) →
      IsAt views i view → IsAt views j other → view.turn ≡ true → other.turn ≡ true → i ≡ j

  -- no view has the turn
  abbrev pub NobodyHasTurn : List (View Ground Entry) → Type 0
  NobodyHasTurn views = EachView views (λ view. view.turn ≡ false)
