-- Lists of drafts, one a node, beside a history.
use Rattle.std.specs.Prelude.{ℕ, ◌≡◌, Bool, List, [], length, Option, Some, vec_capacity}
use Rattle.sot_lists.specs.Places.{At}
use Rattle.sot_lang.specs.declared.tables.NodeInfo.{NodeInfo}
use Rattle.sot_tube.specs.Admitted.{Admitted}
use Rattle.sot_world.specs.HistoryEntry.{Logged}
use Rattle.sot_flight.specs.Plans.{Plan}
use Rattle.sot_board.specs.Versions.{drafts_of}
use Rattle.sot_board.specs.Standing.{Standing}
use Rattle.sot_fly_worker.specs.Rooms.{HasRoomFor}
use Rattle.sot_workers.specs.declared.lists.NodeList.{NodeList}
use Rattle.sot_ordered_board.specs.Crews.{IsOwn}
use Rattle.sot_workers.specs.Flying.{IsMine}

-- one list a node, in declared order
pub record HasNodes (count : ℕ) (lists : List NodeList) : Type 0 where
  pub each : length lists ≡ count
  pub nodes : (n : ℕ) (list : NodeList) → At lists n list → list.node ≡ n

-- one list a node, in declared order, and each is the drafts of its node's firings, in order
pub record AreLists (count : ℕ) (lists : List NodeList) (entries : List Logged) : Type 0 where
  pub nodes : HasNodes count lists
  pub drafts : (n : ℕ) (list : NodeList) → At lists n list → list.drafts.items ≡ drafts_of n entries

-- one list a node, in declared order; that of each node that no guest flies is the drafts of its
-- firings, and of the others nothing is said
pub record AreOwnLists (count : ℕ) (f : Plan) (lists : List NodeList) (entries : List Logged) : Type
    0 where
  pub nodes : HasNodes count lists
  pub drafts : (n : ℕ) (list : NodeList) → At lists n list → IsOwn f n
      → list.drafts.items ≡ drafts_of n entries

-- one list a node, in declared order; that of each node that the caller fires is the drafts of its
-- firings, and of the others nothing is said
pub record AreMine (count : ℕ) (f : Plan) (away : List Bool) (lists : List NodeList)
    (entries : List Logged) : Type 0 where
  pub nodes : HasNodes count lists
  pub drafts : (n : ℕ) (list : NodeList) → At lists n list → IsMine f away n
      → list.drafts.items ≡ drafts_of n entries

-- the caller's own lists beside a board
abbrev pub KeepsLists : Standing → List Bool → List NodeList → Type 0
KeepsLists b away lists = AreMine (length b.accepted.program.nodes) b.plan away lists b.entries

-- the list of each of these nodes that is such has room for the drafts of all its firings
abbrev pub HaveRoom : List NodeInfo → ℕ → (ℕ → Type 0) → List NodeList → Type 0
HaveRoom nodes horizon Is lists =
    (n : ℕ) (list : NodeList) → At lists n list → Is n
    → HasRoomFor nodes horizon n (vec_capacity list.drafts)

-- the same for the program and the flight of a ground, where they are known
abbrev pub HaveRoomIn : Option (Admitted × Plan) → (Plan → ℕ → Type 0) → List NodeList → Type 0
HaveRoomIn known Is lists =
    (a : Admitted) (f : Plan) → known ≡ Some (a, f)
    → HaveRoom a.program.nodes f.horizon (Is f) lists

-- the caller's own lists have room, beside a board
abbrev pub KeepsRoom : Standing → List Bool → List NodeList → Type 0
KeepsRoom b away lists =
    HaveRoom b.accepted.program.nodes b.plan.horizon (IsMine b.plan away) lists

-- what stands now at such a place stood there before
abbrev pub AreKept : (ℕ → Type 0) → List NodeList → List NodeList → Type 0
AreKept Is old new = (n : ℕ) (list : NodeList) → Is n → At new n list → At old n list

-- one empty list a node
pub record AreEmpty (count : ℕ) (lists : List NodeList) : Type 0 where
  pub nodes : HasNodes count lists
  pub drafts : (n : ℕ) (list : NodeList) → At lists n list → list.drafts.items ≡ []
