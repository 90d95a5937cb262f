-- The drafts that askings give, and the lists of drafts.
use Rattle.std.specs.Prelude.{ℕ, ℤ, ◌≡◌, List, ◌++◌, Option, Some, length, map, take}
use Rattle.sot_lists.specs.Places.{At}
use Rattle.sot_lang.specs.Tables.{Tables}
use Rattle.sot_code.specs.Recorded.{in_slots}
use Rattle.sot_world.specs.Events.{slot_count}
use Rattle.sot_world.specs.HistoryEntry.{Logged}
use Rattle.sot_flight.specs.Plans.{Plan}
use Rattle.sot_board.specs.Versions.{drafts_of}
use Rattle.sot_fly_worker.specs.Askings.{Asking}
use Rattle.sot_fly_worker.specs.Answers.{FitsFiring, HasAnswered}
use Rattle.sot_workers.specs.declared.lists.NodeList.{NodeList}
use Rattle.sot_workers.specs.Lists.{AreLists}

-- the draft that an asking gives: its slots of the scalars that the node writes, and nothing in
-- those past them
abbrev pub draft_given : Tables → ℕ → Asking → List (Option ℤ)
draft_given p n one = in_slots (take (slot_count p n) one.draft)

-- an asking that fits the firing number k gives the draft of the node's firing number k
abbrev pub FitsGiveDrafts : Type 0
FitsGiveDrafts =
    (p : Tables) (jitter : ℕ) (f : Plan) (n : ℕ) (history : List Logged) (k : ℕ) (one : Asking)
    → FitsFiring p jitter f n history k one → At (drafts_of n history) k (draft_given p n one)

-- a list that was told has grown by askings that give these drafts, one after another
abbrev pub GrowsBy : Tables → ℕ → Option (List Asking) → List Asking → List (List (Option ℤ))
    → Type 0
GrowsBy p n before after drafts =
    (first : List Asking) × (more : List Asking) × (before ≡ Some first) × (after ≡ first ++ more)
    × (map (draft_given p n) more ≡ drafts)

-- a list that has answered has grown by askings that give the drafts of the node's firings, in the
-- history's order
abbrev pub AskingsGiveDrafts : Type 0
AskingsGiveDrafts =
    (p : Tables) (jitter : ℕ) (f : Plan) (n : ℕ) (history : List Logged)
    (before : Option (List Asking)) (after : List Asking)
    → HasAnswered p jitter f n history before after → GrowsBy p n before after (drafts_of n history)

-- the history determines what drafts a list gives that was told before it
abbrev pub OneHistoryOneListOfDrafts : Type 0
OneHistoryOneListOfDrafts =
    (p : Tables) (jitter : ℕ) (f : Plan) (n : ℕ) (history : List Logged)
    (before : Option (List Asking)) (after other : List Asking)
    → HasAnswered p jitter f n history before after → HasAnswered p jitter f n history before other
    → map (draft_given p n) after ≡ map (draft_given p n) other

-- lists of drafts of one history: there are as many, and those at one place are of one node and
-- have the same drafts
abbrev pub ListsAreOfOneHistory : Type 0
ListsAreOfOneHistory =
    (count : ℕ) (lists others : List NodeList) (history : List Logged)
    → AreLists count lists history → AreLists count others history
    → (length lists ≡ length others) ×
    ((n : ℕ) (list other : NodeList) → At lists n list → At others n other
    → (list.node ≡ other.node) × (list.drafts.items ≡ other.drafts.items))

-- the list of a guest's node has its number, and the drafts that the guest's askings give
abbrev pub ListsAreTheAskings : Type 0
ListsAreTheAskings =
    (p : Tables) (jitter : ℕ) (f : Plan) (n count : ℕ) (history : List Logged)
    (lists : List NodeList) (list : NodeList) (before : Option (List Asking)) (after : List Asking)
    → AreLists count lists history → At lists n list → HasAnswered p jitter f n history before after
    → (list.node ≡ n) × GrowsBy p n before after list.drafts.items
