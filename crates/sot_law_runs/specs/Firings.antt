-- How often nodes fire and modules decide in a run.
use Rattle.std.specs.Prelude.{ℕ, suc, ℤ, Bool, true, false, ◌==◌, if◌then◌else◌, List, [], ◌∷◌}
use Rattle.std.specs.Prelude.{take, ◌+◌, ◌<◌}
use Rattle.sot_lists.specs.Places.{At}
use Rattle.sot_lang.specs.declared.tables.NodeInfo.{NodeInfo}
use Rattle.sot_lang.specs.declared.tables.ModuleInfo.{ModuleInfo}
use Rattle.sot_lang.specs.Tables.{Tables}
use Rattle.sot_calendar.specs.Due.{IsDueCount}
use Rattle.sot_world.specs.Configurations.{Configuration, is_left, is_left_dm, IsOpening}
use Rattle.sot_world.specs.Steps.{Event, Input, Code, Guest, Decide, Tick}
use Rattle.sot_world.specs.Runs.{Run}

-- an event is a firing of the node n, or a decision of the module m
abbrev pub is_firing : ℕ → Event → Bool
is_firing n (Input topic value) = false
is_firing n (Code k) = k == n
is_firing n (Guest k draft) = k == n
is_firing n (Decide m) = false
is_firing n (Tick noise) = false

abbrev pub is_decision : ℕ → Event → Bool
is_decision m (Input topic value) = false
is_decision m (Code n) = false
is_decision m (Guest n draft) = false
is_decision m (Decide k) = k == m
is_decision m (Tick noise) = false

-- how many of these events are such ones
abbrev pub count_of : (Event → Bool) → List Event → ℕ
count_of is [] = 0
count_of is (e ∷ es) = if is e then suc (count_of is es) else count_of is es

-- 1 for what is left
abbrev pub one_if : Bool → ℕ
one_if true = 1
one_if false = 0

-- at each place of a run from an opening a node has been due as often as it has fired so far, and
-- once more where it is left; and so for the decisions of a module. Offsets and the jitter are
-- below the periods
abbrev pub FiringsAreDueTimes : Type 0
FiringsAreDueTimes =
    (p : Tables) (jitter : ℕ) (start : List (List ℤ)) (C : Configuration) (events : List Event)
    (Ds : List Configuration) (i : ℕ) (D : Configuration) →
    IsOpening p start C → Run p jitter C events Ds → At (C ∷ Ds) i D →
    ((n : ℕ) (node : NodeInfo) → At p.nodes n node → node.offset < node.period
    → jitter < node.period →
    IsDueCount node.period node.offset D.time
    (count_of (is_firing n) (take i events) + one_if (is_left D n)))
    × ((m : ℕ) (a : ModuleInfo) → At p.modules m a → a.offset < a.period → jitter < a.period →
    IsDueCount a.period a.offset D.time
    (count_of (is_decision m) (take i events) + one_if (is_left_dm D m)))
