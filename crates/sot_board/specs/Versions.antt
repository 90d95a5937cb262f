-- What a history tells of a node and of a topic.
use Rattle.std.specs.Prelude.{ℕ, suc, ℤ, Bool, false, ◌&&◌, ◌||◌, ◌==◌, not, if◌then◌else◌, List}
use Rattle.std.specs.Prelude.{[], ◌∷◌, Option, Some, None, slice_index_or, map}
use Rattle.sot_lang.specs.Tables.{Tables}
use Rattle.sot_world.specs.HistoryEntry.{Logged, InputAt, FireAt, DecideAt, TickAt}
use Rattle.sot_world.specs.Outcomes.{is_refused}

-- the drafts of a node's firings, in order
abbrev pub drafts_of : ℕ → List Logged → List (List (Option ℤ))
drafts_of n [] = []
drafts_of n (FireAt time k draft enabled ∷ entries) =
    if n == k then draft ∷ drafts_of n entries else drafts_of n entries
drafts_of n (InputAt time topic value ∷ entries) = drafts_of n entries
drafts_of n (DecideAt time m mode ∷ entries) = drafts_of n entries
drafts_of n (TickAt time noise states ∷ entries) = drafts_of n entries

-- what is drafted for a scalar is published by an enabled node: it is a number in the scalar's
-- range
abbrev pub is_published : Tables → ℕ → Option ℤ → Bool
is_published p k None = false
is_published p k (Some z) = not (is_refused p k (Some z))

-- the topic of a scalar
abbrev pub topic_of : Tables → ℕ → ℕ
topic_of p k = slice_index_or (map (λ i. i.topic) p.scalars) k 0

-- of a draft for these scalars, some number is published on the topic
abbrev pub publishes_on : Tables → ℕ → List ℕ → List (Option ℤ) → Bool
publishes_on p topic [] draft = false
publishes_on p topic (k ∷ ks) [] = false
publishes_on p topic (k ∷ ks) (d ∷ draft) =
    (topic_of p k == topic && is_published p k d) || publishes_on p topic ks draft

-- an entry writes a topic: an input on it, or the firing of an enabled node that published a number
-- of it
abbrev pub writes_topic : Tables → ℕ → Logged → Bool
writes_topic p topic (InputAt time k value) = topic == k
writes_topic p topic (FireAt time n draft enabled) =
    enabled && publishes_on p topic (slice_index_or (map (λ x. x.writes.items) p.nodes) n []) draft
writes_topic p topic (DecideAt time m mode) = false
writes_topic p topic (TickAt time noise states) = false

-- the version of a topic: how many entries wrote it
abbrev pub version : Tables → ℕ → List Logged → ℕ
version p topic [] = 0
version p topic (entry ∷ entries) =
    if writes_topic p topic entry then suc (version p topic entries) else version p topic entries
