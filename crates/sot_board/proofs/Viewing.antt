-- What a view has is what stands there now.
use Rattle.std.proofs.Common.{◌≡◌, ℕ, suc, ◌<◌, List, [], ◌∷◌, length, map, refl, ap₂, arith}
use Rattle.std.specs.Prelude.{slice_index_or}
use Rattle.std.proofs.lemmas.Option.{slice_get_within}
use Rattle.sot_lists.specs.Places.{At}
use Rattle.sot_lang.specs.declared.tables.Slot.{Slot}
use Rattle.sot_lang.specs.declared.tables.Slot.TheVariants.{Scalar, State}
use Rattle.sot_lang.specs.declared.tables.NodeInfo.{NodeInfo}
use Rattle.sot_lang.specs.Tables.{Tables}
use Rattle.sot_lang.specs.TableRules.{MeetsTableRules}
use Rattle.sot_world.specs.HistoryEntry.{Logged}
use Rattle.sot_board.specs.Versions.{topic_of, version}
use Rattle.sot_board.specs.ReadCounts.{HasCount, count_of}
use Rattle.sot_board.specs.Views.{slot_version}
use Rattle.sot_board.proofs.Publishing.{topic_inside}

-- the topic of each scalar that a node reads has a count
pub counts_there : (p : Tables) → MeetsTableRules p → (counts : List ℕ) → length counts ≡ length p.topics → (n : ℕ) (node : NodeInfo) → At p.nodes n node
    → (i : ℕ) (slot : Slot) → At node.reads.items i slot → HasCount p counts slot
counts_there p rules counts size n node at i (Scalar k) there =
    let lt = (rules.nodes n node at).reads_scalars k (i, there) in (
      lt,
      topic_inside p k (length counts) lt (λ j info at_j. let topic = rules.typed.scalar_topic j info at_j in
          omega (arith, slice_get_within p.topics info.topic topic.0 topic.1, size)),
    )
counts_there p rules counts size n node at i (State k v) there = tt

-- the counts are the versions
pub counts_are :
    (p : Tables) (entries : List Logged) (counts : List ℕ) (slots : List Slot) → length counts ≡ length p.topics
    → ((i : ℕ) (slot : Slot) → At slots i slot → HasCount p counts slot)
    → ((k : ℕ) → k < length p.topics → slice_index_or counts k 0 ≡ version p k entries) → map (count_of p counts) slots ≡ map (slot_version p entries) slots
counts_are p entries counts [] size there are = refl
counts_are p entries counts (slot ∷ slots) size there are =
    ap₂ (λ x xs. x ∷ xs) (one slot (there 0 slot refl)) (counts_are p entries counts slots size (λ i. there (suc i)) are)
  where
    one : (s : Slot) → HasCount p counts s → count_of p counts s ≡ slot_version p entries s
    one (Scalar k) has = are (topic_of p k) (omega (arith, has.1, size))
    one (State k v) has = refl
