-- How the line of an entry is found piece by piece from the front of a text: what stands behind it,
-- or nothing.
use Rattle.std.specs.Prelude.{ℕ, ℤ, List, [], ◌∷◌, Option, Some, None, length, take, drop, codes}
use Rattle.sot_lang.specs.declared.tables.PlantInfo.{PlantInfo}
use Rattle.sot_lang.specs.Tables.{Tables}
use Rattle.sot_world.specs.HistoryEntry.{Logged, InputAt, FireAt, DecideAt, TickAt}
use Rattle.sot_trace.specs.Numbers.{numeral, signed_numeral}
use Rattle.sot_lang.specs.Names.{topic_name, node_name, module_name}
use Rattle.sot_trace.specs.Names.{scalar_name}
use Rattle.sot_trace.specs.Drafts.{is_in_range, mark}
use Rattle.sot_trace.specs.Lines.{writes_of, firing_word, mode_word}
use Rattle.sot_trace_lines.specs.Pieces.{◌>>=◌, behind}
use Rattle.sot_trace_lines.specs.Readers.{move_front}

-- a row of numbers
abbrev pub behind_further : List ℤ → List ℕ → Option (List ℕ)
behind_further [] text = Some text
behind_further (z ∷ zs) text =
    behind (codes ",") text >>= λ a. behind (signed_numeral z) a >>= behind_further zs

abbrev pub behind_numbers : List ℤ → List ℕ → Option (List ℕ)
behind_numbers [] text = Some text
behind_numbers (z ∷ zs) text = behind (signed_numeral z) text >>= behind_further zs

-- the slots of a draft
abbrev pub behind_slot : Tables → ℕ → Option ℤ → List ℕ → Option (List ℕ)
behind_slot p k None text = Some text
behind_slot p k (Some z) text =
    behind (codes " ") text >>= λ a. behind (scalar_name p k) a >>= λ b.
    behind (mark (is_in_range p k z)) b >>= behind (signed_numeral z)

abbrev pub behind_draft : Tables → List ℕ → List (Option ℤ) → List ℕ → Option (List ℕ)
behind_draft p [] draft text = Some text
behind_draft p (k ∷ ks) [] text = Some text
behind_draft p (k ∷ ks) (slot ∷ draft) text = behind_slot p k slot text >>= behind_draft p ks draft

-- plants with their disturbances and states
abbrev pub behind_move : PlantInfo → List ℤ → List ℤ → List ℕ → Option (List ℕ)
behind_move plant noise states text =
    move_front plant text >>= λ a. behind_numbers noise a >>= λ b.
    behind (codes ")=") b >>= behind_numbers states

abbrev pub behind_moves : List PlantInfo → List ℤ → List ℤ → List ℕ → Option (List ℕ)
behind_moves [] noise states text = Some text
behind_moves (k ∷ ks) noise states text =
    behind_move k (take (length k.noise.items) noise) (take (length k.states.items) states) text
    >>= behind_moves ks (drop (length k.noise.items) noise) (drop (length k.states.items) states)

-- the line of an entry
abbrev pub behind_entry : Tables → Logged → List ℕ → Option (List ℕ)
behind_entry p (InputAt time topic value) line =
    behind (numeral time) line >>= λ a. behind (codes " input ") a >>= λ b.
    behind (topic_name p topic) b >>= λ c. behind (codes "=") c >>= behind_numbers value
behind_entry p (FireAt time node draft enabled) line =
    behind (numeral time) line >>= λ a. behind (firing_word enabled) a >>= λ b.
    behind (node_name p node) b >>= behind_draft p (writes_of p node) draft
behind_entry p (DecideAt time decider mode) line =
    behind (numeral time) line >>= λ a. behind (codes " decide ") a >>= λ b.
    behind (module_name p decider) b >>= behind (mode_word mode)
behind_entry p (TickAt time noise states) line =
    behind (numeral time) line >>= λ a.
    behind (codes " tick") a >>= behind_moves p.plants noise states
