-- The line of an entry, found piece by piece.
use Rattle.std.proofs.Common.{◌≡◌, ℕ, ◌+◌, List, [], ◌∷◌, ◌++◌, Option, Some, None, length, take, drop, codes, refl, sym, ap, ap₂, ◌∙◌, append_assoc}
use Rattle.std.specs.Prelude.{ℤ}
use Rattle.std.proofs.lemmas.List.{append-nil}
use Rattle.sot_lang.specs.declared.tables.PlantInfo.{PlantInfo}
use Rattle.sot_lang.specs.Tables.{Tables}
use Rattle.sot_lists.specs.Places.{At}
use Rattle.sot_lists.proofs.Places.{drop_at}
use Rattle.sot_world.specs.HistoryEntry.{Logged, InputAt, FireAt, DecideAt, TickAt}
use Rattle.sot_trace.specs.Numbers.{numeral, signed_numeral, further, numbers}
use Rattle.sot_lang.specs.Names.{topic_name, node_name, module_name}
use Rattle.sot_trace.specs.Names.{scalar_name}
use Rattle.sot_trace.specs.Drafts.{is_in_range, mark, slot_text, draft_text}
use Rattle.sot_trace.specs.Moves.{move_text, moves_text}
use Rattle.sot_trace.specs.Lines.{writes_of, firing_word, mode_word, line_of}
use Rattle.sot_trace_lines.specs.Pieces.{◌>>=◌, behind}
use Rattle.sot_trace_lines.specs.Readers.{move_front}
use Rattle.sot_trace_lines.specs.Entries.{behind_further, behind_numbers, behind_slot, behind_draft, behind_move, behind_moves, behind_entry}
use Rattle.sot_trace_lines.proofs.Pieces.{then_next, behind_them, in_front}
use Rattle.sot_trace_lines.proofs.KeptSlots.{behind_both}

-- first one piece, then what is found as another one
joined : (a b text : List ℕ) (f : List ℕ → Option (List ℕ)) → ((rest : List ℕ) → f rest ≡ behind b rest) → (behind a text >>= f) ≡ behind (a ++ b) text
joined a b text f is = ap (λ (g : List ℕ → Option (List ℕ)). behind a text >>= g) (λ i rest. is rest i) ∙ sym (behind_both a b text)

-- .. where the first one is found so
then_joined : (a b text : List ℕ) (o : Option (List ℕ)) (f : List ℕ → Option (List ℕ)) → o ≡ behind a text → ((rest : List ℕ) → f rest ≡ behind b rest)
    → (o >>= f) ≡ behind (a ++ b) text
then_joined a b text o f first is = ap (λ x. x >>= f) first ∙ joined a b text f is

further_is : (zs : List ℤ) (text : List ℕ) → behind_further zs text ≡ behind (further zs) text
further_is [] text = refl
further_is (z ∷ zs) text =
    joined (codes ",") (signed_numeral z ++ further zs) text (λ a. behind (signed_numeral z) a >>= behind_further zs)
    (λ a. joined (signed_numeral z) (further zs) a (behind_further zs) (further_is zs))

numbers_are : (zs : List ℤ) (text : List ℕ) → behind_numbers zs text ≡ behind (numbers zs) text
numbers_are [] text = refl
numbers_are (z ∷ zs) text = joined (signed_numeral z) (further zs) text (behind_further zs) (further_is zs)

slot_is : (p : Tables) (k : ℕ) (slot : Option ℤ) (text : List ℕ) → behind_slot p k slot text ≡ behind (slot_text p k slot) text
slot_is p k None text = refl
slot_is p k (Some z) text =
    let sign : List ℕ = mark (is_in_range p k z) in
    joined (codes " ") (scalar_name p k ++ (sign ++ signed_numeral z)) text
    (λ a. behind (scalar_name p k) a >>= λ b. behind sign b >>= behind (signed_numeral z))
    (λ a. joined (scalar_name p k) (sign ++ signed_numeral z) a (λ b. behind sign b >>= behind (signed_numeral z))
    (λ b. joined sign (signed_numeral z) b (behind (signed_numeral z)) (λ c. refl)))

draft_is : (p : Tables) (ks : List ℕ) (draft : List (Option ℤ)) (text : List ℕ) → behind_draft p ks draft text ≡ behind (draft_text p ks draft) text
draft_is p [] draft text = refl
draft_is p (k ∷ ks) [] text = refl
draft_is p (k ∷ ks) (slot ∷ draft) text =
    then_joined (slot_text p k slot) (draft_text p ks draft) text (behind_slot p k slot text) (behind_draft p ks draft) (slot_is p k slot text)
    (draft_is p ks draft)

front_is : (plant : PlantInfo) (text : List ℕ) → move_front plant text ≡ behind (codes " " ++ (plant.name ++ codes "(")) text
front_is plant text =
    joined (codes " ") (plant.name ++ codes "(") text (λ a. behind plant.name a >>= behind (codes "("))
    (λ a. joined plant.name (codes "(") a (behind (codes "(")) (λ b. refl))

move_is : (plant : PlantInfo) (noise states : List ℤ) (text : List ℕ) → behind_move plant noise states text ≡ behind (move_text plant noise states) text
move_is plant noise states text =
    let rest : List ℕ = numbers noise ++ (codes ")=" ++ numbers states) in
    then_joined (codes " " ++ (plant.name ++ codes "(")) rest text (move_front plant text)
    (λ a. behind_numbers noise a >>= λ b. behind (codes ")=") b >>= behind_numbers states) (front_is plant text)
    (λ a. then_joined (numbers noise) (codes ")=" ++ numbers states) a (behind_numbers noise a) (λ b. behind (codes ")=") b >>= behind_numbers states)
    (numbers_are noise a)
    (λ b. joined (codes ")=") (numbers states) b (behind_numbers states) (numbers_are states)))
    ∙ ap (λ x. behind (32 ∷ x) text) (append_assoc plant.name (codes "(") rest)

moves_are : (plants : List PlantInfo) (noise states : List ℤ) (text : List ℕ)
    → behind_moves plants noise states text ≡ behind (moves_text plants noise states) text
moves_are [] noise states text = refl
moves_are (k ∷ ks) noise states text =
    let own_noise : List ℤ = take (length k.noise.items) noise in
    let own_states : List ℤ = take (length k.states.items) states in
    let more_noise : List ℤ = drop (length k.noise.items) noise in
    let more_states : List ℤ = drop (length k.states.items) states in
    then_joined (move_text k own_noise own_states) (moves_text ks more_noise more_states) text (behind_move k own_noise own_states text)
    (behind_moves ks more_noise more_states) (move_is k own_noise own_states text)
    (moves_are ks more_noise more_states)

-- what is found piece by piece is the line
pub entry_is : (p : Tables) (entry : Logged) (line : List ℕ) → behind_entry p entry line ≡ behind (line_of p entry) line
entry_is p (InputAt time topic value) line =
    joined (numeral time) _ line _ (λ a. joined (codes " input ") _ a _
    (λ b. joined (topic_name p topic) _ b _ (λ c. joined (codes "=") (numbers value) c (behind_numbers value) (numbers_are value))))
entry_is p (FireAt time node draft enabled) line =
    joined (numeral time) _ line _ (λ a. joined (firing_word enabled) _ a _
    (λ b. joined (node_name p node) (draft_text p (writes_of p node) draft) b (behind_draft p (writes_of p node) draft) (draft_is p (writes_of p node) draft)))
entry_is p (DecideAt time decider mode) line =
    joined (numeral time) _ line _ (λ a. joined (codes " decide ") _ a _
    (λ b. joined (module_name p decider) (mode_word mode) b (behind (mode_word mode)) (λ c. refl)))
entry_is p (TickAt time noise states) line =
    joined (numeral time) _ line _ (λ a. joined (codes " tick") (moves_text p.plants noise states) a (behind_moves p.plants noise states)
    (moves_are p.plants noise states))

-- a text behind which nothing stands is the line
pub whole_is : (whole line rest : List ℕ) → behind whole line ≡ Some rest → rest ≡ [] → line ≡ whole
whole_is whole line rest found none = in_front whole line rest found ∙ ap (λ x. whole ++ x) none ∙ append-nil whole

pub nothing_behind : (whole line : List ℕ) → line ≡ whole → behind whole line ≡ Some []
nothing_behind whole line same = ap (behind whole) (same ∙ sym (append-nil whole)) ∙ behind_them whole []

module _ (p : Tables) (ks : List ℕ) (draft : List (Option ℤ)) (i k : ℕ) (slot : Option ℤ) (at_k : At ks i k) (at_slot : At draft i slot) (text : List ℕ) where
  draft_next : behind_draft p (drop i ks) (drop i draft) text ≡ (behind_slot p k slot text >>= behind_draft p (drop (i + 1) ks) (drop (i + 1) draft))
  draft_next = ap₂ (λ l d. behind_draft p l d text) (drop_at ks i k at_k) (drop_at draft i slot at_slot)

  -- the next slot is found
  pub slot_found : (rest : List ℕ) → behind_slot p k slot text ≡ Some rest
      → behind_draft p (drop (i + 1) ks) (drop (i + 1) draft) rest ≡ behind_draft p (drop i ks) (drop i draft) text
  slot_found rest found = sym (draft_next ∙ then_next (behind_slot p k slot text) (behind_draft p (drop (i + 1) ks) (drop (i + 1) draft)) rest found)

  -- .. or it is not
  pub slot_missing : behind_slot p k slot text ≡ None → None ≡ behind_draft p (drop i ks) (drop i draft) text
  slot_missing none = sym (draft_next ∙ ap (λ o. o >>= behind_draft p (drop (i + 1) ks) (drop (i + 1) draft)) none)
