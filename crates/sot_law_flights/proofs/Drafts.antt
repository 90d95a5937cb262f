-- Firings are counted as they are told, and external nodes draft what the flight states.
use Rattle.std.proofs.Common.{◌≡◌, ℕ, zero, suc, ◌<◌, ℤ, Bool, List, [], ◌∷◌, ◌++◌, length, map, Option, Some, None, refl, sym, ap, ◌∙◌, subst}
use Rattle.std.specs.Prelude.{slice_index_or}
use Rattle.std.proofs.lemmas.List.{append-nil, append_assoc, length-map, length-set}
use Rattle.std.proofs.lemmas.Option.{same_Some, slice_get_within}
use Rattle.sot_lists.specs.Places.{At}
use Rattle.sot_lang.specs.declared.tables.NodeInfo.{NodeInfo}
use Rattle.sot_lang.specs.Tables.{Tables}
use Rattle.sot_code.specs.Recorded.{in_slots}
use Rattle.sot_world.specs.Steps.{Event, Input, Code, Guest, Decide, Tick, Step}
use Rattle.sot_world.specs.Outcomes.{Recorded, Records}
use Rattle.sot_world.specs.HistoryEntry.{Logged, FireAt}
use Rattle.sot_flight.specs.Plans.{Plan, Crew}
use Rattle.sot_flight.specs.Stated.{draft_of}
use Rattle.sot_board.specs.Flown.{Position, fired_of, IsStated, IsStatedDraft, Tells, Leads, FlownSoFar, fired_after}
use Rattle.sot_board.specs.Versions.{drafts_of}
use Rattle.sot_board.proofs.Entries.{drafts_append, count_firing}
use Rattle.sot_law_flights.proofs.Told.{led_last}

-- an entry that is no firing leaves the drafts of a node
no_firing : (n : ℕ) (done : List Logged) (x : Logged) → drafts_of n (x ∷ []) ≡ [] → length (drafts_of n (done ++ x ∷ [])) ≡ length (drafts_of n done)
no_firing n done x none = ap length (drafts_append n done (x ∷ []) ∙ ap (λ ds. drafts_of n done ++ ds) none ∙ append-nil (drafts_of n done))

zeros : {A : Type 0} (xs : List A) (n : ℕ) → ◌≡◌ {A = ℕ} (slice_index_or (map (λ x. zero) xs) n zero) zero
zeros [] n = refl
zeros (x ∷ xs) zero = refl
zeros (x ∷ xs) (suc n) = zeros xs n

module _ (p : Tables) (jitter : ℕ) (f : Plan) where
  one_count : (P Q : Position) (e : Event) (r : _) (x : Logged) (done : List Logged) (n : ℕ) → n < length P.fired → fired_of P n ≡ length (drafts_of n done)
      → Tells P.at e r Q.at x → Q.fired ≡ fired_after e P.fired → fired_of Q n ≡ length (drafts_of n (done ++ x ∷ []))
  one_count P Q (Input topic value) r x done n lt was is after =
      ap (λ xs. slice_index_or xs n 0) after ∙ was ∙ sym (no_firing n done x (ap (λ y. drafts_of n (y ∷ [])) is))
  one_count P Q (Code m) r x done n lt was (draft, enabled, recorded, is) after =
      ap (λ xs. slice_index_or xs n 0) after ∙ count_firing n m P.at.time (in_slots draft) enabled done P.fired lt was
      ∙ ap (λ y. length (drafts_of n (done ++ y ∷ []))) (sym is)
  one_count P Q (Guest m d) r x done n lt was (draft, enabled, recorded, is) after =
      ap (λ xs. slice_index_or xs n 0) after ∙ count_firing n m P.at.time (in_slots draft) enabled done P.fired lt was
      ∙ ap (λ y. length (drafts_of n (done ++ y ∷ []))) (sym is)
  one_count P Q (Decide m) r x done n lt was (mode, recorded, is) after =
      ap (λ xs. slice_index_or xs n 0) after ∙ was ∙ sym (no_firing n done x (ap (λ y. drafts_of n (y ∷ [])) is))
  one_count P Q (Tick noise) r x done n lt was is after =
      ap (λ xs. slice_index_or xs n 0) after ∙ was ∙ sym (no_firing n done x (ap (λ y. drafts_of n (y ∷ [])) is))

  one_width : (e : Event) (fired : List ℕ) → length (fired_after e fired) ≡ length fired
  one_width (Input topic value) fired = refl
  one_width (Code n) fired = length-set fired n (suc (slice_index_or fired n 0))
  one_width (Guest n d) fired = length-set fired n (suc (slice_index_or fired n 0))
  one_width (Decide m) fired = refl
  one_width (Tick noise) fired = refl

  led_count : (P : Position) (done xs : List Logged) (Q : Position) (n : ℕ) → n < length P.fired → fired_of P n ≡ length (drafts_of n done)
      → Leads p jitter f P xs Q
      → fired_of Q n ≡ length (drafts_of n (done ++ xs))
  led_count P done [] Q n lt was led = ap (λ (x : Position). fired_of x n) (sym led) ∙ was ∙ ap (λ es. length (drafts_of n es)) (sym (append-nil done))
  led_count P done (x ∷ xs) Q n lt was (R, flies, led) =
      let width = ap length flies.fired ∙ one_width flies.event P.fired in
      let lt' = subst (λ k. n < k) (sym width) lt in
      let count = one_count P R flies.event flies.recorded x done n lt was flies.tells flies.fired in
      led_count R (done ++ x ∷ []) xs Q n lt' count led ∙ ap (λ es. length (drafts_of n es)) (append_assoc done (x ∷ []) xs)

  one_draft : (P Q : Position) (e : Event) (r : Recorded) (time n : ℕ) (draft : List (Option ℤ)) (enabled : Bool) (node : NodeInfo) (crew : Crew)
      (stated : List (Option ℤ))
      → At p.nodes n node → node.body ≡ None → At f.crews n crew → draft_of p node crew (fired_of P n) ≡ Some stated
      → IsStated p f P e → Step p jitter P.at e Q.at → Records p P.at e Q.at r → Tells P.at e r Q.at (FireAt time n draft enabled) → draft ≡ in_slots stated
  one_draft P Q (Input topic value) r time n draft enabled node crew stated at none at_crew states as_stated step records is = absurd cc
  one_draft P Q (Code m) r time n draft enabled node crew stated at none at_crew states as_stated step records (d, en, was, is) =
      let same : m ≡ n = cc in
      let node_is : step.node ≡ node = same_Some step.node node (sym (subst (λ k. At p.nodes k step.node) same step.is) ∙ at) in
      let body = sym step.coded.1 ∙ ap (λ (x : NodeInfo). x.body) node_is ∙ none in
      absurd cc
  one_draft P Q (Guest m given) r time n draft enabled node crew stated at none at_crew states (node', crew', at', at_crew', drafted) step records
      (d, en, was, is) =
      let same : m ≡ n = cc in
      let node_is : node' ≡ node = same_Some node' node (sym (subst (λ k. At p.nodes k node') same at') ∙ at) in
      let crew_is : crew' ≡ crew = same_Some crew' crew (sym (subst (λ k. At f.crews k crew') same at_crew') ∙ at_crew) in
      let of_place = subst (λ k. IsStatedDraft (draft_of p node' crew' (fired_of P k)) given) same drafted in
      let of_node = subst (λ (x : NodeInfo). IsStatedDraft (draft_of p x crew' (fired_of P n)) given) node_is of_place in
      let of_crew = subst (λ (x : Crew). IsStatedDraft (draft_of p node x (fired_of P n)) given) crew_is of_node in
      let is_stated : given ≡ stated = subst (λ o. IsStatedDraft o given) states of_crew in
      let told : draft ≡ in_slots d = cc in
      let recorded : d ≡ given = cc in
      told ∙ ap in_slots (recorded ∙ is_stated)
  one_draft P Q (Decide m) r time n draft enabled node crew stated at none at_crew states as_stated step records (mode, was, is) = absurd cc
  one_draft P Q (Tick noise) r time n draft enabled node crew stated at none at_crew states as_stated step records is = absurd cc

  pub flown_drafts : (xs : List Logged) (time n : ℕ) (draft : List (Option ℤ)) (enabled : Bool) (Q : Position)
      → FlownSoFar p jitter f (xs ++ FireAt time n draft enabled ∷ []) Q
      → (node : NodeInfo) (crew : Crew) (stated : List (Option ℤ)) → At p.nodes n node → node.body ≡ None → At f.crews n crew
      → draft_of p node crew (length (drafts_of n xs)) ≡ Some stated → draft ≡ in_slots stated
  flown_drafts xs time n draft enabled Q (P, start, led) node crew stated at none at_crew states =
      let (R, front, last) = led_last p jitter f P xs (FireAt time n draft enabled) Q led in
      let width = ap length start.fired ∙ length-map p.nodes (λ x. 0) in
      let lt = subst (λ k. n < k) (sym width) (slice_get_within p.nodes n node at) in
      let zero_at = ap (λ (fs : List ℕ). slice_index_or fs n 0) start.fired ∙ zeros p.nodes n in
      let count = led_count P [] xs R n lt zero_at front in
      let states' = ap (λ k. draft_of p node crew k) count ∙ states in
      one_draft R Q last.event last.recorded time n draft enabled node crew stated at none at_crew states' last.stated last.step last.records last.tells
