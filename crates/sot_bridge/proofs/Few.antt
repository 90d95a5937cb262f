-- A history sends no more often than nodes that write the topic fire, which is as often as they are due.
use Rattle.std.proofs.Common.{◌≡◌, ℕ, zero, suc, ◌+◌, ◌≤◌, Bool, true, false, ℤ, List, [], ◌∷◌, ◌++◌, Option, None, Some, length, map}
use Rattle.std.proofs.Common.{refl, sym, ap, ◌∙◌, subst, arith}
use Rattle.std.specs.Prelude.{◌==◌, ◌&&◌, ◌||◌, if◌then◌else◌, slice_get}
use Rattle.std.specs.Option.{option_map_or}
use Rattle.std.proofs.lemmas.Bool.{eq-eqb, false≢true}
use Rattle.std.proofs.lemmas.Option.{none-some, same_Some}
use Rattle.sot_lists.specs.Places.{At}
use Rattle.sot_lang.specs.declared.tables.NodeInfo.{NodeInfo}
use Rattle.sot_lang.specs.Tables.{Tables}
use Rattle.sot_world.specs.HistoryEntry.{Logged, InputAt, FireAt, DecideAt, TickAt}
use Rattle.sot_flight.specs.Counts.{due_count}
use Rattle.sot_flight.specs.Relayed.{Send}
use Rattle.sot_flight.proofs.DueCounts.{due_count_is}
use Rattle.sot_board.specs.Versions.{drafts_of, topic_of, is_published, publishes_on}
use Rattle.sot_trace.specs.Lines.{writes_of}
use Rattle.sot_history_state.specs.Scenes.{scalars_after}
use Rattle.sot_law_flight_facts.proofs.Firings.{whole}
use Rattle.sot_bridge.specs.Sends.{has_topic, due_sends}
use Rattle.sot_bridge.specs.SendLaws.{value_of, sent_by, sends_from}
use Rattle.sot_bridge.specs.Laws.{SendsAreFew}

-- what is published on a topic is written by a node that writes the topic
publishes_has : (p : Tables) (topic : ℕ) (ks : List ℕ) (draft : List (Option ℤ)) → publishes_on p topic ks draft ≡ true → has_topic p topic ks ≡ true
publishes_has p topic [] draft e = absurd (false≢true e)
publishes_has p topic (k ∷ ks) [] e = absurd (false≢true e)
publishes_has p topic (k ∷ ks) (d ∷ draft) e = go (publishes_has p topic ks draft) (topic_of p k == topic) e
  where
    go : (publishes_on p topic ks draft ≡ true → has_topic p topic ks ≡ true) → (b : Bool)
        → ((b && is_published p k d) || publishes_on p topic ks draft) ≡ true → (b || has_topic p topic ks) ≡ true
    go behind true e' = refl
    go behind false e' = behind e'

module _ (p : Tables) (topic : ℕ) where
  -- how many firings of a node entries tell, if it writes the topic
  abbrev told_of : List Logged → ℕ → NodeInfo → ℕ
  told_of es i n = if has_topic p topic n.writes.items then length (drafts_of i es) else 0

  -- .. and of these nodes, of which the first has this place
  abbrev told_sends : List Logged → ℕ → List NodeInfo → ℕ
  told_sends es i [] = 0
  told_sends es i (n ∷ ns) = told_of es i n + told_sends es (suc i) ns

  drafts_more : (e : Logged) (es : List Logged) (i : ℕ) → length (drafts_of i es) ≤ length (drafts_of i (e ∷ es))
  drafts_more (InputAt time k value) es i = omega arith
  drafts_more (DecideAt time m mode) es i = omega arith
  drafts_more (TickAt time noise states) es i = omega arith
  drafts_more (FireAt time n draft enabled) es i = go (i == n)
    where
      go : (b : Bool) → length (drafts_of i es) ≤ length (if b then draft ∷ drafts_of i es else drafts_of i es)
      go true = omega arith
      go false = omega arith

  of_more : (e : Logged) (es : List Logged) (i : ℕ) (n : NodeInfo) → told_of es i n ≤ told_of (e ∷ es) i n
  of_more e es i n = go (has_topic p topic n.writes.items)
    where
      go : (b : Bool) → (if b then length (drafts_of i es) else 0) ≤ (if b then length (drafts_of i (e ∷ es)) else 0)
      go true = drafts_more e es i
      go false = omega arith

  sends_more : (e : Logged) (es : List Logged) (i : ℕ) (ns : List NodeInfo) → told_sends es i ns ≤ told_sends (e ∷ es) i ns
  sends_more e es i [] = omega arith
  sends_more e es i (n ∷ ns) = (let a = of_more e es i n in let b = sends_more e es (suc i) ns in omega (arith, a, b))

  -- a firing of a node that writes the topic is one more
  one_of : (time m i : ℕ) (draft : List (Option ℤ)) (enabled : Bool) (es : List Logged) (n : NodeInfo) → m ≡ i → has_topic p topic n.writes.items ≡ true
      → suc (told_of es i n) ≤ told_of (FireAt time m draft enabled ∷ es) i n
  one_of time m i draft enabled es n same has = go (has_topic p topic n.writes.items) has (i == m) (eq-eqb i m (sym same))
    where
      go : (b : Bool) → b ≡ true → (here : Bool) → here ≡ true → suc (if b then length (drafts_of i es) else 0)
          ≤ (if b then length (if here then draft ∷ drafts_of i es else drafts_of i es) else 0)
      go true e true h = omega arith
      go true e false h = absurd (false≢true h)
      go false e here h = absurd (false≢true e)

  one_more : (time m i k : ℕ) (draft : List (Option ℤ)) (enabled : Bool) (es : List Logged) (ns : List NodeInfo) (n : NodeInfo) → m ≡ i + k → At ns k n
      → has_topic p topic n.writes.items ≡ true → suc (told_sends es i ns) ≤ told_sends (FireAt time m draft enabled ∷ es) i ns
  one_more time m i k draft enabled es [] n place at has = absurd (none-some n at)
  one_more time m i zero draft enabled es (x ∷ ns) n place at has =
      let own : has_topic p topic x.writes.items ≡ true = ap (λ (y : NodeInfo). has_topic p topic y.writes.items) (same_Some x n at) ∙ has in
      let here = one_of time m i draft enabled es x (omega (arith, place)) own in
      let rest = sends_more (FireAt time m draft enabled) es (suc i) ns in
      omega (arith, here, rest)
  one_more time m i (suc k) draft enabled es (x ∷ ns) n place at has =
      let here = of_more (FireAt time m draft enabled) es i x in
      let rest = one_more time m (suc i) k draft enabled es ns n (omega (arith, place)) at has in
      omega (arith, here, rest)

  -- a firing that publishes on the topic is one of a node that writes it
  fired : (time n : ℕ) (draft : List (Option ℤ)) (enabled : Bool) (es : List Logged) → publishes_on p topic (writes_of p n) draft ≡ true
      → suc (told_sends es 0 p.nodes) ≤ told_sends (FireAt time n draft enabled ∷ es) 0 p.nodes
  fired time n draft enabled es e = go (slice_get p.nodes n) refl (publishes_has p topic (writes_of p n) draft e)
    where
      go : (o : Option NodeInfo) → slice_get p.nodes n ≡ o → has_topic p topic (option_map_or (λ x. x.writes.items) o []) ≡ true
          → suc (told_sends es 0 p.nodes) ≤ told_sends (FireAt time n draft enabled ∷ es) 0 p.nodes
      go None is has = absurd (false≢true has)
      go (Some node) is has = one_more time n 0 n draft enabled es p.nodes node (omega arith) is has

  one_sent : (e : Logged) (es : List Logged) (xs : List ℤ) → length (sent_by p topic e xs) + told_sends es 0 p.nodes ≤ told_sends (e ∷ es) 0 p.nodes
  one_sent (InputAt time k value) es xs = (let more = sends_more (InputAt time k value) es 0 p.nodes in omega (arith, more))
  one_sent (DecideAt time m mode) es xs = (let more = sends_more (DecideAt time m mode) es 0 p.nodes in omega (arith, more))
  one_sent (TickAt time noise states) es xs = (let more = sends_more (TickAt time noise states) es 0 p.nodes in omega (arith, more))
  one_sent (FireAt time n draft false) es xs = (let more = sends_more (FireAt time n draft false) es 0 p.nodes in omega (arith, more))
  one_sent (FireAt time n draft true) es xs = go (publishes_on p topic (writes_of p n) draft) refl
    where
      go : (b : Bool) → publishes_on p topic (writes_of p n) draft ≡ b
          → length {A = Send} (if b then record { at = time; value = value_of p topic xs } ∷ [] else []) + told_sends es 0 p.nodes
          ≤ told_sends (FireAt time n draft true ∷ es) 0 p.nodes
      go true e = (let more = fired time n draft true es e in omega (arith, more))
      go false e = (let more = sends_more (FireAt time n draft true) es 0 p.nodes in omega (arith, more))

  both : (xs ys : List Send) → length (xs ++ ys) ≡ length xs + length ys
  both [] ys = omega arith
  both (x ∷ xs) ys = (let e = both xs ys in omega (arith, e))

  sent_few : (xs : List ℤ) (es : List Logged) → length (sends_from p topic xs es) ≤ told_sends es 0 p.nodes
  sent_few xs [] = omega arith
  sent_few xs (e ∷ es) =
      let ys = scalars_after p e xs in
      let size = both (sent_by p topic e ys) (sends_from p topic ys es) in
      let rest = sent_few ys es in
      let one = one_sent e es ys in
      omega (arith, size, rest, one)

  -- where each node's firings are its due times
  told_due : (h : ℕ) (es : List Logged) (i : ℕ) (ns : List NodeInfo)
      → ((k : ℕ) (n : NodeInfo) → At ns k n → length (drafts_of (i + k) es) ≡ due_count n.period n.offset h) → told_sends es i ns ≡ due_sends p topic h ns
  told_due h es i [] each = refl
  told_due h es i (n ∷ ns) each =
      let rest : told_sends es (suc i) ns ≡ due_sends p topic h ns = told_due h es (suc i) ns
      (λ k x at. let e : i + suc k ≡ suc i + k = omega arith in subst (λ m. length (drafts_of m es) ≡ due_count x.period x.offset h) e (each (suc k) x at)) in
      let here : length (drafts_of i es) ≡ due_count n.period n.offset h =
      (let e : i + 0 ≡ i = omega arith in subst (λ m. length (drafts_of m es) ≡ due_count n.period n.offset h) e (each 0 n refl)) in
      go (has_topic p topic n.writes.items) here rest
    where
      go : (b : Bool) → length (drafts_of i es) ≡ due_count n.period n.offset h → told_sends es (suc i) ns ≡ due_sends p topic h ns
          → (if b then length (drafts_of i es) else 0) + told_sends es (suc i) ns
          ≡ (if b then due_count n.period n.offset h + due_sends p topic h ns else due_sends p topic h ns)
      go true here rest = omega (arith, here, rest)
      go false here rest = omega (arith, rest)

pub sends_few : SendsAreFew
sends_few p jitter f entries topic rules short flown =
    let fired_all = (whole p jitter f entries flown).0 in
    let due = told_due p topic f.horizon entries 0 p.nodes (λ k n at.
    let e : k ≡ 0 + k = omega arith in
    subst (λ m. length (drafts_of m entries) ≡ due_count n.period n.offset f.horizon) e
    (due_count_is n.period n.offset f.horizon (length (drafts_of k entries)) (fired_all k n at (rules.typed.node_times k n at) (short k n at)))) in
    let few = sent_few p topic (map (λ i. i.init) p.scalars) entries in
    omega (arith, due, few)
