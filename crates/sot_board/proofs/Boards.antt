-- What a board's calls leave, once the flight is shown to go on by their event.
use Rattle.std.proofs.Common.{◌≡◌, ℕ, suc, ◌+◌, ◌^◌, ◌≤◌, ◌<◌, ⊎_elim, inl, inr, Bool, true, false, ℤ, Option, List, [], ◌∷◌, ◌++◌, length, drop, refl, sym, ap}
use Rattle.std.proofs.Common.{◌∙◌, subst, arith}
use Rattle.std.specs.Prelude.{slice_index_or, slice_set, ◌==◌, if◌then◌else◌}
use Rattle.std.proofs.lemmas.Bool.{cases_lt, cases_Bool, eqb-true, eqb-false}
use Rattle.std.proofs.lemmas.List.{get_or_past, get_or-set_same, get_or-set_other, length-set}
use Rattle.sot_lang.specs.Tables.{Tables}
use Rattle.sot_tube.specs.Admitted.{Admitted}
use Rattle.sot_world.specs.HistoryEntry.{Logged, InputAt, FireAt, DecideAt, TickAt}
use Rattle.sot_world.specs.Histories.{numbers_in}
use Rattle.sot_flight.specs.Plans.{StatedInput}
use Rattle.sot_board.specs.declared.board.Board.TheInside.{Inside}
use Rattle.sot_board.specs.BoardView.{position, standing, IsBoard}
use Rattle.sot_board.specs.Flown.{Position, Flies}
use Rattle.sot_board.specs.Versions.{drafts_of, writes_topic, version}
use Rattle.sot_board.specs.Standing.{HasStanding, Counted}
use Rattle.sot_board.specs.Calls.{InputDue, Logs, LogsFiring}
use Rattle.sot_lists.specs.Places.{At}
use Rattle.sot_lists.proofs.Places.{drop_at}
use Rattle.sot_board.specs.Counts.{state_count}
use Rattle.sot_board.specs.declared.receipt.Receipt.{Receipt}
use Rattle.sot_world.specs.Events.{noise_count}
use Rattle.sot_world.specs.Changes.{ArePoints}
use Rattle.sot_world.specs.State.{State}
use Rattle.sot_world.specs.HistoryEntry.{Story}
use Rattle.sot_world.specs.declared.outcome.Firing.{Firing}
use Rattle.sot_board.specs.Firings.{NotesFiring}
use Rattle.std.specs.Prelude.{Vec}
use Rattle.std.specs.Global.{Global}
use Rattle.sot_board.proofs.Going.{points_after, room_for, room_for_numbers, stands_after}
use Rattle.sot_board.proofs.Events.{stands_along}

-- a topic is written by at most as many entries as there are
pub version_most : (p : Tables) (k : ℕ) (es : List Logged) → version p k es ≤ length es
version_most p k [] = omega arith
version_most p k (e ∷ es) = one_more (writes_topic p k e) (version p k es) (length es) (version_most p k es)
  where
    one_more : (b : Bool) (v n : ℕ) → v ≤ n → (if b then suc v else v) ≤ suc n
    one_more true v n le = omega (arith, le)
    one_more false v n le = omega (arith, le)

-- .. and a node fires in at most as many
drafts_most : (n : ℕ) (es : List Logged) → length (drafts_of n es) ≤ length es
drafts_most n [] = omega arith
drafts_most n (FireAt time k draft enabled ∷ es) = one_more (n == k) draft (drafts_of n es) (length es) (drafts_most n es)
  where
    one_more : (b : Bool) (d : List (Option ℤ)) (ds : List (List (Option ℤ))) (m : ℕ) → length ds ≤ m → length (if b then d ∷ ds else ds) ≤ suc m
    one_more true d ds m le = omega (arith, le)
    one_more false d ds m le = omega (arith, le)
drafts_most n (InputAt time topic value ∷ es) = (let rest = drafts_most n es in omega (arith, rest))
drafts_most n (DecideAt time m mode ∷ es) = (let rest = drafts_most n es in omega (arith, rest))
drafts_most n (TickAt time noise states ∷ es) = (let rest = drafts_most n es in omega (arith, rest))

-- an entry that writes no topic leaves the counts
pub not_counted : (p : Tables) (entry : Logged) (versions : List ℕ) → ((k : ℕ) → writes_topic p k entry ≡ false) → Counted p entry versions versions
not_counted p entry versions none = (refl, (λ k lt. ap (λ b. if b then suc (slice_index_or versions k 0) else slice_index_or versions k 0) (sym (none k))))

module _ (b : Inside) (is : IsBoard b) where
  -- there are few entries
  pub few_entries : length b.history.entries ≤ 200000
  few_entries = omega (arith, is.has.events, is.has.standing.fits.few_events)

  -- and few writings of each topic
  pub few_writings : (k : ℕ) → slice_index_or b.versions.items k 0 ≤ 200000
  few_writings k = ⊎_elim
      (λ inside. (let most = version_most b.world.accepted.program k b.history.entries in omega (arith, is.has.versions_are k inside, most, few_entries)))
      (λ past. (let none = get_or_past b.versions.items k 0 (omega (arith, past, is.has.each)) in omega (arith, none)))
      (cases_lt k (length b.world.accepted.program.topics))

  module _ (entry : Logged) (Q : Position) (flies : Flies b.world.accepted.program b.world.accepted.cert.jitter b.flight.now (position b) entry Q) where
    -- there is room for the entry
    pub has_room : 0 < b.history.entries_left
    has_room = room_for (standing b) b.versions.items b.history.entries_left b.history.numbers_left is.has entry Q flies

    pub has_points : ArePoints b.world.accepted.program Q.at.points
    has_points = points_after (standing b) b.versions.items b.history.entries_left b.history.numbers_left is.has entry Q flies

    pub has_numbers : numbers_in entry ≤ b.history.numbers_left
    has_numbers = room_for_numbers (standing b) b.versions.items b.history.entries_left b.history.numbers_left is.has entry Q flies

    -- the board stands after it
    pub stands :
        (a : Admitted) (es : List Logged) (versions : List ℕ) (entries_left numbers_left : ℕ) → a ≡ b.world.accepted → es ≡ b.history.entries ++ entry ∷ []
        → Counted b.world.accepted.program entry b.versions.items versions → entries_left + 1 ≡ b.history.entries_left
        → numbers_left + numbers_in entry ≡ b.history.numbers_left
        → HasStanding (record { accepted = a; plan = b.flight.now; entries = es; position = Q }) versions entries_left numbers_left
    stands a es versions entries_left numbers_left same_a same_es counted e n =
        stands_along b.world.accepted a b.flight.now (b.history.entries ++ entry ∷ []) es Q Q versions entries_left numbers_left same_a same_es refl
        (stands_after (standing b) b.versions.items b.history.entries_left b.history.numbers_left is.has entry Q flies versions entries_left numbers_left
        counted e n)

    -- .. and has logged the entry
    pub logs : (a : Admitted) (es : List Logged) → a ≡ b.world.accepted → es ≡ b.history.entries ++ entry ∷ []
        → Logs (standing b) (record { accepted = a; plan = b.flight.now; entries = es; position = Q }) flies.event entry
    logs a es same_a same_es = record { flies = flies; event_is = refl; entries = same_es; accepted = same_a; plan = refl }

-- a node has fired a few times
pub few_firings : (b : Inside) → IsBoard b → (n : ℕ) → n < length b.world.accepted.program.nodes → slice_index_or b.fired.items n 0 ≤ 200000
few_firings b is n lt = (let few = drafts_most n b.history.entries in omega (arith, few, is.has.standing.fired n lt, few_entries b is))

-- a firing of a node may be noted in these lists, which are those of the board
module _ (b : Inside) (is : IsBoard b) (p : Tables) (n : ℕ) (versions fired : List ℕ) (program : p ≡ b.world.accepted.program)
    (versions_were : versions ≡ b.versions.items) (fired_were : fired ≡ b.fired.items)
    (there : n < length b.world.accepted.program.nodes) where
  pub nodes_there : (n < length p.nodes) × (n < length fired)
  nodes_there = (subst (λ t. n < length t.nodes) (sym program) there, omega (arith, there, ap length fired_were, is.has.standing.fired_each))

  pub topics_each : length versions ≡ length p.topics
  topics_each = ap length versions_were ∙ is.has.each ∙ ap (λ t. length t.topics) (sym program)

  pub versions_few : (k : ℕ) → slice_index_or versions k 0 < 2 ^ 30
  versions_few k = (let few = few_writings b is k in omega (arith, few, ap (λ l. slice_index_or l k 0) versions_were))

  pub firings_few : slice_index_or fired n 0 < 2 ^ 31
  firings_few = (let few = few_firings b is n there in omega (arith, few, ap (λ l. slice_index_or l n 0) fired_were))

-- what a firing leaves that was noted, once the flight is shown to go on by it; the lists that were noted are those of the board
module _ (b : Inside) (is : IsBoard b) (p : Tables) (time n : ℕ) (firing : Firing) (versions versions' fired fired' : List ℕ) (w : State) (h : Story)
    (fired_now versions_now : Vec ℕ Global)
    (same : w.accepted ≡ b.world.accepted) (program : p ≡ b.world.accepted.program) (now : time ≡ b.world.at.time) (versions_were : versions ≡ b.versions.items)
    (fired_were : fired ≡ b.fired.items)
    (versions_are : versions_now.items ≡ versions') (fired_are : fired_now.items ≡ fired')
    (notes : NotesFiring p time n firing versions versions' fired fired' b.history h)
    (flies : (next : List ℕ) → next ≡ slice_set b.fired.items n (suc (slice_index_or b.fired.items n 0)) →
    Flies b.world.accepted.program b.world.accepted.cert.jitter b.flight.now (position b) (FireAt b.world.at.time n firing.draft firing.enabled)
    (record { at = w.at; inputs = drop b.next_input b.flight.now.inputs; fired = next })) where
  abbrev entry : Logged
  entry = FireAt b.world.at.time n firing.draft firing.enabled

  abbrev after : Position
  after = record { at = w.at; inputs = drop b.next_input b.flight.now.inputs; fired = fired_now.items }

  pub counted : fired_now.items ≡ slice_set b.fired.items n (suc (slice_index_or b.fired.items n 0))
  counted = fired_are ∙ notes.fired_once ∙ ap (λ l. slice_set l n (suc (slice_index_or l n 0))) fired_were

  entries : h.entries ≡ b.history.entries ++ entry ∷ []
  entries = notes.appended ∙ ap (λ t. b.history.entries ++ FireAt t n firing.draft firing.enabled ∷ []) now

  writes : Counted b.world.accepted.program entry b.versions.items versions_now.items
  writes =
      subst (λ x. Counted b.world.accepted.program entry b.versions.items x) (sym versions_are)
      (subst (λ x. Counted b.world.accepted.program entry x versions') versions_were
      (subst (λ x. Counted b.world.accepted.program (FireAt x n firing.draft firing.enabled) versions versions') now
      (subst (λ x. Counted x (FireAt time n firing.draft firing.enabled) versions versions') program notes.counted)))

  pub after_firing : IsBoard (record b { world = w; history = h; fired = fired_now; versions = versions_now })
  after_firing = record {
    has =
        stands b is entry after (flies fired_now.items counted) w.accepted h.entries versions_now.items h.entries_left h.numbers_left same entries writes
        notes.entries_left (omega (arith, notes.numbers_left));
    next = is.next;
    noise = subst (λ a. length b.noise.items ≡ noise_count a.program.plants) (sym same) is.noise;
    states = subst (λ a. length b.states.items ≡ state_count a.program.plants) (sym same) is.states;
  }

  pub logs_firing :
      (r : Receipt) → r.draft ≡ firing.draft → r.place ≡ length b.history.entries
      → LogsFiring (standing b) (standing (record b { world = w; history = h; fired = fired_now; versions = versions_now })) n
      (flies fired_now.items counted).event r
  logs_firing r draft place = record {
    enabled = firing.enabled;
    logs =
        subst (λ d. Logs (standing b) (standing (record b { world = w; history = h; fired = fired_now; versions = versions_now }))
        (flies fired_now.items counted).event (FireAt b.world.at.time n d firing.enabled)) (sym draft)
        (logs b is entry after (flies fired_now.items counted) w.accepted h.entries same entries);
    place = place;
  }

-- the count of a topic on which an input comes
pub counted_input :
    (p : Tables) (t topic : ℕ) (value : List ℤ) (versions versions' : List ℕ) → topic < length versions
    → versions' ≡ slice_set versions topic (suc (slice_index_or versions topic 0)) → Counted p (InputAt t topic value) versions versions'
counted_input p t topic value versions versions' lt is =
    (ap length is ∙ length-set versions topic (suc (slice_index_or versions topic 0)), (λ k there. ap (λ l. slice_index_or l k 0) is ∙ at k))
  where
    at : (k : ℕ) → slice_index_or (slice_set versions topic (suc (slice_index_or versions topic 0))) k 0
        ≡ (if k == topic then suc (slice_index_or versions k 0) else slice_index_or versions k 0)
    at k = elim (cases_Bool (k == topic)) [
      | inl here ↦
          let same : k ≡ topic = eqb-true k topic here in
          subst (λ i. slice_index_or (slice_set versions i (suc (slice_index_or versions i 0))) k 0
          ≡ (if k == topic then suc (slice_index_or versions k 0) else slice_index_or versions k 0)) same
          (get_or-set_same versions k (suc (slice_index_or versions k 0)) 0 (omega (arith, same, lt))
          ∙ ap (λ b. if b then suc (slice_index_or versions k 0) else slice_index_or versions k 0) (sym here))
      | inr other ↦
          get_or-set_other versions topic k (suc (slice_index_or versions topic 0)) 0 (eqb-false k topic other)
          ∙ ap (λ b. if b then suc (slice_index_or versions k 0) else slice_index_or versions k 0) (sym other)
    ]

-- the next input, which is due now
pub next_is :
    (b : Inside) (at topic : ℕ) (value : List ℤ) → At b.flight.now.inputs b.next_input (record { at = at; topic = topic; value = value })
    → InputDue (position b)
    → (position b).inputs ≡ record { at = b.world.at.time; topic = topic; value = value } ∷ drop (b.next_input + 1) b.flight.now.inputs
next_is b at topic value there (x, rest, is, now) =
    let here = drop_at b.flight.now.inputs b.next_input (record { at = at; topic = topic; value = value }) there in
    let same : x ≡ record { at = at; topic = topic; value = value } = (let e = sym is ∙ here in cc) in
    let time : at ≡ b.world.at.time = sym (ap (λ i. i.at) same) ∙ now in
    here ∙ ap (λ t. let x : StatedInput = record { at = t; topic = topic; value = value } in x ∷ drop (b.next_input + 1) b.flight.now.inputs) time
