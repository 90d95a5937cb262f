-- The worked lines of the flight of the running example.
use Rattle.std.proofs.Common.{◌≡◌, ◌≢◌, ℕ, ℤ, Bool, pos, true, false, ◌⊎◌, inl, inr, refl, sym, ap, ◌∙◌, subst, Some, None, Option, List, [], ◌∷◌, arith}
use Rattle.std.specs.Prelude.{codes, slice_index_or}
use Rattle.std.proofs.lemmas.Bool.{false≢true}
use Rattle.std.proofs.lemmas.Int.{ints}
use Rattle.std.proofs.lemmas.Option.{none-some, same_Some}
use Rattle.std.specs.Global.{Global}
use Rattle.sot_lists.proofs.ShortLists.{at_one}
use Rattle.sot_lang.specs.Line.{line, cmd, fast, nav, pos_plant}
use Rattle.sot_lang.proofs.LineRules.{line_meets_rules}
use Rattle.sot_calendar.specs.Due.{IsDue, IsDueWithin}
use Rattle.sot_calendar.proofs.Clock.{last_now}
use Rattle.sot_world.specs.declared.outcome.Why.{Why}
use Rattle.sot_world.specs.declared.outcome.Why.TheVariants as whys
use Rattle.sot_world.specs.declared.mode.Mode.TheVariants.{Ac, Sc}
use Rattle.sot_world.specs.Configurations.{Configuration, is_left, is_left_dm}
use Rattle.sot_world.specs.Events.{IsNodeDue, IsInBounds, RefusesNode, RefusesDecision}
use Rattle.sot_world.specs.Steps.{Event, Input, Code, Guest, Decide, Tick, Step, MayTick}
use Rattle.sot_world.specs.Outcomes.{Recorded}
use Rattle.sot_world.specs.HistoryEntry.{Logged, FireAt}
use Rattle.sot_world.specs.Examples.{at_opening, decided, drafted, settled, ticked}
use Rattle.sot_world.proofs.LineSteps as line_step
use Rattle.sot_board.specs.Flown.{Position, IsStated, Tells, Flies}
use Rattle.sot_trace.specs.Lines.{header, line_of}
use Rattle.sot_trace.proofs.Worked.{words}
use Rattle.sot_trace_lines.specs.Readers.{spelled_at, starts_some}
use Rattle.sot_trace_lines.specs.Spelled.{FireLine, DecideLine, TickLine, EndLine, IsStartLine}
use Rattle.sot_trace_lines.proofs.ReadLines.{read_spelled}
use Rattle.sot_trace_lines.proofs.StartLines.{starts_is}
use Rattle.sot_replay.specs.GoesOn.{GoesOn}
use Rattle.sot_replay.specs.Tests.{WorldRefuses, IsNextLine}
use Rattle.sot_replay.specs.Replays.{IsRefusedAt}
use Rattle.sot_replay.specs.LineExamples.{line_flight, decision, publication, idling, move, standing, line_lines, OtherStartLines, LineFailsAt, OtherDecisions}
use Rattle.sot_replay.specs.LineExamples.{OtherDrafts, OtherTicks, OtherLaterLines, LineMeetsTheLaws}
use Rattle.sot_replay.specs.declared.fail.LineKind.{LineKind}
use Rattle.sot_replay.specs.declared.fail.LineKind.TheVariants.{NotALine, Differs}
use Rattle.sot_replay.proofs.FirstFailing.{not_a_line, wrong_time, refused, too_far, differs}
use Rattle.sot_replay.proofs.SameEntry.{entry_same}
use Rattle.sot_replay.proofs.LinesGoOn.{other_opening}
use Rattle.sot_replay.proofs.LineHistory.{flies_decision, flies_draft, flies_idle, flies_tick, decision_event, draft_event, idle_event, tick_event, nothing}
use Rattle.sot_replay.proofs.LineHistory.{line_trace, only_decision, only_code, only_guest, only_draft}
use Rattle.sot_replay.proofs.RelayLines.{other_at}

module _ (g : Global) where
  -- another line than that of the entry with which the flight goes on by the only event
  next_is :
      (P Q : Position) (e : Logged) (known : Flies (line g) 0 line_flight P e Q) (l : List ℕ)
      → ((entry : Logged) (R : Position) (flies : Flies (line g) 0 line_flight P entry R) → l ≡ line_of (line g) entry → flies.event ≡ known.event)
      → l ≢ line_of (line g) e → IsNextLine (line g) 0 line_flight P l → ⊥
  next_is P Q e known l only other (entry, R, flies, handed, is) =
      other (is ∙ ap (line_of (line g)) (entry_same (line g) 0 line_flight P entry e R Q flies known (only entry R flies is)))

  no_input : (C D : Configuration) (topic : ℕ) (value : List ℤ) → Step (line g) 0 C (Input topic value) D → ⊥
  no_input C D topic value step = false≢true (sym (at_one (λ k info. info.outside ≡ false) (cmd g) refl topic step.info step.is) ∙ step.outside)

  no_decision : (C D : Configuration) (m : ℕ) → is_left_dm C 0 ≡ false → Step (line g) 0 C (Decide m) D → ⊥
  no_decision C D m gone step = at_one (λ k a. is_left_dm C k ≡ true → ⊥) (nav g) (λ e. false≢true (sym gone ∙ e)) m step.module_info step.is step.was_left

  no_guest : (C D : Configuration) (n : ℕ) (d : List (Option ℤ)) → is_left C 0 ≡ false → Step (line g) 0 C (Guest n d) D → ⊥
  no_guest C D n d gone step = false≢true (sym gone ∙ subst (λ k. is_left C k ≡ true) (only_guest g C D n d step) step.fires.was_left)

  no_code : (C D : Configuration) (n : ℕ) → is_left C 1 ≡ false → Step (line g) 0 C (Code n) D → ⊥
  no_code C D n gone step = false≢true (sym gone ∙ subst (λ k. is_left C k ≡ true) (only_code g C D n step) step.fires.was_left)

  -- `slow` alone is left
  only_idle : (ev : Event) (D : Configuration) → Step (line g) 0 drafted ev D → ev ≡ Code 1
  only_idle (Input topic value) D step = absurd (no_input drafted D topic value step)
  only_idle (Code n) D step = ap Code (only_code g drafted D n step)
  only_idle (Guest n d) D step = absurd (no_guest drafted D n d refl step)
  only_idle (Decide m) D step = absurd (no_decision drafted D m refl step)
  only_idle (Tick w) D step = absurd (line_step.not_yet g w D step)

  -- nothing is left
  only_tick : (ev : Event) (D : Configuration) → IsStated (line g) line_flight (standing settled (1 ∷ 1 ∷ [])) ev → Step (line g) 0 settled ev D
      → ev ≡ Tick ((pos 1 ∷ []) ∷ [])
  only_tick (Input topic value) D stated step = absurd (no_input settled D topic value step)
  only_tick (Code n) D stated step = absurd (no_code settled D n refl step)
  only_tick (Guest n d) D stated step = absurd (no_guest settled D n d refl step)
  only_tick (Decide m) D stated step = absurd (no_decision settled D m refl step)
  only_tick (Tick w) D stated step = ap Tick stated.2

  -- the byte at a place of a firing's line, whether the node is enabled or not
  firing_byte : (k : ℕ) (l : List ℕ) (entry : Logged) (n : ℕ) (slots : List (Option ℤ)) (on : Bool) → l ≡ line_of (line g) entry → entry ≡ FireAt 0 n slots on
      → slice_index_or l k 0 ≡ slice_index_or (line_of (line g) (FireAt 0 n slots on)) k 0
  firing_byte k l entry n slots on is told = ap (λ x. slice_index_or x k 0) (is ∙ ap (line_of (line g)) told)

  -- no line of a firing is one of a decision
  no_firing : (l : List ℕ) (entry : Logged) (n : ℕ) (slots : List (Option ℤ)) (on : Bool) → slice_index_or l 2 0 ≡ 100 → l ≡ line_of (line g) entry
      → entry ≡ FireAt 0 n slots on → ⊥
  no_firing l entry n slots true d is told = (let e : ◌≡◌ {A = ℕ} 100 102 = sym d ∙ firing_byte 2 l entry n slots true is told in omega (arith, e))
  no_firing l entry n slots false d is told = (let e : ◌≡◌ {A = ℕ} 100 105 = sym d ∙ firing_byte 2 l entry n slots false is told in omega (arith, e))

  -- of the three that are left, a line of a decision tells of the decision
  decision_alone :
      (ev : Event) (r : Recorded) (entry : Logged) (D : Configuration) (l : List ℕ) → slice_index_or l 2 0 ≡ 100 → l ≡ line_of (line g) entry
      → Step (line g) 0 at_opening ev D → Tells at_opening ev r D entry
      → ev ≡ Decide 0
  decision_alone (Input topic value) r entry D l d is step tells = absurd (no_input at_opening D topic value step)
  decision_alone (Code n) r entry D l d is step (draft, on, was, told) = absurd (no_firing l entry n _ on d is told)
  decision_alone (Guest n given) r entry D l d is step (draft, on, was, told) = absurd (no_firing l entry n _ on d is told)
  decision_alone (Decide m) r entry D l d is step tells = only_decision g at_opening D m step
  decision_alone (Tick w) r entry D l d is step tells = absurd (step.may.nodes 0 (fast g) 0 refl refl (last_now 4 0 0 (omega arith, refl)) refl)

  -- no line of `slow` is one of `fast`
  no_slow : (l : List ℕ) (entry : Logged) (n : ℕ) (slots : List (Option ℤ)) (on : Bool) → n ≡ 1 → slice_index_or l 7 0 ≡ 102 → l ≡ line_of (line g) entry
      → entry ≡ FireAt 0 n slots on → ⊥
  no_slow l entry n slots true one f is told =
      (let e : ◌≡◌ {A = ℕ} 102 115 = sym f ∙ firing_byte 7 l entry 1 slots true is (told ∙ ap (λ k. FireAt 0 k slots true) one) in omega (arith, e))
  no_slow l entry n slots false one f is told =
      (let e : ◌≡◌ {A = ℕ} 102 115 = sym f ∙ firing_byte 7 l entry 1 slots false is (told ∙ ap (λ k. FireAt 0 k slots false) one) in omega (arith, e))

  -- of the two that are left, a line of `fast` tells of its draft
  draft_alone :
      (ev : Event) (r : Recorded) (entry : Logged) (D : Configuration) (l : List ℕ) → slice_index_or l 7 0 ≡ 102 → l ≡ line_of (line g) entry
      → IsStated (line g) line_flight (standing decided (0 ∷ 0 ∷ [])) ev → Step (line g) 0 decided ev D → Tells decided ev r D entry
      → ev ≡ Guest 0 (Some (pos 2) ∷ [])
  draft_alone (Input topic value) r entry D l f is stated step tells = absurd (no_input decided D topic value step)
  draft_alone (Code n) r entry D l f is stated step (draft, on, was, told) = absurd (no_slow l entry n _ on (only_code g decided D n step) f is told)
  draft_alone (Guest n given) r entry D l f is stated step tells = only_draft g decided D (0 ∷ 0 ∷ []) n given stated step
  draft_alone (Decide m) r entry D l f is stated step tells = absurd (no_decision decided D m refl step)
  draft_alone (Tick w) r entry D l f is stated step tells = absurd (step.may.nodes 0 (fast g) 0 refl refl (last_now 4 0 0 (omega arith, refl)) refl)

  no_other_decision : (l : List ℕ) → slice_index_or l 2 0 ≡ 100 → l ≢ line_of (line g) decision
      → IsNextLine (line g) 0 line_flight (standing at_opening (0 ∷ 0 ∷ [])) l → ⊥
  no_other_decision l d =
      next_is (standing at_opening (0 ∷ 0 ∷ [])) _ decision (flies_decision g) l
      (λ entry R flies is. decision_alone flies.event flies.recorded entry R.at l d is flies.step flies.tells ∙ sym (decision_event g))

  no_other_draft : (l : List ℕ) → slice_index_or l 7 0 ≡ 102 → l ≢ line_of (line g) publication
      → IsNextLine (line g) 0 line_flight (standing decided (0 ∷ 0 ∷ [])) l → ⊥
  no_other_draft l f =
      next_is (standing decided (0 ∷ 0 ∷ [])) _ publication (flies_draft g) l
      (λ entry R flies is. draft_alone flies.event flies.recorded entry R.at l f is flies.stated flies.step flies.tells ∙ sym (draft_event g))

  no_other_idling : (l : List ℕ) → l ≢ line_of (line g) idling → IsNextLine (line g) 0 line_flight (standing drafted (1 ∷ 0 ∷ [])) l → ⊥
  no_other_idling l =
      next_is (standing drafted (1 ∷ 0 ∷ [])) _ idling (flies_idle g) l (λ entry R flies is. only_idle flies.event R.at flies.step ∙ sym (idle_event g))

  no_other_tick : (l : List ℕ) → l ≢ line_of (line g) move → IsNextLine (line g) 0 line_flight (standing settled (1 ∷ 1 ∷ [])) l → ⊥
  no_other_tick l =
      next_is (standing settled (1 ∷ 1 ∷ [])) _ move (flies_tick g) l
      (λ entry R flies is. only_tick flies.event R.at flies.stated flies.step ∙ sym (tick_event g))

  -- the world takes what is due and left
  can_fire : (C : Configuration) (n : ℕ) → IsNodeDue (line g) 0 C n → is_left C n ≡ true → (why : Why) → RefusesNode (line g) 0 C n why → ⊥
  can_fire C n due left whys.NotDue not = not due
  can_fire C n due left whys.AlreadyFired (is, gone) = false≢true (sym gone ∙ left)
  can_fire C n due left whys.NodesLeft none = none
  can_fire C n due left whys.OutsideType none = none

  can_decide : (why : Why) → RefusesDecision (line g) 0 at_opening 0 why → ⊥
  can_decide whys.NotDue not = not (nav g, refl, (0, (omega arith, refl), omega arith, omega arith))
  can_decide whys.AlreadyFired (is, gone) = false≢true (sym gone)
  can_decide whys.NodesLeft none = none
  can_decide whys.OutsideType none = none

  can_tick : (C : Configuration) (w x : ℤ) → MayTick (line g) 0 C → IsInBounds (line g).plants (w ∷ []) → (why : Why)
      → WorldRefuses (line g) 0 C (TickLine 0 (w ∷ []) (x ∷ [])) why → ⊥
  can_tick C w x may inside whys.NotDue none = none
  can_tick C w x may inside whys.AlreadyFired none = none
  can_tick C w x may inside whys.NodesLeft not = not may
  can_tick C w x may inside whys.OutsideType (_, not) = not inside

  can_end : (C : Configuration) (events : ℕ) → C.left ≡ false ∷ false ∷ [] → C.left_dm ≡ false ∷ [] → (why : Why)
      → WorldRefuses (line g) 0 C (EndLine 0 events 0) why → ⊥
  can_end C events l m whys.NotDue none = none
  can_end C events l m whys.AlreadyFired none = none
  can_end C events l m whys.NodesLeft not = not (nothing g C l m)
  can_end C events l m whys.OutsideType none = none

  fast_due : (C : Configuration) → C.time ≡ 0 → IsNodeDue (line g) 0 C 0
  fast_due C now = (fast g, refl, subst (IsDueWithin 0 4 0) (sym now) (0, (omega arith, refl), omega arith, omega arith))

  slow_due : IsNodeDue (line g) 0 drafted 1
  slow_due = (_, refl, (0, (omega arith, refl), omega arith, omega arith))

  zero_inside : IsInBounds (line g).plants (pos 0 ∷ [])
  zero_inside = ((omega (arith, ints), omega (arith, ints), tt), tt)

  one_inside : IsInBounds (line g).plants (pos 1 ∷ [])
  one_inside = ((omega (arith, ints), omega (arith, ints), tt), tt)

  -- at 1 nothing that has the period 4 is due
  not_at_1 : IsDueWithin 0 4 0 1 → ⊥
  not_at_1 (d, due, past, late) =
      let one : d ≡ 1 = omega (arith, past, late) in
      let e : ◌≡◌ {A = ℕ} 1 0 = (subst (λ k. IsDue 4 0 k) one due).1 in omega (arith, e)

  -- what is read as nothing spells nothing
  spells_nothing : (entries : List Logged) (P : Position) (l : List ℕ) → spelled_at (line g) l ≡ None → LineFailsAt g 0 entries P l NotALine
  spells_nothing entries P l none =
      not_a_line (line g) 0 line_flight entries P l (λ s is. none-some s (sym none ∙ read_spelled (line g) (line_meets_rules g) (words g) l s is))

  pub other_decisions : OtherDecisions g
  other_decisions = (
    differs (line g) 0 line_flight _ _ _ (DecideLine 0 0 Sc) (omega arith, refl) refl can_decide (λ none. none) (λ none. none)
        (no_other_decision _ refl (other_at 13 115 97 _ _ refl refl (λ e. omega (arith, e)))),
    wrong_time (line g) 0 line_flight _ _ _ (DecideLine 1 0 Ac) (omega arith, refl) (λ e. absurd cc),
    spells_nothing _ _ _ refl,
    refused (line g) 0 line_flight _ _ _ (TickLine 0 (pos 1 ∷ []) (pos 1 ∷ [])) ((refl, refl), refl) refl whys.NodesLeft
        (λ may. may.nodes 0 (fast g) 0 refl refl (last_now 4 0 0 (omega arith, refl)) refl),
    refused (line g) 0 line_flight _ _ _ (DecideLine 0 0 Ac) (omega arith, refl) refl whys.AlreadyFired
        ((nav g, refl, (0, (omega arith, refl), omega arith, omega arith)), refl),
  )

  pub other_drafts : OtherDrafts g
  other_drafts = (
    differs (line g) 0 line_flight _ _ _ (FireLine 0 0 true (Some (true, pos 1) ∷ [])) ((omega arith, refl), refl) refl
        (can_fire decided 0 (fast_due decided refl) refl) (λ none. none) (λ none. none)
        (no_other_draft _ refl (other_at 16 49 50 _ _ refl refl (λ e. omega (arith, e)))),
    spells_nothing _ _ _ refl,
    differs (line g) 0 line_flight _ _ _ (FireLine 0 1 true (Some (true, pos 0) ∷ [])) ((omega arith, refl), refl) refl (can_fire drafted 1 slow_due refl)
        (λ none. none) (λ none. none) (no_other_idling _ (other_at 2 102 105 _ _ refl refl (λ e. omega (arith, e)))),
    differs (line g) 0 line_flight _ _ _ (FireLine 0 1 false (Some (true, pos 1) ∷ [])) ((omega arith, refl), refl) refl (can_fire drafted 1 slow_due refl)
        (λ none. none) (λ none. none) (no_other_idling _ (other_at 16 49 48 _ _ refl refl (λ e. omega (arith, e)))),
    refused (line g) 0 line_flight _ _ _ (FireLine 0 0 true (Some (true, pos 2) ∷ [])) ((omega arith, refl), refl) refl whys.AlreadyFired
        (fast_due drafted refl, refl),
  )

  pub other_ticks : OtherTicks g
  other_ticks = (
    refused (line g) 0 line_flight _ _ _ (TickLine 0 (pos 2 ∷ []) (pos 14 ∷ [])) ((refl, refl), refl) refl whys.OutsideType
        (line_step.none_left g settled refl refl, λ b. omega (arith, ints, b.0.1)),
    differs (line g) 0 line_flight _ _ _ (TickLine 0 (pos 0 ∷ []) (pos 2 ∷ [])) ((refl, refl), refl) refl
        (can_tick settled (pos 0) (pos 2) (line_step.none_left g settled refl refl) zero_inside) (λ due. due (λ i x at. absurd (none-some x at)))
        (λ far. omega (arith, far)) (no_other_tick _ (other_at 11 48 49 _ _ refl refl (λ e. omega (arith, e)))),
    differs (line g) 0 line_flight _ _ _ (TickLine 0 (pos 1 ∷ []) (pos 4 ∷ [])) ((refl, refl), refl) refl
        (can_tick settled (pos 1) (pos 4) (line_step.none_left g settled refl refl) one_inside) (λ due. due (λ i x at. absurd (none-some x at)))
        (λ far. omega (arith, far)) (no_other_tick _ (other_at 14 52 51 _ _ refl refl (λ e. omega (arith, e)))),
    spells_nothing _ _ _ refl,
    too_far (line g) 0 line_flight _ _ _ (EndLine 0 3 0) (tt, refl) refl (can_end settled 3 refl refl) (λ due. due (λ i x at. absurd (none-some x at)))
        (omega arith),
    wrong_time (line g) 0 line_flight _ _ _ (EndLine 1 3 0) (tt, refl) (λ e. absurd cc),
  )

  pub other_later_lines : OtherLaterLines g
  other_later_lines = (
    refused (line g) 0 line_flight _ _ _ (FireLine 1 0 true (Some (true, pos 2) ∷ [])) ((omega arith, refl), refl) refl whys.NotDue
        (λ (node, is, within). not_at_1 (subst (λ n. IsDueWithin 0 n.period n.offset 1) (sym (same_Some (fast g) node is)) within)),
    refused (line g) 0 line_flight _ _ _ (DecideLine 1 0 Ac) (omega arith, refl) refl whys.NotDue
        (λ (a, is, within). not_at_1 (subst (λ n. IsDueWithin 0 n.period n.offset 1) (sym (same_Some (nav g) a is)) within)),
    refused (line g) 1 line_flight _ _ _ (FireLine 1 0 true (Some (true, pos 2) ∷ [])) ((omega arith, refl), refl) refl whys.AlreadyFired
        ((fast g, refl, (0, (omega arith, refl), omega arith, omega arith)), refl),
    refused (line g) 1 line_flight _ _ _ (DecideLine 1 0 Ac) (omega arith, refl) refl whys.AlreadyFired
        ((nav g, refl, (0, (omega arith, refl), omega arith, omega arith)), refl),
    too_far (line g) 0 line_flight _ _ _ (TickLine 1 (pos 1 ∷ []) (pos 6 ∷ [])) ((refl, refl), refl) refl
        (can_tick ticked (pos 1) (pos 6) (line_step.none_left g ticked refl refl) one_inside) (λ due. due (λ i x at. absurd (none-some x at))) (omega arith),
    differs (line g) 0 line_flight _ _ _ (EndLine 1 5 0) (tt, refl) refl (can_end ticked 5 refl refl) (λ due. due (λ i x at. absurd (none-some x at)))
        (λ far. omega (arith, far)) (other_at 13 53 52 _ _ refl refl (λ e. omega (arith, e))),
  )

  -- the header goes on
  goes_on : GoesOn (line g) 0 line_flight (header ∷ [])
  goes_on = (decision ∷ publication ∷ idling ∷ move ∷ [], codes "start pos 0" ∷ line_lines, (line_trace g).0, refl)

  in_place : (l : List ℕ) (more : List (List ℕ)) (kind : LineKind) → l ≢ codes "start pos 0"
      → ((kind ≡ NotALine) × (IsStartLine (line g) l → ⊥)) ⊎ ((kind ≡ Differs) × IsStartLine (line g) l)
      → IsRefusedAt (line g) 0 line_flight (header ∷ l ∷ more) 2 kind
  in_place l more kind other why = record {
    front = header ∷ [];
    rest = l ∷ more;
    is = refl;
    counted = refl;
    goes_on = goes_on;
    why = inr (l, more, refl, other_opening (line g) 0 line_flight 1 (codes "start pos 0") l refl other, inr (inl ((λ e. absurd cc), omega arith, why)));
  }

  no_start : (l : List ℕ) → starts_some (line g) l ≡ false → IsStartLine (line g) l → ⊥
  no_start l none is = false≢true (sym none ∙ (starts_is (line g) l).1 is)

  pub other_start_lines : OtherStartLines g
  other_start_lines = (
    in_place (codes "start pos 9") line_lines Differs (other_at 10 57 48 _ _ refl refl (λ e. omega (arith, e)))
        (inr (refl, (0, pos_plant g, pos 9 ∷ [], refl, refl, refl))),
    in_place (codes "start zap 0") line_lines NotALine (other_at 6 122 112 _ _ refl refl (λ e. omega (arith, e))) (inl (refl, no_start _ refl)),
    in_place _ _ NotALine (other_at 0 48 115 _ _ refl refl (λ e. omega (arith, e))) (inl (refl, no_start _ refl)),
  )

  pub meets_the_laws : LineMeetsTheLaws g
  meets_the_laws = (line_meets_rules g, words g)
