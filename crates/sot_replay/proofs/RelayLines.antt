-- The worked lines of the relay's flight.
use Rattle.std.proofs.Common.{◌≡◌, ◌≢◌, ℕ, ℤ, pos, true, false, ◌⊎◌, ⊎_elim, inl, inr, refl, sym, ap, subst, ◌∙◌, ◌+◌, List, [], ◌∷◌, Some, None, Ok, arith}
use Rattle.std.proofs.Common.{◌↔◌}
use Rattle.std.specs.Prelude.{codes, slice_index_or, Result}
use Rattle.std.proofs.lemmas.Bool.{false≢true}
use Rattle.std.proofs.lemmas.Int.{ints}
use Rattle.std.proofs.lemmas.Option.{none-some, same_Some}
use Rattle.std.specs.Global.{Global}
use Rattle.sot_lists.specs.Places.{At}
use Rattle.sot_lists.proofs.ShortLists.{at_one}
use Rattle.sot_box.specs.Sides.{IsIn}
use Rattle.sot_lang.specs.declared.act.Act.{Act}
use Rattle.sot_lang.specs.declared.trap.Trap.{Trap}
use Rattle.sot_lang.specs.declared.tables.NodeInfo.{NodeInfo}
use Rattle.sot_lang.specs.TableRules.{IsCoded}
use Rattle.sot_lang.specs.Bodies.{Fired, execution}
use Rattle.sot_lang.specs.Ranges.{range_of, local_ranges, write_ranges}
use Rattle.sot_lang.specs.Readings.{reading}
use Rattle.sot_calendar.specs.Due.{IsDue, IsDueWithin, IsLastDue}
use Rattle.sot_code.specs.Recorded.{in_slots}
use Rattle.sot_world.specs.declared.outcome.Why.{Why}
use Rattle.sot_world.specs.declared.outcome.Why.TheVariants as whys
use Rattle.sot_world.specs.Configurations.{Configuration, is_left, locals_of, IsOpening}
use Rattle.sot_world.specs.Calendar.{NothingLeft}
use Rattle.sot_world.specs.Events.{IsTypedInput, RefusesInput, RefusesNode}
use Rattle.sot_world.specs.Steps.{Event, Input, Code, Guest, Decide, Tick, Step, MayTick}
use Rattle.sot_world.specs.Outcomes.{Recorded, InputTaken, NodeFired, Records}
use Rattle.sot_world.specs.HistoryEntry.{Logged, InputAt, FireAt}
use Rattle.sot_world.specs.Examples.{relay, relaying, copy, copy_acts, e_topic}
use Rattle.sot_flight.specs.Plans.{StatedInput, Guest as ByGuest, Coded}
use Rattle.sot_board.specs.Flown.{NoInputDue, IsStated, Tells, FlownBy}
use Rattle.sot_board.specs.Examples.{relay_flight, relay_history, copies}
use Rattle.sot_board.proofs.RelayFlight.{flown}
use Rattle.sot_trace.specs.Lines.{line_of}
use Rattle.sot_trace_lines.specs.Readers.{spelled_at}
use Rattle.sot_trace_lines.proofs.ReadLines.{read_spelled}
use Rattle.sot_trace_lines.specs.Spelled.{InputLine, FireLine, TickLine, EndLine, IsSpelled}
use Rattle.sot_replay.specs.GoesOn.{AreHandedOver}
use Rattle.sot_replay.specs.Tests.{WorldRefuses, IsNextLine}
use Rattle.sot_replay.specs.Examples.{starting, heard, unheard, copied, other_history, TwoTraces, FailsAt, OtherFirstLines, OtherLastLines, SpellNothing}
use Rattle.sot_replay.specs.declared.fail.LineKind.TheVariants.{NotALine}
use Rattle.sot_replay.proofs.RelayRules.{rules, words}
use Rattle.sot_replay.proofs.FirstFailing.{not_a_line, wrong_time, refused, inputs_left, too_far, differs}

same_ok : {A : Type 0} (x y : A) (a : Result A Trap) → a ≡ Ok x → a ≡ Ok y → x ≡ y
same_ok x y a is_x is_y = (let both : Ok x ≡ Ok y = sym is_x ∙ is_y in cc)

-- two texts are other ones where they have other bytes in one place
pub other_at : (k a b : ℕ) (xs ys : List ℕ) → slice_index_or xs k 0 ≡ a → slice_index_or ys k 0 ≡ b → (a ≡ b → ⊥) → xs ≢ ys
other_at k a b xs ys is_a is_b other e = other (sym is_a ∙ ap (λ l. slice_index_or l k 0) e ∙ is_b)

-- no guest fires in this flight
pub none_handed : (entries : List Logged) → AreHandedOver relay_flight entries
none_handed entries i time node index draft enabled at crew =
    absurd (at_one (λ n c. c ≡ ByGuest index → ⊥) Coded (λ e. absurd cc) node (ByGuest index) crew refl)

module _ (g : Global) where
  pub opens : IsOpening (relay g) [] (relaying (pos 0) (pos 0))
  opens = record {
    time = refl;
    left =
        at_one (λ n node. (is_left (relaying (pos 0) (pos 0)) n ≡ true) ↔ IsDue node.period node.offset 0) (copy g) ((λ e. (omega arith, refl)), (λ d. refl));
    left_dm = λ m a at. absurd (none-some a at);
    modes = refl;
    scalars = refl;
    locals = refl;
    points = refl;
    sizes = record { left = refl; left_dm = refl; modes = refl; scalars = refl; locals = refl; points = refl };
    widths = λ k plant at. absurd (none-some plant at);
  }

  -- nothing is left once the node has fired
  nothing : (C : Configuration) → C.left ≡ false ∷ [] → NothingLeft (relay g) C
  nothing C left = record {
    nodes = at_one (λ n node. is_left C n ≡ false) (copy g) (ap (λ l. is_left (record C { left = l }) 0) left);
    modules = λ m a at. absurd (none-some a at);
  }

  other_flown : FlownBy (relay g) 0 relay_flight other_history
  unfolding execution
  other_flown = (
    record { at = record (relaying (pos 5) (pos 0)) { left = false ∷ [] }; inputs = []; fired = 1 ∷ [] },
    (
      starting,
      record { opening = opens; inputs = refl; fired = refl },
      (
        unheard,
        record {
          event = Code 0;
          stated = tt;
          step = record {
            node = copy g;
            is = refl;
            acts = copy_acts g;
            coded = (_, refl, refl);
            fired = record { locals = []; draft = Some (pos 0) ∷ [] };
            runs = refl;
            fires = record { was_left = refl; time = refl; left = refl; left_dm = refl; modes = refl; points = refl; locals_set = refl; scalars = refl };
          };
          recorded = NodeFired (Some (pos 0) ∷ []) true;
          records =
              record {
                node = copy g;
                is = refl;
                acts = copy_acts g;
                coded = (_, refl, refl);
                fired = record { locals = []; draft = Some (pos 0) ∷ [] };
                runs = refl;
                recorded = refl;
              };
          tells = (Some (pos 0) ∷ [], true, refl, refl);
          inputs = refl;
          fired = refl;
        },
        (
          record { at = record (relaying (pos 5) (pos 0)) { left = false ∷ [] }; inputs = []; fired = 1 ∷ [] },
          record {
            event = Input 0 (pos 5 ∷ []);
            stated = ([], refl);
            step = record {
              info = e_topic g;
              is = refl;
              outside = refl;
              size = refl;
              typed = at_one (λ i z. IsIn (range_of (relay g).scalars (0 + i)) z) (pos 5) (omega (arith, ints), omega (arith, ints));
              scalars = refl;
              rest = refl;
            };
            recorded = InputTaken;
            records = refl;
            tells = refl;
            inputs = refl;
            fired = refl;
          },
          refl,
        ),
      ),
    ),
    record { time = refl; inputs = refl; nothing = nothing (record (relaying (pos 5) (pos 0)) { left = false ∷ [] }) refl },
  )

  pub two_traces : TwoTraces g
  two_traces = (((flown g, none_handed relay_history), refl), ((other_flown, none_handed other_history), refl))

  -- the node is due at 0, and was due last then
  due : IsDueWithin 0 6 0 0
  due = (0, (omega arith, refl), omega arith, omega arith)

  last_due : IsLastDue 6 0 0 0
  last_due = record { past = omega arith; due = (omega arith, refl); greatest = λ u within is. within }

  -- what the node copies at the start
  code_gives :
      (n : ℕ) (node : NodeInfo) → At (relay g).nodes n node → (acts : List Act) (fired : Fired) → IsCoded node acts
      → execution acts (local_ranges node) (write_ranges (relay g) node) (reading node starting.at.scalars starting.at.points) (locals_of starting.at n)
      ≡ Ok fired → (n ≡ 0) × (fired.draft ≡ Some (pos 0) ∷ [])
  unfolding execution
  code_gives = at_one
      (λ n node. (acts : List Act) (fired : Fired) → IsCoded node acts
      → execution acts (local_ranges node) (write_ranges (relay g) node) (reading node starting.at.scalars starting.at.points) (locals_of starting.at n)
      ≡ Ok fired → (n ≡ 0) × (fired.draft ≡ Some (pos 0) ∷ []))
      (copy g)
      (λ acts fired (v, is, items) runs.
      let acts_are : acts ≡ copy_acts g = sym items ∙ ap (λ x. x.items) (sym (same_Some _ v is)) in
      let from : execution (copy_acts g) (local_ranges (copy g)) (write_ranges (relay g) (copy g)) (reading (copy g) starting.at.scalars starting.at.points)
      (locals_of starting.at 0) ≡ Ok fired =
      subst (λ a. execution a (local_ranges (copy g)) (write_ranges (relay g) (copy g)) (reading (copy g) starting.at.scalars starting.at.points)
      (locals_of starting.at 0) ≡ Ok fired) acts_are runs in
      (refl, ap (λ x. x.draft) (same_ok fired (record { locals = []; draft = Some (pos 0) ∷ [] }) _ from refl)))

  -- with which entries the flight can begin
  begins :
      (ev : Event) (r : Recorded) (entry : Logged) (D : Configuration) → IsStated (relay g) relay_flight starting ev → Step (relay g) 0 starting.at ev D
      → Records (relay g) starting.at ev D r
      → Tells starting.at ev r D entry → (entry ≡ InputAt 0 0 (pos 5 ∷ [])) ⊎ (entry ≡ copies (pos 0))
  begins (Input topic value) r entry D (rest, is) step records tells =
      let expected : StatedInput = record { at = 0; topic = 0; value = pos 5 ∷ [] } in
      let first : expected ≡ record { at = 0; topic = topic; value = value } = cc in
      inl (tells ∙ sym (ap (λ x. InputAt 0 x.topic x.value) first))
  begins (Code n) r entry D stated step records (draft, enabled, was, is) =
      let gives = code_gives n records.node records.is records.acts records.fired records.coded records.runs in
      let same : NodeFired draft enabled ≡ NodeFired records.fired.draft true = sym was ∙ records.recorded in
      let draft_is : draft ≡ records.fired.draft = cc in
      let on : enabled ≡ true = cc in
      inr (is ∙ ap (λ k. FireAt 0 k (in_slots draft) enabled) gives.0 ∙ ap (λ d. FireAt 0 0 (in_slots d) enabled) (draft_is ∙ gives.1)
      ∙ ap (FireAt 0 0 (in_slots (Some (pos 0) ∷ []))) on)
  begins (Guest n given) r entry D stated step records tells =
      absurd (at_one (λ k node. node.body ≡ None → ⊥) (copy g) (λ e. none-some _ (sym e)) n step.node step.is step.external)
  begins (Decide m) r entry D stated step records tells = absurd (none-some step.module_info step.is)
  begins (Tick noise) r entry D stated step records tells = absurd (omega (arith, stated.0))

  -- another line is not the next one
  pub no_next : (line : List ℕ) → line ≢ codes "0 input e=5" → line ≢ codes "0 fire copy m=0" → IsNextLine (relay g) 0 relay_flight starting line → ⊥
  no_next line not_heard not_copied (entry, Q, flies, handed, is) =
      ⊎_elim (λ e. not_heard (is ∙ ap (line_of (relay g)) e)) (λ e. not_copied (is ∙ ap (line_of (relay g)) e))
      (begins flies.event flies.recorded entry Q.at flies.stated flies.step flies.records flies.tells)

  -- the node can fire at the start, and a value in the type of e can come
  can_fire : (why : Why) → RefusesNode (relay g) 0 starting.at 0 why → ⊥
  can_fire whys.NotDue not = not (copy g, refl, due)
  can_fire whys.AlreadyFired (is, left) = false≢true (sym left)
  can_fire whys.NodesLeft none = none
  can_fire whys.OutsideType none = none

  six : IsTypedInput (relay g) 0 (pos 6 ∷ [])
  six = (e_topic g, refl, at_one (λ i z. IsIn (range_of (relay g).scalars (0 + i)) z) (pos 6) (omega (arith, ints), omega (arith, ints)))

  can_come : (why : Why) → RefusesInput (relay g) 0 (pos 6 ∷ []) why → ⊥
  can_come whys.NotDue none = none
  can_come whys.AlreadyFired none = none
  can_come whys.NodesLeft none = none
  can_come whys.OutsideType not = not six

  ten : IsTypedInput (relay g) 0 (pos 10 ∷ []) → ⊥
  ten (info, is, typed) =
      (let t = subst (λ x. IsIn (range_of (relay g).scalars (x.first + 0)) (pos 10)) (sym (same_Some (e_topic g) info is)) (typed 0 (pos 10) refl) in
      omega (arith, ints, t.1))

  -- lines that spell an input and a firing
  spells_input : (line : List ℕ) (time : ℕ) (z : ℤ) → line ≡ line_of (relay g) (InputAt time 0 (z ∷ [])) → IsSpelled (relay g) line (InputLine time 0 (z ∷ []))
  spells_input line time z is = ((e_topic g, refl, refl, refl), is)

  pub other_first_lines : OtherFirstLines g
  other_first_lines = (
    differs (relay g) 0 relay_flight [] starting _ (FireLine 0 0 true (Some (true, pos 5) ∷ [])) ((omega arith, refl), refl) refl can_fire (λ none. none)
        (λ none. none) (no_next _ (other_at 2 102 105 _ _ refl refl (λ e. omega (arith, e))) (other_at 14 53 48 _ _ refl refl (λ e. omega (arith, e)))),
    differs (relay g) 0 relay_flight [] starting _ (FireLine 0 0 true (Some (false, pos 0) ∷ [])) ((omega arith, refl), refl) refl can_fire (λ none. none)
        (λ none. none) (no_next _ (other_at 2 102 105 _ _ refl refl (λ e. omega (arith, e))) (other_at 13 33 61 _ _ refl refl (λ e. omega (arith, e)))),
    differs (relay g) 0 relay_flight [] starting _ (FireLine 0 0 false (Some (true, pos 0) ∷ [])) ((omega arith, refl), refl) refl can_fire (λ none. none)
        (λ none. none) (no_next _ (other_at 3 100 110 _ _ refl refl (λ e. omega (arith, e))) (other_at 2 105 102 _ _ refl refl (λ e. omega (arith, e)))),
    differs (relay g) 0 relay_flight [] starting _ (InputLine 0 0 (pos 6 ∷ [])) (spells_input _ 0 (pos 6) refl) refl can_come (λ none. none) (λ none. none)
        (no_next _ (other_at 10 54 53 _ _ refl refl (λ e. omega (arith, e))) (other_at 2 105 102 _ _ refl refl (λ e. omega (arith, e)))),
    refused (relay g) 0 relay_flight [] starting _ (InputLine 0 0 (pos 10 ∷ [])) (spells_input _ 0 (pos 10) refl) refl whys.OutsideType ten,
    wrong_time (relay g) 0 relay_flight [] starting _ (InputLine 1 0 (pos 5 ∷ [])) (spells_input _ 1 (pos 5) refl) (λ e. absurd cc),
    wrong_time (relay g) 0 relay_flight [] starting _ (InputLine 1 0 (pos 10 ∷ [])) (spells_input _ 1 (pos 10) refl) (λ e. absurd cc),
  )

  -- while the node is left no tick comes, nor the end
  no_tick : MayTick (relay g) 0 starting.at → ⊥
  no_tick may = may.nodes 0 (copy g) 0 refl refl last_due refl

  -- once nothing is left a tick and the end can come
  may_tick : (C : Configuration) → C.left ≡ false ∷ [] → MayTick (relay g) 0 C
  may_tick C left = record {
    nodes = λ n node d at is last e. false≢true (sym ((nothing C left).nodes n node at) ∙ is);
    modules = λ m a d at is last e. absurd (none-some a at);
  }

  ticks_at : (C : Configuration) → C.left ≡ false ∷ [] → (why : Why) → WorldRefuses (relay g) 0 C (TickLine 0 [] []) why → ⊥
  ticks_at C left whys.NotDue none = none
  ticks_at C left whys.AlreadyFired none = none
  ticks_at C left whys.NodesLeft not = not (may_tick C left)
  ticks_at C left whys.OutsideType (may, not) = not tt

  ends_at : (C : Configuration) → C.left ≡ false ∷ [] → (events outside : ℕ) (why : Why) → WorldRefuses (relay g) 0 C (EndLine 0 events outside) why → ⊥
  ends_at C left events outside whys.NotDue none = none
  ends_at C left events outside whys.AlreadyFired none = none
  ends_at C left events outside whys.NodesLeft not = not (nothing C left)
  ends_at C left events outside whys.OutsideType none = none

  -- the input is due while it has not come
  input_due : NoInputDue unheard → ⊥
  input_due none = none 0 _ refl refl

  pub other_last_lines : OtherLastLines g
  other_last_lines = (
    refused (relay g) 0 relay_flight [] starting _ (TickLine 0 [] []) ((refl, refl), refl) refl whys.NodesLeft no_tick,
    refused (relay g) 0 relay_flight [] starting _ (EndLine 0 0 0) (tt, refl) refl whys.NodesLeft (λ none. false≢true (sym (none.nodes 0 (copy g) refl))),
    refused (relay g) 0 relay_flight _ heard _ (EndLine 0 1 0) (tt, refl) refl whys.NodesLeft (λ none. false≢true (sym (none.nodes 0 (copy g) refl))),
    inputs_left (relay g) 0 relay_flight _ unheard _ (EndLine 0 1 0) (tt, refl) refl (ends_at unheard.at refl 1 0) input_due,
    inputs_left (relay g) 0 relay_flight _ unheard _ (TickLine 0 [] []) ((refl, refl), refl) refl (ticks_at unheard.at refl) input_due,
    refused (relay g) 0 relay_flight _ unheard _ (FireLine 0 0 true (Some (true, pos 0) ∷ [])) ((omega arith, refl), refl) refl whys.AlreadyFired
        ((copy g, refl, due), refl),
    too_far (relay g) 0 relay_flight _ copied _ (TickLine 0 [] []) ((refl, refl), refl) refl (ticks_at copied.at refl)
        (λ due'. due' (λ i x at. absurd (none-some x at))) (omega arith),
    differs (relay g) 0 relay_flight _ copied _ (EndLine 0 3 0) (tt, refl) refl (ends_at copied.at refl 3 0) (λ due'. due' (λ i x at. absurd (none-some x at)))
        (λ lt. omega (arith, lt)) (other_at 13 51 50 _ _ refl refl (λ e. omega (arith, e))),
    differs (relay g) 0 relay_flight _ copied _ (EndLine 0 2 1) (tt, refl) refl (ends_at copied.at refl 2 1) (λ due'. due' (λ i x at. absurd (none-some x at)))
        (λ lt. omega (arith, lt)) (other_at 23 49 48 _ _ refl refl (λ e. omega (arith, e))),
  )

  -- what is read as nothing spells nothing
  spells_nothing : (line : List ℕ) → spelled_at (relay g) line ≡ None → FailsAt g [] starting line NotALine
  spells_nothing line none =
      not_a_line (relay g) 0 relay_flight [] starting line (λ s is. none-some s (sym none ∙ read_spelled (relay g) (rules g) (words g) line s is))

  pub spell_nothing : SpellNothing g
  spell_nothing = (
    spells_nothing _ refl,
    spells_nothing _ refl,
    spells_nothing _ refl,
    spells_nothing _ refl,
    spells_nothing _ refl,
    spells_nothing _ refl,
    spells_nothing _ refl,
    spells_nothing _ refl,
    spells_nothing _ refl,
  )
