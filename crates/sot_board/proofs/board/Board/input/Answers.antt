use Rattle.std.proofs.Common.{◌≡◌, ◌+◌, ◌∷◌, ◌++◌, [], suc, length, drop, sym, ap, ◌∙◌, subst, arith}
use Rattle.std.specs.Prelude.{slice_index_or, slice_set}
use Rattle.std.specs.Vec.{with_items}
use Rattle.std.proofs.lemmas.List.{with_items_is}
use Rattle.std.proofs.lemmas.Option.{slice_get_within}
use Rattle.sot_world.specs.Events.{noise_count}
use Rattle.sot_world.specs.HistoryEntry.{InputAt}
use Rattle.sot_board.specs.BoardView.{position, standing}
use Rattle.sot_board.specs.Counts.{state_count}
use Rattle.sot_board.specs.Calls.{InputDue, LogsInput}
use Rattle.sot_board.proofs.Events.{input_flies}
use Rattle.sot_board.proofs.Boards.{few_writings, has_room, has_numbers, stands, logs, counted_input, next_is}
use Rattle.sot_board.proofs.board.Board.input.Goals as goal

pub take-requires-clause-topic : goal.take-requires-clause-topic
take-requires-clause-topic c =
    let fit = c.self.invariant.has.standing.fits.inputs c.self.inside.next_input _ c.input-given.ensures in
    (fit.topic, fit.is, fit.outside, fit.size)

pub take-requires-clause-typed : goal.take-requires-clause-typed
take-requires-clause-typed c =
    let fit = c.self.invariant.has.standing.fits.inputs c.self.inside.next_input _ c.input-given.ensures in
    (fit.topic, fit.is, fit.typed)

pub count_one-requires-clause-there : goal.count_one-requires-clause-there
count_one-requires-clause-there c =
    let b = c.self.inside in
    let fit = c.self.invariant.has.standing.fits.inputs b.next_input _ c.input-given.ensures in
    omega (
      arith,
      slice_get_within b.world.accepted.program.topics c.input-given.result.topic fit.topic fit.is,
      ap length c.deref_mut.ensures.value,
      c.self.invariant.has.each,
    )

pub count_one-requires-clause-room : goal.count_one-requires-clause-room
count_one-requires-clause-room c =
    let few = few_writings c.self.inside c.self.invariant c.input-given.result.topic in
    omega (arith, few, ap (λ l. slice_index_or l c.input-given.result.topic 0) c.deref_mut.ensures.value)

pub push-requires-clause-entry : goal.push-requires-clause-entry
push-requires-clause-entry c =
    let b = c.self.inside in
    let x = c.input-given.result in
    let due = subst (λ s. InputDue s.position) (sym c.self.view_is) c.requires in
    let next = next_is b x.at x.topic x.value.now c.input-given.ensures due in
    has_room b c.self.invariant _ _ (input_flies b.world.accepted.program b.world.accepted.cert.jitter b.flight.now (position b) c.take.new.self.at x.topic
    x.value.now (drop (b.next_input + 1) b.flight.now.inputs) next c.take.ensures.step)

pub push-requires-clause-numbers : goal.push-requires-clause-numbers
push-requires-clause-numbers c =
    let b = c.self.inside in
    let x = c.input-given.result in
    let due = subst (λ s. InputDue s.position) (sym c.self.view_is) c.requires in
    let next = next_is b x.at x.topic x.value.now c.input-given.ensures due in
    has_numbers b c.self.invariant _ _ (input_flies b.world.accepted.program b.world.accepted.cert.jitter b.flight.now (position b) c.take.new.self.at x.topic
    x.value.now (drop (b.next_input + 1) b.flight.now.inputs) next c.take.ensures.step)

pub invariant_of-self : goal.invariant_of-self
invariant_of-self c =
    let b = c.self.inside in
    let p = b.world.accepted.program in
    let x = c.input-given.result in
    let due = subst (λ s. InputDue s.position) (sym c.self.view_is) c.requires in
    let next = next_is b x.at x.topic x.value.now c.input-given.ensures due in
    let flies = input_flies p b.world.accepted.cert.jitter b.flight.now (position b) c.take.new.self.at x.topic x.value.now
    (drop (b.next_input + 1) b.flight.now.inputs) next c.take.ensures.step in
    let entries = c.push.ensures.appended ∙ ap (λ t. b.history.entries ++ InputAt t x.topic x.value.now ∷ []) c.time-time.ensures.value in
    let versions = with_items_is b.versions c.count_one.new.counts (omega (arith, c.count_one.auto.counts, c.deref_mut.ensures.len)) in
    let set = versions ∙ c.count_one.ensures ∙ ap (λ l. slice_set l x.topic (suc (slice_index_or l x.topic 0))) c.deref_mut.ensures.value in
    let fit = c.self.invariant.has.standing.fits.inputs b.next_input _ c.input-given.ensures in
    let there = slice_get_within p.topics x.topic fit.topic fit.is in
    record {
      has =
          stands b c.self.invariant (InputAt b.world.at.time x.topic x.value.now) _ flies c.take.new.self.accepted c.push.new.self.entries
          (with_items b.versions c.count_one.new.counts).items c.push.new.self.entries_left c.push.new.self.numbers_left
          c.take.ensures.accepted entries (counted_input p b.world.at.time x.topic x.value.now b.versions.items _
          (omega (arith, there, c.self.invariant.has.each)) set) c.push.ensures.entries_left c.push.ensures.numbers_left;
      next = omega (arith, slice_get_within b.flight.now.inputs b.next_input _ c.input-given.ensures);
      noise = subst (λ a. length b.noise.items ≡ noise_count a.program.plants) (sym c.take.ensures.accepted) c.self.invariant.noise;
      states = subst (λ a. length b.states.items ≡ state_count a.program.plants) (sym c.take.ensures.accepted) c.self.invariant.states;
    }

pub returns : goal.returns
returns c =
    let b = c.self.inside in
    let p = b.world.accepted.program in
    let x = c.input-given.result in
    let due = subst (λ s. InputDue s.position) (sym c.self.view_is) c.requires in
    let next = next_is b x.at x.topic x.value.now c.input-given.ensures due in
    let flies = input_flies p b.world.accepted.cert.jitter b.flight.now (position b) c.take.new.self.at x.topic x.value.now
    (drop (b.next_input + 1) b.flight.now.inputs) next c.take.ensures.step in
    let entries = c.push.ensures.appended ∙ ap (λ t. b.history.entries ++ InputAt t x.topic x.value.now ∷ []) c.time-time.ensures.value in
    let new = standing (record b {
      world = c.take.new.self;
      history = c.push.new.self;
      next_input = b.next_input + 1;
      versions = with_items b.versions c.count_one.new.counts;
    }) in
    subst (λ s. LogsInput s new) c.self.view_is (
      x.topic,
      x.value.now,
      InputAt b.world.at.time x.topic x.value.now,
      logs b c.self.invariant (InputAt b.world.at.time x.topic x.value.now) _ flies c.take.new.self.accepted c.push.new.self.entries c.take.ensures.accepted
          entries,
    )
