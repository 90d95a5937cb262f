use Rattle.std.proofs.Common.{◌≡◌, ◌∷◌, ◌++◌, [], length, refl, sym, ap, ◌∙◌, subst}
use Rattle.sot_world.specs.HistoryEntry.{DecideAt}
use Rattle.sot_world.specs.Steps.{Decide}
use Rattle.sot_board.specs.BoardView.{position}
use Rattle.sot_world.specs.Events.{noise_count}
use Rattle.sot_board.specs.Counts.{state_count}
use Rattle.sot_board.specs.Calls.{Logs}
use Rattle.sot_board.proofs.Events.{decide_flies}
use Rattle.sot_board.proofs.Boards.{has_room, stands, logs, not_counted}
use Rattle.sot_board.proofs.board.Board.decide.Goals as goal

pub push-requires-clause-entry : goal.push-requires-clause-entry
push-requires-clause-entry c =
    let b = c.self.inside in
    has_room b c.self.invariant _ _ (decide_flies b.world.accepted.program b.world.accepted.cert.jitter b.flight.now (position b) c.decide-mode.new.self.at
    c.args.module c.decide-mode.result c.decide-mode.ensures.step c.decide-mode.ensures.mode)

pub invariant_of-self : goal.invariant_of-self
invariant_of-self c =
    let b = c.self.inside in
    let p = b.world.accepted.program in
    let flies = decide_flies p b.world.accepted.cert.jitter b.flight.now (position b) c.decide-mode.new.self.at c.args.module c.decide-mode.result
    c.decide-mode.ensures.step c.decide-mode.ensures.mode in
    let entries = c.push.ensures.appended ∙ ap (λ t. b.history.entries ++ DecideAt t c.args.module c.decide-mode.result ∷ []) c.time-time.ensures.value in
    record {
      has =
          stands b c.self.invariant _ _ flies c.decide-mode.new.self.accepted c.push.new.self.entries b.versions.items c.push.new.self.entries_left
          c.push.new.self.numbers_left c.decide-mode.ensures.accepted entries
          (not_counted p (DecideAt b.world.at.time c.args.module c.decide-mode.result) b.versions.items (λ k. refl)) c.push.ensures.entries_left
          c.push.ensures.numbers_left;
      next = c.self.invariant.next;
      noise = subst (λ a. length b.noise.items ≡ noise_count a.program.plants) (sym c.decide-mode.ensures.accepted) c.self.invariant.noise;
      states = subst (λ a. length b.states.items ≡ state_count a.program.plants) (sym c.decide-mode.ensures.accepted) c.self.invariant.states;
    }

pub returns : goal.returns
returns c =
    let b = c.self.inside in
    let p = b.world.accepted.program in
    let flies = decide_flies p b.world.accepted.cert.jitter b.flight.now (position b) c.decide-mode.new.self.at c.args.module c.decide-mode.result
    c.decide-mode.ensures.step c.decide-mode.ensures.mode in
    let entries = c.push.ensures.appended ∙ ap (λ t. b.history.entries ++ DecideAt t c.args.module c.decide-mode.result ∷ []) c.time-time.ensures.value in
    subst (λ s. Logs s (record {
      accepted = c.decide-mode.new.self.accepted;
      plan = b.flight.now;
      entries = c.push.new.self.entries;
      position =
          record { at = c.decide-mode.new.self.at; inputs = (position b).inputs; fired = b.fired.items };
    }) (Decide c.args.module)
    (DecideAt s.position.at.time c.args.module c.decide-mode.result)) c.self.view_is
    (logs b c.self.invariant _ _ flies c.decide-mode.new.self.accepted c.push.new.self.entries c.decide-mode.ensures.accepted entries)
