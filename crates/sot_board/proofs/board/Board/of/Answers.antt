use Rattle.std.proofs.Common.{◌≡◌, pos, [], length, sym, ap, ap₂, ◌∙◌, subst, arith}
use Rattle.std.proofs.lemmas.List.{length-replicate}
use Rattle.sot_world.specs.Events.{noise_count}
use Rattle.sot_world.specs.HistoryEntry.{Story}
use Rattle.sot_board.specs.Counts.{state_count}
use Rattle.sot_board.specs.Standing.{HasStanding}
use Rattle.sot_board.proofs.Starts.{zeros_of, starts, stands_at_start}
use Rattle.sot_board.proofs.board.Board.of.Goals as goal

pub invariant_of-result : goal.invariant_of-result
invariant_of-result c =
    let w = c.args.world in
    let f = c.args.flight.now in
    let nodes : c.len.result ≡ length w.accepted.program.nodes =
    omega (arith, c.len.ensures, ap (λ t. length t.nodes) (c.p.view_is ∙ c.typed-p.ensures), c.p.inside.nodes.ok.0) in
    let topics : c.len-2.result ≡ length w.accepted.program.topics =
    omega (arith, c.len-2.ensures, ap (λ t. length t.topics) (c.p.view_is ∙ c.typed-p.ensures), c.p.inside.topics.ok.0) in
    let h = stands_at_start w.accepted f c.requires.fits.0 w.at c.in_ok-fired.fired.items c.in_ok-versions.versions.items c.reveal_invariant.ensures
    c.requires.fits.1 c.requires.opening
    (c.in_ok-fired.ensures ∙ ap zeros_of nodes) (c.in_ok-versions.ensures ∙ ap zeros_of topics) in
    let history = c.in_ok-history.ensures ∙ ap₂ (λ e n. let s : Story = record { entries = []; entries_left = e; numbers_left = n } in s) c.events.ensures
    c.numbers.ensures in
    record {
      has =
          subst (λ (s : Story). HasStanding (record {
            accepted = w.accepted;
            plan = f;
            entries = s.entries;
            position =
                record { at = w.at; inputs = f.inputs; fired = c.in_ok-fired.fired.items };
          }) c.in_ok-versions.versions.items s.entries_left s.numbers_left)
          (sym history) h;
      next = omega arith;
      noise =
          ap length c.in_ok-noise.ensures ∙ length-replicate c.count_noise.result (pos 0) ∙ c.count_noise.ensures
          ∙ ap noise_count (c.deref.ensures.value ∙ ap (λ t. t.plants) (c.p.view_is ∙ c.typed-p.ensures));
      states =
          ap length c.in_ok-states.ensures ∙ length-replicate c.count_states.result (pos 0) ∙ c.count_states.ensures
          ∙ ap state_count (c.deref-2.ensures.value ∙ ap (λ t. t.plants) (c.p.view_is ∙ c.typed-p.ensures));
    }

pub returns-clause-start : goal.returns-clause-start
returns-clause-start c =
    let w = c.args.world in
    let nodes : c.len.result ≡ length w.accepted.program.nodes =
    omega (arith, c.len.ensures, ap (λ t. length t.nodes) (c.p.view_is ∙ c.typed-p.ensures), c.p.inside.nodes.ok.0) in
    starts w.accepted.program c.args.flight.now w.at c.in_ok-fired.fired.items c.requires.opening (c.in_ok-fired.ensures ∙ ap zeros_of nodes)
