use Rattle.std.proofs.Common.{suc, List, refl, sym, subst, arith}
use Rattle.std.specs.Prelude.{slice_index_or, slice_set}
use Rattle.std.specs.Vec.{with_items}
use Rattle.std.proofs.lemmas.List.{with_items_is}
use Rattle.std.proofs.lemmas.Option.{slice_get_within}
use Rattle.sot_lists.specs.Places.{At}
use Rattle.sot_lang.specs.declared.act.Act.{Act}
use Rattle.sot_lang.specs.declared.tables.NodeInfo.{NodeInfo}
use Rattle.sot_lang.specs.TableRules.{IsCoded}
use Rattle.sot_world.specs.Steps.{Code}
use Rattle.sot_world.specs.Configurations.{locals_of}
use Rattle.sot_world.specs.Changes.{IsRun}
use Rattle.sot_board.specs.BoardView.{position, standing}
use Rattle.sot_board.specs.Calls.{LogsFiring}
use Rattle.sot_board.proofs.Events.{code_flies}
use Rattle.sot_board.proofs.Boards.{few_entries, has_room, nodes_there, topics_each, versions_few, firings_few, after_firing, logs_firing}
use Rattle.sot_board.proofs.board.Board.commit_run.Goals as goal

pub commit-firing-requires-clause-coded : goal.commit-firing-requires-clause-coded
commit-firing-requires-clause-coded c =
    subst (λ s. (info : NodeInfo) × (acts : List Act) × At s.accepted.program.nodes c.args.node info × IsCoded info acts) (sym c.self.view_is) c.requires.coded

pub commit-firing-requires-clause-run : goal.commit-firing-requires-clause-run
commit-firing-requires-clause-run c =
    subst (λ s. IsRun s.accepted.program c.args.node s.position.at.scalars s.position.at.points (locals_of s.position.at c.args.node) c.args.fired.now)
    (sym c.self.view_is) c.requires.run

pub note_firing-requires-clause-there : goal.note_firing-requires-clause-there
note_firing-requires-clause-there c =
    let b = c.self.inside in
    let node = subst (λ s. (info : NodeInfo) × (acts : List Act) × At s.accepted.program.nodes c.args.node info × IsCoded info acts) (sym c.self.view_is)
    c.requires.coded in
    let there = slice_get_within b.world.accepted.program.nodes c.args.node node.0 node.2 in
    nodes_there b c.self.invariant _ c.args.node _ _ c.typed-p.ensures c.deref_mut.ensures.value c.deref_mut-2.ensures.value there

pub note_firing-requires-clause-topics : goal.note_firing-requires-clause-topics
note_firing-requires-clause-topics c =
    let b = c.self.inside in
    let node = subst (λ s. (info : NodeInfo) × (acts : List Act) × At s.accepted.program.nodes c.args.node info × IsCoded info acts) (sym c.self.view_is)
    c.requires.coded in
    let there = slice_get_within b.world.accepted.program.nodes c.args.node node.0 node.2 in
    topics_each b c.self.invariant _ c.args.node _ _ c.typed-p.ensures c.deref_mut.ensures.value c.deref_mut-2.ensures.value there

pub note_firing-requires-clause-few : goal.note_firing-requires-clause-few
note_firing-requires-clause-few c =
    let b = c.self.inside in
    let node = subst (λ s. (info : NodeInfo) × (acts : List Act) × At s.accepted.program.nodes c.args.node info × IsCoded info acts) (sym c.self.view_is)
    c.requires.coded in
    let there = slice_get_within b.world.accepted.program.nodes c.args.node node.0 node.2 in
    versions_few b c.self.invariant _ c.args.node _ _ c.typed-p.ensures c.deref_mut.ensures.value c.deref_mut-2.ensures.value there

pub note_firing-requires-clause-few_firings : goal.note_firing-requires-clause-few_firings
note_firing-requires-clause-few_firings c =
    let b = c.self.inside in
    let node = subst (λ s. (info : NodeInfo) × (acts : List Act) × At s.accepted.program.nodes c.args.node info × IsCoded info acts) (sym c.self.view_is)
    c.requires.coded in
    let there = slice_get_within b.world.accepted.program.nodes c.args.node node.0 node.2 in
    firings_few b c.self.invariant _ c.args.node _ _ c.typed-p.ensures c.deref_mut.ensures.value c.deref_mut-2.ensures.value there

pub note_firing-requires-clause-room : goal.note_firing-requires-clause-room
note_firing-requires-clause-room c =
    let b = c.self.inside in
    has_room b c.self.invariant _ _
    (code_flies b.world.accepted.program b.world.accepted.cert.jitter b.flight.now (position b) c.commit-firing.new.self.at c.args.node c.commit-firing.result
    (slice_set b.fired.items c.args.node (suc (slice_index_or b.fired.items c.args.node 0))) refl c.commit-firing.ensures.step
    c.commit-firing.ensures.firing)

pub note_firing-requires-clause-short : goal.note_firing-requires-clause-short
note_firing-requires-clause-short c = (let few = few_entries c.self.inside c.self.invariant in omega (arith, few))

pub invariant_of-self : goal.invariant_of-self
invariant_of-self c =
    let b = c.self.inside in
    let fired = with_items_is b.fired c.note_firing.new.fired (omega (arith, c.note_firing.auto.fired, c.deref_mut-2.ensures.len)) in
    let versions = with_items_is b.versions c.note_firing.new.versions (omega (arith, c.note_firing.auto.versions, c.deref_mut.ensures.len)) in
    after_firing b c.self.invariant _ _ c.args.node c.commit-firing.result _ _ _ _ c.commit-firing.new.self c.note_firing.new.history
    (with_items b.fired c.note_firing.new.fired) (with_items b.versions c.note_firing.new.versions) c.commit-firing.ensures.accepted c.typed-p.ensures
    c.time-time.ensures.value c.deref_mut.ensures.value c.deref_mut-2.ensures.value versions fired c.note_firing.ensures.notes
    (λ next is. code_flies b.world.accepted.program b.world.accepted.cert.jitter b.flight.now (position b) c.commit-firing.new.self.at c.args.node
    c.commit-firing.result next is c.commit-firing.ensures.step c.commit-firing.ensures.firing)

pub returns : goal.returns
returns c =
    let b = c.self.inside in
    let fired = with_items_is b.fired c.note_firing.new.fired (omega (arith, c.note_firing.auto.fired, c.deref_mut-2.ensures.len)) in
    let versions = with_items_is b.versions c.note_firing.new.versions (omega (arith, c.note_firing.auto.versions, c.deref_mut.ensures.len)) in
    let new = standing (record b {
      world = c.commit-firing.new.self;
      history = c.note_firing.new.history;
      fired = with_items b.fired c.note_firing.new.fired;
      versions = with_items b.versions c.note_firing.new.versions;
    }) in
    subst (λ s. LogsFiring s new c.args.node (Code c.args.node) c.note_firing.result) c.self.view_is
    (logs_firing b c.self.invariant _ _ c.args.node c.commit-firing.result _ _ _ _ c.commit-firing.new.self c.note_firing.new.history
    (with_items b.fired c.note_firing.new.fired) (with_items b.versions c.note_firing.new.versions) c.commit-firing.ensures.accepted c.typed-p.ensures
    c.time-time.ensures.value c.deref_mut.ensures.value c.deref_mut-2.ensures.value versions fired c.note_firing.ensures.notes
    (λ next is. code_flies b.world.accepted.program b.world.accepted.cert.jitter b.flight.now (position b) c.commit-firing.new.self.at c.args.node
    c.commit-firing.result next is c.commit-firing.ensures.step c.commit-firing.ensures.firing) c.note_firing.result c.note_firing.ensures.draft
    c.note_firing.ensures.place)
