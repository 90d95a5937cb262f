use Rattle.std.proofs.Common.{◌≡◌, ◌<◌, length, map, take, refl, sym, ap, ap₂, ◌∙◌, subst, arith}
use Rattle.sot_lists.specs.Places.{At}
use Rattle.sot_lists.proofs.Places.{at_same, read_at}
use Rattle.sot_lang.specs.declared.tables.NodeInfo.{NodeInfo}
use Rattle.sot_lang.specs.Readings.{number_at, reading}
use Rattle.sot_world.proofs.FiringSteps.{reads_there}
use Rattle.sot_board.specs.ReadCounts.{HasCount, count_of}
use Rattle.sot_world.specs.Configurations.{locals_of}
use Rattle.sot_board.specs.Views.{slot_version}
use Rattle.sot_board.proofs.Viewing.{counts_there, counts_are}
use Rattle.sot_board.proofs.board.Board.view.Goals as goal

pub read_numbers-requires-clause-there : goal.read_numbers-requires-clause-there
read_numbers-requires-clause-there c = λ i slot at_i.
    let b = c.self.inside in
    let lt = subst (λ s. c.args.node < length s.accepted.program.nodes) (sym c.self.view_is) c.requires in
    let info = read_at _ _ c.args.node _ (ap (λ t. t.nodes) (c.p.view_is ∙ c.typed-p.ensures)) lt c.index.ensures in
    reads_there b.world.accepted b.world.at c.self.invariant.has.standing.kept c.args.node c.index.result.now info i slot
    (subst (λ l. At l i slot) c.deref.ensures.value at_i)

pub read_numbers-requires-clause-room : goal.read_numbers-requires-clause-room
read_numbers-requires-clause-room c =
    let lt = subst (λ s. c.args.node < length s.accepted.program.nodes) (sym c.self.view_is) c.requires in
    let info = read_at _ _ c.args.node _ (ap (λ t. t.nodes) (c.p.view_is ∙ c.typed-p.ensures)) lt c.index.ensures in
    omega (arith, (c.self.invariant.has.standing.kept.rules.nodes c.args.node c.index.result.now info).reads, ap length c.deref.ensures.value)

pub read_counts-requires-clause-there : goal.read_counts-requires-clause-there
read_counts-requires-clause-there c = λ i slot at_i.
    let b = c.self.inside in
    let lt = subst (λ s. c.args.node < length s.accepted.program.nodes) (sym c.self.view_is) c.requires in
    let info = read_at _ _ c.args.node _ (ap (λ t. t.nodes) (c.p.view_is ∙ c.typed-p.ensures)) lt c.index.ensures in
    let has = counts_there b.world.accepted.program c.self.invariant.has.standing.kept.rules b.versions.items c.self.invariant.has.each c.args.node
    c.index.result.now info i slot (subst (λ l. At l i slot) c.deref-2.ensures.value at_i) in
    subst (λ t. HasCount t c.deref-3.result.now slot) (sym c.typed-p.ensures)
    (subst (λ l. HasCount b.world.accepted.program l slot) (sym c.deref-3.ensures.value) has)

pub returns : goal.returns
returns c =
    let b = c.self.inside in
    let p = b.world.accepted.program in
    let lt = subst (λ s. c.args.node < length s.accepted.program.nodes) (sym c.self.view_is) c.requires in
    let info = read_at _ _ c.args.node _ (ap (λ t. t.nodes) (c.p.view_is ∙ c.typed-p.ensures)) lt c.index.ensures in
    let reads = c.index.result.now.reads.items in
    let many : c.len-2.result ≡ length reads = omega (arith, c.len-2.ensures, c.index.result.now.reads.ok.0) in
    let numbers = ap (λ n. take n c.read_numbers.new.numbers) (many ∙ ap length (sym c.deref.ensures.value)) ∙ c.read_numbers.ensures.front
    ∙ ap (map (number_at b.world.at.scalars b.world.at.points)) c.deref.ensures.value in
    let there = counts_there p c.self.invariant.has.standing.kept.rules b.versions.items c.self.invariant.has.each c.args.node c.index.result.now info in
    let versions = ap (λ n. take n c.read_counts.new.versions) (many ∙ ap length (sym c.deref-2.ensures.value)) ∙ c.read_counts.ensures.front
    ∙ ap (λ t. map (count_of t c.deref-3.result.now) c.deref-2.result.now) c.typed-p.ensures
    ∙ ap₂ (λ l s. map (count_of p l) s) c.deref-3.ensures.value c.deref-2.ensures.value
    ∙ counts_are p b.history.entries b.versions.items reads c.self.invariant.has.each there c.self.invariant.has.versions_are in
    record {
      node = refl;
      time = c.time.ensures.value ∙ ap (λ s. s.position.at.time) c.self.view_is;
      history = c.len.ensures ∙ ap (λ s. length s.entries) c.self.view_is;
      numbers =
          subst (λ s. (node : NodeInfo) → At s.accepted.program.nodes c.args.node node
          → take c.len-2.result c.read_numbers.new.numbers ≡ reading node s.position.at.scalars s.position.at.points) c.self.view_is
          (λ node at. numbers ∙ ap (λ (x : NodeInfo). map (number_at b.world.at.scalars b.world.at.points) x.reads.items)
          (at_same p.nodes c.args.node c.index.result.now node info at));
      versions =
          subst (λ s. (node : NodeInfo) → At s.accepted.program.nodes c.args.node node
          → take c.len-2.result c.read_counts.new.versions ≡ map (slot_version s.accepted.program s.entries) node.reads.items) c.self.view_is
          (λ node at. versions ∙ ap (λ (x : NodeInfo). map (slot_version p b.history.entries) x.reads.items)
          (at_same p.nodes c.args.node c.index.result.now node info at));
      locals = c.locals.ensures ∙ ap (λ s. locals_of s.position.at c.args.node) c.self.view_is;
    }
