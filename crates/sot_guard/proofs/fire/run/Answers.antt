use Rattle.std.proofs.Common.{length, refl, sym, ap, ◌∙◌, map}
use Rattle.std.proofs.lemmas.List.{length-map}
use Rattle.std.proofs.lemmas.Option.{slice_get_within}
use Rattle.sot_lists.proofs.Places.{at_same, read_at}
use Rattle.sot_lang.specs.Ranges.{local_ranges, write_ranges}
use Rattle.sot_lang.specs.Bodies.{execution}
use Rattle.sot_lang.specs.Readings.{number_at, reading}
use Rattle.sot_code.specs.Recorded.{recorded}
use Rattle.sot_guard.proofs.Runs.{ran, trapped}
use Rattle.sot_guard.proofs.fire.run.Goals as goal

pub run_node-requires : goal.run_node-requires
run_node-requires c =
    let r = c.requires in
    let info = read_at _ _ c.args.node _ (ap (λ t. t.nodes) c.p.view_is) (slice_get_within _ _ _ r.is) c.index.ensures in
    let same = at_same c.args.p.now.nodes c.args.node _ r.node info r.is in
    let seen = c.of-seen.ensures ∙ ap (map (number_at c.args.scalars.now c.args.points.now)) (c.deref.ensures.value ∙ ap (λ x. x.reads.items) same) in
    record {
      node = r.node;
      acts = r.acts;
      is = r.is;
      coded = r.coded;
      reads = ap length seen ∙ length-map r.node.reads.items (number_at c.args.scalars.now c.args.points.now);
      locals_are = r.locals_are;
    }

pub returns-in-Ok : goal.returns-in-Ok
returns-in-Ok c = λ node acts at coded.
    let info = read_at _ _ c.args.node _ (ap (λ t. t.nodes) c.p.view_is) (slice_get_within _ _ _ at) c.index.ensures in
    let same = at_same c.args.p.now.nodes c.args.node _ node info at in
    let seen = c.of-seen.ensures ∙ ap (map (number_at c.args.scalars.now c.args.points.now)) (c.deref.ensures.value ∙ ap (λ x. x.reads.items) same) in
    let told = c.run_node.ensures node acts at coded in
    ran _ (execution acts (local_ranges node) (write_ranges c.args.p.now node) (reading node c.args.scalars.now c.args.points.now) c.args.locals.now)
    c.in-Ok.fired
    (ap (λ s. recorded (execution acts (local_ranges node) (write_ranges c.args.p.now node) s c.args.locals.now)) (sym seen) ∙ sym told ∙ c.in-Ok.is)

pub returns-in-Err : goal.returns-in-Err
returns-in-Err c = λ node acts at coded.
    let info = read_at _ _ c.args.node _ (ap (λ t. t.nodes) c.p.view_is) (slice_get_within _ _ _ at) c.index.ensures in
    let same = at_same c.args.p.now.nodes c.args.node _ node info at in
    let seen = c.of-seen.ensures ∙ ap (map (number_at c.args.scalars.now c.args.points.now)) (c.deref.ensures.value ∙ ap (λ x. x.reads.items) same) in
    let told = c.run_node.ensures node acts at coded in
    trapped _ _ (execution acts (local_ranges node) (write_ranges c.args.p.now node) (reading node c.args.scalars.now c.args.points.now) c.args.locals.now)
    c.in-Err.field-0
    (ap (λ s. recorded (execution acts (local_ranges node) (write_ranges c.args.p.now node) s c.args.locals.now)) (sym seen) ∙ sym told ∙ c.in-Err.is)
    (λ u. (refl, c.blank.ensures))
