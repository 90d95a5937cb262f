use Rattle.std.proofs.Common.{arith, ◌≡◌, ◌-◌, length, take, drop, ap, subst, ◌∙◌}
use Rattle.std.proofs.lemmas.List.{length-take-le, length-drop}
use Rattle.sot_eval_flat.specs.Flows.{FlowAll, state}
use Rattle.sot_eval_flat.proofs.Firing.{goes}
use Rattle.sot_eval_flat.proofs.flat.Flat.run.Goals as goal

pub keep-requires : goal.keep-requires
keep-requires g c =
    let flat = c.args.self.now in
    let f = c.requires.flat in
    let kept = c.split_at-2.ensures.back ∙ ap (drop flat.reads) c.split_at.ensures.front in
    let taken : length (take flat.shape.names c.walk.new.room) ≡ flat.shape.names =
    length-take-le flat.shape.names c.walk.new.room (omega (arith, c.walk.ensures.size, f.few)) in
    let size : length c.split_at-2.result.1.now ≡ flat.shape.names - flat.reads =
    ap length kept ∙ length-drop flat.reads (take flat.shape.names c.walk.new.room) ∙ ap (λ n. n - flat.reads) taken in
    omega (arith, size, f.names, f.reads, f.locals)

pub returns : goal.returns
returns g c =
    let flat = c.args.self.now in
    let f = c.requires.flat in
    let flow = subst (λ us. FlowAll us (state c.fill.new.room c.args.draft.now) (state c.walk.new.room c.walk.new.draft)) c.deref.ensures.value
    (c.walk.ensures.goes c.if-trapped.false) in
    goes c.args.p.now c.args.node flat (g.V.Seen.numbers c.args.seen.now) c.args.locals.now c.fill.new.room c.walk.new.room c.args.draft.now c.walk.new.draft
    c.keep.new.locals f f.writes c.requires.run c.fill.ensures.room c.fill.ensures.names c.requires.blank flow
    (c.keep.ensures ∙ c.split_at-2.ensures.back ∙ ap (drop flat.reads) c.split_at.ensures.front)
