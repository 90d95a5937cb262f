use Rattle.std.proofs.Common.{◌≡◌, ◌<◌, ◌+◌, [], length, drop, take, slice_index_or, sym, ap, ◌∙◌, subst, arith, length-drop}
use Rattle.std.proofs.lemmas.List.{length-set}
use Rattle.sot_world.specs.Events.{cut}
use Rattle.sot_world.specs.Changes.{MayMove, IsMoved}
use Rattle.sot_lists.proofs.Places.{read_at}
use Rattle.sot_world.proofs.Places.{noise_from}
use Rattle.sot_world.proofs.Parts.{cut_step, set_more}
use Rattle.sot_world.proofs.tick.move_all.Goals as goal

pub next_point-requires-clause-moves : goal.next_point-requires-clause-moves
next_point-requires-clause-moves c =
    let plants = ap (λ t. t.plants) c.p.view_is in
    let below : c.loop-k.k < length c.args.p.now.plants = omega (arith, c.loop-k-test.true, c.len-k-end.ensures, c.p.inside.plants.ok.0, ap length plants) in
    let at = read_at _ _ c.loop-k.k _ plants below c.index.ensures in
    let parts = cut_step c.args.p.now.plants c.args.noise.now c.loop-k.rest.now c.loop-k.k _ at c.loop-k.invariant.parts in
    let count : c.len.result ≡ length c.index.result.now.noise.items = omega (arith, c.len.ensures, c.index.result.now.noise.ok.0) in
    let own = c.split_at-in-loop-k.ensures.front ∙ ap (λ n. take n c.loop-k.rest.now) count ∙ sym parts.0 in
    subst (MayMove c.args.p.now c.loop-k.k c.args.scalars.now c.args.points.now) (sym own) (c.requires.moves c.loop-k.k _ at)

pub loop-k-preserved : goal.loop-k-preserved
loop-k-preserved c =
    let k = c.loop-k.invariant in
    let plants = ap (λ t. t.plants) c.p.view_is in
    let below : c.loop-k.k < length c.args.p.now.plants = omega (arith, c.loop-k-test.true, c.len-k-end.ensures, c.p.inside.plants.ok.0, ap length plants) in
    let at = read_at _ _ c.loop-k.k _ plants below c.index.ensures in
    let parts = cut_step c.args.p.now.plants c.args.noise.now c.loop-k.rest.now c.loop-k.k _ at k.parts in
    let count : c.len.result ≡ length c.index.result.now.noise.items = omega (arith, c.len.ensures, c.index.result.now.noise.ok.0) in
    let own = c.split_at-in-loop-k.ensures.front ∙ ap (λ n. take n c.loop-k.rest.now) count ∙ sym parts.0 in
    let more = c.split_at-in-loop-k.ensures.back ∙ ap (λ n. drop n c.loop-k.rest.now) count in
    let lt : c.loop-k.k < length c.loop-k.next = omega (arith, below, k.size) in
    record {
      room = c.next_point.ensures.room;
      size = length-set c.loop-k.next c.loop-k.k c.next_point.result ∙ k.size;
      count =
          omega (
            arith,
            ap length more,
            length-drop (length c.index.result.now.noise.items) c.loop-k.rest.now,
            k.count,
            noise_from c.args.p.now.plants c.loop-k.k _ at,
          );
      parts = parts.1 ∙ ap (cut (drop (c.loop-k.k + 1) c.args.p.now.plants)) (sym more);
      moved =
          set_more [] (λ j x. IsMoved c.args.p.now j c.args.scalars.now c.args.points.now (slice_index_or (cut c.args.p.now.plants c.args.noise.now) j []) x)
          c.loop-k.next c.loop-k.k c.next_point.result lt
          (subst (λ w. IsMoved c.args.p.now c.loop-k.k c.args.scalars.now c.args.points.now w c.next_point.result) own c.next_point.ensures.moved)
          k.moved;
    }
