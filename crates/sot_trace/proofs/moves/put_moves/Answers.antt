use Rattle.std.proofs.Common.{◌≡◌, ap, ◌∙◌, refl, length, take, drop, arith}
use Rattle.sot_lists.proofs.Places.{read_at, drop_at}
use Rattle.sot_world.specs.Events.{noise_count}
use Rattle.sot_board.specs.Counts.{state_count}
use Rattle.sot_trace.proofs.Putting.{piece_put}
use Rattle.sot_trace.proofs.Moving.{IsSplit, moves_more}
use Rattle.sot_trace.proofs.moves.put_moves.Goals as goal

pub loop-plant-preserved : goal.loop-plant-preserved
loop-plant-preserved g c =
    let plants = c.args.plants.now in
    let i = c.loop-plant.plant-index in
    let k = c.plant-item.result in
    let v = c.loop-plant.noise_left.now in
    let s = c.loop-plant.states_left.now in
    let at = read_at plants plants i k refl c.loop-plant-test.true c.plant-item.is in
    let next = drop_at plants i k at in
    let noises : c.len.result ≡ length k.noise.items = omega (arith, c.len.ensures, k.noise.ok.0) in
    let states : c.len-in-loop-plant.result ≡ length k.states.items = omega (arith, c.len-in-loop-plant.ensures, k.states.ok.0) in
    let noise_next = ap noise_count next in
    let states_next = ap state_count next in
    let v_split = c.split_at-in-loop-plant.result in
    let s_split = c.split_at-in-loop-plant-2.result in
    let split : IsSplit k v s v_split.0.now v_split.1.now s_split.0.now s_split.1.now = record {
      own_noise_is = c.split_at-in-loop-plant.ensures.front ∙ ap (λ n. take n v) noises;
      more_noise_is = c.split_at-in-loop-plant.ensures.back ∙ ap (λ n. drop n v) noises;
      own_states_is = c.split_at-in-loop-plant-2.ensures.front ∙ ap (λ n. take n s) states;
      more_states_is = c.split_at-in-loop-plant-2.ensures.back ∙ ap (λ n. drop n s) states;
    } in
    record {
      noise = omega (arith, c.split_at-in-loop-plant.ensures.back_len, noises, c.loop-plant.invariant.noise, noise_next);
      states = omega (arith, c.split_at-in-loop-plant-2.ensures.back_len, states, c.loop-plant.invariant.states, states_next);
      text = λ y rest. piece_put g.O.Out.puts g.met.O.Out.more _ _ _ y _ _ _ _ c.put_move.ensures
          (moves_more plants i k at v s _ _ _ _ split) (c.loop-plant.invariant.text y) rest;
    }
