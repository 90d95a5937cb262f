use Rattle.std.proofs.Common.{◌+◌, ◌<◌, ◌≤◌, ◌++◌, List, ℤ, [], Option, Some, length, take, sym, ap, ◌∙◌, arith, rules}
use Rattle.std.proofs.lemmas.Option.{slice_get-get_or}
use Rattle.std.proofs.lemmas.List.{take_all, length-append}
use Rattle.sot_lists.specs.Places.{At}
use Rattle.sot_lang.specs.Ticks.{joined}
use Rattle.sot_flight.proofs.Fitting.{joined_more}
use Rattle.sot_board.proofs.Joined.{joined_short, joined_size}
use Rattle.sot_board.proofs.states.put_states.Goals as goal

pub put_point-requires : goal.put_point-requires
put_point-requires c =
    let points = c.args.world.now.at.points in
    let k = c.loop-k.invariant in
    let lt : c.loop-k.k < length points = omega (arith, c.loop-k-test.true, c.requires.plants, c.requires.points.each) in
    let at : At points c.loop-k.k c.state-point.result = slice_get-get_or points c.loop-k.k [] lt
    ∙ ap (λ x. let r : Option (List ℤ) = Some x in r) (sym c.state-point.ensures) in
    let more = ap length (joined_more points c.loop-k.k c.state-point.result at) ∙ length-append (joined (take c.loop-k.k points)) c.state-point.result in
    let short = joined_short points (c.loop-k.k + 1) in
    let all = joined_size c.args.world.now.accepted.program.plants points c.requires.points.each c.requires.points.widths in
    let fits : c.loop-k.count + length c.state-point.result ≤ length c.loop-k.states = omega (arith, k.count, more, short, all, k.size, c.requires.room) in
    search (rules, fits)

pub loop-k-preserved : goal.loop-k-preserved
loop-k-preserved c =
    let points = c.args.world.now.at.points in
    let k = c.loop-k.invariant in
    let lt : c.loop-k.k < length points = omega (arith, c.loop-k-test.true, c.requires.plants, c.requires.points.each) in
    let at : At points c.loop-k.k c.state-point.result = slice_get-get_or points c.loop-k.k [] lt
    ∙ ap (λ x. let r : Option (List ℤ) = Some x in r) (sym c.state-point.ensures) in
    let more = joined_more points c.loop-k.k c.state-point.result at in
    let size = ap length more ∙ length-append (joined (take c.loop-k.k points)) c.state-point.result in
    record {
      size = search (rules, k.size);
      count = omega (arith, k.count, size, c.len-count.ensures.value);
      front =
          ap (λ n. take (c.loop-k.count + n) c.put_point.new.numbers) c.len-count.ensures.value ∙ c.put_point.ensures.front
          ∙ ap (λ l. l ++ c.state-point.result) k.front ∙ sym more;
    }

pub returns : goal.returns
returns c =
    let points = c.args.world.now.at.points in
    let k = c.loop-k.invariant in
    let past : length points ≤ c.loop-k.k = omega (arith, c.loop-k-test.false, c.requires.plants, c.requires.points.each) in
    let whole = take_all c.loop-k.k points past in
    let all = joined_size c.args.world.now.accepted.program.plants points c.requires.points.each c.requires.points.widths in
    let full : length c.loop-k.states ≤ c.loop-k.count = omega (arith, k.size, k.count, ap (λ l. length (joined l)) whole, all, c.requires.room) in
    sym (take_all c.loop-k.count c.loop-k.states full) ∙ k.front ∙ ap joined whole
