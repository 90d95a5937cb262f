use Rattle.std.proofs.Common.{arith, ◌≡◌, ◌+◌, ◌++◌, length, take, drop, ap, ◌∙◌}
use Rattle.sot_lang.specs.Bodies.{execution}
use Rattle.sot_lang.specs.Ranges.{local_ranges, write_ranges}
use Rattle.sot_code.specs.Recorded.{recorded}
use Rattle.sot_code.proofs.Nodes.{taken_front, taken_back}
use Rattle.sot_code.proofs.node.execute_in.Goals as goal

pub fire-requires-clause-size : goal.fire-requires-clause-size
fire-requires-clause-size g c =
    let base : c.len-reads.result ≡ length c.args.node.now.reads.items = c.len-reads.ensures ∙ c.args.node.now.reads.ok.0 in
    omega (arith, base, c.requires.locals, c.len.ensures.count, c.split_at_mut-numbers.ensures.front_len)

pub returns : goal.returns
returns g c =
    let p = c.args.p.now in
    let node = c.args.node.now in
    let seen = g.V.Seen.numbers c.args.seen.now in
    let locals = c.args.locals.now in
    let numbers = c.split_at_mut-numbers.result.0.now in
    let joined : numbers ≡ seen ++ locals =
    c.split_at_mut-numbers.ensures.front ∙ ap (λ n. take (c.len-reads.result + n) c.put_locals.new.numbers) c.len.ensures.count
    ∙ c.put_locals.ensures.front ∙ ap (λ l. l ++ locals) c.put_seen.ensures.front in
    c.fire.ensures
    ∙ ap (λ l. recorded (execution c.args.acts.now (local_ranges node) (write_ranges p node) l (drop (length node.reads.items) numbers)))
    (taken_front seen locals numbers (length node.reads.items) c.requires.reads joined)
    ∙ ap (λ l. recorded (execution c.args.acts.now (local_ranges node) (write_ranges p node) seen l))
    (taken_back seen locals numbers (length node.reads.items) c.requires.reads joined)
