use Rattle.std.proofs.Common.{◌+◌, ◌<◌, suc, drop, length, sym, ap, ◌∙◌, arith}
use Rattle.std.specs.Prelude.{slice_index_or, slice_set, if◌then◌else◌, ◌==◌, ◌&&◌, ◌||◌}
use Rattle.std.proofs.lemmas.Option.{slice_get-get_or}
use Rattle.sot_board.specs.Versions.{publishes_on, is_published}
use Rattle.sot_board.proofs.Publishing.{publishes_step, count_step, count_room, count_size, more_if, topic_inside}
use Rattle.sot_board.proofs.versions.count_firing.Goals as goal

pub count_if-requires-clause-there : goal.count_if-requires-clause-there
count_if-requires-clause-there c =
    let at_w = slice_get-get_or c.args.writes.now c.loop-i.i 0 c.loop-i-test.true in
    let lt = c.requires.written c.loop-i.i _ at_w in
    let inside = topic_inside c.args.p.now _ (length c.args.versions.now) lt c.requires.topics in
    omega (arith, inside, c.topic_of-topic.ensures, c.loop-i.invariant.size)

pub count_if-requires-clause-room : goal.count_if-requires-clause-room
count_if-requires-clause-room c =
    omega (arith, c.loop-i.invariant.room c.topic_of-topic.result, c.requires.room c.topic_of-topic.result, c.loop-i-test.true, c.requires.few)

pub loop-i-preserved : goal.loop-i-preserved
loop-i-preserved c =
    let p = c.args.p.now in
    let ws = c.args.writes.now in
    let ds = c.args.draft.now in
    let i = c.loop-i.i in
    let w = slice_index_or ws i 0 in
    let d = c.get-slot.result in
    let t = c.topic_of-topic.result in
    let k = c.loop-i.invariant in
    let at_w = slice_get-get_or ws i 0 c.loop-i-test.true in
    let at_d = c.get-slot.ensures in
    let lt = c.requires.written i _ at_w in
    let inside : t < length c.loop-i.versions = (let there = topic_inside p w (length c.args.versions.now) lt c.requires.topics in
    omega (arith, there, c.topic_of-topic.ensures, k.size)) in
    record {
      size = ap length c.count_if.ensures ∙ count_size c.is_last-last.result c.loop-i.versions t ∙ k.size;
      room =
          λ n. (let one = count_room c.is_last-last.result c.loop-i.versions t n inside in
          omega (arith, ap (λ l. slice_index_or l n 0) c.count_if.ensures, one, k.room n));
      counted = λ n lt_n.
          let rest = publishes_on p n (drop (i + 1) ws) (drop (i + 1) ds) in
          let rest_t = publishes_on p t (drop (i + 1) ws) (drop (i + 1) ds) in
          let now = c.count_if.ensures ∙ ap (λ b. if b then slice_set c.loop-i.versions t (suc (slice_index_or c.loop-i.versions t 0)) else c.loop-i.versions)
          c.is_last-last.ensures in
          let step = count_step p n t (is_published p w d) rest_t rest c.loop-i.versions inside
          (λ e. ap (λ z. publishes_on p z (drop (i + 1) ws) (drop (i + 1) ds)) e) in
          let topic = ap (λ z. more_if ((z == n && is_published p w d) || rest) (slice_index_or c.loop-i.versions n 0)) c.topic_of-topic.ensures in
          ap (λ l. more_if rest (slice_index_or l n 0)) now ∙ step ∙ topic
          ∙ ap (λ b. more_if b (slice_index_or c.loop-i.versions n 0)) (sym (publishes_step p n ws ds i w d at_w at_d)) ∙ k.counted n lt_n;
    }
