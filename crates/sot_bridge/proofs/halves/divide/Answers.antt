use Rattle.std.proofs.Common.{◌+◌, ◌<◌, length, ap, ap₂, sym, ◌∙◌, take, drop, Some, arith}
use Rattle.std.proofs.lemmas.List.{length-drop}
use Rattle.sot_text.specs.LineEnds.{line_len}
use Rattle.sot_text.proofs.Lines.{line_len-pos}
use Rattle.sot_bridge.specs.MissionHalves.{MissionHalves}
use Rattle.sot_bridge.proofs.Dividing.{dropped_twice, passed, found, within}
use Rattle.sot_bridge.proofs.halves.divide.Goals as goal

pub returns-then-is_bridge : goal.returns-then-is_bridge
returns-then-is_bridge c =
    let bs = c.args.bytes.now in
    let at = c.loop-at.at in
    let len = c.line_len-len.result in
    let rest = c.split_at.ensures.back in
    let size = c.line_len-len.ensures.len ∙ ap line_len rest in
    let line = c.split_at-in-loop-at.ensures.front ∙ ap₂ (λ n l. take n l) size rest in
    let more = c.split_at-in-loop-at.ensures.back ∙ ap (drop len) rest ∙ dropped_twice at len bs in
    ap₂ (λ x y. Some (let h : MissionHalves = record { a = x; b = y } in h)) c.split_at.ensures.front more
    ∙ found bs at (at + len) c.split_at-in-loop-at.result.0.now _ c.loop-at-test.true (ap (λ n. at + n) size) line c.loop-at.invariant.so_far
    (sym c.is_bridge.ensures ∙ c.if-is_bridge.true)

pub loop-at-preserved : goal.loop-at-preserved
loop-at-preserved c =
    let bs = c.args.bytes.now in
    let at = c.loop-at.at in
    let len = c.line_len-len.result in
    let rest = c.split_at.ensures.back in
    let size = c.line_len-len.ensures.len ∙ ap line_len rest in
    let line = c.split_at-in-loop-at.ensures.front ∙ ap₂ (λ n l. take n l) size rest in
    let is_end = ap (λ n. at + n) size in
    let line_now = c.split_at-in-loop-at.result.0.now in
    record {
      within = within bs at (at + len) line_now _ c.loop-at-test.true is_end line c.loop-at.invariant.so_far;
      so_far = passed bs at (at + len) line_now _ c.loop-at-test.true is_end line c.loop-at.invariant.so_far (sym c.is_bridge.ensures ∙ c.if-is_bridge.false);
    }

pub loop-at-smaller : goal.loop-at-smaller
loop-at-smaller c =
    let bs = c.args.bytes.now in
    let at = c.loop-at.at in
    let rest = c.split_at.ensures.back in
    let below = c.loop-at-test.true in
    let left = length-drop at bs in
    let some : 0 < length (drop at bs) = omega (arith, below, left) in
    let pos = line_len-pos (drop at bs) some in
    let size = c.line_len-len.ensures.len ∙ ap line_len rest in
    omega (arith, below, pos, size)
