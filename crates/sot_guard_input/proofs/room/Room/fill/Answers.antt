use Rattle.std.proofs.Common.{◌≡◌, ◌++◌, sym, ap, ◌∙◌}
use Rattle.sot_text.specs.LineEnds.{line_len}
use Rattle.sot_guard_input.specs.Waiting.{has_end}
use Rattle.sot_guard_input.proofs.Ends.{found_behind}
use Rattle.sot_guard_input.proofs.room.Room.fill.Goals as goal

pub returns-in-Some-clause-waits : goal.returns-in-Some-clause-waits
returns-in-Some-clause-waits g c =
    let front = c.bytes-before.ensures.value in
    let all = c.bytes-in-loop-self.ensures.value in
    let came = c.in_ok-read_more.ensures.arrives in
    let none : has_end c.bytes-before.result.now ≡ _ = ap has_end front ∙ c.loop-self.invariant.open_ in
    let is = all ∙ came.kept ∙ ap (λ x. x ++ came.bytes) (sym front) in
    let found = found_behind c.bytes-before.result.now came.bytes c.bytes-in-loop-self.result.now c.in-Some.len none is
    c.in-Some.ensures.found.0 c.in-Some.ensures.found.1 in
    (sym (ap has_end all) ∙ found.0, found.1 ∙ ap line_len all)
