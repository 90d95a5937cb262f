use Rattle.std.proofs.Common.{ℕ, ◌+◌, Bool, List, ap, ◌∙◌, subst}
use Rattle.sot_lists.specs.Places.{At}
use Rattle.sot_lang.specs.declared.tables.ScalarInfo.{ScalarInfo}
use Rattle.sot_trace_lines.specs.Bits.{Has64Bits}
use Rattle.sot_trace_lines.specs.Shown.{Holds}
use Rattle.sot_replay.proofs.Narrow.{in_range}
use Rattle.sot_replay.proofs.input.can_come.Goals as goal

-- a number of more than 64 bits is in no range
pub returns : goal.returns
returns c info all at size holds typed =
    let p = c.args.board.now.accepted.program in
    let scalars = c.deref.ensures.value ∙ ap (λ t. t.scalars) (c.behind-board.view_is ∙ c.typed.ensures) in
    let ends = subst (λ (l : List ScalarInfo). (k : ℕ) (i : ScalarInfo) → At l k i → Has64Bits i.lo × Has64Bits i.hi) scalars c.ranges_have_64_bits.ensures in
    let (z, has, wide) = subst (λ (w : Bool). Holds w c.args.value.now all) c.if-whole.false holds in
    wide (in_range p.scalars ends (typed.0.first + has.0) z (typed.2 has.0 z has.1))
