use Rattle.std.proofs.Common.{◌≡◌, true, length, sym, ap, ap₂, ◌∙◌, rules}
use Rattle.sot_lang.specs.Tables.{Tables}
use Rattle.sot_trace_lines.specs.Readers.{moves_at}
use Rattle.sot_trace_lines.specs.Kept.{kept_noise}
use Rattle.sot_trace_lines.proofs.ShownLines.{is_empty, tick_shown}
use Rattle.sot_trace_lines.proofs.read.read_tick.Goals as goal

pub returns : goal.returns
returns c =
    let read = c.in-Some.read in
    let none : length read.rest.now ≡ 0 = search rules in
    let plants = ap (λ (p : Tables). p.plants) (sym c.p.view_is) ∙ sym c.deref.ensures.value in
    let kept = ap₂ (λ items ks. kept_noise (items, true) (moves_at ks c.args.text.now)) (sym c.requires) plants
    ∙ sym (rw c.in-Some.is at c.in_ok-read.ensures) in
    λ t is. tick_shown c.moves_at.new.numbers.items read.whole read.rest.now c.args.time t (moves_at c.args.p.now.plants c.args.text.now) kept
    (is_empty read.rest.now none) is
