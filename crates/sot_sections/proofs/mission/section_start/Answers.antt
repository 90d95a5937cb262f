use Rattle.std.proofs.Common.{◌≡◌, ℕ, ◌+◌, ◌-◌, ◌<◌, ◌≤◌, List, length, take, drop, ap, subst, ◌∙◌, arith, length-drop}
use Rattle.std.proofs.lemmas.List.{take_rest}
use Rattle.memchr.specs.Find.{Nowhere, Passes, is_byte}
use Rattle.sot_text.specs.LineEnds.{line_len}
use Rattle.sot_sections.specs.Dividing.{NoneBegins}
use Rattle.sot_text.proofs.Lines.{line_len-le}
use Rattle.sot_sections.proofs.SectionStarts.{none_before, none_more}
use Rattle.sot_sections.proofs.mission.section_start.Goals as goal

none_to : (bs : List ℕ) (at before : ℕ) → NoneBegins bs at → Nowhere (Passes (is_byte 37) (take (length bs - at) (drop at bs))) 0 before
    → NoneBegins bs (at + before)
none_to bs at before none nowhere = none_before bs at before none (subst (λ (l : List ℕ). Nowhere (Passes (is_byte 37) l) 0 before) (take_rest bs at) nowhere)

pub returns-then-mark-eq0-clause-none : goal.returns-then-mark-eq0-clause-none
returns-then-mark-eq0-clause-none c = none_to c.args.bytes.now c.marks.at c.in-Some.before c.marks.invariant.none c.in-Some.ensures.0.before

pub marks-preserved : goal.marks-preserved
marks-preserved c =
    let bytes = c.args.bytes.now in
    let mark = c.marks.at + c.in-Some.before in
    let k = c.line_len.result in
    let len : k ≡ line_len (drop mark bytes) = c.line_len.ensures.len ∙ ap line_len (take_rest bytes mark) in
    let high : c.in-Some.before < length (take (length bytes - c.marks.at) (drop c.marks.at bytes)) = c.in-Some.ensures.0.high in
    let inside : mark < length bytes = omega (arith, high, ap length (take_rest bytes c.marks.at), length-drop c.marks.at bytes) in
    let le : line_len (drop mark bytes) ≤ length (drop mark bytes) = line_len-le (drop mark bytes) in
    record {
      within = omega (arith, len, le, length-drop mark bytes);
      none =
          none_more bytes mark k (none_to bytes c.marks.at c.in-Some.before c.marks.invariant.none c.in-Some.ensures.0.before) c.if-mark-eq0.false
          c.if-bytes-mark-eq10.false len;
    }

pub returns-clause-none : goal.returns-clause-none
returns-clause-none c =
    let bytes = c.args.bytes.now in
    let at = c.marks.at in
    let all : at + length (take (length bytes - at) (drop at bytes)) ≡ length bytes =
    omega (arith, ap length (take_rest bytes at), length-drop at bytes, c.marks.invariant.within) in
    subst (λ (n : ℕ). NoneBegins bytes n) all (none_to bytes at (length (take (length bytes - at) (drop at bytes))) c.marks.invariant.none c.in_default.ensures)
