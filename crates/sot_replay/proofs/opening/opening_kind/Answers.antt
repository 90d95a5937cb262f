use Rattle.std.proofs.Common.{◌∙◌, ◌++◌, inl, inr, refl, ap, sym}
use Rattle.std.proofs.lemmas.Bool.{both_ways}
use Rattle.sot_replay.proofs.Judging.{same_text, other_text}
use Rattle.sot_replay.proofs.opening.opening_kind.Goals as goal

pub returns-then-eq : goal.returns-then-eq
returns-then-eq c expected at =
    let line = c.as_bytes.ensures.value ∙ c.in_ok-put_opening_line.ensures expected at ∙ ap (λ t. t ++ expected) c.clear.ensures.bytes in
    sym (same_text c.eq.result c.as_bytes.result.now c.args.line.now c.eq.ensures c.if-eq.true) ∙ line

pub returns-then-place-eq0 : goal.returns-then-place-eq0
returns-then-place-eq0 c expected at =
    let line = c.as_bytes.ensures.value ∙ c.in_ok-put_opening_line.ensures expected at ∙ ap (λ t. t ++ expected) c.clear.ensures.bytes in
    ((λ same. other_text c.eq.result c.as_bytes.result.now c.args.line.now c.eq.ensures c.if-eq.false (same ∙ sym line)), inl (c.if-place-eq0.true, refl))

pub returns-then-is_start_line : goal.returns-then-is_start_line
returns-then-is_start_line c expected at =
    let line = c.as_bytes.ensures.value ∙ c.in_ok-put_opening_line.ensures expected at ∙ ap (λ t. t ++ expected) c.clear.ensures.bytes in (
      (λ same. other_text c.eq.result c.as_bytes.result.now c.args.line.now c.eq.ensures c.if-eq.false (same ∙ sym line)),
      inr (c.if-place-eq0.false, inr (refl, c.is_start_line.ensures.0 c.if-is_start_line.true)),
    )

pub returns-else-is_start_line : goal.returns-else-is_start_line
returns-else-is_start_line c expected at =
    let line = c.as_bytes.ensures.value ∙ c.in_ok-put_opening_line.ensures expected at ∙ ap (λ t. t ++ expected) c.clear.ensures.bytes in (
      (λ same. other_text c.eq.result c.as_bytes.result.now c.args.line.now c.eq.ensures c.if-eq.false (same ∙ sym line)),
      inr (c.if-place-eq0.false, inl (refl, λ is. both_ways c.is_start_line.result c.if-is_start_line.false (c.is_start_line.ensures.1 is))),
    )
