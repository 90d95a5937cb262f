use Rattle.std.proofs.Common.{◌≡◌, ◌<◌, ◌∷◌, length, sym, ap, ap₂, ◌∙◌, arith, rules, take, drop}
use Rattle.sot_text.proofs.Lines.{line_len-pos}
use Rattle.sot_trace_lines.specs.LentLines.{Lending, without_end, lent_lines}
use Rattle.sot_trace_lines.proofs.LentLines.{lent_first}
use Rattle.sot_trace_lines.proofs.lines.Lines.next.Goals as goal

pub invariant_of-self : goal.invariant_of-self
invariant_of-self c =
    let bytes = c.self.inside.rest.now in
    let some : 0 < length bytes = search rules in
    omega (arith, line_len-pos bytes some, c.line_len.ensures.len, c.split_at.ensures.back_len)

pub returns : goal.returns
returns c =
    let bytes = c.self.inside.rest.now in
    let some : 0 < length bytes = search rules in
    let come : c.args.self.now.to_come ≡ lent_lines bytes = ap (λ (l : Lending). l.to_come) (sym c.self.view_is) in
    let counted : c.self.inside.number ≡ c.args.self.now.number = ap (λ (l : Lending). l.number) c.self.view_is in
    let len = c.line_len.ensures.len in
    let line = ap (λ n. take n bytes) (sym len) ∙ sym c.split_at.ensures.front in
    let rest = ap (λ n. drop n bytes) (sym len) ∙ sym c.split_at.ensures.back in (
      come ∙ lent_first bytes some ∙ ap₂ (λ x y. x ∷ y) (ap without_end line ∙ sym c.without_end.ensures) (ap lent_lines rest),
      counted,
      omega (arith, counted),
    )
