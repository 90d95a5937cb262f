use Rattle.std.proofs.Common.{◌≡◌, ◌<◌, List, ℕ, length, drop, sym, ap, ◌∙◌, suc, rules, arith, length-drop}
use Rattle.sot_text.specs.LineEnds.{lines}
use Rattle.sot_text.specs.LineEnds.{line_len}
use Rattle.sot_text.proofs.Lines.{line_len-pos, first_line}
use Rattle.sot_sections.proofs.mission.count_lines.Goals as goal

-- what is left behind the first line is shorter, and has one line less
behind_one : (rest more : List ℕ) (k : ℕ) → 0 < length rest → k ≡ line_len rest → more ≡ drop k rest
    → (length more < length rest) × (length (lines rest) ≡ suc (length (lines more)))
behind_one rest more k some len behind =
    let pos = line_len-pos rest some in
    let same : more ≡ drop (line_len rest) rest = behind ∙ ap (λ (n : ℕ). drop n rest) len in (
      omega (arith, pos, ap length same, length-drop (line_len rest) rest),
      ap length (first_line rest some)
          ∙ sym (ap (λ (l : List ℕ). suc (length (lines l))) same),
    )

pub loop-rest-smaller : goal.loop-rest-smaller
loop-rest-smaller c =
    let some : 0 < length c.loop-rest.rest.now = search rules in
    (behind_one c.loop-rest.rest.now c.split_at-in-loop-rest.result.1.now c.line_len.result some c.line_len.ensures.len c.split_at-in-loop-rest.ensures.back).0

pub loop-rest-preserved : goal.loop-rest-preserved
loop-rest-preserved c =
    let some : 0 < length c.loop-rest.rest.now = search rules in
    let step = behind_one c.loop-rest.rest.now c.split_at-in-loop-rest.result.1.now c.line_len.result some c.line_len.ensures.len
    c.split_at-in-loop-rest.ensures.back in
    record {
      counted = omega (arith, c.loop-rest.invariant.counted, step.1);
      within = omega (arith, c.loop-rest.invariant.within, step.0);
    }
