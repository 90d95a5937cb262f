-- The lines of a text without their line ends.
use Rattle.std.proofs.Common.{◌≡◌, ℕ, ◌-◌, ◌<◌, ◌==◌, true, List, ◌∷◌, length, get_or, take, drop, map, sym, ap, ◌∙◌, arith}
use Rattle.std.proofs.lemmas.Bool.{cond-true}
use Rattle.std.proofs.lemmas.Bool.Decides.{nat_tests}
use Rattle.sot_text.specs.LineEnds.{without_last}
use Rattle.sot_text.specs.LineEnds.{line_len}
use Rattle.sot_text.proofs.Lines.{without_taken, first_line}
use Rattle.sot_trace_lines.specs.LentLines.{last_of, without_end, lent_lines}

ten_is : (n : ℕ) → n ≡ 10 → (n == 10) ≡ true
ten_is n is = grind (arith, nat_tests)

-- a line with an LF at its end
pub ends : (line : List ℕ) → 0 < length line → get_or line (length line - 1) 0 ≡ 10 → without_end line ≡ without_last 13 (take (length line - 1) line)
ends line some is =
    cond-true (last_of line == 10) _ _ (ten_is (last_of line) is)
    ∙ ap (without_last 13) (sym (without_taken 10 (length line - 1) 0 line (omega arith) is))

-- the first line is lent, and then the others
pub lent_first : (bytes : List ℕ) → 0 < length bytes → lent_lines bytes ≡ without_end (take (line_len bytes) bytes) ∷ lent_lines (drop (line_len bytes) bytes)
lent_first bytes some = ap (map without_end) (first_line bytes some)
