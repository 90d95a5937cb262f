use Rattle.std.proofs.Common.{◌≡◌, ◌==◌, [], List, ℕ, Some, None, length, sym, ap, ◌∙◌}
use Rattle.std.proofs.lemmas.Bool.{false≢true}
use Rattle.std.proofs.lemmas.Option.{same_Some}
use Rattle.sot_world.specs.Histories.{entry_of}
use Rattle.sot_trace.specs.Lines.{line_of}
use Rattle.sot_trace_lines.specs.Pieces.{behind}
use Rattle.sot_trace_lines.proofs.Pieces.{same_code}
use Rattle.sot_trace_lines.proofs.ShownLines.{is_empty}
use Rattle.sot_trace_lines.proofs.Entries.{entry_is, whole_is, nothing_behind}
use Rattle.sot_trace_lines.proofs.entry.is_line_of.Goals as goal

pub returns-in-Some : goal.returns-in-Some
returns-in-Some c =
    let whole : List ℕ = line_of c.args.p.now (entry_of c.args.entry.now) in
    let line : List ℕ = c.args.line.now in
    let rest : List ℕ = c.in-Some.rest.now in
    let found : behind whole line ≡ Some rest = sym (entry_is c.args.p.now (entry_of c.args.entry.now) line) ∙ sym c.in-Some.ensures in (
      λ empty. whole_is whole line rest found (is_empty rest (same_code (length rest) 0 (sym c.is_empty.ensures ∙ empty))),
      λ same. c.is_empty.ensures ∙ ap (λ (xs : List ℕ). length xs == 0) (same_Some rest [] (sym found ∙ nothing_behind whole line same)),
    )

pub returns-in-None : goal.returns-in-None
returns-in-None c =
    let whole : List ℕ = line_of c.args.p.now (entry_of c.args.entry.now) in
    let line : List ℕ = c.args.line.now in (
      λ never. absurd (false≢true never),
      λ same. (let never : None ≡ Some [] = c.in-None.ensures ∙ entry_is c.args.p.now (entry_of c.args.entry.now) line ∙ nothing_behind whole line same in
          absurd cc),
    )
