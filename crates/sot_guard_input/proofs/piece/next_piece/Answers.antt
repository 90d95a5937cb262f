use Rattle.std.proofs.Common.{◌≡◌, ◌∷◌, [], length, sym, ap, ◌∙◌, subst, arith}
use Rattle.sot_ports.specs.Faults.{Rose}
use Rattle.sot_text.specs.LineEnds.{lines}
use Rattle.sot_guard_input.specs.Waiting.{has_end}
use Rattle.sot_guard_input.specs.declared.ear.Ear.{Ear}
use Rattle.sot_guard_input.specs.declared.piece.Piece.TheVariants.{Part}
use Rattle.sot_guard_input.specs.Reading.{IsNext, IfFails, IsPieceTooLong}
use Rattle.sot_guard_input.proofs.LineTexts.{unended_alone}
use Rattle.sot_guard_input.proofs.Pieces.{piece_fails, adds, all_of}
use Rattle.sot_guard_input.proofs.piece.next_piece.Goals as goal

pub returns-in-Err-add_bytes-clause-fails : goal.returns-in-Err-add_bytes-clause-fails
returns-in-Err-add_bytes-clause-fails g c =
    let line = subst (λ n. IsNext n (g.S.Source.left c.next.new.source) c.next.new.self) c.in-Ok-Line.field-0-is c.in-Ok-Line.ensures.next in
    let err = c.in-Err-add_bytes in
    let rose = Rose (g.S.Source.faults c.args.source.now) (g.S.Source.faults c.next.new.source) in
    subst (λ (e : Ear). IfFails err.why rose (IsPieceTooLong e.buffer c.args.text.now.len c.args.limit)) (sym err.ensures.kept)
    (piece_fails err.why rose c.next.new.self.buffer c.in-Ok-Line.len c.args.text.now.len c.args.limit line.few line.one err.ensures.fails)

pub returns-in-Err-add_bytes-2-clause-fails : goal.returns-in-Err-add_bytes-2-clause-fails
returns-in-Err-add_bytes-2-clause-fails g c =
    let long = subst (λ n. IsNext n (g.S.Source.left c.next.new.source) c.next.new.self) c.in-Ok-TooLong.field-0-is c.in-Ok-TooLong.ensures.next in
    let err = c.in-Err-add_bytes-2 in
    let rose = Rose (g.S.Source.faults c.args.source.now) (g.S.Source.faults c.next.new.source) in
    let w = c.next.new.self.buffer in
    let size : length w ≡ 65536 = long.2 in
    let whole = all_of w 65536 size in
    let one = subst (λ l. lines l ≡ l ∷ []) (sym whole) (unended_alone w (omega (arith, size)) long.1) in
    subst (λ (e : Ear). IfFails err.why rose (IsPieceTooLong e.buffer c.args.text.now.len c.args.limit)) (sym err.ensures.kept)
    (piece_fails err.why rose w 65536 c.args.text.now.len c.args.limit (omega (arith, size)) one err.ensures.fails)

pub returns-in-Ok-add_bytes-clause-piece : goal.returns-in-Ok-add_bytes-clause-piece
returns-in-Ok-add_bytes-clause-piece g c =
    let left = g.S.Source.left in
    let long = subst (λ n. IsNext n (left c.next.new.source) c.next.new.self) c.in-Ok-TooLong.field-0-is c.in-Ok-TooLong.ensures.next in
    let w = c.next.new.self.buffer in
    let size : length w ≡ 65536 = long.2 in
    let whole = all_of w 65536 size in
    let ok = c.in-Ok-add_bytes.ensures in
    adds Part (left c.args.source.now) (left c.next.new.source) c.args.ear.now c.next.new.self c.add_bytes-in-Ok-TooLong.new.ear c.args.text.now.items
    c.add_bytes-in-Ok-TooLong.new.text.items 65536 c.in-Ok-TooLong.ensures.reads ok.passed ok.added (
      ok.ended ∙ long.0,
      ap has_end whole ∙ long.1,
      (let all = ap length whole in omega (arith, all, size)),
    )
