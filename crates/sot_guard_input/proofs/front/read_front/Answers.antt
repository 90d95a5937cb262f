use Rattle.std.proofs.Common.{◌≡◌, ◌≤◌, [], length, take, drop, inr, sym, ap, ◌∙◌, subst, append-nil, arith}
use Rattle.std.proofs.lemmas.List.{take_all, take_rest}
use Rattle.std.proofs.Math.ListN.{drop_of_length-le}
use Rattle.sot_ports.specs.Faults.{Rose}
use Rattle.sot_guard_input.specs.Waiting.{has_end}
use Rattle.sot_guard_input.specs.Reading.{Reads, AddsPiece, ends_line}
use Rattle.std.specs.Option.{is_some}
use Rattle.sot_guard_input.specs.Marks.{marked_time}
use Rattle.sot_guard_input.specs.Fronts.{HasNone}
use Rattle.sot_guard_input.proofs.Pieces.{reads_trans, fails_so, none_so_far, comes_line, comes_last, ends_so_far}
use Rattle.sot_guard_input.proofs.front.read_front.Goals as goal

pub returns-in-Err-clause-fails : goal.returns-in-Err-clause-fails
returns-in-Err-clause-fails g c =
    let left = g.S.Source.left in
    let so_far = c.pieces.invariant in
    let text = c.pieces.text.items in
    let faults = g.S.Source.faults in
    let now = faults c.next_piece.new.source in
    let reads = reads_trans _ _ _ _ _ _ text [] so_far.reads c.in-Err.ensures.kept in (
      text,
      subst (λ p. Reads (left c.args.source.now) (left c.next_piece.new.source) [] c.next_piece.new.ear.buffer p) (append-nil text) reads,
      fails_so c.in-Err.why (Rose (faults c.pieces.source) now) (Rose (faults c.args.source.now) now) text c.next_piece.new.ear.buffer c.pieces.start
          c.pieces.text.len c.args.limit (subst (λ k. Rose k now) so_far.well) c.pieces.text.ok.0 so_far.whole so_far.none so_far.part c.in-Err.ensures.fails,
    )

pub returns-in-Last-clause-front : goal.returns-in-Last-clause-front
returns-in-Last-clause-front g c =
    let left = g.S.Source.left in
    let so_far = c.pieces.invariant in
    let text = c.pieces.text.items in
    let after = c.next_piece.new.text in
    let adds = subst (λ k. AddsPiece k (left c.pieces.source) (left c.next_piece.new.source) c.pieces.ear c.next_piece.new.ear text after.items) c.in-Last.is
    c.in-Ok.ensures.piece in
    let reads = subst (Reads (left c.args.source.now) (left c.next_piece.new.source) [] c.next_piece.new.ear.buffer) (sym adds.added)
    (reads_trans _ _ _ _ _ _ text adds.piece so_far.reads adds.reads) in
    comes_last (left c.args.source.now) (left c.next_piece.new.source) c.next_piece.new.ear c.args.limit c.pieces.start text adds.piece after.items reads
    adds.added (omega (arith, so_far.within, c.pieces.text.ok.0)) so_far.whole so_far.none so_far.part (omega (arith, c.in-Ok.ensures.short, after.ok.0))
    c.last_front.result adds.is c.last_front.ensures

pub returns-in-Some-clause-front : goal.returns-in-Some-clause-front
returns-in-Some-clause-front g c =
    let left = g.S.Source.left in
    let so_far = c.pieces.invariant in
    let text = c.pieces.text.items in
    let after = c.next_piece.new.text in
    let adds = subst (λ k. AddsPiece k (left c.pieces.source) (left c.next_piece.new.source) c.pieces.ear c.next_piece.new.ear text after.items) c.in-Line.is
    c.in-Ok.ensures.piece in
    let reads = subst (Reads (left c.args.source.now) (left c.next_piece.new.source) [] c.next_piece.new.ear.buffer) (sym adds.added)
    (reads_trans _ _ _ _ _ _ text adds.piece so_far.reads adds.reads) in
    let line = take_rest c.deref.result.now c.pieces.start ∙ ap (drop c.pieces.start) c.deref.ensures.value in
    comes_line (left c.args.source.now) (left c.next_piece.new.source) c.next_piece.new.ear c.args.limit c.pieces.start text adds.piece after.items reads
    adds.added (omega (arith, so_far.within, c.pieces.text.ok.0)) so_far.whole so_far.none so_far.part (omega (arith, c.in-Ok.ensures.short, after.ok.0))
    c.cut-front.result.items c.in-Some.time adds.is c.cut-front.ensures (sym (c.in-Some.ensures ∙ ap marked_time line))

pub pieces-preserved : goal.pieces-preserved
pieces-preserved g c =
    let left = g.S.Source.left in
    let so_far = c.pieces.invariant in
    let start = c.pieces.start in
    let text = c.pieces.text.items in
    let after = c.next_piece.new.text in
    let adds = subst (λ k. AddsPiece k (left c.pieces.source) (left c.next_piece.new.source) c.pieces.ear c.next_piece.new.ear text after.items) c.in-Line.is
    c.in-Ok.ensures.piece in
    let reads = subst (Reads (left c.args.source.now) (left c.next_piece.new.source) [] c.next_piece.new.ear.buffer) (sym adds.added)
    (reads_trans _ _ _ _ _ _ text adds.piece so_far.reads adds.reads) in
    let within : start ≤ length text = omega (arith, so_far.within, c.pieces.text.ok.0) in
    let short : length after.items ≤ c.args.limit = omega (arith, c.in-Ok.ensures.short, after.ok.0) in
    let line = take_rest c.deref.result.now start ∙ ap (drop start) c.deref.ensures.value in
    let other = ap is_some (sym (c.in_default.ensures ∙ ap marked_time line)) in
    let end : c.len-start.result ≡ length after.items = c.len-start.ensures ∙ after.ok.0 in
    let all : take c.len-start.result after.items ≡ after.items = take_all c.len-start.result after.items (omega (arith, end)) in
    let none = none_so_far text adds.piece after.items start within adds.added so_far.whole so_far.none so_far.part (inr adds.is.1) other in
    record {
      reads = reads;
      whole = ap ends_line all ∙ ends_so_far _ _ c.next_piece.new.ear c.args.limit start text adds.piece after.items reads adds.added within
          so_far.whole so_far.none so_far.part short adds.is.1 adds.is.2;
      none = subst HasNone (sym all) none;
      part = ap has_end (drop_of_length-le after.items (omega (arith, end)));
      within = omega (arith, end, after.ok.0);
      short = c.in-Ok.ensures.short;
      open_ = adds.is.0;
      well = c.in-Ok.ensures.well (λ e. absurd cc) ∙ so_far.well;
    }
