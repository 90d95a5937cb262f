use Rattle.std.proofs.Common.{sym, ◌∙◌, map, codes}
use Rattle.std.proofs.lemmas.Result.{err_from_is_err_and}
use Rattle.sot_syntax_tree.specs.TreeViews.{area_view}
use Rattle.sot_expression.specs.Lexemes.{begins, is_sign}
use Rattle.sot_parser.specs.ListReaders.{further_at, separated_at}
use Rattle.sot_parser.specs.DeclarationReaders.{box_at}
use Rattle.sot_parser.proofs.Shorter.{box_short, further_short}
use Rattle.sot_parser.proofs.Loops.{begun_separated, separated_fails, stops, breaks_so, again_seen}
use Rattle.sot_parser.proofs.regions.boxes.Goals as goal

pub returns-in_err-first : goal.returns-in_err-first
returns-in_err-first c =
    let p = err_from_is_err_and c.from_residual.result c.from_residual.ensures.1 in
    rw (p.1, p.2) (
      separated_fails (codes "|") box_at c.args.tokens.now.tokens c.one_box.new.tokens.tokens c.in_err-first.field-0.0 c.in_err-first.ensures.0,
      c.in_err-first.ensures.1,
    )

pub loop-alloc-init : goal.loop-alloc-init
loop-alloc-init c =
    rw (c.in_ok-push.ensures.items, c.new-boxes.ensures.items) (
      begun_separated (codes "|") box_at c.args.tokens.now.tokens c.one_box.new.tokens.tokens (area_view c.in_ok-first.first) c.in_ok-first.ensures.0,
      c.in_ok-first.ensures.1,
    )

pub returns-in_err-next : goal.returns-in_err-next
returns-in_err-next c =
    let p = err_from_is_err_and c.from_residual-in_err-next.result c.from_residual-in_err-next.ensures.1 in
    rw (p.1, p.2) (
      breaks_so (begins (is_sign (codes "|"))) (further_at (codes "|") box_at) (separated_at (codes "|") box_at c.args.tokens.now.tokens)
          (map area_view c.loop-alloc.boxes.items) c.loop-alloc.tokens.tokens
          c.further_box.new.tokens.tokens c.in_err-next.field-0.0 (sym c.is_sign.ensures ∙ c.loop-alloc-test.true) c.in_err-next.ensures.0
          c.loop-alloc.invariant.0,
      c.in_err-next.ensures.1 ∙ c.loop-alloc.invariant.1,
    )

pub loop-alloc-smaller : goal.loop-alloc-smaller
loop-alloc-smaller c =
    further_short (codes "|") box_at box_short c.loop-alloc.tokens.tokens (area_view c.in_ok-next.next, c.further_box.new.tokens.tokens) c.in_ok-next.ensures.0

pub loop-alloc-preserved : goal.loop-alloc-preserved
loop-alloc-preserved c =
    rw c.in_ok-push-2.ensures.items (
      again_seen area_view (begins (is_sign (codes "|"))) (further_at (codes "|") box_at) (further_short (codes "|") box_at box_short)
          (separated_at (codes "|") box_at c.args.tokens.now.tokens) c.loop-alloc.boxes.items c.in_ok-next.next
          c.loop-alloc.tokens.tokens c.further_box.new.tokens.tokens (sym c.is_sign.ensures ∙ c.loop-alloc-test.true) c.in_ok-next.ensures.0
          c.loop-alloc.invariant.0,
      c.in_ok-next.ensures.1 ∙ c.loop-alloc.invariant.1,
    )

pub returns : goal.returns
returns c = (
  stops (begins (is_sign (codes "|"))) (further_at (codes "|") box_at) (separated_at (codes "|") box_at c.args.tokens.now.tokens)
      (map area_view c.loop-alloc.boxes.items) c.loop-alloc.tokens.tokens
      (sym c.is_sign.ensures ∙ c.loop-alloc-test.false) c.loop-alloc.invariant.0,
  c.loop-alloc.invariant.1,
)
