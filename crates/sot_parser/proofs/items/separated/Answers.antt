use Rattle.std.proofs.Common.{sym, ◌∙◌}
use Rattle.std.proofs.lemmas.Result.{err_from_is_err_and}
use Rattle.sot_expression.specs.Lexemes.{begins, is_sign}
use Rattle.sot_parser.specs.ListReaders.{further_at, separated_at}
use Rattle.sot_parser.proofs.Loops.{begun_separated, separated_fails, stops, breaks_so}
use Rattle.sot_parser.proofs.items.separated.Goals as goal

pub returns-in_err-first : goal.returns-in_err-first
returns-in_err-first g c =
    let p = err_from_is_err_and c.from_residual.result c.from_residual.ensures.1 in
    rw (p.1, p.2) (
      separated_fails c.args.sign.now g.T.Item.reads c.args.tokens.now.tokens c.read.new.tokens.tokens c.in_err-first.field-0.0
          c.in_err-first.ensures.read.0,
      c.in_err-first.ensures.read.1,
    )

pub loop-alloc-init : goal.loop-alloc-init
loop-alloc-init g c =
    rw (c.in_ok-push.ensures.items, c.new-items.ensures.items) (
      begun_separated c.args.sign.now g.T.Item.reads c.args.tokens.now.tokens c.read.new.tokens.tokens c.in_ok-first.first c.in_ok-first.ensures.read.0,
      c.in_ok-first.ensures.read.1,
    )

pub returns : goal.returns
returns g c = (
  stops (begins (is_sign c.args.sign.now)) (further_at c.args.sign.now g.T.Item.reads) (separated_at c.args.sign.now g.T.Item.reads c.args.tokens.now.tokens)
      c.loop-alloc.items.items c.loop-alloc.tokens.tokens
      (sym c.is_sign.ensures ∙ c.loop-alloc-test.false) c.loop-alloc.invariant.0,
  c.loop-alloc.invariant.1,
)

pub returns-in_err-item : goal.returns-in_err-item
returns-in_err-item g c =
    let p = err_from_is_err_and c.from_residual-in_err-item.result c.from_residual-in_err-item.ensures.1 in
    rw (p.1, p.2) (
      breaks_so (begins (is_sign c.args.sign.now)) (further_at c.args.sign.now g.T.Item.reads)
          (separated_at c.args.sign.now g.T.Item.reads c.args.tokens.now.tokens) c.loop-alloc.items.items c.loop-alloc.tokens.tokens
          c.further.new.tokens.tokens c.in_err-item.field-0.0 (sym c.is_sign.ensures ∙ c.loop-alloc-test.true) c.in_err-item.ensures.read.0
          c.loop-alloc.invariant.0,
      c.in_err-item.ensures.read.1 ∙ c.loop-alloc.invariant.1,
    )
