use Rattle.std.proofs.Common.{rules, ◌≡◌, ◌+◌, ◌++◌, ◌∷◌, [], length, ap, subst, ◌∙◌, append_assoc, FitsSigned, w64}
use Rattle.sot_code.proofs.Filling.{read_word}
use Rattle.sot_eval_flat.specs.declared.instruction.Instruction.{Instruction}
use Rattle.sot_eval_flat.specs.declared.instruction.Make.TheVariants.{Within}
use Rattle.sot_eval_flat.specs.Shapes.{Gives}
use Rattle.sot_eval_flat.proofs.Making.{bounds_are}
use Rattle.sot_eval_flat.proofs.block.put_value.Goals as goal

pub returns : goal.returns
returns c =
    let n = c.args.shape.now.names in
    let stated = c.args.shape.now.constants.items in
    let base : c.len.result ≡ length stated = c.len.ensures ∙ c.args.shape.now.constants.ok.0 in
    let lo_fits : FitsSigned w64 c.args.lo = search rules in
    let hi_fits : FitsSigned w64 c.args.hi = search rules in
    let fa = c.in_ok-a.ensures in
    let fb = rw (read_word c.args.lo lo_fits) at c.in_ok-b.ensures in
    let fc = rw (read_word c.args.hi hi_fits) at c.in_ok-c.ensures in
    let fd = c.in_ok-counts.ensures in
    let i : Instruction = record { make = Within; to = c.args.to; a = c.in_ok-a.a; b = c.in_ok-b.b; c = c.in_ok-c.c; counts = c.in_ok-counts.counts } in
    let reckons : Gives n stated (n + length stated) c.args.term.now fa.0 c.in_ok-a.a =
    subst (λ k. Gives n stated (n + k) c.args.term.now fa.0 c.in_ok-a.a) base fa.2 in (
      fa.0 ++ i ∷ [],
      c.in_ok-push.ensures.items ∙ ap (λ l. l ++ i ∷ []) fa.1 ∙ append_assoc c.args.line.now.items fa.0 (i ∷ []),
      bounds_are n stated c.args.term.now c.args.lo c.args.hi c.args.to c.in_ok-a.a c.in_ok-b.b c.in_ok-c.c c.in_ok-counts.counts fa.0 fb.0 fc.0
          fd.0 reckons fb.1 fb.2 fc.1 fc.2 fd.1 fd.2,
    )
