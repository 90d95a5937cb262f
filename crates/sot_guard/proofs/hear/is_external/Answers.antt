use Rattle.std.proofs.Common.{◌<◌, length, sym, ap, ◌∙◌, subst, arith}
use Rattle.std.specs.Prelude.{is_some, not}
use Rattle.std.proofs.lemmas.Bool.{false≢true, not-true}
use Rattle.std.proofs.lemmas.Option.{slice_get_within}
use Rattle.sot_lists.proofs.Places.{at_same, read_at}
use Rattle.sot_world.proofs.Options.{none_there}
use Rattle.sot_guard.proofs.hear.is_external.Goals as goal

pub returns-then-n-len : goal.returns-then-n-len
returns-then-n-len c =
    let nodes = ap (λ t. t.nodes) c.p.view_is in
    let below : c.args.node < length c.p.inside.nodes.items = omega (arith, c.if-n-len.true, c.len.ensures, c.p.inside.nodes.ok.0) in
    let at = read_at _ _ c.args.node _ nodes (subst (λ l. c.args.node < length l) nodes below) c.index.ensures in
    let info = c.index.result.now in (
      (λ t. (info, at, none_there info.body (sym c.is_some.ensures ∙ not-true c.is_some.result t))),
      (λ e.
          let same = at_same c.args.p.now.nodes c.args.node info e.0 at e.1 in
          ap not (c.is_some.ensures ∙ ap (λ x. is_some x.body) same ∙ ap is_some e.2)),
    )

pub returns-else-n-len : goal.returns-else-n-len
returns-else-n-len c =
    let nodes = ap (λ t. t.nodes) c.p.view_is in (
      (λ f. absurd (false≢true f)),
      (λ e.
          let lt = slice_get_within c.args.p.now.nodes c.args.node e.0 e.1 in
          let many = ap length nodes in
          absurd (omega (arith, c.if-n-len.false, c.len.ensures, c.p.inside.nodes.ok.0, many, lt))),
    )
