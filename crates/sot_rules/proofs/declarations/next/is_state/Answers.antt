-- Of `is_state`: its promises.
use Rattle.std.proofs.Common.{◌∙◌, length, ap, refl, sym}
use Rattle.std.proofs.lemmas.Option.{slice_get_read, slice_get_past}
use Rattle.sot_syntax_tree.specs.declared.tree.StateDecl.{StateDecl}
use Rattle.sot_rules.specs.Lists.{are_same}
use Rattle.sot_rules.specs.Tests.{is_state}
use Rattle.sot_rules.proofs.declarations.next.is_state.Goals as goal

pub returns-then-k-states : goal.returns-then-k-states
returns-then-k-states c =
    let states = c.args.states.now in
    c.are_same.ensures
    ∙ ap (λ (s : StateDecl). are_same c.args.name.now s.name) (sym c.index-states-k.is)
    ∙ sym (ap (is_state c.args.name.now) (slice_get_read states (length states) c.args.k c.index-states-k.result refl c.if-k-states.true c.index-states-k.is))

pub returns-else-k-states : goal.returns-else-k-states
returns-else-k-states c = sym (ap (is_state c.args.name.now) (slice_get_past c.args.states.now c.args.k c.if-k-states.false))
