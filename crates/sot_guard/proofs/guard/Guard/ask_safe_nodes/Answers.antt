use Rattle.std.proofs.Common.{◌≡◌, ◌⊎◌, ◌↔◌, true, false, length, slice_index_or, refl, sym, ap, ◌∙◌, subst, arith}
use Rattle.std.specs.Vec.{with_items}
use Rattle.std.proofs.lemmas.Bool.{false≢true}
use Rattle.std.proofs.lemmas.List.{with_items_is}
use Rattle.sot_world.specs.Configurations.{is_left}
use Rattle.sot_guard.specs.Changes.{IsSafeNode, AsksSafeNodes}
use Rattle.sot_guard.specs.GuardView.{configuration, guarding}
use Rattle.sot_guard.proofs.guard.Guard.ask_safe_nodes.Goals as goal

pub invariant_of-self : goal.invariant_of-self
invariant_of-self c =
    let w = c.self.inside in
    let g = c.self.invariant in
    let off = subst (λ s. s.trusted ≡ false) (sym c.self.view_is) c.requires in
    let left_is = with_items_is w.left c.leave_safe_nodes.new.left (omega (arith, c.leave_safe_nodes.auto.left, c.deref_mut.ensures.len)) in
    record {
      rules = g.rules;
      certified = g.certified;
      time = g.time;
      scalars = g.scalars;
      locals = g.locals;
      sizes = record {
        left = ap length left_is ∙ c.leave_safe_nodes.ensures.size ∙ ap length c.deref_mut.ensures.value ∙ g.sizes.left;
        left_dm = g.sizes.left_dm;
        modes = g.sizes.modes;
        scalars = g.sizes.scalars;
        locals = g.sizes.locals;
        points = g.sizes.points;
      };
      points = g.points;
      tubes = λ on. absurd (false≢true (sym off ∙ on));
      safe = g.safe;
    }

pub returns : goal.returns
returns c =
    let w = c.self.inside in
    let a = w.accepted.now in
    let C = configuration w in
    let modules = c.deref.ensures.value ∙ ap (λ t. t.modules) (c.p.view_is ∙ c.typed-p.ensures.program) in
    let left_is = with_items_is w.left c.leave_safe_nodes.new.left (omega (arith, c.leave_safe_nodes.auto.left, c.deref_mut.ensures.len)) in
    subst (λ s. AsksSafeNodes s (record (guarding w) { at = record C { left = (with_items w.left c.leave_safe_nodes.new.left).items } })) c.self.view_is (record {
      left = λ n. subst (λ l. (slice_index_or l n false ≡ true) ↔ ((is_left C n ≡ true) ⊎ IsSafeNode a.program.modules n)) (sym left_is)
          (subst (λ ms. (slice_index_or c.leave_safe_nodes.new.left n false ≡ true) ↔ ((is_left C n ≡ true) ⊎ IsSafeNode ms n)) modules
          (subst (λ l. (slice_index_or c.leave_safe_nodes.new.left n false ≡ true) ↔ ((slice_index_or l n false ≡ true) ⊎ IsSafeNode c.deref.result.now n))
          c.deref_mut.ensures.value (c.leave_safe_nodes.ensures.left n)));
      rest = refl;
    })
