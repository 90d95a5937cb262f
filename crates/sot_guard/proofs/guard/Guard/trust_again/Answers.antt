use Rattle.std.proofs.Common.{◌≡◌, ◌↔◌, ℕ, true, false, length, slice_index_or, sym, ap, ◌∙◌, subst, arith}
use Rattle.std.specs.Vec.{with_items}
use Rattle.std.proofs.lemmas.List.{with_items_is}
use Rattle.sot_lists.specs.Places.{At}
use Rattle.sot_calendar.specs.Due.{IsDue}
use Rattle.sot_lang.specs.declared.tables.NodeInfo.{NodeInfo}
use Rattle.sot_lang.specs.declared.tables.ModuleInfo.{ModuleInfo}
use Rattle.sot_guard.specs.GuardView.{configuration}
use Rattle.sot_guard.specs.HeldParts.{AnswersAt}
use Rattle.sot_guard.specs.Guarding.{Guarding}
use Rattle.sot_guard.specs.Resuming.{RegainsTrust}
use Rattle.sot_guard.proofs.Regaining.{regains, regained_guards}
use Rattle.sot_guard.proofs.guard.Guard.trust_again.Goals as goal

pub invariant_of-self : goal.invariant_of-self
invariant_of-self c =
    let w = c.self.inside in
    let a = w.accepted.now in
    let C = configuration w in
    let g = c.self.invariant in
    let off = subst (λ s. s.trusted ≡ false) (sym c.self.view_is) c.requires.off in
    let nodes = c.deref.ensures.value ∙ ap (λ t. t.nodes) (c.p.view_is ∙ c.typed-p.ensures.program) in
    let modules = c.deref-2.ensures.value ∙ ap (λ t. t.modules) (c.p.view_is ∙ c.typed-p.ensures.program) in
    let left_is = with_items_is w.left c.leave_due_nodes.new.left (omega (arith, c.leave_due_nodes.auto.left, c.deref_mut.ensures.len)) in
    let left_dm_is = with_items_is w.left_dm c.leave_due_decisions.new.left (omega (arith, c.leave_due_decisions.auto.left, c.deref_mut-2.ensures.len)) in
    let sizes = ap length left_is ∙ c.leave_due_nodes.ensures.size ∙ ap length c.deref_mut.ensures.value ∙ g.sizes.left in
    let sizes_dm = ap length left_dm_is ∙ c.leave_due_decisions.ensures.size ∙ ap length c.deref_mut-2.ensures.value ∙ g.sizes.left_dm in
    let due : (n : ℕ) (node : NodeInfo) → At a.program.nodes n node
    → (slice_index_or (with_items w.left c.leave_due_nodes.new.left).items n false ≡ true) ↔ IsDue node.period node.offset w.time =
    λ n node at. subst (λ l. (slice_index_or l n false ≡ true) ↔ IsDue node.period node.offset w.time) (sym left_is)
    (c.leave_due_nodes.ensures.left n node (subst (λ l. At l n node) (sym nodes) at)) in
    let due_dm : (m : ℕ) (info : ModuleInfo) → At a.program.modules m info
    → (slice_index_or (with_items w.left_dm c.leave_due_decisions.new.left).items m false ≡ true) ↔ IsDue info.period info.offset w.time =
    λ m info at. subst (λ l. (slice_index_or l m false ≡ true) ↔ IsDue info.period info.offset w.time) (sym left_dm_is)
    (c.leave_due_decisions.ensures.left m info (subst (λ l. At l m info) (sym modules) at)) in
    let answers = subst (λ s. (m : ℕ) → AnswersAt s.accepted.program s.accepted.cert.jitter s.at.time s.at.scalars s.at.points m true) (sym c.self.view_is)
    c.requires.held in
    regained_guards a w.trusted C g off (with_items w.left c.leave_due_nodes.new.left).items (with_items w.left_dm c.leave_due_decisions.new.left).items
    sizes sizes_dm due due_dm answers

pub returns : goal.returns
returns c =
    let w = c.self.inside in
    let a = w.accepted.now in
    let C = configuration w in
    let g = c.self.invariant in
    let off = subst (λ s. s.trusted ≡ false) (sym c.self.view_is) c.requires.off in
    let nodes = c.deref.ensures.value ∙ ap (λ t. t.nodes) (c.p.view_is ∙ c.typed-p.ensures.program) in
    let modules = c.deref-2.ensures.value ∙ ap (λ t. t.modules) (c.p.view_is ∙ c.typed-p.ensures.program) in
    let left_is = with_items_is w.left c.leave_due_nodes.new.left (omega (arith, c.leave_due_nodes.auto.left, c.deref_mut.ensures.len)) in
    let left_dm_is = with_items_is w.left_dm c.leave_due_decisions.new.left (omega (arith, c.leave_due_decisions.auto.left, c.deref_mut-2.ensures.len)) in
    let sizes = ap length left_is ∙ c.leave_due_nodes.ensures.size ∙ ap length c.deref_mut.ensures.value ∙ g.sizes.left in
    let sizes_dm = ap length left_dm_is ∙ c.leave_due_decisions.ensures.size ∙ ap length c.deref_mut-2.ensures.value ∙ g.sizes.left_dm in
    let due : (n : ℕ) (node : NodeInfo) → At a.program.nodes n node
    → (slice_index_or (with_items w.left c.leave_due_nodes.new.left).items n false ≡ true) ↔ IsDue node.period node.offset w.time =
    λ n node at. subst (λ l. (slice_index_or l n false ≡ true) ↔ IsDue node.period node.offset w.time) (sym left_is)
    (c.leave_due_nodes.ensures.left n node (subst (λ l. At l n node) (sym nodes) at)) in
    let due_dm : (m : ℕ) (info : ModuleInfo) → At a.program.modules m info
    → (slice_index_or (with_items w.left_dm c.leave_due_decisions.new.left).items m false ≡ true) ↔ IsDue info.period info.offset w.time =
    λ m info at. subst (λ l. (slice_index_or l m false ≡ true) ↔ IsDue info.period info.offset w.time) (sym left_dm_is)
    (c.leave_due_decisions.ensures.left m info (subst (λ l. At l m info) (sym modules) at)) in
    let answers = subst (λ s. (m : ℕ) → AnswersAt s.accepted.program s.accepted.cert.jitter s.at.time s.at.scalars s.at.points m true) (sym c.self.view_is)
    c.requires.held in
    let new : Guarding = record {
      accepted = a;
      trusted = true;
      at = record C {
        left = (with_items w.left c.leave_due_nodes.new.left).items;
        left_dm = (with_items w.left_dm c.leave_due_decisions.new.left).items;
      };
    } in
    subst (λ s. RegainsTrust s new) c.self.view_is
    (regains a w.trusted C g off (with_items w.left c.leave_due_nodes.new.left).items (with_items w.left_dm c.leave_due_decisions.new.left).items
    sizes sizes_dm due due_dm answers)
