use Rattle.std.proofs.Common.{◌≡◌, ◌+◌, ◌<◌, ◌⊎◌, ◌↔◌, ℕ, suc, true, false, length, slice_index_or, sym, ap, ◌∙◌, subst, arith}
use Rattle.std.specs.Vec.{with_items}
use Rattle.std.proofs.lemmas.List.{with_items_is}
use Rattle.sot_lists.specs.Places.{At}
use Rattle.sot_calendar.specs.Due.{IsDue}
use Rattle.sot_lang.specs.declared.tables.NodeInfo.{NodeInfo}
use Rattle.sot_lang.specs.declared.tables.ModuleInfo.{ModuleInfo}
use Rattle.sot_world.specs.declared.mode.Mode.TheVariants.{Sc}
use Rattle.sot_world.specs.Configurations.{is_left, is_left_dm}
use Rattle.sot_world.specs.Calendar.{NothingLeft}
use Rattle.sot_world.specs.Changes.{ArePoints}
use Rattle.sot_guard.specs.GuardView.{configuration}
use Rattle.sot_guard.specs.Guarding.{last_time}
use Rattle.sot_guard.specs.Outside.{HaveBoxes}
use Rattle.sot_guard.proofs.Guards.{have_boxes}
use Rattle.sot_guard.proofs.Moves.{observed, moves_so}
use Rattle.sot_guard.proofs.Along.{moves_along, told_along, watch_along}
use Rattle.sot_guard.proofs.guard.Guard.observe.Goals as goal

pub outside_where-outside-requires-clause-scalars : goal.outside_where-outside-requires-clause-scalars
outside_where-outside-requires-clause-scalars c =
    let a = c.self.inside.accepted.now in
    let g = c.self.invariant in
    let program = c.typed-p.ensures.program in
    ap length c.deref.ensures.value ∙ g.sizes.scalars ∙ sym (ap (λ t. length t.scalars) program)

pub outside_where-outside-requires-clause-points : goal.outside_where-outside-requires-clause-points
outside_where-outside-requires-clause-points c =
    let a = c.self.inside.accepted.now in
    let g = c.self.invariant in
    let program = c.typed-p.ensures.program in
    subst (λ t. ArePoints t c.deref-2.result.now) (sym program) (subst (ArePoints a.program) (sym c.deref-2.ensures.value) g.points)

pub outside_where-outside-requires-clause-next : goal.outside_where-outside-requires-clause-next
outside_where-outside-requires-clause-next c =
    let a = c.self.inside.accepted.now in
    let g = c.self.invariant in
    let program = c.typed-p.ensures.program in
    let next = subst (λ s. ArePoints s.accepted.program c.args.next.now) (sym c.self.view_is) c.requires.points in
    subst (λ t. ArePoints t c.args.next.now) (sym program) next

pub outside_where-outside-requires-clause-boxes : goal.outside_where-outside-requires-clause-boxes
outside_where-outside-requires-clause-boxes c = λ on.
    let C = configuration c.self.inside in
    let a = c.self.inside.accepted.now in
    let g = c.self.invariant in
    let program = c.typed-p.ensures.program in
    let none = subst (λ s. NothingLeft s.accepted.program s.at) (sym c.self.view_is) c.requires.settled in
    subst (λ t. HaveBoxes t c.deref.result.now c.deref-2.result.now) (sym program)
    (subst (λ xs. HaveBoxes a.program xs c.deref-2.result.now) (sym c.deref.ensures.value)
    (subst (HaveBoxes a.program C.scalars) (sym c.deref-2.ensures.value) (have_boxes a c.self.inside.trusted C g none on)))

pub put_points-requires : goal.put_points-requires
put_points-requires c =
    let a = c.self.inside.accepted.now in
    let g = c.self.invariant in
    let program = c.typed-p.ensures.program in
    let next = subst (λ s. ArePoints s.accepted.program c.args.next.now) (sym c.self.view_is) c.requires.points in
    next.each ∙ sym g.sizes.points ∙ sym (ap length c.deref_mut.ensures.value)

pub leave_nodes-requires-clause-periods : goal.leave_nodes-requires-clause-periods
leave_nodes-requires-clause-periods c = λ n node at.
    let a = c.self.inside.accepted.now in
    let g = c.self.invariant in
    let program = c.typed-p.ensures.program in
    let nodes = c.deref-3.ensures.value ∙ ap (λ t. t.nodes) (c.p.view_is ∙ program) in
    let there = subst (λ l. At l n node) nodes at in
    g.rules.typed.node_times n node there

pub leave_nodes-requires-clause-size : goal.leave_nodes-requires-clause-size
leave_nodes-requires-clause-size c =
    let a = c.self.inside.accepted.now in
    let g = c.self.invariant in
    let program = c.typed-p.ensures.program in
    let nodes = c.deref-3.ensures.value ∙ ap (λ t. t.nodes) (c.p.view_is ∙ program) in
    ap length c.deref_mut-2.ensures.value ∙ g.sizes.left ∙ sym (ap length nodes)

pub leave_decisions-requires-clause-periods : goal.leave_decisions-requires-clause-periods
leave_decisions-requires-clause-periods c = λ m info at.
    let a = c.self.inside.accepted.now in
    let g = c.self.invariant in
    let program = c.typed-p.ensures.program in
    let modules = c.deref-4.ensures.value ∙ ap (λ t. t.modules) (c.p.view_is ∙ program) in
    let there = subst (λ l. At l m info) modules at in
    g.rules.typed.module_times m info there

pub leave_decisions-requires-clause-size : goal.leave_decisions-requires-clause-size
leave_decisions-requires-clause-size c =
    let a = c.self.inside.accepted.now in
    let g = c.self.invariant in
    let program = c.typed-p.ensures.program in
    let modules = c.deref-4.ensures.value ∙ ap (λ t. t.modules) (c.p.view_is ∙ program) in
    ap length c.deref_mut-3.ensures.value ∙ g.sizes.left_dm ∙ sym (ap length modules)

pub invariant_of-self : goal.invariant_of-self
invariant_of-self c =
    let C = configuration c.self.inside in
    let a = c.self.inside.accepted.now in
    let g = c.self.invariant in
    let program = c.typed-p.ensures.program in
    let next = subst (λ s. ArePoints s.accepted.program c.args.next.now) (sym c.self.view_is) c.requires.points in
    let below = subst (λ s. s.at.time < last_time) (sym c.self.view_is) c.requires.time in
    let none = subst (λ s. NothingLeft s.accepted.program s.at) (sym c.self.view_is) c.requires.settled in
    let w = c.self.inside in
    let nodes = c.deref-3.ensures.value ∙ ap (λ t. t.nodes) (c.p.view_is ∙ program) in
    let modules = c.deref-4.ensures.value ∙ ap (λ t. t.modules) (c.p.view_is ∙ program) in
    let points_is = with_items_is w.points c.put_points.new.points (omega (arith, c.put_points.auto.points, c.deref_mut.ensures.len)) ∙ c.put_points.ensures in
    let left_is = with_items_is w.left c.leave_nodes.new.left (omega (arith, c.leave_nodes.auto.left, c.deref_mut-2.ensures.len)) in
    let left_dm_is = with_items_is w.left_dm c.leave_decisions.new.left (omega (arith, c.leave_decisions.auto.left, c.deref_mut-3.ensures.len)) in
    let modes_is = with_items_is w.modes c.put_safe_unless.new.modes (omega (arith, c.put_safe_unless.auto.modes, c.deref_mut-4.ensures.len)) in
    let one : w.time + 1 ≡ suc w.time = omega arith in
    let sizes = ap length left_is ∙ c.leave_nodes.ensures.size ∙ ap length c.deref_mut-2.ensures.value ∙ g.sizes.left in
    let sizes_dm = ap length left_dm_is ∙ c.leave_decisions.ensures.size ∙ ap length c.deref_mut-3.ensures.value ∙ g.sizes.left_dm in
    let due : (n : ℕ) (node : NodeInfo) → At a.program.nodes n node
    → (slice_index_or (with_items w.left c.leave_nodes.new.left).items n false ≡ true)
    ↔ ((is_left C n ≡ true) ⊎ IsDue node.period node.offset (w.time + 1)) =
    λ n node at. subst (λ l. (slice_index_or l n false ≡ true) ↔ ((is_left C n ≡ true) ⊎ IsDue node.period node.offset (w.time + 1))) (sym left_is)
    (subst (λ l. (slice_index_or c.leave_nodes.new.left n false ≡ true)
    ↔ ((slice_index_or l n false ≡ true) ⊎ IsDue node.period node.offset (w.time + 1))) c.deref_mut-2.ensures.value
    (c.leave_nodes.ensures.left n node (subst (λ l. At l n node) (sym nodes) at))) in
    let due_dm : (m : ℕ) (info : ModuleInfo) → At a.program.modules m info
    → (slice_index_or (with_items w.left_dm c.leave_decisions.new.left).items m false ≡ true)
    ↔ ((is_left_dm C m ≡ true) ⊎ IsDue info.period info.offset (w.time + 1)) =
    λ m info at. subst (λ l. (slice_index_or l m false ≡ true) ↔ ((is_left_dm C m ≡ true) ⊎ IsDue info.period info.offset (w.time + 1))) (sym left_dm_is)
    (subst (λ l. (slice_index_or c.leave_decisions.new.left m false ≡ true)
    ↔ ((slice_index_or l m false ≡ true) ⊎ IsDue info.period info.offset (w.time + 1))) c.deref_mut-3.ensures.value
    (c.leave_decisions.ensures.left m info (subst (λ l. At l m info) (sym modules) at))) in
    let told = told_along _ w.trusted _ _ _ _ _ _ c.args.next.now program c.deref.ensures.value c.deref-2.ensures.value c.outside_where-outside.ensures in
    let all = observed a C (w.time + 1) _ _ c.args.next.now _ sizes sizes_dm points_is next one due due_dm w.trusted
    c.is_still-self-inside.result c.is_none-inside.result (with_items w.modes c.put_safe_unless.new.modes).items
    c.outside_where-outside.result g below none c.is_none-inside.ensures
    c.is_still-self-inside.ensures.same c.is_still-self-inside.ensures.ended
    (λ e. modes_is ∙ c.put_safe_unless.ensures.kept e ∙ c.deref_mut-4.ensures.value)
    (λ e m. ap (λ l. slice_index_or l m Sc) modes_is ∙ c.put_safe_unless.ensures.safe e m)
    (ap length modes_is ∙ c.put_safe_unless.ensures.size ∙ ap length c.deref_mut-4.ensures.value) told in
    all.kept

pub returns-clause-moves : goal.returns-clause-moves
returns-clause-moves c =
    let C = configuration c.self.inside in
    let a = c.self.inside.accepted.now in
    let g = c.self.invariant in
    let program = c.typed-p.ensures.program in
    let next = subst (λ s. ArePoints s.accepted.program c.args.next.now) (sym c.self.view_is) c.requires.points in
    let below = subst (λ s. s.at.time < last_time) (sym c.self.view_is) c.requires.time in
    let none = subst (λ s. NothingLeft s.accepted.program s.at) (sym c.self.view_is) c.requires.settled in
    let w = c.self.inside in
    let nodes = c.deref-3.ensures.value ∙ ap (λ t. t.nodes) (c.p.view_is ∙ program) in
    let modules = c.deref-4.ensures.value ∙ ap (λ t. t.modules) (c.p.view_is ∙ program) in
    let points_is = with_items_is w.points c.put_points.new.points (omega (arith, c.put_points.auto.points, c.deref_mut.ensures.len)) ∙ c.put_points.ensures in
    let left_is = with_items_is w.left c.leave_nodes.new.left (omega (arith, c.leave_nodes.auto.left, c.deref_mut-2.ensures.len)) in
    let left_dm_is = with_items_is w.left_dm c.leave_decisions.new.left (omega (arith, c.leave_decisions.auto.left, c.deref_mut-3.ensures.len)) in
    let modes_is = with_items_is w.modes c.put_safe_unless.new.modes (omega (arith, c.put_safe_unless.auto.modes, c.deref_mut-4.ensures.len)) in
    let one : w.time + 1 ≡ suc w.time = omega arith in
    let sizes = ap length left_is ∙ c.leave_nodes.ensures.size ∙ ap length c.deref_mut-2.ensures.value ∙ g.sizes.left in
    let sizes_dm = ap length left_dm_is ∙ c.leave_decisions.ensures.size ∙ ap length c.deref_mut-3.ensures.value ∙ g.sizes.left_dm in
    let due : (n : ℕ) (node : NodeInfo) → At a.program.nodes n node
    → (slice_index_or (with_items w.left c.leave_nodes.new.left).items n false ≡ true)
    ↔ ((is_left C n ≡ true) ⊎ IsDue node.period node.offset (w.time + 1)) =
    λ n node at. subst (λ l. (slice_index_or l n false ≡ true) ↔ ((is_left C n ≡ true) ⊎ IsDue node.period node.offset (w.time + 1))) (sym left_is)
    (subst (λ l. (slice_index_or c.leave_nodes.new.left n false ≡ true)
    ↔ ((slice_index_or l n false ≡ true) ⊎ IsDue node.period node.offset (w.time + 1))) c.deref_mut-2.ensures.value
    (c.leave_nodes.ensures.left n node (subst (λ l. At l n node) (sym nodes) at))) in
    let due_dm : (m : ℕ) (info : ModuleInfo) → At a.program.modules m info
    → (slice_index_or (with_items w.left_dm c.leave_decisions.new.left).items m false ≡ true)
    ↔ ((is_left_dm C m ≡ true) ⊎ IsDue info.period info.offset (w.time + 1)) =
    λ m info at. subst (λ l. (slice_index_or l m false ≡ true) ↔ ((is_left_dm C m ≡ true) ⊎ IsDue info.period info.offset (w.time + 1))) (sym left_dm_is)
    (subst (λ l. (slice_index_or c.leave_decisions.new.left m false ≡ true)
    ↔ ((slice_index_or l m false ≡ true) ⊎ IsDue info.period info.offset (w.time + 1))) c.deref_mut-3.ensures.value
    (c.leave_decisions.ensures.left m info (subst (λ l. At l m info) (sym modules) at))) in
    moves_along _ _ c.args.next.now _ c.self.view_is
    (moves_so a C (w.time + 1) _ _ c.args.next.now _ sizes sizes_dm points_is next one due due_dm
    (with_items w.modes c.put_safe_unless.new.modes).items)

pub returns-clause-told : goal.returns-clause-told
returns-clause-told c =
    let C = configuration c.self.inside in
    let a = c.self.inside.accepted.now in
    let g = c.self.invariant in
    let program = c.typed-p.ensures.program in
    let next = subst (λ s. ArePoints s.accepted.program c.args.next.now) (sym c.self.view_is) c.requires.points in
    let below = subst (λ s. s.at.time < last_time) (sym c.self.view_is) c.requires.time in
    let none = subst (λ s. NothingLeft s.accepted.program s.at) (sym c.self.view_is) c.requires.settled in
    let w = c.self.inside in
    let nodes = c.deref-3.ensures.value ∙ ap (λ t. t.nodes) (c.p.view_is ∙ program) in
    let modules = c.deref-4.ensures.value ∙ ap (λ t. t.modules) (c.p.view_is ∙ program) in
    let points_is = with_items_is w.points c.put_points.new.points (omega (arith, c.put_points.auto.points, c.deref_mut.ensures.len)) ∙ c.put_points.ensures in
    let left_is = with_items_is w.left c.leave_nodes.new.left (omega (arith, c.leave_nodes.auto.left, c.deref_mut-2.ensures.len)) in
    let left_dm_is = with_items_is w.left_dm c.leave_decisions.new.left (omega (arith, c.leave_decisions.auto.left, c.deref_mut-3.ensures.len)) in
    let modes_is = with_items_is w.modes c.put_safe_unless.new.modes (omega (arith, c.put_safe_unless.auto.modes, c.deref_mut-4.ensures.len)) in
    let one : w.time + 1 ≡ suc w.time = omega arith in
    let sizes = ap length left_is ∙ c.leave_nodes.ensures.size ∙ ap length c.deref_mut-2.ensures.value ∙ g.sizes.left in
    let sizes_dm = ap length left_dm_is ∙ c.leave_decisions.ensures.size ∙ ap length c.deref_mut-3.ensures.value ∙ g.sizes.left_dm in
    let due : (n : ℕ) (node : NodeInfo) → At a.program.nodes n node
    → (slice_index_or (with_items w.left c.leave_nodes.new.left).items n false ≡ true)
    ↔ ((is_left C n ≡ true) ⊎ IsDue node.period node.offset (w.time + 1)) =
    λ n node at. subst (λ l. (slice_index_or l n false ≡ true) ↔ ((is_left C n ≡ true) ⊎ IsDue node.period node.offset (w.time + 1))) (sym left_is)
    (subst (λ l. (slice_index_or c.leave_nodes.new.left n false ≡ true)
    ↔ ((slice_index_or l n false ≡ true) ⊎ IsDue node.period node.offset (w.time + 1))) c.deref_mut-2.ensures.value
    (c.leave_nodes.ensures.left n node (subst (λ l. At l n node) (sym nodes) at))) in
    let due_dm : (m : ℕ) (info : ModuleInfo) → At a.program.modules m info
    → (slice_index_or (with_items w.left_dm c.leave_decisions.new.left).items m false ≡ true)
    ↔ ((is_left_dm C m ≡ true) ⊎ IsDue info.period info.offset (w.time + 1)) =
    λ m info at. subst (λ l. (slice_index_or l m false ≡ true) ↔ ((is_left_dm C m ≡ true) ⊎ IsDue info.period info.offset (w.time + 1))) (sym left_dm_is)
    (subst (λ l. (slice_index_or c.leave_decisions.new.left m false ≡ true)
    ↔ ((slice_index_or l m false ≡ true) ⊎ IsDue info.period info.offset (w.time + 1))) c.deref_mut-3.ensures.value
    (c.leave_decisions.ensures.left m info (subst (λ l. At l m info) (sym modules) at))) in
    let told = told_along _ w.trusted _ _ _ _ _ _ c.args.next.now program c.deref.ensures.value c.deref-2.ensures.value c.outside_where-outside.ensures in
    let all = observed a C (w.time + 1) _ _ c.args.next.now _ sizes sizes_dm points_is next one due due_dm w.trusted
    c.is_still-self-inside.result c.is_none-inside.result (with_items w.modes c.put_safe_unless.new.modes).items
    c.outside_where-outside.result g below none c.is_none-inside.ensures
    c.is_still-self-inside.ensures.same c.is_still-self-inside.ensures.ended
    (λ e. modes_is ∙ c.put_safe_unless.ensures.kept e ∙ c.deref_mut-4.ensures.value)
    (λ e m. ap (λ l. slice_index_or l m Sc) modes_is ∙ c.put_safe_unless.ensures.safe e m)
    (ap length modes_is ∙ c.put_safe_unless.ensures.size ∙ ap length c.deref_mut-4.ensures.value) told in
    watch_along _ _ _ c.args.next.now _ c.self.view_is all.told
