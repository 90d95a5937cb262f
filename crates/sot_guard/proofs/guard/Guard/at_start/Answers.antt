use Rattle.std.proofs.Common.{◌≡◌, ◌↔◌, ℕ, true, false, slice_index_or, sym, ap, ◌∙◌, subst, map, length}
use Rattle.sot_lists.specs.Places.{At}
use Rattle.sot_calendar.specs.Due.{IsDue}
use Rattle.sot_lang.specs.declared.tables.NodeInfo.{NodeInfo}
use Rattle.sot_lang.specs.declared.tables.ModuleInfo.{ModuleInfo}
use Rattle.sot_lang.specs.TableRules.{MeetsTableRules}
use Rattle.sot_world.specs.declared.mode.Mode.TheVariants.{Sc}
use Rattle.sot_guard.proofs.Guards.{opened_guards}
use Rattle.sot_guard.proofs.Holding.{opening_held, opens_at}
use Rattle.sot_guard.proofs.guard.Guard.at_start.Goals as goal

pub invariant_of-result : goal.invariant_of-result
invariant_of-result c =
    let tables = c.p.view_is ∙ c.typed-p.ensures.program in
    let nodes = c.deref.ensures.value ∙ ap (λ t. t.nodes) tables in
    let modules = c.deref-2.ensures.value ∙ ap (λ t. t.modules) tables in
    let due : (n : ℕ) (node : NodeInfo) → At c.args.acc.now.program.nodes n node
    → (slice_index_or c.in_ok-left.left.items n false ≡ true) ↔ IsDue node.period node.offset c.args.time =
    λ n node at. c.in_ok-left.ensures.left n node (subst (λ l. At l n node) (sym nodes) at) in
    let due_dm : (m : ℕ) (a : ModuleInfo) → At c.args.acc.now.program.modules m a
    → (slice_index_or c.in_ok-left_dm.left_dm.items m false ≡ true) ↔ IsDue a.period a.offset c.args.time =
    λ m a at. c.in_ok-left_dm.ensures.left m a (subst (λ l. At l m a) (sym modules) at) in
    let m = c.in_ok-modes.ensures ∙ ap (map (λ m. Sc)) (c.deref-3.ensures.value ∙ ap (λ t. t.modules) tables) in
    let s = c.in_ok-scalars.ensures ∙ ap (map (λ i. i.init)) (c.deref-4.ensures.value ∙ ap (λ t. t.scalars) tables) in
    let k = c.in_ok-locals.ensures ∙ ap (map (λ n. map (λ l. l.init) n.locals.items)) (c.deref-5.ensures.value ∙ ap (λ t. t.nodes) tables) in
    let opening = opens_at c.args.acc.now.program c.args.time c.args.start.now _ _ _ _ _ _ c.requires.starts due due_dm
    (c.in_ok-left.ensures.size ∙ ap length nodes) (c.in_ok-left_dm.ensures.size ∙ ap length modules) m s k c.in_ok-points.ensures.items in
    let rules = subst MeetsTableRules tables c.p.invariant in
    let held = opening_held c.args.acc.now.program c.args.acc.now.cert.jitter c.args.time c.args.start.now _ opening c.requires.held in
    opened_guards c.args.acc.now c.args.time c.args.start.now _ c.requires.horizon rules c.typed-p.ensures.certified opening held

pub returns-clause-opening : goal.returns-clause-opening
returns-clause-opening c =
    let tables = c.p.view_is ∙ c.typed-p.ensures.program in
    let nodes = c.deref.ensures.value ∙ ap (λ t. t.nodes) tables in
    let modules = c.deref-2.ensures.value ∙ ap (λ t. t.modules) tables in
    let due : (n : ℕ) (node : NodeInfo) → At c.args.acc.now.program.nodes n node
    → (slice_index_or c.in_ok-left.left.items n false ≡ true) ↔ IsDue node.period node.offset c.args.time =
    λ n node at. c.in_ok-left.ensures.left n node (subst (λ l. At l n node) (sym nodes) at) in
    let due_dm : (m : ℕ) (a : ModuleInfo) → At c.args.acc.now.program.modules m a
    → (slice_index_or c.in_ok-left_dm.left_dm.items m false ≡ true) ↔ IsDue a.period a.offset c.args.time =
    λ m a at. c.in_ok-left_dm.ensures.left m a (subst (λ l. At l m a) (sym modules) at) in
    let m = c.in_ok-modes.ensures ∙ ap (map (λ m. Sc)) (c.deref-3.ensures.value ∙ ap (λ t. t.modules) tables) in
    let s = c.in_ok-scalars.ensures ∙ ap (map (λ i. i.init)) (c.deref-4.ensures.value ∙ ap (λ t. t.scalars) tables) in
    let k = c.in_ok-locals.ensures ∙ ap (map (λ n. map (λ l. l.init) n.locals.items)) (c.deref-5.ensures.value ∙ ap (λ t. t.nodes) tables) in
    opens_at c.args.acc.now.program c.args.time c.args.start.now _ _ _ _ _ _ c.requires.starts due due_dm
    (c.in_ok-left.ensures.size ∙ ap length nodes) (c.in_ok-left_dm.ensures.size ∙ ap length modules) m s k c.in_ok-points.ensures.items

pub returns-clause-held : goal.returns-clause-held
returns-clause-held c =
    let tables = c.p.view_is ∙ c.typed-p.ensures.program in
    let nodes = c.deref.ensures.value ∙ ap (λ t. t.nodes) tables in
    let modules = c.deref-2.ensures.value ∙ ap (λ t. t.modules) tables in
    let due : (n : ℕ) (node : NodeInfo) → At c.args.acc.now.program.nodes n node
    → (slice_index_or c.in_ok-left.left.items n false ≡ true) ↔ IsDue node.period node.offset c.args.time =
    λ n node at. c.in_ok-left.ensures.left n node (subst (λ l. At l n node) (sym nodes) at) in
    let due_dm : (m : ℕ) (a : ModuleInfo) → At c.args.acc.now.program.modules m a
    → (slice_index_or c.in_ok-left_dm.left_dm.items m false ≡ true) ↔ IsDue a.period a.offset c.args.time =
    λ m a at. c.in_ok-left_dm.ensures.left m a (subst (λ l. At l m a) (sym modules) at) in
    let m = c.in_ok-modes.ensures ∙ ap (map (λ m. Sc)) (c.deref-3.ensures.value ∙ ap (λ t. t.modules) tables) in
    let s = c.in_ok-scalars.ensures ∙ ap (map (λ i. i.init)) (c.deref-4.ensures.value ∙ ap (λ t. t.scalars) tables) in
    let k = c.in_ok-locals.ensures ∙ ap (map (λ n. map (λ l. l.init) n.locals.items)) (c.deref-5.ensures.value ∙ ap (λ t. t.nodes) tables) in
    let opening = opens_at c.args.acc.now.program c.args.time c.args.start.now _ _ _ _ _ _ c.requires.starts due due_dm
    (c.in_ok-left.ensures.size ∙ ap length nodes) (c.in_ok-left_dm.ensures.size ∙ ap length modules) m s k c.in_ok-points.ensures.items in
    opening_held c.args.acc.now.program c.args.acc.now.cert.jitter c.args.time c.args.start.now _ opening c.requires.held
