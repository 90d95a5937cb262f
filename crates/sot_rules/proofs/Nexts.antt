-- The `next` clauses of a plant, from what is noted of them.
use Rattle.std.proofs.Common.{◌≡◌, ◌∙◌, ℕ, zero, suc, ◌+◌, ◌<◌, List, [], ◌∷◌, ◌++◌, length, get_or, drop, map, flat_map, Option, Bool, not, None, refl, sym}
use Rattle.std.proofs.Common.{ap, ap₂, nat_lt, add-one}
use Rattle.std.specs.List.{slice_get}
use Rattle.std.proofs.lemmas.List.{length-map}
use Rattle.sot_syntax_tree.specs.declared.tree.NextDecl.{NextDecl}
use Rattle.sot_syntax_tree.specs.declared.tree.StateDecl.{StateDecl}
use Rattle.sot_syntax_tree.specs.Trees.{Next, Plant, Program}
use Rattle.sot_syntax_tree.specs.TreeViews.{next_view}
use Rattle.sot_rules.specs.declared.fault.TypeFault.{TypeFault}
use Rattle.sot_rules.specs.declared.fault.TypeKind.TheVariants.{NextMissing}
use Rattle.sot_rules.specs.Names.{Thing, plant_scope, state_scope}
use Rattle.sot_rules.specs.Tests.{is_state}
use Rattle.sot_rules.specs.Faults.{least, next_faults, order_faults, target_faults, when}
use Rattle.sot_rules.specs.Nexts.{next_faults_in}
use Rattle.sot_rules.specs.Alike.{ReadsAlike}
use Rattle.sot_rules.proofs.Alike.{appended, sort_alike, tree_alike}
use Rattle.sot_rules.proofs.Least.{least_append}
use Rattle.sot_rules.proofs.Loops.{rest_is}

-- names that read alike
next_alike : (p : Program) (q : Plant) (used given : List Thing) → ReadsAlike used (plant_scope p q) → ReadsAlike given (state_scope q) → (n : Next)
    → next_faults_in used given n ≡ next_faults p q n
next_alike p q used given h g n =
    appended (tree_alike used (plant_scope p q) h n.value) (ap₂ (λ r s. target_faults r s n.name.at) (g n.name None)
    (sort_alike used (plant_scope p q) h n.value))

nexts_alike : (p : Program) (q : Plant) (used given : List Thing) → ReadsAlike used (plant_scope p q) → ReadsAlike given (state_scope q) → (ns : List Next)
    → flat_map (next_faults_in used given) ns ≡ flat_map (next_faults p q) ns
nexts_alike p q used given h g [] = refl
nexts_alike p q used given h g (n ∷ ns) = appended (next_alike p q used given h g n) (nexts_alike p q used given h g ns)

-- the clause at a place
order_at : (states : List StateDecl) (i : ℕ) (n : Next) (more : List Next)
    → order_faults (drop i states) (n ∷ more) ≡ when (not (is_state n.name (slice_get states i))) n.name.at NextMissing
    ++ order_faults (drop (suc i) states) more
order_at [] zero n more = refl
order_at [] (suc i) n more = refl
order_at (s ∷ states) zero n more = refl
order_at (s ∷ states) (suc i) n more = order_at states i n more

pub order_more : (states : List StateDecl) (ns : List NextDecl) (i : ℕ) (n : NextDecl) (fits : Bool) (a b c : Option TypeFault) → i < length ns
    → n ≡ get_or ns i n → fits ≡ is_state n.name (slice_get states i) → b ≡ least a (when (not fits) n.name.at NextMissing)
    → least a (order_faults (drop i states) (map next_view (drop i ns))) ≡ c
    → least b (order_faults (drop (i + 1) states) (map next_view (drop (i + 1) ns))) ≡ c
order_more states ns i n fits a b c lt e test noted inv =
    let here = when (not (is_state n.name (slice_get states i))) n.name.at NextMissing in
    let rest = order_faults (drop (i + 1) states) (map next_view (drop (i + 1) ns)) in
    ap (λ z. least z rest) (noted ∙ ap (λ f. least a (when (not f) n.name.at NextMissing)) test)
    ∙ sym (least_append a here rest)
    ∙ ap (λ j. least a (here ++ order_faults (drop j states) (map next_view (drop (i + 1) ns)))) (add-one i)
    ∙ ap (least a) (sym (order_at states i (next_view n) (map next_view (drop (i + 1) ns))))
    ∙ ap (λ l. least a (order_faults (drop i states) (map next_view l))) (sym (rest_is ns i n lt e))
    ∙ inv

pub nexts_noted : (p : Program) (q : Plant) (used given : List Thing) (ns : List NextDecl) (a b c d : Option TypeFault) → ReadsAlike used (plant_scope p q)
    → ReadsAlike given (state_scope q) → b ≡ least a (flat_map (next_faults_in used given) (map next_view ns))
    → c ≡ least b (order_faults q.states (map next_view ns)) → d ≡ least c (when (nat_lt (length ns) (length q.states)) q.end NextMissing)
    → d ≡ least a (flat_map (next_faults p q) (map next_view ns)
    ++ (order_faults q.states (map next_view ns) ++ when (nat_lt (length (map next_view ns)) (length q.states)) q.end NextMissing))
nexts_noted p q used given ns a b c d h g one two three =
    let each = flat_map (next_faults p q) (map next_view ns) in
    let order = order_faults q.states (map next_view ns) in
    let short = when (nat_lt (length (map next_view ns)) (length q.states)) q.end NextMissing in
    three
    ∙ ap (λ n. least c (when (nat_lt n (length q.states)) q.end NextMissing)) (sym (length-map ns next_view))
    ∙ ap (λ z. least z short) two
    ∙ ap (λ z. least (least z order) short) (one ∙ ap (least a) (nexts_alike p q used given h g (map next_view ns)))
    ∙ sym (least_append (least a each) order short)
    ∙ sym (least_append a each (order ++ short))
