-- The body of a node without faults, and the clauses of a plant without them.
use Rattle.std.proofs.Common.{◌≡◌, ℕ, zero, suc, ◌<◌, List, [], ◌∷◌, length, map, flat_map, Option, Some, None, refl, sym, ap, ◌∙◌, arith}
use Rattle.std.specs.Prelude.{slice_index_or}
use Rattle.std.specs.Global.{Vec}
use Rattle.sot_syntax_tree.specs.declared.tree.Stmt.{Stmt}
use Rattle.sot_syntax_tree.specs.declared.tree.NextDecl.{NextDecl}
use Rattle.sot_syntax_tree.specs.declared.tree.NodeDecl.{NodeDecl}
use Rattle.sot_syntax_tree.specs.declared.tree.PlantDecl.{PlantDecl}
use Rattle.sot_syntax_tree.specs.Trees.{Block, Next, Plant, Program}
use Rattle.sot_syntax_tree.specs.TreeViews.{tree_view, block_view, next_view, node_view, plant_view}
use Rattle.sot_rules.specs.Names.{Thing, node_scope, plant_scope}
use Rattle.sot_rules.specs.Faults.{together, node_lists, plant_lists, tree_faults, block_faults, body_faults, next_faults}
use Rattle.sot_typing.specs.Terms.{formula_of}
use Rattle.sot_typing.proofs.Faultless.{nil_left, nil_right}
use Rattle.sot_typing.proofs.Small.{nth_empty}

abbrev body_seen : Option (Vec Stmt) → Option Block
body_seen None = None
body_seen (Some v) = Some (block_view v.items)

pub statements_faultless : (p : Program) (n : NodeDecl) (v : Vec Stmt) → n.body ≡ Some v → together (node_lists p (node_view n)) ≡ [] → (xs : List Stmt)
    → xs ≡ v.items → block_faults (node_scope p (node_view n)) (block_view xs) ≡ []
statements_faultless p n v is h xs e =
    let scope = node_scope p (node_view n) in
    ap (λ z. block_faults scope (block_view z)) e
    ∙ nil_left _ _ (sym (ap (λ b. body_faults scope (body_seen b)) is) ∙ nth_empty (node_lists p (node_view n)) 10 h)

module _ (p : Program) (q : Plant) (names : List Thing) (is : names ≡ plant_scope p q) where
  next_at : (ns : List NextDecl) → flat_map (next_faults p q) (map next_view ns) ≡ [] → (k : ℕ) (d : NextDecl) → k < length ns
      → tree_faults names (tree_view (slice_index_or ns k d).value) ≡ []
  next_at [] h k d lt = absurd (omega arith)
  next_at (n ∷ ns) h zero d lt = ap (λ z. tree_faults z (tree_view n.value)) is ∙ nil_left _ _ (nil_left (next_faults p q (next_view n)) _ h)
  next_at (n ∷ ns) h (suc k) d lt = next_at ns (nil_right (next_faults p q (next_view n)) _ h) k d (omega arith)

  pub next_formulas : (ns : List NextDecl) → map (λ (n : NextDecl). formula_of names (tree_view n.value)) ns
      ≡ map (λ (n : Next). formula_of (plant_scope p q) n.value) (map next_view ns)
  next_formulas [] = refl
  next_formulas (n ∷ ns) =
      ap (λ z. formula_of z (tree_view n.value) ∷ map (λ (m : NextDecl). formula_of names (tree_view m.value)) ns) is
      ∙ ap (λ z. formula_of (plant_scope p q) (tree_view n.value) ∷ z) (next_formulas ns)

pub clauses_faultless : (p : Program) (q : PlantDecl) → together (plant_lists p (plant_view q)) ≡ [] → (names : List Thing)
    → names ≡ plant_scope p (plant_view q) → (ns : List NextDecl) → ns ≡ q.next.items → (k : ℕ) (d : NextDecl) → k < length ns
    → tree_faults names (tree_view (slice_index_or ns k d).value) ≡ []
clauses_faultless p q h names is ns e =
    next_at p (plant_view q) names is ns (ap (λ z. flat_map (next_faults p (plant_view q)) (map next_view z)) e ∙ nth_empty (plant_lists p (plant_view q)) 13 h)
