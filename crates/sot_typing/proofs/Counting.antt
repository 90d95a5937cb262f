-- The numbers of declarations, as they are counted.
use Rattle.std.proofs.Common.{◌≡◌, ◌∙◌, ℕ, ◌+◌, ◌<◌, List, [], ◌∷◌, ◌++◌, length, get_or, drop, map, sym, ap, append_assoc, arith}
use Rattle.std.specs.Prelude.{filter_map}
use Rattle.std.proofs.lemmas.List.Sums.{sum_by-cons}
use Rattle.sot_syntax_tree.specs.declared.tree.Decl.{Decl}
use Rattle.sot_syntax_tree.specs.TreeViews.{declaration_view}
use Rattle.sot_syntax_tree.specs.Trees.{Declaration, a_topic, a_plant, a_node, a_module}
use Rattle.sot_rules.proofs.Loops.{rest_is}
use Rattle.sot_typing.specs.declared.names.numbers.Number.{Number}
use Rattle.sot_typing.specs.declared.names.numbers.SlotCounts.{SlotCounts}
use Rattle.sot_typing.specs.Resolved.{a_topic_of, scalar_count}
use Rattle.sot_typing.specs.Numbers.{counted, numbered, numbers_from, FitLimits, HasRoom}

-- where all of a list fit, the first one does
pub room : (c : SlotCounts) (d : Declaration) (ds : List Declaration) → FitLimits c (d ∷ ds) → HasRoom c d
room c (a_topic t) ds few = record {
  topics = omega (arith, few.topics);
  scalars = (let e = sum_by-cons scalar_count t (filter_map a_topic_of ds) in omega (arith, few.scalars));
  plants = omega (arith, few.plants);
  nodes = omega (arith, few.nodes);
  modules = omega (arith, few.modules);
}
room c (a_plant q) ds few = record {
  topics = omega (arith, few.topics);
  scalars = omega (arith, few.scalars);
  plants = omega (arith, few.plants);
  nodes = omega (arith, few.nodes);
  modules = omega (arith, few.modules);
}
room c (a_node n) ds few = record {
  topics = omega (arith, few.topics);
  scalars = omega (arith, few.scalars);
  plants = omega (arith, few.plants);
  nodes = omega (arith, few.nodes);
  modules = omega (arith, few.modules);
}
room c (a_module m) ds few = record {
  topics = omega (arith, few.topics);
  scalars = omega (arith, few.scalars);
  plants = omega (arith, few.plants);
  nodes = omega (arith, few.nodes);
  modules = omega (arith, few.modules);
}

-- and then the rest do
pub few_left : (c : SlotCounts) (d : Declaration) (ds : List Declaration) → FitLimits c (d ∷ ds) → FitLimits (counted c d) ds
few_left c (a_topic t) ds few = record {
  topics = omega (arith, few.topics);
  scalars = (let e = sum_by-cons scalar_count t (filter_map a_topic_of ds) in omega (arith, few.scalars));
  plants = few.plants;
  nodes = few.nodes;
  modules = few.modules;
}
few_left c (a_plant q) ds few = record {
  topics = few.topics;
  scalars = few.scalars;
  plants = omega (arith, few.plants);
  nodes = few.nodes;
  modules = few.modules;
}
few_left c (a_node n) ds few = record {
  topics = few.topics;
  scalars = few.scalars;
  plants = few.plants;
  nodes = omega (arith, few.nodes);
  modules = few.modules;
}
few_left c (a_module m) ds few = record {
  topics = few.topics;
  scalars = few.scalars;
  plants = few.plants;
  nodes = few.nodes;
  modules = omega (arith, few.modules);
}

-- a declaration among those that are left
pub left_are : (xs : List Decl) (i : ℕ) (x : Decl) → i < length xs → x ≡ get_or xs i x
    → map declaration_view (drop i xs) ≡ declaration_view x ∷ map declaration_view (drop (i + 1) xs)
left_are xs i x lt e = ap (map declaration_view) (rest_is xs i x lt e)

-- one declaration is numbered, and then those that are left
pub step_numbers : (xs : List Decl) (i : ℕ) (x : Decl) (c now : SlotCounts) (n : Number) (out more all : List Number) → i < length xs → x ≡ get_or xs i x
    → n ≡ numbered c (declaration_view x) → now ≡ counted c (declaration_view x) → more ≡ out ++ n ∷ []
    → out ++ numbers_from c (map declaration_view (drop i xs)) ≡ all → more ++ numbers_from now (map declaration_view (drop (i + 1) xs)) ≡ all
step_numbers xs i x c now n out more all lt e is counts pushed inv =
    let ds = map declaration_view (drop (i + 1) xs) in
    ap (λ z. z ++ numbers_from now ds) pushed
    ∙ append_assoc out (n ∷ []) (numbers_from now ds)
    ∙ ap (λ z. out ++ z ∷ numbers_from now ds) is
    ∙ ap (λ z. out ++ numbered c (declaration_view x) ∷ numbers_from z ds) counts
    ∙ sym (ap (λ z. out ++ numbers_from c z) (left_are xs i x lt e))
    ∙ inv
