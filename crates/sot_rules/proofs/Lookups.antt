-- A name that is looked up in a table is found as in the list that the table stands for.
use Rattle.std.proofs.Common.{◌≡◌, ℕ, List, [], ◌∷◌, map, find, cond, Option, Some, option_map, true, false, Bool, refl}
use Rattle.std.specs.Map.{lookup}
use Rattle.std.specs.Str.{bytes_eq}
use denote.Ref.{Bor}
use Rattle.sot_syntax_tree.specs.declared.tree.Ident.{Ident}
use Rattle.sot_rules.specs.declared.expressions.sort.Sort.{Sort}
use Rattle.sot_rules.specs.Names.{Part, Parts, Thing, thing_reading}
use Rattle.sot_rules.specs.Scopes.{reading_of}

-- the sort of a part
pub part_found : (name : List ℕ) (es : List (Bor (List ℕ) × Sort))
    → lookup (λ k. bytes_eq name k.now) es ≡ option_map (λ (x : Part). x.sort)
    (find (λ (x : Part). bytes_eq name x.name) (map (λ e. record { name = e.0.now; sort = e.1 }) es))
part_found name [] = refl
part_found name (e ∷ es) = by e (bytes_eq name e.0.now) _ _ (part_found name es)
  where
    by : (e : Bor (List ℕ) × Sort) (b : Bool) (o : Option Sort) (x : Option Part) → o ≡ option_map (λ (x : Part). x.sort) x
        → cond b (Some e.1) o ≡ option_map (λ (x : Part). x.sort) (cond b (Some (record { name = e.0.now; sort = e.1 })) x)
    by e true o x h = refl
    by e false o x h = h

module _ {X : Type 0} (f : X → Parts) (first : Ident) (field : Option Ident) where
  abbrev entry_thing : Bor (List ℕ) × X → Thing
  entry_thing e = record { name = e.0.now; parts = f e.1 }

  pub thing_found : (es : List (Bor (List ℕ) × X)) → thing_reading first field
      (find (λ (x : Thing). bytes_eq first.name x.name) (map (λ e. record { name = e.0.now; parts = f e.1 }) es))
      ≡ reading_of f first field (lookup (λ k. bytes_eq first.name k.now) es)
  thing_found [] = refl
  thing_found (e ∷ es) = by e es (bytes_eq first.name e.0.now) (thing_found es)
    where
      by : (e : Bor (List ℕ) × X) (es : List (Bor (List ℕ) × X)) (b : Bool)
          → thing_reading first field (find (λ (x : Thing). bytes_eq first.name x.name) (map entry_thing es))
          ≡ reading_of f first field (lookup (λ k. bytes_eq first.name k.now) es)
          → thing_reading first field (cond b (Some (entry_thing e)) (find (λ (x : Thing). bytes_eq first.name x.name) (map entry_thing es)))
          ≡ reading_of f first field (cond b (Some e.1) (lookup (λ k. bytes_eq first.name k.now) es))
      by e es true h = refl
      by e es false h = h
