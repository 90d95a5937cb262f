-- What stands behind a place of the text: faults, and the places at which the parts of a program
-- may be at fault.
use Rattle.std.specs.Prelude.{◌≡◌, nat_lt, nat_le, Bool, true, ◌&&◌, List, [], Option, Some, None}
use Rattle.std.specs.List.{filter, list_all}
use Rattle.sot_text.specs.declared.token.Span.{Span}
use Rattle.sot_text.specs.Place.{rank}
use Rattle.sot_syntax_tree.specs.declared.tree.Ident.{Ident}
use Rattle.sot_syntax_tree.specs.declared.tree.Field.{Field}
use Rattle.sot_syntax_tree.specs.declared.tree.Bounds.{Bounds}
use Rattle.sot_syntax_tree.specs.declared.tree.Scalar.{Scalar}
use Rattle.sot_syntax_tree.specs.declared.tree.Scalar.TheVariants.{Int, Fix, Bool as BoolScalar}
use Rattle.sot_syntax_tree.specs.Trees.{Tree, Trees, number, truth, named, binary, rest, negated}
use Rattle.sot_syntax_tree.specs.Trees.{denied}
use Rattle.sot_syntax_tree.specs.Trees.{called, rescaled, chosen, no_tree, one_more, Statement}
use Rattle.sot_syntax_tree.specs.Trees.{Block}
use Rattle.sot_syntax_tree.specs.Trees.{assigned, published, branched, repeated, no_statement}
use Rattle.sot_syntax_tree.specs.Trees.{statement}
use Rattle.sot_syntax_tree.specs.Trees.{Local, Next}
use Rattle.sot_rules.specs.declared.fault.TypeFault.{TypeFault}
use Rattle.sot_rules.specs.Tests.{const_place}

-- the faults that do not stand behind the place
abbrev pub up_to : Span → List TypeFault → List TypeFault
up_to from fs = filter (λ f. nat_le (rank f.at) (rank from)) fs

-- all faults of a list stand behind it
abbrev pub AreBehind : Span → List TypeFault → Type 0
AreBehind from fs = up_to from fs ≡ []

abbrev pub is_behind : Span → Span → Bool
is_behind from at = nat_lt (rank from) (rank at)

-- the place stands behind the first fault, where there is one
abbrev pub StandsBehind : Option TypeFault → Span → Type 0
StandsBehind first at = (f : TypeFault) × (first ≡ Some f) × (is_behind f.at at ≡ true)

-- each name of a list stands behind it
abbrev pub names_behind : Span → List Ident → Bool
names_behind from names = list_all (λ i. is_behind from i.at) names

abbrev pub bounds_behind : Span → Bounds → Bool
bounds_behind from b = is_behind from b.lo.at && is_behind from b.hi.at

abbrev pub scalar_behind : Span → Scalar → Bool
scalar_behind from (Int b) = bounds_behind from b
scalar_behind from (Fix d b) = is_behind from d.at && bounds_behind from b
scalar_behind from (BoolScalar at) = true

-- the name, the type and the initial value of a local
abbrev pub local_behind : Span → Local → Bool
local_behind from l =
    is_behind from l.name.at && (scalar_behind from l.scalar && is_behind from (const_place l.init))

abbrev pub locals_behind : Span → List Local → Bool
locals_behind from locals = list_all (local_behind from) locals

abbrev pub field_behind : Span → Option Ident → Bool
field_behind from None = true
field_behind from (Some field) = is_behind from field.at

-- each part of an expression, and of a statement
abbrev mutual
  pub tree_behind : Span → Tree → Bool
  tree_behind from (number l) = true
  tree_behind from (truth b at) = true
  tree_behind from (named first field) = is_behind from first.at && field_behind from field
  tree_behind from (binary op a b at) =
      is_behind from at && (tree_behind from a && tree_behind from b)
  tree_behind from (rest a by at) =
      is_behind from at && (is_behind from by.at && tree_behind from a)
  tree_behind from (negated a at) = is_behind from at && tree_behind from a
  tree_behind from (denied a at) = is_behind from at && tree_behind from a
  tree_behind from (called f parts at) = is_behind from at && trees_behind from parts
  tree_behind from (rescaled a to at) =
      is_behind from at && (is_behind from to.at && tree_behind from a)
  tree_behind from (chosen c a b at) =
      is_behind from at && (tree_behind from c && (tree_behind from a && tree_behind from b))

  pub trees_behind : Span → Trees → Bool
  trees_behind from no_tree = true
  trees_behind from (one_more e more) = tree_behind from e && trees_behind from more

abbrev mutual
  pub statement_behind : Span → Statement → Bool
  statement_behind from (assigned target e) = is_behind from target.at && tree_behind from e
  statement_behind from (published topic field e) =
      is_behind from topic.at && (field_behind from field && tree_behind from e)
  statement_behind from (branched c taken other at) =
      is_behind from at && (tree_behind from c &&
      (block_behind from taken && block_behind from other))
  statement_behind from (repeated times body at) =
      is_behind from at && (is_behind from times.at && block_behind from body)

  pub block_behind : Span → Block → Bool
  block_behind from no_statement = true
  block_behind from (statement a more) = statement_behind from a && block_behind from more

-- each `next` clause of a list, and each disturbance
abbrev pub nexts_behind : Span → List Next → Bool
nexts_behind from next = list_all (λ n. is_behind from n.name.at && tree_behind from n.value) next

abbrev pub noise_behind : Span → List Field → Bool
noise_behind from noise =
    list_all (λ f. is_behind from f.name.at && scalar_behind from f.scalar) noise
