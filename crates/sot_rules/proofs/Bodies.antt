-- The body of a node, over names that read alike.
use Rattle.std.proofs.Common.{◌≡◌, ◌++◌, Some, ap}
use Rattle.sot_syntax_tree.specs.Trees.{Block}
use Rattle.sot_rules.specs.Names.{Scope}
use Rattle.sot_rules.specs.Tests.{block_unrolled}
use Rattle.sot_rules.specs.Faults.{body_faults, past}
use Rattle.sot_rules.specs.Alike.{ScopesAlike}
use Rattle.sot_rules.proofs.Alike.{block_alike}

pub body_alike : (s t : Scope) (b : Block) → ScopesAlike s t → body_faults s (Some b) ≡ body_faults t (Some b)
body_alike s t b h = ap (λ fs. fs ++ past 10000 (block_unrolled b)) (block_alike s t h b)
