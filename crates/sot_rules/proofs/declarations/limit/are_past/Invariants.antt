-- The loop of `are_past`: where no name that is left would have the first fault, none would.
use Rattle.std.proofs.Common.{◌≡◌, ℕ, drop}
use Rattle.sot_syntax_tree.specs.declared.tree.Ident.{Ident}
use Rattle.sot_rules.specs.Faults.{least, passes}
use Rattle.sot_rules.proofs.declarations.limit.are_past.Given as goal

abbrev pub invariant-loop-name : goal.invariant-loop-name
invariant-loop-name l =
    ((size : Ident → ℕ) (limit sum : ℕ) → least l.first (passes size limit sum (drop l.name-index l.names)) ≡ l.first)
    → (size : Ident → ℕ) (limit sum : ℕ) → least l.first (passes size limit sum l.names) ≡ l.first
