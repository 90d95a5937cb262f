-- The expressions that functions return, and what the functions of one expression promise each
-- other.
use Rattle.std.specs.Prelude.{ℕ, zero, suc, ◌+◌, ◌-◌, ◌≤◌, ◌==◌, Bool, true, false, ◌&&◌}
use Rattle.std.specs.Prelude.{if◌then◌else◌, List, Ok}
use Rattle.sot_text.specs.Reading.{Lexeme}
use Rattle.sot_syntax_tree.specs.TreeViews.{tree_view}
use Rattle.sot_expression.specs.declared.part.Part.{Part as CodePart}
use Rattle.sot_expression.specs.declared.operators.Infix.{Infix}
use Rattle.sot_expression.specs.Readers.{Read, ◌>>=◌}
use Rattle.sot_expression.specs.ExpressionReaders.{Part, Around, joined_at, chain_at, unary_at}
use Rattle.sot_expression.specs.ExpressionReaders.{denied_at, turns, part_at}

abbrev pub part_view : CodePart → Part
part_view p = record { tree = tree_view p.tree; levels = p.levels; bare = p.bare }

-- at most so many levels, and one less for parentheses directly in parentheses
abbrev pub Fits : ℕ → Bool → CodePart → Type 0
Fits room held p = (1 ≤ p.levels) × (p.levels + (if held && p.bare then 1 else 0) ≤ room)

abbrev pub below : ℕ → ℕ → List Lexeme → Read Part
below room tier ts = part_at (room - 1) false tier ts

-- in parentheses, where a second one directly behind the first takes a level
abbrev pub inner : ℕ → Bool → List Lexeme → Read Part
inner room held ts = part_at (if held then room - 1 else room) true 7 ts

abbrev pub around : ℕ → Bool → Around
around room held = record { room = room; held = held; below = below room; inner = inner room held }

-- the operators of n tiers above one, the tightest first, behind a left part
unfoldable pub climbed : ℕ → ℕ → ℕ → Part → List Lexeme → Read Part
climbed zero room tier left ts = Ok (left, ts)
climbed (suc n) room tier left ts =
    chain_at (turns (suc tier) room) room (suc tier) (below room tier) left ts >>= λ p.
    climbed n room (suc tier) p.0 p.1

-- the tier above which reading goes on behind an operator: another of its tier may follow, but no
-- second comparison
abbrev pub onward : ℕ → ℕ
onward tier = if tier == 3 then tier else tier - 1

-- an operator of a tier, and those behind it up to the tier `to`
unfoldable pub turned : ℕ → Infix → ℕ → ℕ → Part → List Lexeme → Read Part
turned room o tier to left ts =
    joined_at o (below room (tier - 1)) left ts >>= λ p.
    climbed (to - onward tier) room (onward tier) p.0 p.1

-- a part that begins with an operand, and one that begins with a `not`
unfoldable pub plain_at : ℕ → Bool → ℕ → List Lexeme → Read Part
plain_at room held tier ts =
    unary_at (around room held) ts >>= λ p. climbed (tier - 0) room 0 p.0 p.1

unfoldable pub not_at : ℕ → ℕ → List Lexeme → Read Part
not_at room tier ts = denied_at (below room 4) ts >>= λ p. climbed (tier - 4) room 4 p.0 p.1
