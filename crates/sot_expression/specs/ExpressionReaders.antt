-- What tokens spell as an expression, read from the left: its tree, with how deep it nests, or the
-- first token at fault.
use Rattle.std.specs.Prelude.{ℕ, zero, suc, ◌+◌, List, [], ◌∷◌, Bool, true, false, ◌==◌, ◌||◌, not}
use Rattle.std.specs.Prelude.{nat_lt, max, codes, Option, None, Some, Ok, Err, if◌then◌else◌}
use Rattle.sot_text.specs.Reading.{Lexeme}
use Rattle.sot_syntax_tree.specs.declared.operator.Op.{Op}
use Rattle.sot_syntax_tree.specs.declared.operator.Func.{Func}
use Rattle.sot_syntax_tree.specs.declared.operator.Func.TheVariants.{Abs, Clamp}
use Rattle.sot_syntax_tree.specs.declared.tree.Ident.{Ident}
use Rattle.sot_syntax_tree.specs.declared.tree.Lit.{Lit}
use Rattle.sot_syntax_tree.specs.Trees.{Tree, number, truth, named, binary, rest, negated, denied}
use Rattle.sot_syntax_tree.specs.Trees.{called}
use Rattle.sot_syntax_tree.specs.Trees.{rescaled, chosen, no_tree, one_more}
use Rattle.sot_expression.specs.declared.operators.Infix.{Infix}
use Rattle.sot_expression.specs.declared.operators.Infix.TheVariants.{Joins, Rests}
use Rattle.sot_expression.specs.declared.operators.Opening.{Opening}
use Rattle.sot_expression.specs.declared.operators.Opening.TheVariants as openings
use Rattle.sot_expression.specs.Lexemes.{begins, is_sign, is_keyword, is_number}
use Rattle.sot_expression.specs.Readers.{stuck, deep, Read, ◌>>=◌, expect, name_at, number_at}
use Rattle.sot_expression.specs.Readers.{negative_at}
use Rattle.sot_expression.specs.Operators.{infix_at, opening_at}

-- an expression, or a part of one; `bare` where it is a pair of parentheses
pub record Part : Type 0 where
  pub tree : Tree
  pub levels : ℕ
  pub bare : Bool

abbrev pub leaf : Tree → Part
leaf tree = record { tree = tree; levels = 1; bare = false }

-- one level above its parts
abbrev pub over : Tree → ℕ → Part
over tree levels = record { tree = tree; levels = 1 + levels; bare = false }

-- parentheses directly in parentheses are a level
abbrev pub grouped : Part → Part
grouped p =
    record { tree = p.tree; levels = if p.bare then 1 + p.levels else p.levels; bare = true }

-- what reads a part
abbrev pub Reader : Type 0
Reader = List Lexeme → Read Part

-- what follows needs two levels
abbrev pub within : ℕ → List Lexeme → Read Part → Read Part
within room ts read = if nat_lt room 2 then Err (deep, ts) else read

-- the next token, whatever it is
abbrev pub any_token : List Lexeme → Read Lexeme
any_token [] = Err (stuck, [])
any_token (t ∷ ts) = Ok (t, ts)

-- an operator between two operands, and one with a number, behind a left part
unfoldable pub operation_at : Op → Reader → Part → List Lexeme → Read Part
operation_at op right left ts = do
  t ← any_token ts
  r ← right t.1
  Ok (over (binary op left.tree r.0.tree t.0.at) (max left.levels r.0.levels), r.1)

unfoldable pub remainder_at : Part → List Lexeme → Read Part
remainder_at left ts = do
  t ← any_token ts
  by ← number_at t.1
  Ok (over (rest left.tree by.0 t.0.at) left.levels, by.1)

unfoldable pub joined_at : Infix → Reader → Part → List Lexeme → Read Part
joined_at (Joins op) right left ts = operation_at op right left ts
joined_at Rests right left ts = remainder_at left ts

-- an operator goes on with the left part, where it may nest one level deeper
abbrev pub gone_on : ℕ → (Infix → Read Part) → Option Infix → Part → List Lexeme → Read Part
gone_on room turn None left ts = Ok (left, ts)
gone_on room turn (Some o) left ts = if nat_lt left.levels room then turn o else Err (deep, ts)

-- at most n operators of one tier, grouped to the left
unfoldable pub chain_at : ℕ → ℕ → ℕ → Reader → Part → List Lexeme → Read Part
chain_at zero room tier right left ts = Ok (left, ts)
chain_at (suc n) room tier right left ts =
    gone_on room (λ o. joined_at o right left ts >>= λ p. chain_at n room tier right p.0 p.1)
    (infix_at tier ts) left ts

unfoldable pub number_part : List Lexeme → Read Part
number_part ts = number_at ts >>= λ n. Ok (leaf (number n.0), n.1)

unfoldable pub truth_part : Bool → List Lexeme → Read Part
truth_part value ts = any_token ts >>= λ t. Ok (leaf (truth value t.0.at), t.1)

unfoldable pub field_at : Ident → List Lexeme → Read Part
field_at first ts = do
  dot ← expect (is_sign (codes ".")) ts
  field ← name_at dot.1
  Ok (leaf (named first (Some field.0)), field.1)

unfoldable pub named_at : List Lexeme → Read Part
named_at ts = do
  name ← name_at ts
  if begins (is_sign (codes ".")) name.1 then field_at name.0 name.1 else Ok
      (leaf (named name.0 None), name.1)

-- an expression in parentheses
unfoldable pub group_at : Reader → List Lexeme → Read Part
group_at inner ts = do
  open_ ← any_token ts
  p ← inner open_.1
  close ← expect (is_sign (codes ")")) p.1
  Ok (grouped p.0, close.1)

-- the first argument of a call
unfoldable pub opened_at : Reader → List Lexeme → Read Part
opened_at part ts = expect (is_sign (codes "(")) ts >>= λ s. part s.1

-- a further argument
unfoldable pub further_at : Reader → List Lexeme → Read Part
further_at part ts = expect (is_sign (codes ",")) ts >>= λ s. part s.1

unfoldable pub abs_at : Reader → List Lexeme → Read Part
abs_at part ts = do
  word ← any_token ts
  a ← opened_at part word.1
  close ← expect (is_sign (codes ")")) a.1
  Ok (over (called Abs (one_more a.0.tree no_tree) word.0.at) a.0.levels, close.1)

unfoldable pub pair_at : Func → Reader → List Lexeme → Read Part
pair_at func part ts = do
  word ← any_token ts
  a ← opened_at part word.1
  b ← further_at part a.1
  close ← expect (is_sign (codes ")")) b.1
  Ok (
    over (called func (one_more a.0.tree (one_more b.0.tree no_tree)) word.0.at)
        (max a.0.levels b.0.levels),
    close.1,
  )

-- the second and the third argument of a call, and its end
unfoldable pub limits_at : Reader → List Lexeme → Read (Part × Part)
limits_at part ts = do
  b ← further_at part ts
  c ← further_at part b.1
  close ← expect (is_sign (codes ")")) c.1
  Ok ((b.0, c.0), close.1)

unfoldable pub clamp_at : Reader → List Lexeme → Read Part
clamp_at part ts = do
  word ← any_token ts
  a ← opened_at part word.1
  more ← limits_at part a.1
  Ok (
    over (called Clamp (one_more a.0.tree
        (one_more more.0.0.tree (one_more more.0.1.tree no_tree))) word.0.at)
        (max a.0.levels (max more.0.0.levels more.0.1.levels)),
    more.1,
  )

-- the scale that a call rescales to, and its end
unfoldable pub target_at : List Lexeme → Read Lit
target_at ts = do
  comma ← expect (is_sign (codes ",")) ts
  to ← number_at comma.1
  close ← expect (is_sign (codes ")")) to.1
  Ok (to.0, close.1)

unfoldable pub rescale_at : Reader → List Lexeme → Read Part
rescale_at part ts = do
  word ← any_token ts
  a ← opened_at part word.1
  to ← target_at a.1
  Ok (over (rescaled a.0.tree to.0 word.0.at) a.0.levels, to.1)

-- What is around a part: `below tier` reads a part of that tier, one level deeper; `inner` reads
-- what stands in parentheses.
pub record Around : Type 0 where
  pub room : ℕ
  pub held : Bool
  pub below : ℕ → Reader
  pub inner : Reader

-- parentheses, which take a level where others hold them directly
abbrev pub held_group : ℕ → Bool → Reader → List Lexeme → Read Part
held_group room held inner ts =
    if held then within room ts (group_at inner ts) else group_at inner ts

unfoldable pub atom_from : Opening → Around → List Lexeme → Read Part
atom_from openings.Number a ts = number_part ts
atom_from openings.Name a ts = named_at ts
atom_from openings.Group a ts = held_group a.room a.held a.inner ts
atom_from (openings.Truth value) a ts = truth_part value ts
atom_from (openings.Pair func) a ts = within a.room ts (pair_at func (a.below 7) ts)
atom_from openings.Abs a ts = within a.room ts (abs_at (a.below 7) ts)
atom_from openings.Clamp a ts = within a.room ts (clamp_at (a.below 7) ts)
atom_from openings.Rescale a ts = within a.room ts (rescale_at (a.below 7) ts)
atom_from openings.Other a ts = Err (stuck, ts)

unfoldable pub atom_at : Around → List Lexeme → Read Part
atom_at a ts = atom_from (opening_at ts) a ts

abbrev pub is_other : Opening → Bool
is_other openings.Number = false
is_other openings.Name = false
is_other openings.Group = false
is_other (openings.Truth value) = false
is_other (openings.Pair func) = false
is_other openings.Abs = false
is_other openings.Clamp = false
is_other openings.Rescale = false
is_other openings.Other = true

-- the next token begins an operand
abbrev pub begins_unary : List Lexeme → Bool
begins_unary ts = not (is_other (opening_at ts)) || begins (is_sign (codes "-")) ts

abbrev pub above : (Part → Part) → Read Part → Read Part
above f r = r >>= λ p. Ok (f p.0, p.1)

-- behind a minus
unfoldable pub minus_at : ℕ → Lexeme → Reader → List Lexeme → Read Part
minus_at room minus operand ts =
    if begins is_number ts then (negative_at minus ts >>= λ n. Ok (leaf (number n.0), n.1))
    else if nat_lt room 2 then Err (if begins_unary ts then deep else stuck, ts)
    else above (λ p. over (negated p.tree minus.at) p.levels) (operand ts)

unfoldable pub unary_at : Around → List Lexeme → Read Part
unary_at a ts =
    if begins (is_sign (codes "-")) ts then
    (any_token ts >>= λ t. minus_at a.room t.0 (a.below 0) t.1) else atom_at a ts

-- behind a `not`
unfoldable pub denied_at : Reader → List Lexeme → Read Part
denied_at part ts =
    any_token ts >>= λ t. above (λ p. over (denied p.tree t.0.at) p.levels) (part t.1)

unfoldable pub denial_at : ℕ → Reader → Reader → List Lexeme → Read Part
denial_at room part next ts =
    if begins (is_keyword (codes "not")) ts then within room ts (denied_at part ts) else next ts

unfoldable pub chosen_at : Reader → List Lexeme → Read Part
chosen_at part ts = do
  t ← any_token ts
  c ← part t.1
  then_ ← expect (is_keyword (codes "then")) c.1
  y ← part then_.1
  else_ ← expect (is_keyword (codes "else")) y.1
  n ← part else_.1
  Ok (
    over (chosen c.0.tree y.0.tree n.0.tree t.0.at) (max c.0.levels (max y.0.levels n.0.levels)),
    n.1,
  )

unfoldable pub choice_at : ℕ → Reader → Reader → List Lexeme → Read Part
choice_at room part next ts =
    if begins (is_keyword (codes "if")) ts then within room ts (chosen_at part ts) else next ts

-- how many operators of a tier may stand one after another
abbrev pub turns : ℕ → ℕ → ℕ
turns tier room = if tier == 3 then 1 else room

-- a part of a tier, by what is around it
unfoldable pub tier_at : ℕ → Around → List Lexeme → Read Part
tier_at zero a ts = unary_at a ts
tier_at (suc k) a ts =
    if k == 3 then denial_at a.room (a.below 4) (tier_at k a) ts
    else if k == 6 then choice_at a.room (a.below 7) (tier_at k a) ts
    else tier_at k a ts >>= λ p. chain_at (turns (suc k) a.room) a.room (suc k) (a.below k) p.0 p.1

-- A part of a tier, of at most so many levels; `held` directly behind a parenthesis that groups.
unfoldable pub part_at : ℕ → Bool → ℕ → List Lexeme → Read Part
part_at zero held tier ts = Err (deep, ts)
part_at (suc r) true tier ts =
    tier_at tier (record {
      room = suc r;
      held = true;
      below = part_at r false;
      inner = part_at r true 7;
    }) ts
part_at (suc r) false tier ts =
    tier_at tier (record {
      room = suc r;
      held = false;
      below = part_at r false;
      inner =
          λ us. tier_at 7 (record {
            room = suc r;
            held = true;
            below = part_at r false;
            inner = part_at r true 7;
          }) us;
    }) ts

-- an expression of at most so many levels
unfoldable pub expression_at : ℕ → List Lexeme → Read Part
expression_at room ts = part_at room false 7 ts

-- the tree of it
unfoldable pub tree_at : ℕ → List Lexeme → Read Tree
tree_at room ts = do
  part ← expression_at room ts
  Ok (part.0.tree, part.1)
