-- What two programs that are the same agree in.
use Rattle.std.proofs.Common.{◌≡◌, ℕ, ℤ, pos, int_lt, List, [], ◌∷◌, get_or, ap}
use Rattle.sot_syntax_tree.specs.declared.tree.Lit.{Lit}
use Rattle.sot_syntax_tree.specs.Trees.{Declaration, a_topic, a_plant, a_node, a_module, Program}
use Rattle.sot_law_print_parse.specs.Unplaced.{nowhere, AreSame}
use Rattle.sot_law_print_parse.specs.Examples.{literal}

abbrev a_literal : ℤ → ℕ → Lit
a_literal mantissa scale = record { mantissa = mantissa; scale = scale; at = nowhere }

same_literals : (m n : ℤ) (s t : ℕ) → AreSame (literal m s) (literal n t) → a_literal m s ≡ a_literal n t
same_literals m n s t e = cc

pub same_mantissas : (m n : ℤ) (s t : ℕ) → AreSame (literal m s) (literal n t) → m ≡ n
same_mantissas m n s t e = ap (λ (l : Lit). l.mantissa) (same_literals m n s t e)

pub same_scales : (m n : ℤ) (s t : ℕ) → AreSame (literal m s) (literal n t) → s ≡ t
same_scales m n s t e = ap (λ (l : Lit). l.scale) (same_literals m n s t e)

-- the first byte of the name of the first declaration, if that is a topic
abbrev first_byte : List Declaration → ℕ
first_byte [] = 0
first_byte (a_topic t ∷ ds) = get_or t.name.name 0 0
first_byte (a_plant p ∷ ds) = 0
first_byte (a_node n ∷ ds) = 0
first_byte (a_module m ∷ ds) = 0

abbrev pub name_byte : Program → ℕ
name_byte p = first_byte p.decls

pub same_signs : (m n : ℤ) → m ≡ n → int_lt m (pos 0) ≡ int_lt n (pos 0)
same_signs m n e = ap (λ z. int_lt z (pos 0)) e
