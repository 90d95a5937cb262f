-- Worked texts, as statements that functions of this crate prove.
use Rattle.std.specs.Prelude.{◌≡◌, ℕ, ◌^◌, ℤ, pos, neg_ℤ, true, false, List, [], ◌∷◌, ◌++◌, None}
use Rattle.std.specs.Prelude.{Some, codes}
use Rattle.sot_text.specs.declared.token.Span.{Span}
use Rattle.sot_syntax_tree.specs.declared.operator.Op.TheVariants.{Add, Sub, Mul, Less, Equal, And}
use Rattle.sot_syntax_tree.specs.declared.operator.Func.TheVariants.{Min, Abs, Clamp}
use Rattle.sot_syntax_tree.specs.declared.tree.Ident.{Ident}
use Rattle.sot_syntax_tree.specs.declared.tree.Lit.{Lit}
use Rattle.sot_syntax_tree.specs.declared.tree.Bounds.{Bounds}
use Rattle.sot_syntax_tree.specs.declared.tree.Scalar.TheVariants.{Int, Fix, Bool}
use Rattle.sot_syntax_tree.specs.declared.tree.Const.TheVariants.{Number, Truth}
use Rattle.sot_syntax_tree.specs.Trees.{Tree, number, truth, named, binary, rest, negated, denied}
use Rattle.sot_syntax_tree.specs.Trees.{called}
use Rattle.sot_syntax_tree.specs.Trees.{rescaled, chosen, no_tree, one_more, Block, assigned}
use Rattle.sot_syntax_tree.specs.Trees.{published}
use Rattle.sot_syntax_tree.specs.Trees.{branched, repeated, no_statement, statement, one, fields}
use Rattle.sot_syntax_tree.specs.Trees.{one_value, values, Declaration, a_topic, a_plant, a_node}
use Rattle.sot_syntax_tree.specs.Trees.{a_module}
use Rattle.sot_print.specs.declared.gap.Gap.TheVariants.{Touching}
use Rattle.sot_print.specs.Words.{laid}
use Rattle.sot_print.specs.Leaves.{literal_words}
use Rattle.sot_print.specs.Expressions.{expression_words}
use Rattle.sot_print.specs.Canonical.{canonical}

-- a place in a text; canonical texts do not tell places apart
abbrev pub somewhere : Span
somewhere = record { line = 1; column = 1 }

abbrev pub ident : List ℕ → Ident
ident text = record { name = text; at = somewhere }

abbrev pub lit : ℤ → ℕ → Lit
lit mantissa scale = record { mantissa = mantissa; scale = scale; at = somewhere }

abbrev pub whole : ℕ → Lit
whole n = lit (pos n) 0

abbrev pub minus : ℕ → Lit
minus n = lit (neg_ℤ (pos n)) 0

abbrev pub bounds : Lit → Lit → Bounds
bounds lo hi = record { lo = lo; hi = hi }

-- lines, each with its line end
abbrev pub lines : List (List ℕ) → List ℕ
lines [] = []
lines (l ∷ ls) = l ++ 10 ∷ lines ls

abbrev pub prints : List Declaration → List (List ℕ) → Type 0
prints ds ls = canonical (record { decls = ds }) ≡ lines ls

-- the minus, the whole part without needless zeros, and as many decimals as the scale says
abbrev pub is_shown : Lit → List ℕ → Type 0
is_shown l text = laid (literal_words Touching l) ≡ text

abbrev pub Literals : Type 0
Literals =
    is_shown (lit (neg_ℤ (pos 5)) 2) (codes "-0.05") × is_shown (lit (pos 700) 2) (codes "7.00")
    × is_shown (whole 0) (codes "0") × is_shown (minus 120) (codes "-120")
    × is_shown (lit (pos (10 ^ 12)) 6) (codes "1000000.000000")
    × is_shown (lit (neg_ℤ (pos 1)) 6) (codes "-0.000001") × is_shown (lit (pos 0) 1) (codes "0.0")

abbrev pub x : Tree
x = named (ident (codes "x")) None

abbrev pub y : Tree
y = named (ident (codes "p")) (Some (ident (codes "y")))

abbrev pub five : Tree
five = number (whole 5)

abbrev pub sum : Tree → Tree → Tree
sum a b = binary Add a b somewhere

abbrev pub reads : Tree → List ℕ → Type 0
reads e text = laid (expression_words e Touching) ≡ text

-- literals, truth values, names and calls stand bare; other operands in parentheses
abbrev pub Operands : Type 0
Operands =
    reads (sum x y) (codes "x + p.y") × reads (binary Sub x (number (minus 5)) somewhere)
    (codes "x - -5")
    × reads (binary Equal (truth true somewhere) (truth false somewhere) somewhere)
    (codes "true == false")
    × reads (binary Mul (sum x y) (sum y x) somewhere) (codes "(x + p.y) * (p.y + x)")
    × reads (binary And (denied x somewhere) (negated x somewhere) somewhere)
    (codes "(not (x)) and (-(x))")
    × reads (rest (rest x (whole 7) somewhere) (whole 3) somewhere) (codes "(x % 7) % 3")
    × reads (sum (called Abs (one_more x no_tree) somewhere) (rescaled x (whole 2) somewhere))
    (codes "abs(x) + rescale(x, 2)")

-- the operand of a negation and of `not` is always in parentheses
abbrev pub Negations : Type 0
Negations =
    reads (negated five somewhere) (codes "-(5)")
    × reads (negated (number (minus 5)) somewhere) (codes "-(-5)")
    × reads (number (minus 5)) (codes "-5")
    × reads (negated (negated x somewhere) somewhere) (codes "-(-(x))")
    × reads (denied (denied x somewhere) somewhere) (codes "not (not (x))")

abbrev pub CallsAndChoices : Type 0
CallsAndChoices =
    reads (called Clamp (one_more (sum x five) (one_more (number (minus 2)) (one_more x no_tree)))
    somewhere) (codes "clamp(x + 5, -2, x)")
    × reads (called Min (one_more x (one_more five no_tree)) somewhere) (codes "min(x, 5)")
    × reads (chosen (binary Less x five somewhere) (number (minus 2)) (chosen x five y somewhere)
    somewhere) (codes "if (x < 5) then -2 else (if x then 5 else p.y)")
    × reads (sum (chosen x five five somewhere) x) (codes "(if x then 5 else 5) + x")

abbrev pub small_topic : Declaration
small_topic =
    a_topic (record {
      outside = false;
      name = ident (codes "a");
      shape = one (Int (bounds (whole 0) (whole 1)));
      init = one_value (Number (whole 0));
    })

-- the empty program prints nothing
abbrev pub Topics : Type 0
Topics =
    prints [] [] × prints (small_topic ∷ []) (codes "topic a: int[0..1] = 0;" ∷ [])
    × prints
    (a_topic (record {
      outside = true;
      name = ident (codes "b");
      shape =
          one (Fix (whole 2) (bounds (lit (neg_ℤ (pos 5)) 2) (lit (pos 700) 2)));
      init =
          one_value (Number (lit (pos 0) 2));
    })
    ∷ a_topic (record {
      outside = false;
      name = ident (codes "r");
      shape =
          fields (record { name = ident (codes "x"); scalar = Int (bounds (minus 1) (whole 1)) } ∷
          record { name = ident (codes "z"); scalar = Bool somewhere } ∷ []);
      init = values (Number (whole 0) ∷ Truth false somewhere ∷ []) somewhere;
    }) ∷ [])
    (codes "environment topic b: fix(2)[-0.05..7.00] = 0.00;" ∷ codes
    "topic r: {x: int[-1..1], z: bool} = {0, false};" ∷ [])

-- clauses that are left out print nothing
abbrev pub Plants : Type 0
Plants =
    prints
    (a_plant (record {
      name = ident (codes "p");
      states =
          record { name = ident (codes "x"); scale = None } ∷ record
          { name = ident (codes "v"); scale = Some (whole 2) } ∷ [];
      inputs = ident (codes "a") ∷ ident (codes "b") ∷ [];
      sees = ident (codes "q") ∷ [];
      noise =
          record { name = ident (codes "w"); scalar = Int (bounds (minus 1) (whole 1)) } ∷ record
          { name = ident (codes "u"); scalar = Int (bounds (whole 0) (whole 1)) } ∷ [];
      next = record { name = ident (codes "x"); value = sum x x } ∷ [];
      end = somewhere;
    })
    ∷ a_plant (record {
      name = ident (codes "q");
      states =
          record { name = ident (codes "y"); scale = None } ∷ [];
      inputs =
          [];
      sees = [];
      noise = [];
      next = [];
      end = somewhere;
    })
    ∷ [])
    (codes "plant p {" ∷ codes "  state x: int, v: fix(2);" ∷ codes "  input a, b;" ∷ codes
    "  sees q;" ∷ codes "  noise w: int[-1..1], u: int[0..1];" ∷ codes "  next x = x + x;" ∷
    codes "}"
    ∷ codes "plant q {" ∷ codes "  state y: int;" ∷ codes "}" ∷ [])

abbrev pub set : Block
set = statement (assigned (ident (codes "l")) five) no_statement

-- blocks are two spaces deeper, an empty `else` is left out and an empty block keeps its braces
abbrev pub Nodes : Type 0
Nodes =
    prints
    (a_node (record {
      name = ident (codes "n");
      period = whole 1;
      offset = whole 0;
      reads = ident (codes "a") ∷ ident (codes "p") ∷ [];
      writes = ident (codes "r") ∷ [];
      locals =
          record {
            name = ident (codes "l");
            scalar = Int (bounds (whole 0) (whole 5));
            init =
                Number (whole 3);
          } ∷ record {
            name = ident (codes "k");
            scalar = Bool somewhere;
            init = Truth true somewhere;
          } ∷ [];
      body = Some (
          statement (branched x (statement
          (published (ident (codes "r")) (Some (ident (codes "x"))) y) no_statement)
          no_statement somewhere)
          (statement (branched x no_statement
          (statement (published (ident (codes "t")) None x) no_statement) somewhere)
          (statement (repeated (whole 3) (statement (branched x set set somewhere) no_statement)
          somewhere) no_statement)));
    })
    ∷ a_node (record {
      name = ident (codes "e");
      period = whole 5;
      offset = whole 1;
      reads = [];
      writes = [];
      locals = [];
      body = Some no_statement;
    })
    ∷ a_node (record {
      name = ident (codes "f");
      period = whole 5;
      offset = whole 1;
      reads = ident (codes "a") ∷ [];
      writes = [];
      locals = [];
      body = None;
    }) ∷ [])
    (codes "node n period 1 offset 0 {" ∷ codes "  reads a, p;" ∷ codes "  writes r;" ∷ codes
    "  local l: int[0..5] = 3;" ∷ codes "  local k: bool = true;" ∷ codes "  do {"
    ∷ codes "    if x {" ∷ codes "      publish r.x = p.y;" ∷ codes "    }"
    ∷ codes "    if x {" ∷ codes "    } else {" ∷ codes "      publish t = x;" ∷ codes "    }"
    ∷ codes "    repeat 3 {" ∷ codes "      if x {" ∷ codes "        l := 5;" ∷ codes
    "      } else {" ∷ codes "        l := 5;" ∷ codes "      }" ∷ codes "    }" ∷ codes "  }" ∷
    codes "}"
    ∷ codes "node e period 5 offset 1 {" ∷ codes "  do {" ∷ codes "  }" ∷ codes "}" ∷ codes
    "external f period 5 offset 1 {" ∷ codes "  reads a;" ∷ codes "}" ∷ [])

abbrev pub Modules : Type 0
Modules =
    prints
    (a_module (record {
      name = ident (codes "m");
      ac = ident (codes "n");
      sc = ident (codes "x");
      period = whole 4;
      offset = whole 0;
      plant = ident (codes "p");
      safe =
          record {
            sides = bounds (minus 1) (whole 1) ∷ bounds (lit (pos 5) 1) (lit (pos 10) 1) ∷
                [];
            at =
                somewhere;
          } ∷ record { sides = bounds (whole 0) (whole 1) ∷ []; at = somewhere } ∷ [];
      safer = [];
    }) ∷ [])
    (codes "module m {" ∷ codes "  ac n;" ∷ codes "  sc x;" ∷ codes "  period 4 offset 0;" ∷ codes
    "  plant p;" ∷ codes "  safe [-1..1, 0.5..1.0] | [0..1];" ∷ codes "  safer none;" ∷ codes
    "}" ∷ [])
