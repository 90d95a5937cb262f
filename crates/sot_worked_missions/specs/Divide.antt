-- A node that divides by what it reads, or by `max(n, 1)` in place of `n`. Places are those of this
-- text, whose first line is line 1:
--   topic n: int[0..5] = 0;
--   topic k: int[0..10] = 0;
--   node calc period 1 offset 0 {
--     reads n;
--     writes k;
--     do {
--       publish k = 10 / n;
--     }
--   }
use Rattle.std.specs.Prelude.{◌≡◌, pos, List, [], ◌∷◌}
use Rattle.std.specs.Global.{Vec}
use Rattle.sot_syntax_tree.specs.declared.operator.Func.TheVariants.{Max}
use Rattle.sot_syntax_tree.specs.declared.operator.Op.TheVariants.{Div}
use Rattle.sot_lang.specs.declared.term.Term.{Term, Call}
use Rattle.sot_lang.specs.declared.term.Term.TheVariants.{Number, Place}
use Rattle.sot_lang.specs.declared.act.Act.{Act}
use Rattle.sot_lang.specs.declared.act.Act.TheVariants.{Publish}
use Rattle.sot_lang.specs.declared.tables.Slot.TheVariants.{Scalar}
use Rattle.sot_lang.specs.declared.tables.NodeInfo.{NodeInfo}
use Rattle.sot_lang.specs.Tables.{Tables}
use Rattle.sot_lang.specs.TableRules.{IsCoded}
use Rattle.sot_worked_missions.specs.Parts.{place, one_topic, whole_number, IsBinary}

-- n
abbrev pub IsWhatIsRead : Term → Type 0
IsWhatIsRead t = t ≡ Place 0

-- max(n, 1), wherever its parts stand in memory
abbrev pub IsAtLeastOne : Term → Type 0
IsAtLeastOne t =
    (parts : Vec Term) × (parts.items ≡ Place 0 ∷ Number (pos 1) ∷ [])
    × (t ≡ Call Max parts (place 7 22))

-- 10 divided by such an expression: the division stands at line 7, column 20
abbrev pub IsQuotient : (Term → Type 0) → Term → Type 0
IsQuotient IsDivisor t = (d : Term) × IsDivisor d × IsBinary Div (Number (pos 10)) d (place 7 20) t

-- the quotient is published as k
abbrev pub IsDivision : (Term → Type 0) → List Act → Type 0
IsDivision IsDivisor acts =
    (t : Term) × IsQuotient IsDivisor t × (acts ≡ Publish 0 t (place 7 13) ∷ [])

pub record IsCalc (IsDivisor : Term → Type 0) (node : NodeInfo) : Type 0 where
  pub name : node.name ≡ 99 ∷ 97 ∷ 108 ∷ 99 ∷ []
  pub period : node.period ≡ 1
  pub offset : node.offset ≡ 0
  pub reads : node.reads.items ≡ Scalar 0 ∷ []
  pub writes : node.writes.items ≡ 1 ∷ []
  pub locals : node.locals.items ≡ []
  pub body : (acts : List Act) × IsCoded node acts × IsDivision IsDivisor acts

-- the tables, of a node with such a divisor
pub record IsDivide (IsDivisor : Term → Type 0) (p : Tables) : Type 0 where
  pub topics : p.topics ≡ one_topic (110 ∷ []) 0 ∷ one_topic (107 ∷ []) 1 ∷ []
  pub scalars : p.scalars ≡ whole_number 0 (pos 0) (pos 5) ∷ whole_number 1 (pos 0) (pos 10) ∷ []
  pub plants : p.plants ≡ []
  pub nodes : (calc : NodeInfo) × IsCalc IsDivisor calc × (p.nodes ≡ calc ∷ [])
  pub modules : p.modules ≡ []
