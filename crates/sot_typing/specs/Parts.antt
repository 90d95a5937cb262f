-- What the parts of a declaration are to satisfy so that they have tables: above all, scales are at
-- most 6. The parts of a program of the grammar without faults do.
use Rattle.std.specs.Prelude.{◌≡◌, ℕ, ◌≤◌, ◌≤ℤ◌, false, List, [], ◌∷◌, map, zip, length, Some}
use Rattle.std.specs.List.{All}
use Rattle.sot_syntax_tree.specs.declared.tree.Bounds.{Bounds}
use Rattle.sot_syntax_tree.specs.declared.tree.Const.{Const}
use Rattle.sot_syntax_tree.specs.declared.tree.Field.{Field}
use Rattle.sot_syntax_tree.specs.declared.tree.StateDecl.{StateDecl}
use Rattle.sot_lang.specs.declared.tables.ScalarInfo.{ScalarInfo}
use Rattle.sot_syntax_tree.specs.Trees.{Form, one, fields, Topic, Local, Area}
use Rattle.sot_rules.specs.Sorts.{state_sort}
use Rattle.sot_typing.specs.Terms.{sort_scale}
use Rattle.sot_rules.specs.Tests.{counts_differ, starts}
use Rattle.sot_typing.specs.Resolved.{scalar_scale, scalar_count, scalar_info, field_names}

pub record StateFits (s : StateDecl) : Type 0 where
  pub scale : sort_scale (state_sort s) ≤ 6

pub record FieldFits (f : Field) : Type 0 where
  pub scale : scalar_scale f.scalar ≤ 6

pub record LocalFits (l : Local) : Type 0 where
  pub scale : scalar_scale l.scalar ≤ 6

abbrev pub FormFits : Form → Type 0
FormFits (one s) = scalar_scale s ≤ 6
FormFits (fields fs) = All FieldFits fs

pub record TopicFits (t : Topic) : Type 0 where
  pub shape : FormFits t.shape
  pub few : scalar_count t ≤ 8
  pub starts : counts_differ t ≡ false

-- the scalars of a topic with this number
abbrev pub scalars_at : ℕ → Topic → List ScalarInfo
scalars_at topic t =
    map (λ x. scalar_info topic x.0 x.1.0 x.1.1) (zip (field_names t.shape) (starts t))

-- the scalars of a record's fields with these initial values
abbrev pub field_scalars : ℕ → List Field → List Const → List ScalarInfo
field_scalars topic [] cs = []
field_scalars topic (f ∷ fs) [] = []
field_scalars topic (f ∷ fs) (c ∷ cs) =
    scalar_info topic (Some f.name.name) f.scalar c ∷ field_scalars topic fs cs

-- the low end of a side is at most its high end
abbrev pub SideFits : Bounds → Type 0
SideFits b = b.lo.mantissa ≤ℤ b.hi.mantissa

-- a box of this width
pub record AreaFits (sides_each : ℕ) (a : Area) : Type 0 where
  pub width : length a.sides ≡ sides_each
  pub sides : All SideFits a.sides
