-- The parts and the clauses of declarations.
use Rattle.std.proofs.Common.{ℕ, List, [], ◌∷◌, ◌++◌, Option, Some, codes, refl, ap, ap₂}
use Rattle.std.specs.Option.{option_map}
use Rattle.std.proofs.Math.Nat.{le_refl}
use Rattle.sot_text.specs.Reading.{Lexeme}
use Rattle.sot_syntax_tree.specs.declared.tree.Ident.{Ident}
use Rattle.sot_syntax_tree.specs.declared.tree.Lit.{Lit}
use Rattle.sot_syntax_tree.specs.declared.tree.Scalar.{Scalar}
use Rattle.sot_syntax_tree.specs.declared.tree.Const.{Const}
use Rattle.sot_syntax_tree.specs.declared.tree.StateDecl.{StateDecl}
use Rattle.sot_syntax_tree.specs.Trees.{Tree, Form, one, fields, Start, one_value, values, Next, Local}
use Rattle.sot_parser.specs.Pieces.{Sign, number_of, spelled_number, Separated, spelled_separated, separated_of, spelled_scalar, scalar_of, FieldForm}
use Rattle.sot_parser.specs.Pieces.{spelled_field, field_of, ConstForm, spelled_const, const_of, RoleForm, spelled_role, role_of, TimingForm, spelled_timing}
use Rattle.sot_parser.specs.Pieces.{timing_of}
use Rattle.sot_parser.specs.Statements.{spelled_expression, expression_of}
use Rattle.sot_parser.specs.Declarations.{ShapeForm, one_scalar, a_record, spelled_shape, shape_of, InitForm, one_const, consts, spelled_init, init_of}
use Rattle.sot_parser.specs.Declarations.{ScaleForm, whole, scaled, spelled_scale, scale_of, StateForm, spelled_state, state_of, NextForm, spelled_next}
use Rattle.sot_parser.specs.Declarations.{next_of, next_levels, LocalForm, spelled_local, local_of}
use Rattle.sot_print.specs.declared.gap.Gap.{Gap}
use Rattle.sot_print.specs.declared.gap.Gap.TheVariants.{Touching, Space}
use Rattle.sot_print.specs.Words.{Word, keyword, sign}
use Rattle.sot_print.specs.Leaves.{literal_words, ident_words, constant_words, listed, scalar_words, field_words}
use Rattle.sot_print.specs.Expressions.{expression_words}
use Rattle.sot_print.specs.Statements.{semicolon}
use Rattle.sot_print.specs.Canonical.{clause, shape_words, start_words, state_type_words, state_words, next_clause, timing_words, local_clause}
use Rattle.sot_syntax_tree.specs.Formed as formed
use Rattle.sot_law_print_parse.specs.Unplaced.{nowhere, unplaced_name, unplaced_literal, unplaced_shape, unplaced_start, unplaced_state, unplaced_next}
use Rattle.sot_law_print_parse.specs.Unplaced.{unplaced_local}
use Rattle.sot_law_print_parse.proofs.Takes.{Takes, split, a_keyword, a_sign, a_name, led, onto}
use Rattle.sot_law_print_parse.proofs.Kept.{Production, Again, Kept, Keeps, no_level, also}
use Rattle.sot_law_print_parse.proofs.Leaves.{same_name, name_text, numbers, numbers_keep, fixes_keep, scalars, scalars_keep, typed_names, typed_names_keep}
use Rattle.sot_law_print_parse.proofs.Leaves.{constants, constants_keep}
use Rattle.sot_law_print_parse.proofs.Lists.{lists, lists_keep}
use Rattle.sot_law_print_parse.proofs.Expressions.{expressions, expressions_keep}

-- type
abbrev pub shapes : Production (Unit {0}) ShapeForm Form
shapes = record { spelled = spelled_shape; tree = shape_of; unplaced = unplaced_shape; levels = no_level; Holds = formed.IsForm; words = λ _ s. shape_words s }

record_again : (opening : Sign (codes "{")) (fs : Separated (codes ",") FieldForm) (closing : Sign (codes "}")) → Kept (lists typed_names) fs
    → (ts us : List Lexeme) → Takes ts (shape_words (shape_of (a_record opening fs closing))) us → Again shapes (a_record opening fs closing) ts us
record_again opening fs closing kept ts us h =
    let parts = split (listed field_words Touching (separated_of field_of fs)) (sign Touching (codes "}") ∷ []) h.0 us h.2 in
    let a = kept.again Touching h.0 parts.0 parts.1 in
    let last = parts.2 in
    record {
      form = a_record (a_sign h.1) a.form (a_sign last.1);
      tokens = led h.1 (onto (spelled_separated spelled_field a.form) a.tokens (led last.1 last.2));
      same = ap fields a.same;
      nests = le_refl 0;
    }

pub shapes_keep : Keeps shapes
shapes_keep (one_scalar s) more texts =
    let kept = scalars_keep s more texts in (
      record {
        holds = kept.0.holds;
        again = λ _ ts us h.
            let a = kept.0.again tt ts us h in
            record { form = one_scalar a.form; tokens = a.tokens; same = ap one a.same; nests = le_refl 0 };
      },
      kept.1,
    )
shapes_keep (a_record opening fs closing) more texts =
    let kept = lists_keep typed_names typed_names_keep fs (closing.token ∷ more) texts.1 in
    (record { holds = kept.0.holds; again = λ _ ts us h. record_again opening fs closing kept.0 ts us h }, kept.1.1)

-- value
abbrev pub starts : Production (Unit {0}) InitForm Start
starts = record { spelled = spelled_init; tree = init_of; unplaced = unplaced_start; levels = no_level; Holds = formed.IsStart; words = λ _ s. start_words s }

values_again : (opening : Sign (codes "{")) (cs : Separated (codes ",") ConstForm) (closing : Sign (codes "}")) → Kept (lists constants) cs
    → (ts us : List Lexeme) → Takes ts (start_words (init_of (consts opening cs closing))) us → Again starts (consts opening cs closing) ts us
values_again opening cs closing kept ts us h =
    let parts = split (listed constant_words Touching (separated_of const_of cs)) (sign Touching (codes "}") ∷ []) h.0 us h.2 in
    let a = kept.again Touching h.0 parts.0 parts.1 in
    let last = parts.2 in
    record {
      form = consts (a_sign h.1) a.form (a_sign last.1);
      tokens = led h.1 (onto (spelled_separated spelled_const a.form) a.tokens (led last.1 last.2));
      same = ap (λ (xs : List Const). values xs nowhere) a.same;
      nests = le_refl 0;
    }

pub starts_keep : Keeps starts
starts_keep (one_const c) more texts =
    let kept = constants_keep c more texts in (
      record {
        holds = kept.0.holds;
        again = λ _ ts us h.
            let a = kept.0.again Space ts us h in
            record { form = one_const a.form; tokens = a.tokens; same = ap one_value a.same; nests = le_refl 0 };
      },
      kept.1,
    )
starts_keep (consts opening cs closing) more texts =
    let kept = lists_keep constants constants_keep cs (closing.token ∷ more) texts.1 in
    (record { holds = kept.0.holds; again = λ _ ts us h. values_again opening cs closing kept.0 ts us h }, kept.1.1)

-- a state variable
abbrev pub scales : Production (Unit {0}) ScaleForm (Option Lit)
scales =
    record {
      spelled = spelled_scale;
      tree = scale_of;
      unplaced = option_map unplaced_literal;
      levels = no_level;
      Holds = formed.IfThere formed.IsNumber;
      words = λ _ s. state_type_words s;
    }

scales_keep : Keeps scales
scales_keep (whole word) more texts = (
  record {
    holds = tt;
    again = λ _ ts us h. record { form = whole (a_keyword h.1); tokens = led h.1 h.2; same = refl; nests = le_refl 0 };
  },
  texts.1,
)
scales_keep (scaled f) more texts =
    let kept = fixes_keep f more texts in (
      record {
        holds = kept.0.holds;
        again = λ _ ts us h.
            let a = kept.0.again tt ts us h in
            record { form = scaled a.form; tokens = a.tokens; same = ap (λ (l : Lit). Some l) a.same; nests = le_refl 0 };
      },
      kept.1,
    )

abbrev pub states : Production Gap StateForm StateDecl
states = record { spelled = spelled_state; tree = state_of; unplaced = unplaced_state; levels = no_level; Holds = formed.IsState; words = state_words }

pub states_keep : Keeps states
states_keep s more texts =
    let scale = scales_keep s.scale more texts.1.1 in (
      record {
        holds = (name_text s.name.token s.name.is texts.0, scale.0.holds);
        again = λ gap ts us h.
            let colon = h.2 in
            let a = scale.0.again tt colon.0 us colon.2 in
            record {
              form = record { name = a_name h.1; colon = a_sign colon.1; scale = a.form };
              tokens = led h.1 (led colon.1 a.tokens);
              same = ap₂ (λ (x : Ident) (y : Option Lit). record { name = x; scale = y }) (same_name h.1.text) a.same;
              nests = le_refl 0;
            };
      },
      scale.1,
    )

-- "next" NAME "=" expr ";"
abbrev pub nexts : Production (Unit {0}) NextForm Next
nexts = record { spelled = spelled_next; tree = next_of; unplaced = unplaced_next; levels = next_levels; Holds = formed.IsNext; words = λ _ n. next_clause n }

abbrev next_with : Ident → Tree → Next
next_with x y = record { name = x; value = y }

next_again : (n : NextForm) → Kept expressions n.value → (ts us : List Lexeme) → Takes ts (next_clause (next_of n)) us → Again nexts n ts us
next_again n value ts us h =
    let own = h.2 in
    let equals = own.2 in
    let parts = split (expression_words (expression_of n.value) Space) semicolon equals.0 us equals.2 in
    let a = value.again Space equals.0 parts.0 parts.1 in
    let last = parts.2 in
    record {
      form = record { word = a_keyword h.1; name = a_name own.1; equals = a_sign equals.1; value = a.form; semicolon = a_sign last.1 };
      tokens = led h.1 (led own.1 (led equals.1 (onto (spelled_expression a.form) a.tokens (led last.1 last.2))));
      same = ap₂ next_with (same_name own.1.text) a.same;
      nests = a.nests;
    }

pub nexts_keep : Keeps nexts
nexts_keep n more texts =
    let value = expressions_keep n.value (n.semicolon.token ∷ more) texts.1.1.1 in
    (record { holds = (name_text n.name.token n.name.is texts.1.0, value.0.holds); again = λ _ ts us h. next_again n value.0 ts us h }, value.1.1)

-- "local" NAME ":" scalar "=" const ";"
abbrev pub locals : Production (Unit {0}) LocalForm Local
locals =
    record { spelled = spelled_local; tree = local_of; unplaced = unplaced_local; levels = no_level; Holds = formed.IsLocal; words = λ _ l. local_clause l }

abbrev local_with : Ident → Scalar → Const → Local
local_with x y z = record { name = x; scalar = y; init = z }

local_again : (l : LocalForm) → Kept scalars l.scalar → Kept constants l.init → (ts us : List Lexeme) → Takes ts (local_clause (local_of l)) us
    → Again locals l ts us
local_again l scalar init ts us h =
    let type_words : List Word = scalar_words (scalar_of l.scalar) in
    let value_words : List Word = constant_words Space (const_of l.init) in
    let own = h.2 in
    let colon = own.2 in
    let outer = split (type_words ++ sign Space (codes "=") ∷ value_words) semicolon colon.0 us colon.2 in
    let inner = split type_words (sign Space (codes "=") ∷ value_words) colon.0 outer.0 outer.1 in
    let a = scalar.again tt colon.0 inner.0 inner.1 in
    let equals = inner.2 in
    let b = init.again Space equals.0 outer.0 equals.2 in
    let last = outer.2 in
    record {
      form =
          record {
            word = a_keyword h.1;
            name = a_name own.1;
            colon = a_sign colon.1;
            scalar = a.form;
            equals = a_sign equals.1;
            init = b.form;
            semicolon = a_sign last.1;
          };
      tokens =
          led h.1 (led own.1 (led colon.1 (onto (spelled_scalar a.form) a.tokens (led equals.1 (onto (spelled_const b.form) b.tokens (led last.1 last.2))))));
      same = also (ap₂ local_with (same_name own.1.text) a.same) b.same;
      nests = le_refl 0;
    }

pub locals_keep : Keeps locals
locals_keep l more texts =
    let scalar = scalars_keep l.scalar (l.equals.token ∷ spelled_const l.init (l.semicolon.token ∷ more)) texts.1.1.1 in
    let init = constants_keep l.init (l.semicolon.token ∷ more) scalar.1.1 in (
      record { holds = (name_text l.name.token l.name.is texts.1.0, scalar.0.holds, init.0.holds); again = λ _ ts us h. local_again l scalar.0 init.0 ts us h },
      init.1.1,
    )

-- a keyword, a name and ";"
abbrev pub roles : (text : List ℕ) → Production (Unit {0}) (RoleForm text) Ident
roles text =
    record {
      spelled = spelled_role;
      tree = role_of;
      unplaced = unplaced_name;
      levels = no_level;
      Holds = formed.IsName;
      words = λ _ i. clause text (ident_words Space i);
    }

pub roles_keep : (text : List ℕ) → Keeps (roles text)
roles_keep text r more texts = (
  record {
    holds = name_text r.name.token r.name.is texts.1.0;
    again = λ _ ts us h.
        let own = h.2 in
        let last = own.2 in
        record {
          form = record { word = a_keyword h.1; name = a_name own.1; semicolon = a_sign last.1 };
          tokens = led h.1 (led own.1 (led last.1 last.2));
          same = same_name own.1.text;
          nests = le_refl 0;
        };
  },
  texts.1.1.1,
)

-- timing
abbrev pub timings : Production Gap TimingForm (Lit × Lit)
timings = record {
  spelled = spelled_timing;
  tree = timing_of;
  unplaced = λ t. (unplaced_literal t.0, unplaced_literal t.1);
  levels = no_level;
  Holds = λ t. formed.IsNumber t.0 × formed.IsNumber t.1;
  words = λ gap t. timing_words gap t.0 t.1;
}

abbrev two : Lit → Lit → Lit × Lit
two x y = (x, y)

timing_again : (t : TimingForm) → Kept numbers t.period → Kept numbers t.offset → (gap : Gap) (ts us : List Lexeme)
    → Takes ts (timing_words gap (number_of t.period) (number_of t.offset)) us → Again timings t ts us
timing_again t period offset gap ts us h =
    let parts = split (literal_words Space (number_of t.period)) (keyword Space (codes "offset") ∷ literal_words Space (number_of t.offset)) h.0 us h.2 in
    let a = period.again Space h.0 parts.0 parts.1 in
    let word = parts.2 in
    let b = offset.again Space word.0 us word.2 in
    record {
      form = record { period_word = a_keyword h.1; period = a.form; offset_word = a_keyword word.1; offset = b.form };
      tokens = led h.1 (onto (spelled_number a.form) a.tokens (led word.1 b.tokens));
      same = ap₂ two a.same b.same;
      nests = le_refl 0;
    }

pub timings_keep : Keeps timings
timings_keep t more texts =
    let period = numbers_keep t.period (t.offset_word.token ∷ t.offset.token ∷ more) texts.1 in
    let offset = numbers_keep t.offset more period.1.1 in
    (record { holds = (period.0.holds, offset.0.holds); again = timing_again t period.0 offset.0 }, offset.1)
