-- Parts of declarations that functions of their own read, as forms.
use Rattle.std.proofs.Common.{List, [], ◌∷◌, codes, map, Option, None}
use Rattle.sot_text.specs.Reading.{Lexeme}
use Rattle.sot_syntax_tree.specs.declared.tree.Ident.{Ident}
use Rattle.sot_syntax_tree.specs.declared.tree.Lit.{Lit}
use Rattle.sot_syntax_tree.specs.declared.tree.Field.{Field}
use Rattle.sot_syntax_tree.specs.declared.tree.StateDecl.{StateDecl}
use Rattle.sot_syntax_tree.specs.Trees.{Block, Local, Node, Area}
use Rattle.sot_parser.specs.Pieces.{Keyword, Sign, Named, name_of, number_of, each, maybe, FieldForm, spelled_field, field_of, ClauseForm, spelled_clause}
use Rattle.sot_parser.specs.Pieces.{clause_of, clause_or_none, RoleForm, spelled_role, role_of, TimingForm, spelled_timing}
use Rattle.sot_parser.specs.Statements.{BlockForm, spelled_block, block_of}
use Rattle.sot_parser.specs.Declarations.{StateForm, spelled_state, state_of, spelled_names, LocalForm, spelled_local, local_of, BoundForm, spelled_bound}
use Rattle.sot_parser.specs.Declarations.{bound_of}

-- what a plant holds and sees
pub record SignalsForm : Type 0 where
  pub states : ClauseForm (codes "state") StateForm
  pub inputs : Option (ClauseForm (codes "input") Named)
  pub sees : Option (ClauseForm (codes "sees") Named)
  pub noise : Option (ClauseForm (codes "noise") FieldForm)

abbrev pub spelled_signals : SignalsForm → List Lexeme → List Lexeme
spelled_signals s more =
    spelled_clause spelled_state s.states (spelled_names s.inputs (spelled_names s.sees (maybe (spelled_clause spelled_field) s.noise more)))

abbrev pub signals_of : SignalsForm → List StateDecl × List Ident × List Ident × List Field
signals_of s = (clause_of state_of s.states, clause_or_none name_of s.inputs, clause_or_none name_of s.sees, clause_or_none field_of s.noise)

-- a node up to its code
pub record HeadForm : Type 0 where
  pub name : Named
  pub timing : TimingForm
  pub opening : Sign (codes "{")
  pub reads : Option (ClauseForm (codes "reads") Named)
  pub writes : Option (ClauseForm (codes "writes") Named)

abbrev pub spelled_head : HeadForm → List Lexeme → List Lexeme
spelled_head h more = h.name.token ∷ spelled_timing h.timing (h.opening.token ∷ spelled_names h.reads (spelled_names h.writes more))

abbrev pub head_of : HeadForm → Node
head_of h =
    record {
      name = name_of h.name;
      period = number_of h.timing.period;
      offset = number_of h.timing.offset;
      reads = clause_or_none name_of h.reads;
      writes = clause_or_none name_of h.writes;
      locals = [];
      body = None;
    }

-- the locals and the body of a node
pub record CodeForm : Type 0 where
  pub locals : List LocalForm
  pub do_word : Keyword (codes "do")
  pub body : BlockForm

abbrev pub spelled_code : CodeForm → List Lexeme → List Lexeme
spelled_code c more = each spelled_local c.locals (c.do_word.token ∷ spelled_block c.body more)

abbrev pub code_of : CodeForm → List Local × Block
code_of c = (map local_of c.locals, block_of c.body)

-- the two nodes of a module, when it decides, and its plant
pub record PairingForm : Type 0 where
  pub ac : RoleForm (codes "ac")
  pub sc : RoleForm (codes "sc")
  pub timing : TimingForm
  pub semicolon : Sign (codes ";")
  pub plant : RoleForm (codes "plant")

abbrev pub spelled_pairing : PairingForm → List Lexeme → List Lexeme
spelled_pairing p more = spelled_role p.ac (spelled_role p.sc (spelled_timing p.timing (p.semicolon.token ∷ spelled_role p.plant more)))

abbrev pub pairing_of : PairingForm → Ident × Ident × Lit × Lit × Ident
pairing_of p = (role_of p.ac, role_of p.sc, number_of p.timing.period, number_of p.timing.offset, role_of p.plant)

-- the safe and the safer region
pub record BoundsForm : Type 0 where
  pub safe : BoundForm (codes "safe")
  pub safer : BoundForm (codes "safer")

abbrev pub spelled_bounds : BoundsForm → List Lexeme → List Lexeme
spelled_bounds b more = spelled_bound b.safe (spelled_bound b.safer more)

abbrev pub bounds_of : BoundsForm → List Area × List Area
bounds_of b = (bound_of b.safe, bound_of b.safer)
