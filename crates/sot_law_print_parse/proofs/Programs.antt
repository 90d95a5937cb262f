-- Declarations and programs.
use Rattle.std.proofs.Common.{List, [], ◌∷◌, map, Bool, false, refl, ap}
use Rattle.std.proofs.Math.Nat.{le_refl}
use Rattle.sot_text.specs.Reading.{Lexeme}
use Rattle.sot_syntax_tree.specs.Trees.{Declaration}
use Rattle.sot_syntax_tree.specs.Trees as trees
use Rattle.sot_parser.specs.Pieces.{each}
use Rattle.sot_parser.specs.Declarations.{DeclarationForm, a_topic, a_plant, a_coded, an_external, a_module, spelled_declaration, declaration_of}
use Rattle.sot_parser.specs.Declarations.{declaration_levels, most}
use Rattle.sot_print.specs.declared.gap.Gap.{Gap}
use Rattle.sot_print.specs.Canonical.{declaration_words, own_line, declarations_from}
use Rattle.sot_syntax_tree.specs.Formed as formed
use Rattle.sot_law_print_parse.specs.Unplaced.{unplaced_declaration}
use Rattle.sot_law_print_parse.proofs.Takes.{Takes, split, onto}
use Rattle.sot_law_print_parse.proofs.Kept.{Production, Again, Kept, Keeps}
use Rattle.sot_law_print_parse.proofs.Lists.{cons_same, max_nests}
use Rattle.sot_law_print_parse.proofs.Plants.{plants_keep}
use Rattle.sot_law_print_parse.proofs.Topics.{topics_keep}
use Rattle.sot_law_print_parse.proofs.Nodes.{coded_keep, external_keep}
use Rattle.sot_law_print_parse.proofs.Modules.{modules_keep}

-- a declaration
abbrev pub declarations : Production Gap DeclarationForm Declaration
declarations = record {
  spelled = spelled_declaration;
  tree = declaration_of;
  unplaced = unplaced_declaration;
  levels = declaration_levels;
  Holds = formed.IsDeclaration;
  words = declaration_words;
}

pub declarations_keep : Keeps declarations
declarations_keep (a_topic t) more texts =
    let kept = topics_keep t more texts in (
      record {
        holds = kept.0.holds;
        again = λ gap ts us h.
            let a = kept.0.again gap ts us h in
            record { form = a_topic a.form; tokens = a.tokens; same = ap trees.a_topic a.same; nests = a.nests };
      },
      kept.1,
    )
declarations_keep (a_plant p) more texts =
    let kept = plants_keep p more texts in (
      record {
        holds = kept.0.holds;
        again = λ gap ts us h.
            let a = kept.0.again gap ts us h in
            record { form = a_plant a.form; tokens = a.tokens; same = ap trees.a_plant a.same; nests = a.nests };
      },
      kept.1,
    )
declarations_keep (a_coded n) more texts =
    let kept = coded_keep n more texts in (
      record {
        holds = kept.0.holds;
        again = λ gap ts us h.
            let a = kept.0.again gap ts us h in
            record { form = a_coded a.form; tokens = a.tokens; same = ap trees.a_node a.same; nests = a.nests };
      },
      kept.1,
    )
declarations_keep (an_external n) more texts =
    let kept = external_keep n more texts in (
      record {
        holds = kept.0.holds;
        again = λ gap ts us h.
            let a = kept.0.again gap ts us h in
            record { form = an_external a.form; tokens = a.tokens; same = ap trees.a_node a.same; nests = a.nests };
      },
      kept.1,
    )
declarations_keep (a_module m) more texts =
    let kept = modules_keep m more texts in (
      record {
        holds = kept.0.holds;
        again = λ gap ts us h.
            let a = kept.0.again gap ts us h in
            record { form = a_module a.form; tokens = a.tokens; same = ap trees.a_module a.same; nests = a.nests };
      },
      kept.1,
    )

-- a program; the place says whether its first declaration is the first of the text
abbrev pub programs : Production Bool (List DeclarationForm) (List Declaration)
programs = record {
  spelled = each spelled_declaration;
  tree = map declaration_of;
  unplaced = map unplaced_declaration;
  levels = most declaration_levels;
  Holds = formed.Each formed.IsDeclaration;
  words = declarations_from;
}

program_again : (d : DeclarationForm) (ds : List DeclarationForm) → Kept declarations d → Kept programs ds
    → (first : Bool) (ts us : List Lexeme) → Takes ts (declarations_from first (declaration_of d ∷ map declaration_of ds)) us → Again programs (d ∷ ds) ts us
program_again d ds item others first ts us h =
    let parts = split (declaration_words (own_line first) (declaration_of d)) (declarations_from false (map declaration_of ds)) ts us h in
    let a = item.again (own_line first) ts parts.0 parts.1 in
    let b = others.again false parts.0 us parts.2 in
    record {
      form = a.form ∷ b.form;
      tokens = onto (spelled_declaration a.form) a.tokens b.tokens;
      same = cons_same a.same b.same;
      nests = max_nests a.nests b.nests;
    }

pub programs_keep : Keeps programs
programs_keep [] more texts = (record { holds = tt; again = λ first ts us h. record { form = []; tokens = h; same = refl; nests = le_refl 0 } }, texts)
programs_keep (d ∷ ds) more texts =
    let item = declarations_keep d (each spelled_declaration ds more) texts in
    let others = programs_keep ds more item.1 in
    (record { holds = (item.0.holds, others.0.holds); again = program_again d ds item.0 others.0 }, others.1)
