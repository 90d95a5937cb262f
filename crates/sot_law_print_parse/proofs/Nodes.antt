-- Nodes.
use Rattle.std.proofs.Common.{refl, ℕ, List, [], ◌∷◌, ◌++◌, map, Option, None, Some, codes, sym, ap, ap₂, subst, ◌∙◌}
use Rattle.std.proofs.Math.Nat.{le_refl}
use Rattle.sot_text.specs.Reading.{Lexeme}
use Rattle.sot_syntax_tree.specs.declared.tree.Ident.{Ident}
use Rattle.sot_syntax_tree.specs.declared.tree.Lit.{Lit}
use Rattle.sot_syntax_tree.specs.Trees.{Block, Local, Node}
use Rattle.sot_parser.specs.Pieces.{Keyword, Sign, Named, name_of, each, ClauseForm, clause_or_none, TimingForm, spelled_timing, timing_of}
use Rattle.sot_parser.specs.Statements.{spelled_block, block_of, block_levels}
use Rattle.sot_parser.specs.Declarations.{spelled_names, spelled_local, local_of, CodedForm, spelled_coded, coded_of, ExternalForm, spelled_external}
use Rattle.sot_parser.specs.Declarations.{external_of}
use Rattle.sot_print.specs.declared.gap.Gap.{Gap}
use Rattle.sot_print.specs.declared.gap.Gap.TheVariants.{Space}
use Rattle.sot_print.specs.Words.{Word, keyword, sign, name}
use Rattle.sot_print.specs.Canonical.{closing, names_clause}
use Rattle.sot_print.specs.Canonical.{timing_words, local_clause, do_clause, node_words}
use Rattle.sot_print.specs.Canonical as canonical
use Rattle.sot_syntax_tree.specs.Formed as formed
use Rattle.sot_law_print_parse.specs.Unplaced.{unplaced_name, unplaced_literal, unplaced_node}
use Rattle.sot_law_print_parse.proofs.Takes.{Takes, split, join, a_keyword, a_sign, a_name, led, onto}
use Rattle.sot_law_print_parse.proofs.Kept.{Production, Again, Kept, Keeps, no_level, also}
use Rattle.sot_law_print_parse.proofs.Leaves.{names, same_name, name_text}
use Rattle.sot_law_print_parse.proofs.Lists.{optional, rows, rows_keep}
use Rattle.sot_law_print_parse.proofs.Statements.{bodies, bodies_keep}
use Rattle.sot_law_print_parse.proofs.Clauses.{locals, locals_keep, timings, timings_keep}
use Rattle.sot_law_print_parse.proofs.Plants.{names_clauses}

-- a node up to its clauses of topics: a keyword, NAME, timing, "{" and the clauses
record NodeFront (text : List ℕ) : Type 0 where
  word : Keyword text
  own : Named
  timing : TimingForm
  opening : Sign (codes "{")
  reads : Option (ClauseForm (codes "reads") Named)
  writes : Option (ClauseForm (codes "writes") Named)

record FrontTree : Type 0 where
  own : Ident
  timing : Lit × Lit
  reads : List Ident
  writes : List Ident

abbrev front_tree : {text : List ℕ} → NodeFront text → FrontTree
front_tree f = record { own = name_of f.own; timing = timing_of f.timing; reads = clause_or_none name_of f.reads; writes = clause_or_none name_of f.writes }

abbrev spelled_front : {text : List ℕ} → NodeFront text → List Lexeme → List Lexeme
spelled_front f more = f.word.token ∷ f.own.token ∷ spelled_timing f.timing (f.opening.token ∷ spelled_names f.reads (spelled_names f.writes more))

abbrev head_words : Gap → List ℕ → FrontTree → List Word
head_words gap text t = keyword gap text ∷ name Space t.own.name ∷ timing_words Space t.timing.0 t.timing.1 ++ sign Space (codes "{") ∷ []

abbrev front_words : Gap → List ℕ → FrontTree → List Word
front_words gap text t = head_words gap text t ++ (names_clause (codes "reads") t.reads ++ names_clause (codes "writes") t.writes)

abbrev front_with : Ident → Lit × Lit → List Ident → List Ident → FrontTree
front_with own timing reads writes = record { own = own; timing = timing; reads = reads; writes = writes }

abbrev fronts : (text : List ℕ) → Production Gap (NodeFront text) FrontTree
fronts text = record {
  spelled = spelled_front;
  tree = front_tree;
  unplaced =
      λ t. front_with (unplaced_name t.own) (unplaced_literal t.timing.0, unplaced_literal t.timing.1) (map unplaced_name t.reads) (map unplaced_name t.writes);
  levels = no_level;
  Holds =
      λ t. formed.IsName t.own × formed.IsNumber t.timing.0 × formed.IsNumber t.timing.1 × formed.Each formed.IsName t.reads
      × formed.Each formed.IsName t.writes;
  words = λ gap t. front_words gap text t;
}

front_again : (text : List ℕ) (f : NodeFront text) → Kept timings f.timing → Kept (optional (codes "reads") names (names_clause (codes "reads"))) f.reads
    → Kept (optional (codes "writes") names (names_clause (codes "writes"))) f.writes
    → (gap : Gap) (ts us : List Lexeme) → Takes ts (front_words gap text (front_tree f)) us → Again (fronts text) f ts us
front_again text f timing reads writes gap ts us h =
    let t : FrontTree = front_tree f in
    let of_reads : List Word = names_clause (codes "reads") t.reads in
    let of_writes : List Word = names_clause (codes "writes") t.writes in
    let outer = split (head_words gap text t) (of_reads ++ of_writes) ts us h in
    let first = outer.1 in
    let own = first.2 in
    let head = split (timing_words Space t.timing.0 t.timing.1) (sign Space (codes "{") ∷ []) own.0 outer.0 own.2 in
    let a = timing.again Space own.0 head.0 head.1 in
    let opening = head.2 in
    let P : List Lexeme → Type 0 = λ vs. Takes vs (of_reads ++ of_writes) us in
    let both = split of_reads of_writes opening.0 us (subst P (sym opening.2) outer.2) in
    let b = reads.again tt opening.0 both.0 both.1 in
    let c = writes.again tt both.0 us both.2 in
    record {
      form = record { word = a_keyword first.1; own = a_name own.1; timing = a.form; opening = a_sign opening.1; reads = b.form; writes = c.form };
      tokens = led first.1 (led own.1 (onto (spelled_timing a.form) a.tokens (led opening.1 (onto (spelled_names b.form) b.tokens c.tokens))));
      same = also (also (ap₂ front_with (same_name own.1.text) a.same) b.same) c.same;
      nests = le_refl 0;
    }

fronts_keep : (text : List ℕ) → Keeps (fronts text)
fronts_keep text f more texts =
    let a = timings_keep f.timing (f.opening.token ∷ spelled_names f.reads (spelled_names f.writes more)) texts.1.1 in
    let b = names_clauses (codes "reads") f.reads (spelled_names f.writes more) a.1.1 in
    let c = names_clauses (codes "writes") f.writes more b.1 in (
      record {
        holds = (name_text f.own.token f.own.is texts.1.0, a.0.holds.0, a.0.holds.1, b.0.holds, c.0.holds);
        again = front_again text f a.0 b.0 c.0;
      },
      c.1,
    )

-- a node with a body
abbrev node_with : FrontTree → List Local → Option Block → Node
node_with t locals_ body = record { name = t.own; period = t.timing.0; offset = t.timing.1; reads = t.reads; writes = t.writes; locals = locals_; body = body }

abbrev coded_front : CodedForm → NodeFront (codes "node")
coded_front n = record { word = n.word; own = n.name; timing = n.timing; opening = n.opening; reads = n.reads; writes = n.writes }

abbrev pub coded_nodes : Production Gap CodedForm Node
coded_nodes = record {
  spelled = spelled_coded;
  tree = coded_of;
  unplaced = unplaced_node;
  levels = λ n. block_levels n.body;
  Holds = formed.IsNode;
  words = node_words;
}

coded_again : (n : CodedForm) → Kept (fronts (codes "node")) (coded_front n) → Kept (rows locals) n.locals → Kept bodies n.body
    → (gap : Gap) (ts us : List Lexeme) → Takes ts (node_words gap (coded_of n)) us → Again coded_nodes n ts us
coded_again n front local_rows body gap ts us h =
    let t : FrontTree = front_tree (coded_front n) in
    let of_head : List Word = head_words gap (codes "node") t in
    let of_names : List Word = names_clause (codes "reads") t.reads ++ names_clause (codes "writes") t.writes in
    let of_locals : List Word = canonical.each local_clause (map local_of n.locals) in
    let of_body : List Word = do_clause (block_of n.body) in
    let outer = split ((of_head ++ (of_names ++ of_locals)) ++ of_body) closing ts us h in
    let upper = split (of_head ++ (of_names ++ of_locals)) of_body ts outer.0 outer.1 in
    let head = split of_head (of_names ++ of_locals) ts upper.0 upper.1 in
    let mid = split of_names of_locals head.0 upper.0 head.2 in
    let a = front.again gap ts mid.0 (join of_head of_names ts head.0 mid.0 head.1 mid.1) in
    let b = local_rows.again tt mid.0 upper.0 mid.2 in
    let do_ = upper.2 in
    let c = body.again 2 do_.0 outer.0 do_.2 in
    let last = outer.2 in
    record {
      form = record {
        word = a.form.word;
        name = a.form.own;
        timing = a.form.timing;
        opening = a.form.opening;
        reads = a.form.reads;
        writes = a.form.writes;
        locals = b.form;
        do_word = a_keyword do_.1;
        body = c.form;
        closing = a_sign last.1;
      };
      tokens =
          onto (spelled_front a.form) a.tokens (onto (each spelled_local b.form) b.tokens
          (led do_.1 (onto (spelled_block c.form) c.tokens (led last.1 last.2))));
      same = also (ap₂ node_with a.same b.same) (ap (λ (x : Block). Some x) c.same);
      nests = c.nests;
    }

pub coded_keep : Keeps coded_nodes
coded_keep n more texts =
    let after_locals : List Lexeme = n.do_word.token ∷ spelled_block n.body (n.closing.token ∷ more) in
    let a = fronts_keep (codes "node") (coded_front n) (each spelled_local n.locals after_locals) texts in
    let b = rows_keep locals locals_keep n.locals after_locals a.1 in
    let c = bodies_keep n.body (n.closing.token ∷ more) b.1.1 in
    let of_front = a.0.holds in (
      record {
        holds =
            record {
              name = of_front.0;
              period = of_front.1;
              offset = of_front.2;
              reads = of_front.3;
              writes = of_front.4;
              locals = b.0.holds;
              body = c.0.holds;
              external = λ none. absurd cc;
            };
        again = coded_again n a.0 b.0 c.0;
      },
      c.1.1,
    )

-- a node without a body
abbrev external_front : ExternalForm → NodeFront (codes "external")
external_front n = record { word = n.word; own = n.name; timing = n.timing; opening = n.opening; reads = n.reads; writes = n.writes }

abbrev pub external_nodes : Production Gap ExternalForm Node
external_nodes =
    record { spelled = spelled_external; tree = external_of; unplaced = unplaced_node; levels = no_level; Holds = formed.IsNode; words = node_words }

external_again : (n : ExternalForm) → Kept (fronts (codes "external")) (external_front n)
    → (gap : Gap) (ts us : List Lexeme) → Takes ts (node_words gap (external_of n)) us → Again external_nodes n ts us
external_again n front gap ts us h =
    let t : FrontTree = front_tree (external_front n) in
    let of_head : List Word = head_words gap (codes "external") t in
    let of_names : List Word = names_clause (codes "reads") t.reads ++ names_clause (codes "writes") t.writes in
    let outer = split (of_head ++ (of_names ++ [])) closing ts us h in
    let head = split of_head (of_names ++ []) ts outer.0 outer.1 in
    let mid = split of_names [] head.0 outer.0 head.2 in
    let a = front.again gap ts mid.0 (join of_head of_names ts head.0 mid.0 head.1 mid.1) in
    let last = outer.2 in
    record {
      form = record {
        word = a.form.word;
        name = a.form.own;
        timing = a.form.timing;
        opening = a.form.opening;
        reads = a.form.reads;
        writes = a.form.writes;
        closing = a_sign last.1;
      };
      tokens = onto (spelled_front a.form) a.tokens (mid.2 ∙ led last.1 last.2);
      same = ap (λ f. node_with f [] None) a.same;
      nests = le_refl 0;
    }

pub external_keep : Keeps external_nodes
external_keep n more texts =
    let a = fronts_keep (codes "external") (external_front n) (n.closing.token ∷ more) texts in
    let of_front = a.0.holds in (
      record {
        holds =
            record {
              name = of_front.0;
              period = of_front.1;
              offset = of_front.2;
              reads = of_front.3;
              writes = of_front.4;
              locals = tt;
              body = tt;
              external = λ _. refl;
            };
        again = external_again n a.0;
      },
      a.1.1,
    )
