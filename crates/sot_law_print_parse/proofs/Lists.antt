-- Lists of items, and clauses of them.
use Rattle.std.proofs.Common.{◌≡◌, ℕ, ◌≤◌, max, List, [], ◌∷◌, map, Option, None, Some, codes, false, refl, ap₂, subst, arith}
use Rattle.std.proofs.lemmas.Int.{clamps}
use Rattle.std.proofs.Math.Nat.{le_refl}
use Rattle.sot_text.specs.Reading.{Lexeme}
use Rattle.sot_parser.specs.Pieces.{each, maybe, Further, Separated, spelled_further, spelled_separated, further_of, separated_of, ClauseForm, spelled_clause}
use Rattle.sot_parser.specs.Pieces.{clause_of, clause_or_none}
use Rattle.sot_parser.specs.Declarations.{most}
use Rattle.sot_print.specs.declared.gap.Gap.{Gap}
use Rattle.sot_print.specs.declared.gap.Gap.TheVariants.{Space}
use Rattle.sot_print.specs.Words.{Word}
use Rattle.sot_print.specs.Leaves.{items_from, listed}
use Rattle.sot_print.specs.Statements.{semicolon}
use Rattle.sot_print.specs.Canonical.{clause}
use Rattle.sot_print.specs.Canonical as canonical
use Rattle.sot_syntax_tree.specs.Formed.{Each, HasItem}
use Rattle.sot_law_print_parse.proofs.Takes.{Takes, split, a_keyword, a_sign, led, onto}
use Rattle.sot_law_print_parse.proofs.Kept.{Production, Again, Kept, Keeps, no_level}

pub cons_same : {A : Type 0} {x y : A} {xs ys : List A} → x ≡ y → xs ≡ ys → x ∷ xs ≡ y ∷ ys
cons_same e more = ap₂ (λ x xs. x ∷ xs) e more

-- the items behind the first, each with its comma
abbrev pub further_items : {F T : Type 0} → Production Gap F T → Production Gap (List (Further (codes ",") F)) (List T)
further_items p = record {
  spelled = each (spelled_further p.spelled);
  tree = map (further_of p.tree);
  unplaced = map p.unplaced;
  levels = no_level;
  Holds = Each p.Holds;
  words = λ gap xs. items_from p.words gap false xs;
}

further_again : {F T : Type 0} (p : Production Gap F T) (f : Further (codes ",") F) (fs : List (Further (codes ",") F)) → Kept p f.item
    → Kept (further_items p) fs
    → (gap : Gap) (ts us : List Lexeme) → Takes ts (items_from p.words gap false (p.tree f.item ∷ map (further_of p.tree) fs)) us
    → Again (further_items p) (f ∷ fs) ts us
further_again p f fs item others gap ts us h =
    let parts = split (p.words Space (p.tree f.item)) (items_from p.words gap false (map (further_of p.tree) fs)) h.0 us h.2 in
    let a = item.again Space h.0 parts.0 parts.1 in
    let b = others.again gap parts.0 us parts.2 in
    record {
      form = record { sign = a_sign h.1; item = a.form } ∷ b.form;
      tokens = led h.1 (onto (p.spelled a.form) a.tokens b.tokens);
      same = cons_same a.same b.same;
      nests = le_refl 0;
    }

further_keep : {F T : Type 0} (p : Production Gap F T) → Keeps p → Keeps (further_items p)
further_keep p keeps [] more texts = (record { holds = tt; again = λ gap ts us h. record { form = []; tokens = h; same = refl; nests = le_refl 0 } }, texts)
further_keep p keeps (f ∷ fs) more texts =
    let item = keeps f.item (each (spelled_further p.spelled) fs more) texts.1 in
    let others = further_keep p keeps fs more item.1 in
    (record { holds = (item.0.holds, others.0.holds); again = further_again p f fs item.0 others.0 }, others.1)

-- items with commas between them
abbrev pub SomeEach : {T : Type 0} → (T → Type 0) → List T → Type 0
SomeEach P xs = HasItem xs × Each P xs

abbrev pub lists : {F T : Type 0} → Production Gap F T → Production Gap (Separated (codes ",") F) (List T)
lists p = record {
  spelled = spelled_separated p.spelled;
  tree = separated_of p.tree;
  unplaced = map p.unplaced;
  levels = no_level;
  Holds = SomeEach p.Holds;
  words = listed p.words;
}

list_again : {F T : Type 0} (p : Production Gap F T) (s : Separated (codes ",") F) → Kept p s.first → Kept (further_items p) s.further
    → (gap : Gap) (ts us : List Lexeme) → Takes ts (listed p.words gap (separated_of p.tree s)) us → Again (lists p) s ts us
list_again p s item others gap ts us h =
    let parts = split (p.words gap (p.tree s.first)) (items_from p.words gap false (map (further_of p.tree) s.further)) ts us h in
    let a = item.again gap ts parts.0 parts.1 in
    let b = others.again gap parts.0 us parts.2 in
    record {
      form = record { first = a.form; further = b.form };
      tokens = onto (p.spelled a.form) a.tokens b.tokens;
      same = cons_same a.same b.same;
      nests = le_refl 0;
    }

pub lists_keep : {F T : Type 0} (p : Production Gap F T) → Keeps p → Keeps (lists p)
lists_keep p keeps s more texts =
    let item = keeps s.first (each (spelled_further p.spelled) s.further more) texts in
    let others = further_keep p keeps s.further more item.1 in
    (record { holds = (tt, (item.0.holds, others.0.holds)); again = list_again p s item.0 others.0 }, others.1)

-- a keyword, a list and ";"
abbrev pub clauses : {F T : Type 0} → (text : List ℕ) → Production Gap F T → Production (Unit {0}) (ClauseForm text F) (List T)
clauses text p = record {
  spelled = spelled_clause p.spelled;
  tree = clause_of p.tree;
  unplaced = map p.unplaced;
  levels = no_level;
  Holds = SomeEach p.Holds;
  words = λ _ xs. clause text (listed p.words Space xs);
}

clause_again : {F T : Type 0} (text : List ℕ) (p : Production Gap F T) (c : ClauseForm text F) → Kept (lists p) c.items
    → (ts us : List Lexeme) → Takes ts (clause text (listed p.words Space (clause_of p.tree c))) us → Again (clauses text p) c ts us
clause_again text p c items ts us h =
    let parts = split (listed p.words Space (clause_of p.tree c)) semicolon h.0 us h.2 in
    let a = items.again Space h.0 parts.0 parts.1 in
    let last = parts.2 in
    record {
      form = record { word = a_keyword h.1; items = a.form; semicolon = a_sign last.1 };
      tokens = led h.1 (onto (spelled_separated p.spelled a.form) a.tokens (led last.1 last.2));
      same = a.same;
      nests = le_refl 0;
    }

pub clauses_keep : {F T : Type 0} (text : List ℕ) (p : Production Gap F T) → Keeps p → Keeps (clauses text p)
clauses_keep text p keeps c more texts =
    let items = lists_keep p keeps c.items (c.semicolon.token ∷ more) texts.1 in
    (record { holds = items.0.holds; again = λ _ ts us h. clause_again text p c items.0 ts us h }, items.1.1)

-- a clause that may be left out, where no item is no clause
abbrev pub optional : {F T : Type 0} → (text : List ℕ) → Production Gap F T → (List T → List Word) → Production (Unit {0}) (Option (ClauseForm text F)) (List T)
optional text p words = record {
  spelled = maybe (spelled_clause p.spelled);
  tree = clause_or_none p.tree;
  unplaced = map p.unplaced;
  levels = no_level;
  Holds = Each p.Holds;
  words = λ _ xs. words xs;
}

pub record IsOptional {F T : Type 0} (text : List ℕ) (p : Production Gap F T) (words : List T → List Word) : Type 0 where
  pub none : words [] ≡ []
  pub some : (x : T) (xs : List T) → words (x ∷ xs) ≡ clause text (listed p.words Space (x ∷ xs))

pub optional_keep : {F T : Type 0} (text : List ℕ) (p : Production Gap F T) (words : List T → List Word) → IsOptional text p words → Keeps p
    → Keeps (optional text p words)
optional_keep text p words is keeps None more texts = (
  record {
    holds = tt;
    again = λ _ ts us h.
        let P : List Word → Type 0 = λ ws. Takes ts ws us in
        record { form = None; tokens = subst P is.none h; same = refl; nests = le_refl 0 };
  },
  texts,
)
optional_keep text p words is keeps (Some c) more texts =
    let kept = clauses_keep text p keeps c more texts in (
      record {
        holds = kept.0.holds.1;
        again = λ _ ts us h.
            let P : List Word → Type 0 = λ ws. Takes ts ws us in
            let a = kept.0.again tt ts us (subst P (is.some (p.tree c.items.first) (map (further_of p.tree) c.items.further)) h) in
            record { form = Some a.form; tokens = a.tokens; same = a.same; nests = le_refl 0 };
      },
      kept.1,
    )

-- items one after another
abbrev pub rows : {G F T : Type 0} → Production G F T → Production G (List F) (List T)
rows p = record {
  spelled = each p.spelled;
  tree = map p.tree;
  unplaced = map p.unplaced;
  levels = most p.levels;
  Holds = Each p.Holds;
  words = λ place xs. canonical.each (p.words place) xs;
}

pub max_nests : {a b c d : ℕ} → a ≤ b → c ≤ d → max a c ≤ max b d
max_nests low lower = omega (arith, clamps, low, lower)

row_again : {G F T : Type 0} (p : Production G F T) (f : F) (fs : List F) → Kept p f → Kept (rows p) fs
    → (place : G) (ts us : List Lexeme) → Takes ts (canonical.each (p.words place) (p.tree f ∷ map p.tree fs)) us → Again (rows p) (f ∷ fs) ts us
row_again p f fs item others place ts us h =
    let parts = split (p.words place (p.tree f)) (canonical.each (p.words place) (map p.tree fs)) ts us h in
    let a = item.again place ts parts.0 parts.1 in
    let b = others.again place parts.0 us parts.2 in
    record {
      form = a.form ∷ b.form;
      tokens = onto (p.spelled a.form) a.tokens b.tokens;
      same = cons_same a.same b.same;
      nests = max_nests a.nests b.nests;
    }

pub rows_keep : {G F T : Type 0} (p : Production G F T) → Keeps p → Keeps (rows p)
rows_keep p keeps [] more texts = (record { holds = tt; again = λ place ts us h. record { form = []; tokens = h; same = refl; nests = le_refl 0 } }, texts)
rows_keep p keeps (f ∷ fs) more texts =
    let item = keeps f (each p.spelled fs more) texts in
    let others = rows_keep p keeps fs more item.1 in
    (record { holds = (item.0.holds, others.0.holds); again = row_again p f fs item.0 others.0 }, others.1)
