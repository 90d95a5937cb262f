-- Topics.
use Rattle.std.proofs.Common.{List, ◌∷◌, ◌++◌, Option, None, Some, Bool, codes, refl, ap₂}
use Rattle.std.proofs.Math.Nat.{le_refl}
use Rattle.sot_text.specs.Reading.{Lexeme}
use Rattle.sot_syntax_tree.specs.declared.tree.Ident.{Ident}
use Rattle.sot_syntax_tree.specs.Trees.{Form, Start, Topic}
use Rattle.sot_parser.specs.Pieces.{Keyword, name_of}
use Rattle.sot_parser.specs.Declarations.{TopicForm, spelled_outside, spelled_topic, is_given, topic_of, spelled_shape, shape_of, spelled_init, init_of}
use Rattle.sot_print.specs.declared.gap.Gap.{Gap}
use Rattle.sot_print.specs.declared.gap.Gap.TheVariants.{Touching, Space}
use Rattle.sot_print.specs.Words.{Word, sign, name}
use Rattle.sot_print.specs.Statements.{semicolon}
use Rattle.sot_print.specs.Canonical.{shape_words, start_words, topic_head_words, topic_words}
use Rattle.sot_syntax_tree.specs.Formed as formed
use Rattle.sot_law_print_parse.specs.Unplaced.{unplaced_topic}
use Rattle.sot_law_print_parse.proofs.Takes.{Takes, split, a_keyword, a_sign, a_name, led, onto}
use Rattle.sot_law_print_parse.proofs.Texts.{AreTexts}
use Rattle.sot_law_print_parse.proofs.Kept.{Production, Again, Kept, Keeps, no_level, also}
use Rattle.sot_law_print_parse.proofs.Leaves.{same_name, name_text}
use Rattle.sot_law_print_parse.proofs.Clauses.{shapes, shapes_keep, starts, starts_keep}

-- ["environment"] "topic"
record TopicWord : Type 0 where
  environment : Option (Keyword (codes "environment"))
  word : Keyword (codes "topic")

abbrev topic_words_ : Production Gap TopicWord Bool
topic_words_ = record {
  spelled = λ w more. spelled_outside w.environment (w.word.token ∷ more);
  tree = λ w. is_given w.environment;
  unplaced = λ b. b;
  levels = no_level;
  Holds = λ b. Unit {0};
  words = topic_head_words;
}

topic_word_keeps : (environment : Option (Keyword (codes "environment"))) (word : Keyword (codes "topic")) (more : List Lexeme)
    → AreTexts (spelled_outside environment (word.token ∷ more))
    → Kept topic_words_ (record { environment = environment; word = word }) × AreTexts more
topic_word_keeps None word more texts = (
  record {
    holds = tt;
    again = λ gap ts us h. record { form = record { environment = None; word = a_keyword h.1 }; tokens = led h.1 h.2; same = refl; nests = le_refl 0 };
  },
  texts.1,
)
topic_word_keeps (Some outside) word more texts = (
  record {
    holds = tt;
    again = λ gap ts us h.
        let second = h.2 in
        record {
          form = record { environment = Some (a_keyword h.1); word = a_keyword second.1 };
          tokens = led h.1 (led second.1 second.2);
          same = refl;
          nests = le_refl 0;
        };
  },
  texts.1.1,
)

abbrev pub topics : Production Gap TopicForm Topic
topics = record { spelled = spelled_topic; tree = topic_of; unplaced = unplaced_topic; levels = no_level; Holds = formed.IsTopic; words = topic_words }

abbrev topic_with : Bool → Ident → Form → Start → Topic
topic_with outside own shape init = record { outside = outside; name = own; shape = shape; init = init }

topic_again : (t : TopicForm) → Kept topic_words_ (record { environment = t.environment; word = t.word }) → Kept shapes t.shape → Kept starts t.init
    → (gap : Gap) (ts us : List Lexeme) → Takes ts (topic_words gap (topic_of t)) us → Again topics t ts us
topic_again t head shape init gap ts us h =
    let of_head : List Word = topic_head_words gap (is_given t.environment) in
    let of_shape : List Word = name Space (name_of t.name).name ∷ sign Touching (codes ":") ∷ shape_words (shape_of t.shape) in
    let of_init : List Word = sign Space (codes "=") ∷ start_words (init_of t.init) in
    let outer = split ((of_head ++ of_shape) ++ of_init) semicolon ts us h in
    let middle = split (of_head ++ of_shape) of_init ts outer.0 outer.1 in
    let inner = split of_head of_shape ts middle.0 middle.1 in
    let a = head.again gap ts inner.0 inner.1 in
    let own = inner.2 in
    let colon = own.2 in
    let b = shape.again tt colon.0 middle.0 colon.2 in
    let equals = middle.2 in
    let c = init.again tt equals.0 outer.0 equals.2 in
    let last = outer.2 in
    record {
      form = record {
        environment = a.form.environment;
        word = a.form.word;
        name = a_name own.1;
        colon = a_sign colon.1;
        shape = b.form;
        equals = a_sign equals.1;
        init = c.form;
        semicolon = a_sign last.1;
      };
      tokens =
          onto (topic_words_.spelled a.form) a.tokens (
          led own.1 (led colon.1 (onto (spelled_shape b.form) b.tokens (led equals.1 (onto (spelled_init c.form) c.tokens (led last.1 last.2))))));
      same = also (also (ap₂ topic_with a.same (same_name own.1.text)) b.same) c.same;
      nests = le_refl 0;
    }

pub topics_keep : Keeps topics
topics_keep t more texts =
    let behind : List Lexeme = t.equals.token ∷ spelled_init t.init (t.semicolon.token ∷ more) in
    let head = topic_word_keeps t.environment t.word (t.name.token ∷ t.colon.token ∷ spelled_shape t.shape behind) texts in
    let shape = shapes_keep t.shape behind head.1.1.1 in
    let init = starts_keep t.init (t.semicolon.token ∷ more) shape.1.1 in
    (record { holds = (name_text t.name.token t.name.is head.1.0, shape.0.holds, init.0.holds); again = topic_again t head.0 shape.0 init.0 }, init.1.1)
