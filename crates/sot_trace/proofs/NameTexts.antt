-- What the texts of names are made of, and that they tell what they name.
use Rattle.std.proofs.Common.{◌≡◌, ℕ, ◌+◌, ◌==◌, Bool, true, ◌||◌, List, [], ◌∷◌, ◌++◌, Option, Some, None, length, inl, inr, refl, sym, ap}
use Rattle.std.proofs.Common.{subst, ◌∙◌, arith, take, drop}
use Rattle.std.specs.List.{prefix_len}
use Rattle.std.specs.Char.{is_ascii_digit}
use Rattle.std.specs.Option.{option_map_or}
use Rattle.std.proofs.lemmas.Bool.{cases_Bool, cond-true, cond-false}
use Rattle.std.proofs.lemmas.List.Folds.{length-prefix_len}
use Rattle.sot_text.specs.declared.token.Kind.TheVariants.{Name}
use Rattle.sot_text.specs.Lexeme.{begins_word, is_in_word, word_len, decimals_of, mantissa_of, number_len, sign_len}
use Rattle.sot_text.proofs.Fronts.{front_word, front_number, front_sign, word_takes, sign_takes}
use Rattle.sot_syntax_tree.proofs.Names.{number_no_name}
use Rattle.sot_lang.specs.declared.tables.TopicInfo.{TopicInfo}
use Rattle.sot_lang.specs.declared.tables.ScalarInfo.{ScalarInfo}
use Rattle.sot_lang.specs.declared.tables.NodeInfo.{NodeInfo}
use Rattle.sot_lang.specs.declared.tables.ModuleInfo.{ModuleInfo}
use Rattle.sot_lang.specs.Tables.{Tables}
use Rattle.sot_lang.specs.TableRules.{MeetsTableRules}
use Rattle.sot_lists.specs.Places.{At}
use Rattle.sot_lang.proofs.NamesOnce.{topic_same}
use Rattle.sot_lang.specs.Names.{topic_name, node_name, module_name}
use Rattle.sot_trace.specs.Names.{field_part, scalar_name}
use Rattle.sot_trace.specs.Words.{IsWord, AreWords}
use Rattle.sot_trace.proofs.Splits.{AllIn, Stops, both_in, in_wider, cut_same}

in_from_len : (q : ℕ → Bool) (a : List ℕ) → prefix_len q a ≡ length a → AllIn q a
in_from_len q [] h = tt
in_from_len q (x ∷ a) h =
    elim (cases_Bool (q x)) [
      | inl inside ↦ (let more : 1 + prefix_len q a ≡ length (x ∷ a) = sym (cond-true (q x) _ _ inside) ∙ h in (inside, in_from_len q a (omega arith)))
      | inr outside ↦ (let never : 0 ≡ length (x ∷ a) = sym (cond-false (q x) _ _ outside) ∙ h in absurd (omega arith))
    ]

word_len_is : (text : List ℕ) → IsWord text → word_len text ≡ length text
word_len_is [] is = refl
word_len_is (b ∷ bs) is =
    elim (cases_Bool (begins_word b)) [
      | inl first ↦ sym (word_takes (take (word_len (b ∷ bs)) (b ∷ bs)) Name (length (b ∷ bs)) (sym (front_word b bs first) ∙ is)
          ∙ length-prefix_len is_in_word (b ∷ bs))
      | inr no_word ↦
          elim (cases_Bool (is_ascii_digit b)) [
            | inl digit ↦ absurd (number_no_name (decimals_of (b ∷ bs)) (mantissa_of (b ∷ bs)) (number_len (b ∷ bs)) (length (b ∷ bs))
                (sym (front_number b bs no_word digit) ∙ is))
            | inr no_digit ↦ (let never = (sign_takes (sign_len (b ∷ bs)) (length (b ∷ bs)) Name (sym (front_sign b bs no_word no_digit) ∙ is)).2 in absurd cc)
          ]
    ]

-- a name is made of letters, digits and `_`
pub word_in : (text : List ℕ) → IsWord text → AllIn is_in_word text
word_in text is = in_from_len is_in_word text (word_len_is text is)

-- a byte of a scalar's name
abbrev pub in_name : ℕ → Bool
in_name b = is_in_word b || b == 46

name_wider : (b : ℕ) → is_in_word b ≡ true → in_name b ≡ true
name_wider b is = rw is refl

module _ (p : Tables) where
  pub topic_named : (t : ℕ) (x : TopicInfo) → At p.topics t x → topic_name p t ≡ x.name
  topic_named t x at = ap (λ o. option_map_or (λ (y : TopicInfo). y.name) o []) at

  pub node_named : (n : ℕ) (x : NodeInfo) → At p.nodes n x → node_name p n ≡ x.name
  node_named n x at = ap (λ o. option_map_or (λ (y : NodeInfo). y.name) o []) at

  pub module_named : (m : ℕ) (x : ModuleInfo) → At p.modules m x → module_name p m ≡ x.name
  module_named m x at = ap (λ o. option_map_or (λ (y : ModuleInfo). y.name) o []) at

  pub scalar_named : (k : ℕ) (x : ScalarInfo) (t : TopicInfo) → At p.scalars k x → At p.topics x.topic t → scalar_name p k ≡ t.name ++ field_part x.field
  scalar_named k x t at at_t =
      ap (λ o. option_map_or (λ (y : ScalarInfo). topic_name p y.topic ++ field_part y.field) o []) at
      ∙ ap (λ n. n ++ field_part x.field) (topic_named x.topic t at_t)

field_stops : (f : Option (List ℕ)) → Stops is_in_word (field_part f)
field_stops None = tt
field_stops (Some f) = refl

field_same : (f g : Option (List ℕ)) → field_part f ≡ field_part g → f ≡ g
field_same None None e = refl
field_same None (Some g) e = absurd cc
field_same (Some f) None e = absurd cc
field_same (Some f) (Some g) e = ap Some (ap (drop 1) e)

module _ (p : Tables) (rules : MeetsTableRules p) (words : AreWords p) where
  pub topic_in : (t : ℕ) (x : TopicInfo) → At p.topics t x → AllIn is_in_word x.name
  topic_in t x at = word_in x.name (words.topics t x at)

  pub node_in : (n : ℕ) (x : NodeInfo) → At p.nodes n x → AllIn is_in_word x.name
  node_in n x at = word_in x.name (words.nodes n x at)

  pub module_in : (m : ℕ) (x : ModuleInfo) → At p.modules m x → AllIn is_in_word x.name
  module_in m x at = word_in x.name (words.modules m x at)

  field_in : (k : ℕ) (x : ScalarInfo) (f : Option (List ℕ)) → At p.scalars k x → x.field ≡ f → AllIn in_name (field_part f)
  field_in k x None at is = tt
  field_in k x (Some f) at is = (refl, in_wider is_in_word in_name name_wider f (word_in f (words.fields k x f at is)))

  pub scalar_in : (k : ℕ) (x : ScalarInfo) → At p.scalars k x → AllIn in_name (scalar_name p k)
  scalar_in k x at =
      let topic = rules.typed.scalar_topic k x at in
      subst (AllIn in_name) (sym (scalar_named p k x topic.0 at topic.1))
      (both_in in_name topic.0.name (field_part x.field) (in_wider is_in_word in_name name_wider topic.0.name (topic_in x.topic topic.0 topic.1))
      (field_in k x x.field at refl))

  -- a scalar's name tells the scalar
  pub scalar_same : (i j : ℕ) (x y : ScalarInfo) → At p.scalars i x → At p.scalars j y → scalar_name p i ≡ scalar_name p j → i ≡ j
  scalar_same i j x y at_x at_y e =
      let s = rules.typed.scalar_topic i x at_x in
      let t = rules.typed.scalar_topic j y at_y in
      let whole = sym (scalar_named p i x s.0 at_x s.1) ∙ e ∙ scalar_named p j y t.0 at_y t.1 in
      let parts = cut_same is_in_word s.0.name t.0.name (field_part x.field) (field_part y.field) (topic_in x.topic s.0 s.1) (topic_in y.topic t.0 t.1)
      (field_stops x.field) (field_stops y.field) whole in
      rules.fields_once i j x y at_x at_y (topic_same p rules x.topic y.topic s.0 t.0 s.1 t.1 parts.0) (field_same x.field y.field parts.1)
