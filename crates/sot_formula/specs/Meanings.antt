-- What a formula's text means for a program.
use Rattle.std.specs.Prelude.{ℕ, ℤ, pos, neg_ℤ, ◌≡◌, ◌≢◌, ◌≤◌, ◌⊎◌, List, if◌then◌else◌, codes}
use Rattle.std.specs.Prelude.{Some, None}
use Rattle.sot_lists.specs.Places.{At}
use Rattle.sot_text.specs.Lexeme.{mantissa_of, decimals_of}
use Rattle.sot_text.specs.Reading.{Lexeme}
use Rattle.sot_expression.specs.Lexemes.{IsSign}
use Rattle.sot_lang.specs.declared.tables.TopicInfo.{TopicInfo}
use Rattle.sot_lang.specs.declared.tables.ScalarInfo.{ScalarInfo}
use Rattle.sot_lang.specs.declared.tables.PlantInfo.{PlantInfo}
use Rattle.sot_lang.specs.declared.tables.StateInfo.{StateInfo}
use Rattle.sot_lang.specs.declared.tables.ModuleInfo.{ModuleInfo}
use Rattle.sot_lang.specs.Tables.{Tables}
use Rattle.sot_formula.specs.declared.quantity.Quantity.{Quantity}
use Rattle.sot_formula.specs.declared.quantity.Quantity.TheVariants.{Scalar, State, Mode}
use Rattle.sot_formula.specs.declared.quantity.Comparison.{Comparison}
use Rattle.sot_formula.specs.declared.quantity.Comparison.TheVariants as comparisons
use Rattle.sot_formula.specs.declared.quantity.Pairing.{Pairing}
use Rattle.sot_formula.specs.declared.quantity.Pairing.TheVariants as pairings
use Rattle.sot_formula.specs.declared.words.Single.TheVariants as singles
use Rattle.sot_formula.specs.declared.words.Double.TheVariants as doubles
use Rattle.sot_formula.specs.Formulas.{Formula, Truth, Compared, Against, Paired, Not, And, Or}
use Rattle.sot_formula.specs.Formulas.{Implies, Once, Always, Since, Within}
use Rattle.sot_formula.specs.Phrases.{Reference, a_mode, a_name, a_field, Literal, a_number}
use Rattle.sot_formula.specs.Phrases.{Relation, to_number, to_another, of_two}
use Rattle.sot_formula.specs.Phrases.{a_negative, Phrase, a_truth, a_single, a_double, a_row}
use Rattle.sot_formula.specs.Phrases.{a_within, a_comparison}

-- the scale of a scalar; a truth value has 0
abbrev pub scale_of : ScalarInfo → ℕ
scale_of info = if info.truth then 0 else info.scale

-- a topic that is one number, by its name
pub record IsPlain (p : Tables) (name : List ℕ) (k scale : ℕ) : Type 0 where
  pub topic : TopicInfo
  pub info : ScalarInfo
  pub is : At p.scalars k info
  pub topic_is : At p.topics info.topic topic
  pub name_is : topic.name ≡ name
  pub plain : info.field ≡ None
  pub scale_is : scale ≡ scale_of info

-- a field of a topic
pub record IsField (p : Tables) (name field : List ℕ) (k scale : ℕ) : Type 0 where
  pub topic : TopicInfo
  pub info : ScalarInfo
  pub is : At p.scalars k info
  pub topic_is : At p.topics info.topic topic
  pub name_is : topic.name ≡ name
  pub field_is : info.field ≡ Some field
  pub scale_is : scale ≡ scale_of info

-- a state variable of a plant, the first of its name (of a program that was read there is one)
pub record IsVariable (p : Tables) (name var : List ℕ) (k v scale : ℕ) : Type 0 where
  pub plant : PlantInfo
  pub state : StateInfo
  pub is : At p.plants k plant
  pub name_is : plant.name ≡ name
  pub state_is : At plant.states.items v state
  pub var_is : state.name ≡ var
  pub first : (j : ℕ) (other : StateInfo) → At plant.states.items j other → other.name ≡ var → v ≤ j
  pub scale_is : scale ≡ state.scale

-- a module
pub record IsModule (p : Tables) (name : List ℕ) (m : ℕ) : Type 0 where
  pub info : ModuleInfo
  pub is : At p.modules m info
  pub name_is : info.name ≡ name

-- a reference names this quantity, of this scale; a mode has 0
abbrev pub Names : Tables → Reference → Quantity → ℕ → Type 0
Names p (a_mode w begin n end) q scale =
    (m : ℕ) × IsModule p n.text m × (q ≡ Mode m) × (scale ≡ 0)
Names p (a_name n) q scale = (k : ℕ) × IsPlain p n.text k scale × (q ≡ Scalar k)
Names p (a_field n dot f) q scale =
    ((k : ℕ) × IsField p n.text f.text k scale × (q ≡ Scalar k))
    ⊎ ((k v : ℕ) × IsVariable p n.text f.text k v scale × (q ≡ State k v))

-- a reference names no scalar, state or module
abbrev pub NamesNothing : Tables → Reference → Type 0
NamesNothing p r = (q : Quantity) (scale : ℕ) → Names p r q scale → ⊥

-- the number that a literal is at its scale, and that scale
abbrev pub mantissa : Literal → ℤ
mantissa (a_number n) = pos (mantissa_of n.text)
mantissa (a_negative minus n) = neg_ℤ (pos (mantissa_of n.text))

abbrev pub decimals : Literal → ℕ
decimals (a_number n) = decimals_of n.text
decimals (a_negative minus n) = decimals_of n.text

abbrev pub sign_text : Comparison → List ℕ
sign_text comparisons.Less = codes "<"
sign_text comparisons.LessEqual = codes "<="
sign_text comparisons.Greater = codes ">"
sign_text comparisons.GreaterEqual = codes ">="
sign_text comparisons.Equal = codes "=="
sign_text comparisons.NotEqual = codes "!="

abbrev pub pair_text : Pairing → List ℕ
pair_text pairings.Sum = codes "+"
pair_text pairings.Difference = codes "-"

-- a comparison by this sign, of one scale throughout
abbrev pub IsCompared : Tables → Relation → Formula → Type 0
IsCompared p (to_number r by z) x =
    (q : Quantity) × (c : Comparison) × Names p r q (decimals z) × IsSign (sign_text c) by
    × (x ≡ Compared q c (mantissa z))
IsCompared p (to_another r by q) x =
    (a b : Quantity) × (c : Comparison) × (scale : ℕ) × Names p r a scale × Names p q b scale
    × IsSign (sign_text c) by × (x ≡ Against a c b)
IsCompared p (of_two r pair q by z) x =
    (a b : Quantity) × (j : Pairing) × (c : Comparison) × Names p r a (decimals z)
    × Names p q b (decimals z) × IsSign (pair_text j) pair × IsSign (sign_text c) by
    × (x ≡ Paired a j b c (mantissa z))

-- a formula's text means this formula; a row is joined from the left
abbrev pub Means : Tables → Phrase → Formula → Type 0
Means p (a_truth value t) x = x ≡ Truth value
Means p (a_single singles.Not w begin f end) x = (y : Formula) × Means p f y × (x ≡ Not y)
Means p (a_single singles.Once w begin f end) x = (y : Formula) × Means p f y × (x ≡ Once y)
Means p (a_single singles.Always w begin f end) x =
    (y : Formula) × Means p f y × (x ≡ Always y)
Means p (a_double o w begin row end) x = Means p row x
Means p (a_row doubles.And f comma g) x =
    (y z : Formula) × Means p f y × Means p g z × (x ≡ And y z)
Means p (a_row doubles.Or f comma g) x =
    (y z : Formula) × Means p f y × Means p g z × (x ≡ Or y z)
Means p (a_row doubles.Since f comma g) x =
    (y z : Formula) × Means p f y × Means p g z × (x ≡ Since y z)
Means p (a_row doubles.Implies f comma g) x =
    (y z : Formula) × Means p f y × Means p g z × (x ≡ Implies y z)
Means p (a_within w begin n comma f end) x =
    (y : Formula) × Means p f y × (x ≡ Within (mantissa_of n.text) y)
Means p (a_comparison c) x = IsCompared p c x

-- some comparison of the text has this property
abbrev pub HasComparison : (Relation → Type 0) → Phrase → Type 0
HasComparison Of (a_truth value t) = ⊥
HasComparison Of (a_single o w begin f end) = HasComparison Of f
HasComparison Of (a_double o w begin row end) = HasComparison Of row
HasComparison Of (a_row o f comma g) = HasComparison Of f ⊎ HasComparison Of g
HasComparison Of (a_within w begin n comma f end) = HasComparison Of f
HasComparison Of (a_comparison c) = Of c

-- a reference of it names nothing
abbrev pub AsksNothing : Tables → Relation → Type 0
AsksNothing p (to_number r by z) = NamesNothing p r
AsksNothing p (to_another r by q) = NamesNothing p r ⊎ NamesNothing p q
AsksNothing p (of_two r pair q by z) = NamesNothing p r ⊎ NamesNothing p q

abbrev pub HasUnknown : Tables → Phrase → Type 0
HasUnknown p f = HasComparison (AsksNothing p) f

-- it has two scales
abbrev pub HasTwoScales : Tables → Relation → Type 0
HasTwoScales p (to_number r by z) =
    (q : Quantity) × (scale : ℕ) × Names p r q scale × (scale ≢ decimals z)
HasTwoScales p (to_another r by q) =
    (a b : Quantity) × (m n : ℕ) × Names p r a m × Names p q b n × (m ≢ n)
HasTwoScales p (of_two r pair q by z) =
    (a b : Quantity) × (m n : ℕ) × Names p r a m × Names p q b n
    × ((m ≢ decimals z) ⊎ (n ≢ decimals z))

abbrev pub HasOtherScale : Tables → Phrase → Type 0
HasOtherScale p f = HasComparison (HasTwoScales p) f
