-- Formulas of tables that look the same: a text that has a meaning for one has it for the other and has no fault for it, and has one fault for both.
use Rattle.std.proofs.Common.{◌≡◌, ℕ, List, inl, inr, refl, sym, ap, ◌∙◌, subst}
use Rattle.std.specs.Prelude.{◌≢◌}
use Rattle.sot_lists.specs.Places.{At}
use Rattle.sot_lang.specs.declared.tables.TopicInfo.{TopicInfo}
use Rattle.sot_lang.specs.declared.tables.StateInfo.{StateInfo}
use Rattle.sot_lang.specs.Tables.{Tables}
use Rattle.sot_lang.specs.TableRules.{MeetsTableRules}
use Rattle.sot_typing.specs.Resolved.{ProgramTables, PlantTable, tables_seen}
use Rattle.sot_law_equal_tables.proofs.Seen.{scalar_back, module_back, plant_back}
use Rattle.sot_formula.specs.declared.quantity.Quantity.{Quantity}
use Rattle.sot_formula.specs.declared.fail.MonitorFail.{MonitorFail}
use Rattle.sot_formula.specs.declared.fail.MonitorFail.TheVariants as fails
use Rattle.sot_formula.specs.Phrases.{Phrase, a_truth, a_single, a_double, a_row, a_within, a_comparison, Reference, a_mode, a_name, a_field}
use Rattle.sot_formula.specs.Phrases.{Relation, to_number, to_another, of_two}
use Rattle.sot_formula.specs.declared.words.Single.TheVariants as singles
use Rattle.sot_formula.specs.declared.words.Double.TheVariants as doubles
use Rattle.sot_formula.specs.Formulas.{Formula}
use Rattle.sot_formula.specs.Meanings.{IsPlain, IsField, IsVariable, IsModule, Names, decimals, NamesNothing, IsCompared, Means}
use Rattle.sot_formula.specs.Meanings.{HasComparison, AsksNothing, HasTwoScales, HasUnknown, HasOtherScale}
use Rattle.sot_formula.specs.Answers.{Refuses}
use Rattle.sot_formula.proofs.Texts.{causes_exclude}
use Rattle.sot_law_formula_meaning.proofs.Meanings.{mean_once}
use Rattle.sot_commands.specs.Watched.{HasMeaning, IsFormula}

-- what holds of each comparison of a text is changed for what follows from it
compared_moved : (Of Then : Relation → Type 0) → ((c : Relation) → Of c → Then c) → (f : Phrase) → HasComparison Of f → HasComparison Then f
compared_moved Of Then by (a_truth value t) has = absurd has
compared_moved Of Then by (a_single o w begin f end) has = compared_moved Of Then by f has
compared_moved Of Then by (a_double o w begin row end) has = compared_moved Of Then by row has
compared_moved Of Then by (a_row o f comma g) (inl has) = inl (compared_moved Of Then by f has)
compared_moved Of Then by (a_row o f comma g) (inr has) = inr (compared_moved Of Then by g has)
compared_moved Of Then by (a_within w begin n comma f end) has = compared_moved Of Then by f has
compared_moved Of Then by (a_comparison c) has = by c has

module _ (t u : Tables) (same : tables_seen t ≡ tables_seen u) where
  topic_moved : (k : ℕ) (x : TopicInfo) → At t.topics k x → At u.topics k x
  topic_moved k x at = subst (λ (ts : List TopicInfo). At ts k x) (ap (λ (s : ProgramTables). s.topics) same) at

  plain_moved : (name : List ℕ) (k scale : ℕ) → IsPlain t name k scale → IsPlain u name k scale
  plain_moved name k scale x = record {
    topic = x.topic;
    info = x.info;
    is = scalar_back u t (sym same) k x.info x.is;
    topic_is = topic_moved x.info.topic x.topic x.topic_is;
    name_is = x.name_is;
    plain = x.plain;
    scale_is = x.scale_is;
  }

  field_moved : (name field : List ℕ) (k scale : ℕ) → IsField t name field k scale → IsField u name field k scale
  field_moved name field k scale x = record {
    topic = x.topic;
    info = x.info;
    is = scalar_back u t (sym same) k x.info x.is;
    topic_is = topic_moved x.info.topic x.topic x.topic_is;
    name_is = x.name_is;
    field_is = x.field_is;
    scale_is = x.scale_is;
  }

  variable_moved : (name var : List ℕ) (k v scale : ℕ) → IsVariable t name var k v scale → IsVariable u name var k v scale
  variable_moved name var k v scale x =
      let (y, at, looks) = plant_back u t (sym same) k x.plant x.is in
      let states : x.plant.states.items ≡ y.states.items = sym (ap (λ (s : PlantTable). s.states) looks) in
      record {
        plant = y;
        state = x.state;
        is = at;
        name_is = ap (λ (s : PlantTable). s.name) looks ∙ x.name_is;
        state_is = subst (λ (l : List StateInfo). At l v x.state) states x.state_is;
        var_is = x.var_is;
        first = λ j other there named. x.first j other (subst (λ (l : List StateInfo). At l j other) (sym states) there) named;
        scale_is = x.scale_is;
      }

  module_moved : (name : List ℕ) (m : ℕ) → IsModule t name m → IsModule u name m
  module_moved name m x = record { info = x.info; is = module_back u t (sym same) m x.info x.is; name_is = x.name_is }

  names_moved : (r : Reference) (q : Quantity) (scale : ℕ) → Names t r q scale → Names u r q scale
  names_moved (a_mode w begin n end) q scale (m, is, named, none) = (m, module_moved n.text m is, named, none)
  names_moved (a_name n) q scale (k, is, named) = (k, plain_moved n.text k scale is, named)
  names_moved (a_field n dot f) q scale (inl (k, is, named)) = inl (k, field_moved n.text f.text k scale is, named)
  names_moved (a_field n dot f) q scale (inr (k, v, is, named)) = inr (k, v, variable_moved n.text f.text k v scale is, named)

module _ (t u : Tables) (same : tables_seen t ≡ tables_seen u) where
  nothing_moved : (r : Reference) → NamesNothing t r → NamesNothing u r
  nothing_moved r nothing q scale names = nothing q scale (names_moved u t (sym same) r q scale names)

  asks_moved : (c : Relation) → AsksNothing t c → AsksNothing u c
  asks_moved (to_number r by z) nothing = nothing_moved r nothing
  asks_moved (to_another r by q) (inl nothing) = inl (nothing_moved r nothing)
  asks_moved (to_another r by q) (inr nothing) = inr (nothing_moved q nothing)
  asks_moved (of_two r pair q by z) (inl nothing) = inl (nothing_moved r nothing)
  asks_moved (of_two r pair q by z) (inr nothing) = inr (nothing_moved q nothing)

  scales_moved : (c : Relation) → HasTwoScales t c → HasTwoScales u c
  scales_moved (to_number r by z) (q, scale, names, differs) = (q, scale, names_moved t u same r q scale names, differs)
  scales_moved (to_another r by q) (a, b, m, n, names, named, differs) =
      (a, b, m, n, names_moved t u same r a m names, names_moved t u same q b n named, differs)
  scales_moved (of_two r pair q by z) (a, b, m, n, names, named, differs) =
      (a, b, m, n, names_moved t u same r a m names, names_moved t u same q b n named, differs)

  unknown_moved : (f : Phrase) → HasUnknown t f → HasUnknown u f
  unknown_moved f has = compared_moved (AsksNothing t) (AsksNothing u) asks_moved f has

  scale_moved : (f : Phrase) → HasOtherScale t f → HasOtherScale u f
  scale_moved f has = compared_moved (HasTwoScales t) (HasTwoScales u) scales_moved f has

  relation_moved : (c : Relation) (x : Formula) → IsCompared t c x → IsCompared u c x
  relation_moved (to_number r by z) x (q, c, names, sign, is) = (q, c, names_moved t u same r q (decimals z) names, sign, is)
  relation_moved (to_another r by q) x (a, b, c, m, names, named, sign, is) =
      (a, b, c, m, names_moved t u same r a m names, names_moved t u same q b m named, sign, is)
  relation_moved (of_two r pair q by z) x (a, b, j, c, names, named, paired, sign, is) =
      (a, b, j, c, names_moved t u same r a (decimals z) names, names_moved t u same q b (decimals z) named, paired, sign, is)

-- a formula that a phrase means for one is what it means for the other
means_moved : (t u : Tables) → tables_seen t ≡ tables_seen u → (f : Phrase) (x : Formula) → Means t f x → Means u f x
means_moved t u same (a_truth value w) x is = is
means_moved t u same (a_single singles.Not w begin f end) x (y, m, is) = (y, means_moved t u same f y m, is)
means_moved t u same (a_single singles.Once w begin f end) x (y, m, is) = (y, means_moved t u same f y m, is)
means_moved t u same (a_single singles.Always w begin f end) x (y, m, is) = (y, means_moved t u same f y m, is)
means_moved t u same (a_double o w begin row end) x m = means_moved t u same row x m
means_moved t u same (a_row doubles.And f comma g) x (y, z, m, k, is) = (y, z, means_moved t u same f y m, means_moved t u same g z k, is)
means_moved t u same (a_row doubles.Or f comma g) x (y, z, m, k, is) = (y, z, means_moved t u same f y m, means_moved t u same g z k, is)
means_moved t u same (a_row doubles.Since f comma g) x (y, z, m, k, is) = (y, z, means_moved t u same f y m, means_moved t u same g z k, is)
means_moved t u same (a_row doubles.Implies f comma g) x (y, z, m, k, is) = (y, z, means_moved t u same f y m, means_moved t u same g z k, is)
means_moved t u same (a_within w begin n comma f end) x (y, m, is) = (y, means_moved t u same f y m, is)
means_moved t u same (a_comparison c) x m = relation_moved t u same c x m

-- a text means one formula
pub one_meaning : (t u : Tables) → tables_seen t ≡ tables_seen u → MeetsTableRules u → (bytes : List ℕ) (x y : Formula) → IsFormula t bytes x
    → IsFormula u bytes y → x ≡ y
one_meaning t u same rules bytes x y a b = mean_once u bytes a.phrase b.phrase x y rules a.text b.text (means_moved t u same a.phrase x a.means) b.means

-- a text is refused for one cause by both
refuses_moved : (t u : Tables) → tables_seen t ≡ tables_seen u → (bytes : List ℕ) (fail : MonitorFail) → Refuses t bytes fail → Refuses u bytes fail
refuses_moved t u same bytes fails.Form none = none
refuses_moved t u same bytes fails.Unknown x = record { phrase = x.phrase; text = x.text; unknown = unknown_moved t u same x.phrase x.unknown }
refuses_moved t u same bytes fails.ScaleDiffers x = record {
  phrase = x.phrase;
  text = x.text;
  known = λ has. x.known (unknown_moved u t (sym same) x.phrase has);
  differs = scale_moved t u same x.phrase x.differs;
}
refuses_moved t u same bytes fails.Memory x = tt

-- by one program's tables a text has a meaning, or one fault
means_or_fails : (t : Tables) → MeetsTableRules t → (bytes : List ℕ) (fail : MonitorFail) → fail ≢ fails.Memory → HasMeaning t bytes
    → Refuses t bytes fail → ⊥
means_or_fails t rules bytes fails.Form enough (x, is) none = none is.phrase is.text
means_or_fails t rules bytes fails.Unknown enough (x, is) r =
    (causes_exclude t bytes is.phrase r.phrase rules is.text r.text).known x is.means r.unknown
means_or_fails t rules bytes fails.ScaleDiffers enough (x, is) r =
    (causes_exclude t bytes is.phrase r.phrase rules is.text r.text).same x is.means r.differs
means_or_fails t rules bytes fails.Memory enough (x, is) r = enough refl

fails_once : (t : Tables) → MeetsTableRules t → (bytes : List ℕ) (a b : MonitorFail) → a ≢ fails.Memory → b ≢ fails.Memory → Refuses t bytes a
    → Refuses t bytes b → a ≡ b
fails_once t rules bytes fails.Memory b enough enough' x y = absurd (enough refl)
fails_once t rules bytes fails.Form fails.Memory enough enough' x y = absurd (enough' refl)
fails_once t rules bytes fails.Unknown fails.Memory enough enough' x y = absurd (enough' refl)
fails_once t rules bytes fails.ScaleDiffers fails.Memory enough enough' x y = absurd (enough' refl)
fails_once t rules bytes fails.Form fails.Form enough enough' x y = refl
fails_once t rules bytes fails.Form fails.Unknown enough enough' x y = absurd (x y.phrase y.text)
fails_once t rules bytes fails.Form fails.ScaleDiffers enough enough' x y = absurd (x y.phrase y.text)
fails_once t rules bytes fails.Unknown fails.Form enough enough' x y = absurd (y x.phrase x.text)
fails_once t rules bytes fails.Unknown fails.Unknown enough enough' x y = refl
fails_once t rules bytes fails.Unknown fails.ScaleDiffers enough enough' x y =
    absurd (y.known ((causes_exclude t bytes x.phrase y.phrase rules x.text y.text).unknown x.unknown))
fails_once t rules bytes fails.ScaleDiffers fails.Form enough enough' x y = absurd (y x.phrase x.text)
fails_once t rules bytes fails.ScaleDiffers fails.Unknown enough enough' x y =
    absurd (x.known ((causes_exclude t bytes y.phrase x.phrase rules y.text x.text).unknown y.unknown))
fails_once t rules bytes fails.ScaleDiffers fails.ScaleDiffers enough enough' x y = refl

pub meaning_or_fault : (t u : Tables) → tables_seen t ≡ tables_seen u → MeetsTableRules t → (bytes : List ℕ) (fail : MonitorFail) → fail ≢ fails.Memory
    → HasMeaning t bytes → Refuses u bytes fail → ⊥
meaning_or_fault t u same rules bytes fail enough means refuses =
    means_or_fails t rules bytes fail enough means (refuses_moved u t (sym same) bytes fail refuses)

pub one_formula_fault : (t u : Tables) → tables_seen t ≡ tables_seen u → MeetsTableRules t → (bytes : List ℕ) (a b : MonitorFail) → a ≢ fails.Memory
    → b ≢ fails.Memory → Refuses t bytes a → Refuses u bytes b → a ≡ b
one_formula_fault t u same rules bytes a b enough enough' x y = fails_once t rules bytes a b enough enough' x (refuses_moved u t (sym same) bytes b y)
