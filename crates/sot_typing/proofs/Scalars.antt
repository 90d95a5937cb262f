-- Scalars of topics, field by field.
use Rattle.std.proofs.Common.{◌≡◌, ◌∙◌, ℕ, ◌+◌, ◌<◌, List, [], ◌∷◌, ◌++◌, length, get_or, drop, map, Some, false, refl, sym, ap, append_assoc}
use Rattle.std.specs.Prelude.{zip}
use Rattle.sot_lists.specs.Places.{At}
use Rattle.sot_syntax_tree.specs.declared.tree.Const.{Const}
use Rattle.sot_syntax_tree.specs.declared.tree.Field.{Field}
use Rattle.sot_lang.specs.declared.tables.ScalarInfo.{ScalarInfo}
use Rattle.sot_syntax_tree.specs.Trees.{Topic, fields}
use Rattle.sot_rules.specs.Tests.{counts_differ, form_scalars, start_values}
use Rattle.sot_typing.proofs.Topics.{starts_are}
use Rattle.sot_rules.proofs.Loops.{rest_is}
use Rattle.sot_typing.specs.Resolved.{scalar_info, field_names}
use Rattle.sot_typing.specs.Parts.{field_scalars, scalars_at}
use Rattle.sot_lists.proofs.Places.{drop_at}

-- one field's scalar is put, and then those of the fields that are left
pub step_fields : (topic : ℕ) (fs : List Field) (cs : List Const) (k : ℕ) (f : Field) (c : Const) (i : ScalarInfo) (out more all : List ScalarInfo)
    → k < length fs → f ≡ get_or fs k f → At cs k c → i ≡ scalar_info topic (Some f.name.name) f.scalar c → more ≡ out ++ i ∷ []
    → out ++ field_scalars topic (drop k fs) (drop k cs) ≡ all → more ++ field_scalars topic (drop (k + 1) fs) (drop (k + 1) cs) ≡ all
step_fields topic fs cs k f c i out more all lt e at is pushed inv =
    let rest = field_scalars topic (drop (k + 1) fs) (drop (k + 1) cs) in
    ap (λ z. z ++ rest) pushed
    ∙ append_assoc out (i ∷ []) rest
    ∙ ap (λ z. out ++ z ∷ rest) is
    ∙ sym (ap (λ z. out ++ field_scalars topic z (drop k cs)) (rest_is fs k f lt e)
    ∙ ap (λ z. out ++ field_scalars topic (f ∷ drop (k + 1) fs) z) (drop_at cs k c at))
    ∙ inv

-- the scalars of a record are those of its fields
pub fields_are : (topic : ℕ) (fs : List Field) (cs : List Const)
    → field_scalars topic fs cs ≡ map (λ x. scalar_info topic x.0 x.1.0 x.1.1) (zip (map (λ f. Some f.name.name) fs) (zip (map (λ f. f.scalar) fs) cs))
fields_are topic [] cs = refl
fields_are topic (f ∷ fs) [] = refl
fields_are topic (f ∷ fs) (c ∷ cs) = ap (λ z. scalar_info topic (Some f.name.name) f.scalar c ∷ z) (fields_are topic fs cs)

-- the scalars of a topic that is a record
pub record_scalars : (topic : ℕ) (t : Topic) (fs : List Field) → t.shape ≡ fields fs → counts_differ t ≡ false
    → field_scalars topic fs (start_values t.init) ≡ scalars_at topic t
record_scalars topic t fs is same =
    fields_are topic fs (start_values t.init)
    ∙ ap (λ z. map (λ x. scalar_info topic x.0 x.1.0 x.1.1) (zip (field_names z) (zip (form_scalars z) (start_values t.init)))) (sym is)
    ∙ ap (λ z. map (λ x. scalar_info topic x.0 x.1.0 x.1.1) (zip (field_names t.shape) z)) (sym (starts_are t same))
