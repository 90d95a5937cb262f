-- The names of tables are those of the program, and these are words.
use Rattle.std.proofs.Common.{◌≡◌, ◌∙◌, ℕ, zero, suc, List, Some, None, sym, ap, subst}
use Rattle.std.proofs.lemmas.Option.{same_Some, none-some}
use Rattle.sot_lists.specs.Places.{At}
use Rattle.sot_syntax_tree.specs.declared.tree.Field.{Field}
use Rattle.sot_syntax_tree.specs.Formed.{IsForm, IsField, IsFormed}
use Rattle.sot_syntax_tree.specs.Trees.{Form, one, fields, Program}
use Rattle.sot_lang.specs.declared.tables.ScalarInfo.{ScalarInfo}
use Rattle.sot_lang.specs.declared.tables.TopicInfo.{TopicInfo}
use Rattle.sot_lang.specs.declared.tables.ModuleInfo.{ModuleInfo}
use Rattle.sot_lang.specs.Tables.{Tables}
use Rattle.sot_rules.specs.First.{IsFaultless}
use Rattle.sot_typing.specs.Resolved.{field_names, PlantTable, NodeTable}
use Rattle.sot_typing.proofs.Lists.{at_mapped, each_at}
use Rattle.sot_typing.proofs.Meanings.{topic_formed, plant_formed, node_formed, module_formed}
use Rattle.sot_typing.proofs.ScalarFacts.{at_scalar}
use Rattle.sot_typing.proofs.Seen.{AreSeen, are_seen, of_topic, of_plant, of_node, of_module}
use Rattle.sot_law_print_parse.proofs.FormedPrograms.{spelled_formed}
use Rattle.sot_trace.specs.Words.{IsWord, AreWords}
use Rattle.sot_law_trace_unique.specs.Laws.{NamesAreWords}

-- the fields of a record are named by words
field_word : (s : Form) → IsForm s → (k : ℕ) (field : List ℕ) → At (field_names s) k (Some field) → IsWord field
field_word (one s) form zero field at = absurd (none-some field (same_Some None (Some field) at))
field_word (one s) form (suc k) field at = absurd (none-some (Some field) at)
field_word (fields fs) form k field at =
    let (f, at_f, is) = at_mapped (λ (x : Field). Some x.name.name) fs k (Some field) at in
    subst IsWord (same_Some f.name.name field is) (each_at IsField fs k f form.1 at_f).0

module _ (p : Program) (t : Tables) (seen : AreSeen p t) (faultless : IsFaultless p) (formed : IsFormed p) where
  field_named : (k : ℕ) (info : ScalarInfo) (field : List ℕ) → At t.scalars k info → info.field ≡ Some field → IsWord field
  field_named k info field at is =
      let x = at_scalar p t seen faultless k info at in
      let same : x.field ≡ Some field = sym (ap (λ (i : ScalarInfo). i.field) x.is) ∙ is in
      field_word x.tree.shape (topic_formed p formed x.topic x.tree x.stands).1 x.nth field (subst (At (field_names x.tree.shape) x.nth) same x.named)

  pub named : AreWords t
  named = record {
    topics =
        λ k info at. (let (x, stands, is) = of_topic p t seen k info at in
        subst IsWord (ap (λ (i : TopicInfo). i.name) is) (topic_formed p formed k x stands).0);
    fields = field_named;
    plants =
        λ k info at. (let (x, stands, is) = of_plant p t seen k info at in
        subst IsWord (sym (ap (λ (i : PlantTable). i.name) is)) (plant_formed p formed k x stands).name);
    nodes =
        λ k info at. (let (x, stands, is) = of_node p t seen k info at in
        subst IsWord (sym (ap (λ (i : NodeTable). i.name) is)) (node_formed p formed k x stands).name);
    modules =
        λ k info at. (let (x, stands, is) = of_module p t seen k info at in
        subst IsWord (ap (λ (i : ModuleInfo). i.name) is) (module_formed p formed k x stands).name);
  }

pub names : NamesAreWords
names text at program t spelled resolved = named program t (are_seen program t resolved.tables) resolved.faultless (spelled_formed text at program spelled)
